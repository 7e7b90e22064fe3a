-- The cycle {formula_at, pair_at, part_at, part_pair_at}: the measure of all is the number of unread bytes and of levels. Assumes nothing.
-- The bytes fall where a formula reader calls a pair reader, and the levels where that calls the next formula reader.
use Rattle.std.proofs.Common.{◌-◌, ◌+◌, length}
use Rattle.formula_read.proofs.FormulaReader.{PartsRead}
use Rattle.formula_read.proofs.reading.+formula_at_pair_at_part_at_part_pair_at.Given as goal

abbrev pub decreases-formula_at : goal.decreases-formula_at
decreases-formula_at l = (length l.s.now - l.at) + l.levels

abbrev pub decreases-pair_at : goal.decreases-pair_at
decreases-pair_at l = (length l.s.now - l.at) + l.levels

abbrev pub decreases-part_at : goal.decreases-part_at
decreases-part_at l = (length l.s.now - l.at) + l.levels

abbrev pub decreases-part_pair_at : goal.decreases-part_pair_at
decreases-part_pair_at l = (length l.s.now - l.at) + l.levels

-- The parts read so far.
abbrev pub invariant-pair_at-loop-i : goal.invariant-pair_at-loop-i
invariant-pair_at-loop-i l = PartsRead l.s l.place l.at l.values l.k l.levels l.first l.second l.here l._i
