-- The proof of the cycle {formula_at, pair_at}: the measure of both is the number of unread bytes and of levels. Assumes nothing.
-- The bytes fall where the formula reader calls the pair reader, and the levels where that calls the formula reader. Each answer collects the facts on its way and cites a lemma of `PrintingReader`.
use lib.ListN.{length}
use Prim.Native.Nat.{◌+◌, ◌-◌}
use Rattle.printing_formula.proofs.reading.+formula_at_pair_at.Given as goal

abbrev pub decreases-formula_at : goal.decreases-formula_at
decreases-formula_at g l = (length l.s.now - l.at) + l.levels

abbrev pub decreases-pair_at : goal.decreases-pair_at
decreases-pair_at g l = (length l.s.now - l.at) + l.levels
