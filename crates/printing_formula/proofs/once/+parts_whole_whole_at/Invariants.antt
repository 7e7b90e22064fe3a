-- The proof of the cycle {whole_at, parts_whole}: the measure of both is the number of unread bytes and of levels. Assumes nothing.
use lib.ListN.{length}
use Prim.Native.Nat.{◌+◌, ◌-◌}
use Rattle.printing_formula.proofs.once.+parts_whole_whole_at.Given as goal

abbrev pub decreases-whole_at : goal.decreases-whole_at
decreases-whole_at l = (length l.s.now - l.at) + l.levels

abbrev pub decreases-parts_whole : goal.decreases-parts_whole
decreases-parts_whole l = (length l.s.now - l.at) + l.levels
