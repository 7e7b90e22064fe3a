-- The proof of the cycle {beginning, seek}: the measure is the number of inferences that may still come, twice, and one more where one of them is made. Assumes nothing.
use Prim.Native.Nat.{◌+◌, ◌*◌}
use Rattle.enumeration_search.proofs.Searches.{InferencesLeft}
use Rattle.enumeration_search.proofs.+beginning_seek.Given as goal

abbrev pub decreases-beginning : goal.decreases-beginning
decreases-beginning l = 2 * l.depth + 1

abbrev pub decreases-seek : goal.decreases-seek
decreases-seek l = 2 * l.depth

abbrev pub invariant-seek-loop-j : goal.invariant-seek-loop-j
invariant-seek-loop-j l = InferencesLeft l.k l.n l.depth l.initial.kinds l.initial.lines l.from l.kinds l.lines l.j
