-- `enumeration_search::after_table` meets its contract. Assumes nothing.
use Rattle.enumeration_search.proofs.Depths.{FollowLeft}
use Rattle.enumeration_search.proofs.after_table.Given as goal

abbrev pub invariant-loop-d : goal.invariant-loop-d
invariant-loop-d l = FollowLeft l.k l.n l.rest l.initial.kinds l.initial.lines l.kinds l.lines l.d
