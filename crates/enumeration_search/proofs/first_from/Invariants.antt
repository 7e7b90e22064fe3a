-- `enumeration_search::first_from` meets its contract. Assumes nothing.
use Rattle.enumeration_search.proofs.Depths.{FirstLeft}
use Rattle.enumeration_search.proofs.first_from.Given as goal

abbrev pub invariant-loop-d : goal.invariant-loop-d
invariant-loop-d l = FirstLeft l.k l.n l.initial.kinds l.initial.lines l.depth l.kinds l.lines l.d
