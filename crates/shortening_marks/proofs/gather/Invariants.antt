-- `shortening_marks::gather` meets its contract. The invariant `Gathering`: what is left to gather gives what the whole gives, over any number of constants. Assumes nothing.
use Prim.Native.Nat.{ℕ, ◌-◌}
use lib.ListN.{length}
use Rattle.fields.specs.Places.{fields_at}
use Rattle.shortening_marks.specs.Gathered.{Gatherable}
use Rattle.shortening_marks.proofs.Gathering.{Gathering}
use Rattle.shortening_marks.proofs.gather.Given as goal

abbrev pub invariant-loop-field : goal.invariant-loop-field
invariant-loop-field l =
    (K : ℕ) → Gatherable l.e K (fields_at l.p l.initial.here) l.initial.lines l.initial.gathered l.initial.steps → Gathering l.p l.initial.here l.e K l.initial.lines l.initial.gathered l.initial.steps l.gathered l.steps l.here l.lines l.depth l.rows

abbrev pub decreases-loop-field : goal.decreases-loop-field
decreases-loop-field l = length l.p - l.here
