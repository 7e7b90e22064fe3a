-- `shortening_table::put_table` meets its contract. The invariant `Writing`: what is left to write from here is the whole from the start, over any number of constants. Assumes nothing.
use Prim.Native.Nat.{ℕ, ◌-◌}
use lib.ListN.{length}
use Rattle.fields.specs.Places.{fields_at}
use Rattle.shortening_table.specs.Written.{TableWritable}
use Rattle.shortening_table.proofs.Writing.{Writing}
use Rattle.shortening_table.proofs.put_table.Given as goal

abbrev pub invariant-loop-field : goal.invariant-loop-field
invariant-loop-field l =
    (K : ℕ) → TableWritable l.e K (fields_at l.p l.initial.here) l.initial.standing.lines l.report l.initial.gones l.initial.steps l.initial.out l.o → Writing l.p l.initial.here l.e K l.initial.standing.lines l.report l.initial.gones l.initial.steps l.initial.out l.o l.gones l.steps l.out l.here l.to l.standing.lines l.standing.kept l.standing.depth l.rows l.stays

abbrev pub decreases-loop-field : goal.decreases-loop-field
decreases-loop-field l = length l.p - l.here
