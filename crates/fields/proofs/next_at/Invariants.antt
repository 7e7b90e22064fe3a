-- `fields::next_at` meets its contract. The invariant: the fields from here on are those from the start on. Assumes nothing.
use mathlib.Core.Path.{◌≡◌}
use Prim.Native.Nat.{◌-◌}
use lib.ListN.{length}
use Rattle.fields.specs.Places.{fields_at}
use Rattle.fields.proofs.next_at.Given as goal

abbrev pub invariant-loop-field : goal.invariant-loop-field
invariant-loop-field l = fields_at l.s l.at ≡ fields_at l.s l.here

abbrev pub decreases-loop-field : goal.decreases-loop-field
decreases-loop-field l = length l.s - l.here
