-- `conversion_bundle::first_long` meets its contract: what is left tells what the whole does. Assumes nothing.
use mathlib.Core.Path.{◌≡◌}
use Prim.Native.Nat.{◌-◌}
use lib.ListN.{length}
use Rattle.fields.specs.Places.{fields_at}
use Rattle.bundle_scan.specs.Scan.{ConstraintsLeft}
use Rattle.conversion_bundle.specs.Turned.{numbers_held}
use Rattle.conversion_bundle.proofs.first_long.Given as goal

abbrev pub invariant-loop-n : goal.invariant-loop-n
invariant-loop-n l = (numbers_held 1 l.k (fields_at l.s l.at) ≡ numbers_held 1 l.k (fields_at l.s l.here)) × ConstraintsLeft 4 l.k l.n l.count l.s l.here

abbrev pub decreases-loop-n : goal.decreases-loop-n
decreases-loop-n l = length l.s - l.here
