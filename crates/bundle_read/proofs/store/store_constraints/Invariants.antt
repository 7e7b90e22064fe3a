-- `bundle_read::store::store_constraints` meets its contract. The invariant `Storing`: what is left to store gives what the whole gives. Assumes nothing.
use mathlib.Core.Path.{◌≡◌}
use Prim.Native.Nat.{◌+◌, ◌*◌, ◌-◌}
use lib.ListN.{length}
use Rattle.number_bytes.specs.Widths.{bytes_of}
use Rattle.bundle_read.proofs.Storing.{Storing}
use Rattle.bundle_read.proofs.store.store_constraints.Given as goal

abbrev pub invariant-loop-n : goal.invariant-loop-n
invariant-loop-n l =
    Storing l.s l.at (bytes_of l.width) l.k l.count l.initial.kinds l.initial.numbers l.kinds l.numbers l.here l.n × (l.to ≡ l.n * (l.k + 1))

abbrev pub decreases-loop-n : goal.decreases-loop-n
decreases-loop-n l = length l.s - l.here
