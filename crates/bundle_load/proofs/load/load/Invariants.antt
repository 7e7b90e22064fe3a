-- `bundle_load::load::load` meets its contract. The invariant `Loading`: what is left to load gives what the whole gives. Assumes nothing.
use Prim.Native.Nat.{◌-◌}
use lib.ListN.{length}
use Rattle.number_bytes.specs.Widths.{bytes_of}
use Rattle.bundle_load.proofs.Loading.{Loading}
use Rattle.bundle_load.proofs.load.load.Given as goal

abbrev pub invariant-loop-field : goal.invariant-loop-field
invariant-loop-field l = Loading l.in_a l.s l.at (bytes_of l.width) l.k l.initial.kinds l.initial.lines l.initial.m.0 l.kinds l.lines l.here l.m.0

abbrev pub decreases-loop-field : goal.decreases-loop-field
decreases-loop-field l = length l.s - l.here
