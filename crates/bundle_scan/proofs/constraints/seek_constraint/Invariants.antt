-- `bundle_scan::constraints::seek_constraint` meets its contract. The invariant: going on from here gives what the start gives. Assumes nothing.
use mathlib.Core.Path.{◌≡◌}
use Prim.Native.Nat.{◌-◌}
use lib.ListN.{length}
use Rattle.number_bytes.specs.Widths.{bytes_of}
use Rattle.fields.specs.Places.{fields_at}
use Rattle.bundle_scan.specs.Scan.{counted}
use Rattle.bundle_scan.proofs.Scanning.{Seeking}
use Rattle.bundle_scan.proofs.constraints.seek_constraint.Given as goal

abbrev pub invariant-loop-field : goal.invariant-loop-field
invariant-loop-field l = (counted (bytes_of l.width) l.k 0 (fields_at l.s l.at) ≡ counted (bytes_of l.width) l.k l.n (fields_at l.s l.here)) × Seeking (fields_at l.s l.at) l.wanted l.n l.found (fields_at l.s l.here)

abbrev pub decreases-loop-field : goal.decreases-loop-field
decreases-loop-field l = length l.s - l.here
