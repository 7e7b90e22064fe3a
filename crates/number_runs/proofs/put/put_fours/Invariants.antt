-- `number_runs::put::put_fours` meets its contract: the first fours are written. Assumes nothing.
use mathlib.Core.Path.{◌≡◌}
use Prim.Native.Nat.{◌-◌, ◌%◌, ◌≤◌}
use lib.ListN.{length, take}
use lib.Seq.{sets}
use Rattle.number_bytes.specs.Numbers.{signeds_bytes}
use Rattle.number_bytes.specs.Widths.{bytes_of, width_of}
use Rattle.number_runs.proofs.put.put_fours.Given as goal

abbrev pub invariant-loop-i : goal.invariant-loop-i
invariant-loop-i g l = (l.out ≡ sets l.initial.out l.at (signeds_bytes (bytes_of (width_of g.row.BYTES)) (take l.i l.numbers))) × (l.i % 4 ≡ 0) × (l.i ≤ length l.numbers)

abbrev pub decreases-loop-i : goal.decreases-loop-i
decreases-loop-i g l = length l.numbers - l.i
