-- `number_runs::store::store_fours` meets its contract: the first fours are stored. Assumes nothing.
use mathlib.Core.Path.{◌≡◌}
use Prim.Native.Nat.{◌-◌, ◌%◌, ◌≤◌}
use lib.ListN.{length, take, drop}
use Rattle.number_bytes.specs.Numbers.{signeds}
use Rattle.number_bytes.specs.Widths.{bytes_of, width_of}
use Rattle.number_runs.proofs.store.store_fours.Given as goal

abbrev pub invariant-loop-i : goal.invariant-loop-i
invariant-loop-i g l = (take l.i l.numbers ≡ signeds (bytes_of (width_of g.row.BYTES)) l.i (drop l.start l.s)) × (l.i % 4 ≡ 0) × (l.i ≤ length l.initial.numbers)

abbrev pub decreases-loop-i : goal.decreases-loop-i
decreases-loop-i g l = length l.numbers - l.i
