-- `number_runs::store::store_run` meets its contract: the first i are stored. Assumes nothing.
use mathlib.Core.Path.{◌≡◌}
use lib.ListN.{take, drop}
use Rattle.number_bytes.specs.Numbers.{signeds}
use Rattle.number_bytes.specs.Widths.{bytes_of}
use Rattle.number_runs.proofs.store.store_run.Given as goal

abbrev pub invariant-loop-i : goal.invariant-loop-i
invariant-loop-i l = take l.i l.numbers ≡ signeds (bytes_of l.width) l.i (drop l.start l.s)
