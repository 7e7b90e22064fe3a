-- `number_runs::put::put_run` meets its contract: the first i are written. Assumes nothing.
use mathlib.Core.Path.{◌≡◌}
use lib.ListN.{take}
use lib.Seq.{sets}
use Rattle.number_bytes.specs.Numbers.{signeds_bytes}
use Rattle.number_bytes.specs.Widths.{bytes_of}
use Rattle.number_runs.proofs.put.put_run.Given as goal

abbrev pub invariant-loop-i : goal.invariant-loop-i
invariant-loop-i l = l.out ≡ sets l.initial.out l.at (signeds_bytes (bytes_of l.width) (take l.i l.numbers))
