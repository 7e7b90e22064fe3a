-- `number_runs::put::put_block` meets its contract: the first i are taken over. Assumes nothing.
use mathlib.Core.Path.{◌≡◌}
use lib.ListN.{length, take}
use Rattle.number_runs.proofs.put.put_block.Given as goal

abbrev pub invariant-loop-i : goal.invariant-loop-i
invariant-loop-i g l = (take l.i l.block ≡ take l.i l.numbers) × (length l.block ≡ length l.initial.block)
