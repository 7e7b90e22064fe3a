-- `number_ranges::read::longs_in_range` meets its contract: what is tested so far, and what is left, give the whole. Assumes nothing.
use mathlib.Core.Path.{◌≡◌}
use mathlib.Core.Bool.{◌&&◌}
use Prim.Native.Nat.{◌+◌, ◌*◌, ◌-◌}
use lib.ListN.{drop}
use Rattle.forms.specs.Forms.{small, every}
use Rattle.number_bytes.specs.Numbers.{signeds}
use Rattle.number_ranges.proofs.read.longs_in_range.Given as goal

abbrev pub invariant-loop-i : goal.invariant-loop-i
invariant-loop-i l = (l.ok && every (small 2_147_483_647) (signeds 4 (l.n - l.i) (drop (0 + l.i * 4) l.s))) ≡ every (small 2_147_483_647) (signeds 4 l.n l.s)
