-- `conversion_bundle::longs_held` meets its contract: what is tested so far, and what is left, give the whole. Assumes nothing.
use mathlib.Core.Path.{◌≡◌}
use mathlib.Core.Bool.{◌&&◌}
use Prim.Native.Nat.{◌+◌, ◌*◌, ◌-◌}
use lib.ListN.{drop}
use Rattle.forms.specs.Forms.{every}
use Rattle.number_bytes.specs.Numbers.{signeds}
use Rattle.bundle.specs.Write.{holdable}
use Rattle.conversion_bundle.proofs.longs_held.Given as goal

abbrev pub invariant-loop-i : goal.invariant-loop-i
invariant-loop-i l = (l.ok && every (holdable 2) (signeds 4 (l.n - l.i) (drop (l.start + l.i * 4) l.s))) ≡ every (holdable 2) (signeds 4 l.n (drop l.start l.s))
