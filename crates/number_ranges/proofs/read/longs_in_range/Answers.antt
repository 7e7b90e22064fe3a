-- `number_ranges::read::longs_in_range` meets its contract: what is tested so far, and what is left, give the whole. Assumes nothing.
use mathlib.Core.Path.{◌≡◌, ap, sym, ◌∙◌}
use mathlib.Core.Bool.{Bool, ◌&&◌}
use Prim.Native.Nat.{◌+◌, ◌*◌, ◌-◌}
use native.Mathlib.Omega.{arith}
use Rattle.forms.specs.Forms.{small, every}
use Rattle.number_bytes.specs.Numbers.{signeds}
use Rattle.number_ranges.proofs.Ranging.{every-next, and-true}
use Rattle.number_ranges.proofs.read.longs_in_range.Goals as goal

pub loop-i-init : goal.loop-i-init
loop-i-init c = let y : c.args.n - 0 ≡ c.args.n = omega arith in rw y

pub loop-i-preserved : goal.loop-i-preserved
loop-i-preserved c =
    let a = c.args in
    let z : 0 + c.loop-i.i * 4 ≡ c.loop-i.i * 4 = omega arith in
    every-next (small 2_147_483_647) a.s.now 0 c.loop-i.i a.n (omega arith) c.loop-i.ok c.loop-i.invariant (rw z (ap (λ (b : Bool). c.loop-i.ok && b) c.long_in_range-ok.ensures))

pub returns : goal.returns
unfolding signeds every
returns c =
    let e : c.args.n - c.loop-i.i ≡ 0 = omega arith in
    sym (and-true c.loop-i.ok) ∙ (rw e at c.loop-i.invariant)
