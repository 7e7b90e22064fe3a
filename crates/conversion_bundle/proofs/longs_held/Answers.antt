-- `conversion_bundle::longs_held` meets its contract: what is tested so far, and what is left, give the whole. Assumes nothing.
use mathlib.Core.Path.{◌≡◌, ap, sym, ◌∙◌}
use mathlib.Core.Bool.{Bool, ◌&&◌}
use Prim.Native.Nat.{◌-◌}
use native.Mathlib.Omega.{arith}
use Rattle.forms.specs.Forms.{every}
use Rattle.number_bytes.specs.Numbers.{signeds}
use Rattle.bundle.specs.Write.{holdable}
use Rattle.number_ranges.proofs.Ranging.{every-next, and-true}
use Rattle.conversion_bundle.proofs.longs_held.Goals as goal

pub loop-i-preserved : goal.loop-i-preserved
loop-i-preserved c =
    let a = c.args in
    every-next (holdable 2) a.s.now a.start c.loop-i.i a.n c.loop-i-test.true c.loop-i.ok c.loop-i.invariant (ap (λ (b : Bool). c.loop-i.ok && b) c.long_held-ok.ensures)

pub returns : goal.returns
unfolding signeds every
returns c =
    let e : c.args.n - c.loop-i.i ≡ 0 = omega arith in
    sym (and-true c.loop-i.ok) ∙ (rw e at c.loop-i.invariant)
