-- `openings::rounding::is_undivided` meets its contract: what is left to test is the whole. Assumes nothing.
use mathlib.Core.Path.{◌≡◌, refl, ap, ◌∙◌}
use mathlib.Core.Bool.{Bool}
use Prim.Native.Nat.{ℕ, ◌-◌, ◌≤◌}
use native.Mathlib.Omega.{arith}
use lib.IntN.{ℤ, pos, ◌+ℤ◌}
use mir.Syntax.{w64}
use mir.Val.{to_z, of_z, SFits}
use mir.ValLaws.{to_z-of_z, to_z_pos}
use Rattle.integers.specs.Magnitude.{Within}
use Rattle.integers.specs.Divides.{divb}
use Rattle.integers.proofs.Magnitude.{within-add, within-fits}
use Rattle.forms.specs.Edition.{edition1}
use Rattle.openings.proofs.RoundTests.{undivided-none, undivided-stops, undivided-on}
use Rattle.openings.proofs.rounding.is_undivided.Goals as goal

-- d + (j - 1), of which the machine's is that.
module _ (d : ℤ) (w : Within edition1.range d) (j : ℕ) (few : j ≤ 16) where
  small : Within edition1.range (to_z w64 (of_z w64 d))
  small = rw (to_z-of_z w64 d (within-fits w tt)) w

  sum_is : to_z w64 (of_z w64 d) +ℤ to_z w64 (j - 1) ≡ to_z w64 (of_z w64 d) +ℤ pos (j - 1)
  sum_is = ap (λ (z : ℤ). to_z w64 (of_z w64 d) +ℤ z) (to_z_pos w64 (j - 1) (omega arith))

  sum_fits : SFits w64 (to_z w64 (of_z w64 d) +ℤ to_z w64 (j - 1))
  sum_fits =
      let most : Within 65535 (pos (j - 1)) = record { abs = omega arith } in
      rw sum_is (within-fits (within-add small most) tt)

  tested : (g : ℤ) {b : Bool} → b ≡ divb g (to_z w64 (of_z w64 (to_z w64 (of_z w64 d) +ℤ to_z w64 (j - 1)))) → b ≡ divb g (to_z w64 (of_z w64 d) +ℤ pos (j - 1))
  tested g e = e ∙ ap (divb g) (to_z-of_z w64 (to_z w64 (of_z w64 d) +ℤ to_z w64 (j - 1)) sum_fits ∙ sum_is)

pub loop-j-init : goal.loop-j-init
loop-j-init c = refl

pub returns-then-divides : goal.returns-then-divides
returns-then-divides c =
    let fg = c.ranges.g in
    let fd = c.ranges.d in
    simp to_z-of_z at (undivided-stops _ _ _ _ c.loop-j.invariant c.loop-j-test.true (tested c.args.d c.requires.within.0 c.loop-j.j (omega (arith, c.requires.within.1)) (to_z w64 (of_z w64 c.args.g)) c.divides.ensures) c.if-divides.true)

pub loop-j-preserved : goal.loop-j-preserved
loop-j-preserved c =
    undivided-on _ _ _ _ c.loop-j.invariant c.loop-j-test.true (tested c.args.d c.requires.within.0 c.loop-j.j (omega (arith, c.requires.within.1)) (to_z w64 (of_z w64 c.args.g)) c.divides.ensures) c.if-divides.false

pub returns : goal.returns
returns c =
    let fg = c.ranges.g in
    let fd = c.ranges.d in
    simp to_z-of_z at (undivided-none _ _ _ _ c.loop-j.invariant (omega (arith, c.loop-j-test.false)))
