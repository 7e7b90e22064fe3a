-- `line_starts::term_fits` meets its contract. Assumes nothing.
use mathlib.Core.Path.{◌≡◌, ap, ap₂, ◌∙◌}
use mathlib.Core.Bool.{Bool}
use Prim.Native.Nat.{ℕ, ◌<◌}
use native.Mathlib.Omega.{arith}
use lib.Dec.{leb}
use lib.IntN.{ℤ, pos, nat_abs, ◌+ℤ◌, ◌*ℤ◌}
use mir.Syntax.{w64}
use mir.Val.{to_z, of_z, SFits}
use mir.ValLaws.{to_z-of_z, to_z_pos}
use Rattle.integers.specs.Magnitude.{Within}
use Rattle.integers.proofs.Magnitude.{within-add, within-mul, within-fits}
use Rattle.forms.specs.Edition.{edition1, multiplier_range}
use Rattle.forms.specs.Forms.{small}
use Rattle.line_starts.proofs.term_fits.Goals as goal

-- An integer as the machine word that holds it.
abbrev word : ℤ → ℤ
word z = to_z w64 (of_z w64 z)

-- The number was read as v, which is z.
module _ {f : ℤ} (ff : Within multiplier_range f) {v z : ℤ} (e : v ≡ z) (w : Within edition1.range z) where
  product_is : word f *ℤ word v ≡ f *ℤ z
  product_is = let vw : Within edition1.range v = rw e w in ap₂ ◌*ℤ◌ (to_z-of_z w64 f (within-fits ff tt)) (to_z-of_z w64 v (within-fits vw tt) ∙ e)

  product-fits : SFits w64 (word f *ℤ word v)
  product-fits = rw product_is (within-fits (within-mul ff w) tt)

  -- m is the amount x as the machine has it.
  module _ {x : ℕ} (few : x < 65536) {m : ℤ} (is : m ≡ pos x) where
    sum_is : word (word f *ℤ word v) +ℤ m ≡ f *ℤ z +ℤ pos x
    sum_is = ap₂ ◌+ℤ◌ (to_z-of_z w64 (word f *ℤ word v) product-fits ∙ product_is) is

    sum_fits : SFits w64 (word (word f *ℤ word v) +ℤ m)
    sum_fits =
        let most : Within multiplier_range (pos x) = record { abs = omega arith } in
        rw sum_is (within-fits (within-add (within-mul ff w) most) tt)

    tested : {r : Bool} → r ≡ leb (nat_abs (word (word (word f *ℤ word v) +ℤ m))) edition1.range → r ≡ small edition1.range (f *ℤ z +ℤ pos x)
    unfolding small
    tested t = t ∙ ap (λ (u : ℤ). leb (nat_abs u) edition1.range) (to_z-of_z w64 (word (word f *ℤ word v) +ℤ m) sum_fits ∙ sum_is)

amount : {x : ℕ} → x < 65536 → to_z w64 x ≡ pos x
amount {x} h = to_z_pos w64 x (omega arith)

pub returns : goal.returns
returns c =
    let few : c.args.x < 65536 = omega (arith, c.ranges.x) in
    tested c.requires.1 c.number.ensures c.requires.2 few (amount few) c.in_range.ensures
