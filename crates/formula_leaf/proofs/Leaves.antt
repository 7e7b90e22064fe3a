-- A part at a vector, and its form's numbers in an array. Assumes nothing.
use Rattle.std.proofs.Common.{◌≡◌, ℕ, suc, ◌+◌, ◌-◌, ◌*◌, ◌%◌, ◌<◌, ◌≤◌, Bool, true, false, ◌&&◌, T, eqb, ltb, List, length, get_or, take, drop, ℤ, pos, ◌≤ℤ◌, refl, ap, ◌∙◌, subst, le_refl, mul-le-mul, arith, le→leb, length-drop, length-take, length-take-le, get_or-drop, get_or-take, w64, SFits, to_z, of_z, ltb-false, ltb-true, eq-eqb, ne_eqb}
use lib.ListN.{get_or-eq_default}
use lib.Signed.{lt_z}
use mir.ValLaws.{to_z-of_z}
use Rattle.integers.specs.Divides.{divb}
use Rattle.integers.specs.Magnitude.{Within}
use Rattle.forms.specs.Flat.{form_in}
use Rattle.forms.specs.Forms.{Form, value}
use Rattle.number_bytes.specs.Numbers.{signeds}
use Rattle.formula.specs.Test.{holds, judge, registers}
use Rattle.form_value.specs.FormAt.{form_at}
use Rattle.form_value.specs.Quick.{word}
use Rattle.form_value.specs.Registers.{AllWithin, Registers}
use Rattle.form_value.proofs.Quick.{word-divides}
use Rattle.form_value.proofs.Value.{form-read}
use Rattle.formula_read.specs.Nodes.{literal_kind}
use Rattle.formula_read.proofs.Parts.{low}
use Rattle.formula.specs.TestList.{byte}
use Rattle.formula_leaf.specs.Leaves.{leaf_formula, Proper, VectorAt, Block}
use Rattle.formula_leaf.specs.declared.Leaf.{Leaf}

-- ---- a part at a vector
module _ (t : Form) (vector : List ℤ) {leaf : Leaf} where
  pub literal-holds : {equality r : Bool} {x : ℤ} → leaf ≡ Leaf.Literal equality → x ≡ value t (registers vector) → r ≡ holds (literal_kind equality) x
      → r ≡ judge (leaf_formula leaf t) (registers vector)
  unfolding judge
  literal-holds {equality} e f h = h ∙ rw (e, f)

  pub power-holds : {g w : ℕ} {r : Bool} → leaf ≡ Leaf.Power g → Proper leaf → w ≡ word (value t (registers vector)) → r ≡ divb (pos g) (pos w)
      → r ≡ judge (leaf_formula leaf t) (registers vector)
  unfolding judge
  power-holds {g} e p f h = rw e (h ∙ ap (λ (n : ℕ). divb (pos g) (pos n)) f ∙ word-divides (subst Proper e p) (value t (registers vector)))

  pub stride_holds : {g : ℕ} {x : ℤ} {r : Bool} → leaf ≡ Leaf.Stride g → x ≡ value t (registers vector) → r ≡ divb (pos g) x
      → r ≡ judge (leaf_formula leaf t) (registers vector)
  unfolding judge
  stride_holds {g} e f h = rw e (h ∙ ap (λ (z : ℤ). divb (pos g) z) f)

pub stride-fits : {g : ℕ} → g < 2_147_483_648 → SFits w64 (pos g)
stride-fits h = record { sfits = omega arith }

pub stride-low : {g : ℕ} → 2 ≤ g → pos 2 ≤ℤ pos g
stride-low {g} h = record { le = le→leb 2 g h }

pub below_two : {r g : ℤ} → SFits w64 r → r ≡ g → lt_z (to_z w64 (of_z w64 r)) (pos 2) ≡ true → pos 2 ≤ℤ g → ⊥
below_two {r} {g} f e h k = subst T (low g (rw (to_z-of_z w64 r f, e) at h)) k.le

-- ---- the values of one vector
pub part-within : {values : List ℤ} → AllWithin values → (m n : ℕ) → AllWithin (take m (drop n values))
part-within {values} a m n = record { at = λ i. go i (ltb i m) refl }
  where
    short : (i : ℕ) → ltb i m ≡ false → length (take m (drop n values)) ≤ i
    short i e = simp length-take (omega (arith, ltb-false i m e))

    go : (i : ℕ) (b : Bool) → ltb i m ≡ b → Within 1_000_000 (get_or (take m (drop n values)) i (pos 0))
    go i true e = rw (get_or-take m (drop n values) i (pos 0) (ltb-true i m e), get_or-drop n values i (pos 0)) (a.at (n + i))
    go i false e = rw (get_or-eq_default (take m (drop n values)) (pos 0) {n = i} (short i e)) (record { abs = omega arith })

module _ {values : List ℤ} {K i : ℕ} (v : VectorAt values K i) where
  pub vector-registers : Registers (take (i * K + K - i * K) (drop (i * K) values)) K
  vector-registers =
      let e : i * K + K - i * K ≡ K = omega arith in
      rw e (record {
        all = part-within v.all K (i * K);
        count = length-take-le K (drop (i * K) values) (simp length-drop (omega (arith, v.room)));
        some = v.some;
        few = v.few;
      })

pub block-vector : {values : List ℤ} {K n active i : ℕ} → Block values K n active → i < n → VectorAt values K i
block-vector {K = K} {n = n} {i = i} b h =
    let l : suc i * K ≤ n * K = mul-le-mul {n₁ = suc i} h (le_refl K) in
    record { all = b.all; room = omega (arith, b.count, l); some = b.some; few = b.few }

-- ---- one vector more
module _ (left p mask : ℕ) (b : Bool) where
  pub unasked : left % 2 ≡ 0 → mask ≡ mask + p * byte (eqb (left % 2) 1 && b)
  unasked e = rw (ne_eqb (left % 2) 1 (λ q. absurd (omega arith))) (omega arith)

  module _ (odd : left % 2 ≡ 0 → ⊥) where
    pub asked : {r : Bool} → r ≡ b → {m : ℕ} → m ≡ mask + p * byte r → m ≡ mask + p * byte (eqb (left % 2) 1 && b)
    asked e f = f ∙ rw (eq-eqb (left % 2) 1 (omega (arith, odd)), e)

-- ---- the numbers of a form in an array
pub stored-form : (array : List ℤ) {numbers : List ℤ} (s : List ℕ) (at K : ℕ) → K < length array → numbers ≡ signeds 4 (length (take (K + 1) array)) (drop at s) → form_in K numbers 0 ≡ form_at s at K
stored-form array s at K h e = rw e (form-read s at K (length (take (K + 1) array)) (omega (arith, length-take (K + 1) array)))
