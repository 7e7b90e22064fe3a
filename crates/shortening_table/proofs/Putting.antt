-- Laws of writing a field with new line numbers. Assumes nothing.
use mathlib.Core.Path.{◌≡◌, refl, sym, ◌∙◌, ap, ap₂, subst}
use mathlib.Core.List.{List, ◌∷◌, ◌++◌}
use Prim.Native.Nat.{ℕ, zero, suc, ◌+◌, ◌*◌, ◌-◌, ◌≤◌}
use native.Mathlib.Omega.{arith}
use lib.ListN.{length, take, drop, length-append, length-drop}
use lib.Seq.{sets, length-sets, length-take-le, drop-drop}
use Rattle.number_bytes.specs.Numbers.{unsigned_bytes}
use Rattle.number_bytes.proofs.Signed.{length-unsigned_bytes, drop-take}
use Rattle.number_bytes.proofs.Stores.{sets-append}
use Rattle.fields.specs.Fields.{field_bytes}
use Rattle.fields.proofs.Stores.{put-field}
use Rattle.shortening_table.specs.Table.{numbered, Puttable, PutField}

module _ (p : List ℕ) (tag start len w count first second : ℕ) (out : List ℕ) (o : ℕ) (g : Puttable p start len w count out o) where
  contents : List ℕ
  contents = take len (drop start p)

  size : length (take len (drop start p)) ≡ len
  size = length-take-le len (drop start p) (rw length-drop (omega (arith, g.there)))

  -- the bytes behind the first k
  behind : (k : ℕ) → k ≤ len → take (len - k) (drop (start + k) p) ≡ drop k (take len (drop start p))
  behind k h = ap (take (len - k)) (sym (drop-drop k start p)) ∙ sym (drop-take k len (drop start p) h)

  behind-size : (k : ℕ) → k ≤ len → length (drop k (take len (drop start p))) ≡ len - k
  behind-size k h = length-drop k (take len (drop start p)) ∙ ap (λ (n : ℕ). n - k) size

  copied : (k : ℕ) (to to' : List ℕ) → k ≤ len → to' ≡ sets to (o + 3 + k) (take (len - k) (drop (start + k) p)) → to' ≡ sets to (o + 3 + k) (drop k (take len (drop start p)))
  copied k to to' h e = e ∙ ap (sets to (o + 3 + k)) (behind k h)

  head-length : (out₁ : List ℕ) → out₁ ≡ sets out o (tag ∷ unsigned_bytes 2 len) → length out₁ ≡ length out
  head-length out₁ e = ap length e ∙ length-sets out o (tag ∷ unsigned_bytes 2 len)

  whole : (out₁ out₂ bs : List ℕ) → out₁ ≡ sets out o (tag ∷ unsigned_bytes 2 len) → out₂ ≡ sets out₁ (o + 3) bs → length bs ≡ len → numbered count w first second (take len (drop start p)) ≡ bs → PutField p tag start len w count first second out o out₂
  whole out₁ out₂ bs e f l a = record {
    is = put-field out o tag len bs e f l ∙ ap (λ (xs : List ℕ). sets out o (field_bytes tag xs)) (sym a);
    out_length = ap length f ∙ length-sets out₁ (o + 3) bs ∙ head-length out₁ e;
  }

  pub put-none : (out₁ out₂ : List ℕ) → count ≡ 0 → out₁ ≡ sets out o (tag ∷ unsigned_bytes 2 len) → out₂ ≡ sets out₁ (o + 3) (take len (drop start p)) → PutField p tag start len w count first second out o out₂
  put-none out₁ out₂ c e f =
      whole out₁ out₂ (take len (drop start p)) e f size (ap (λ (n : ℕ). numbered n w first second (take len (drop start p))) c)

  pub one-fits : ¬ (count ≡ 0) → w ≤ len
  one-fits c = by count c g.numbers
    where
      by : (n : ℕ) → ¬ (n ≡ 0) → n * w ≤ len → w ≤ len
      by zero d h = absurd (d refl)
      by (suc n) d h = omega (arith, h, (let z : suc n * w ≡ w + n * w = omega arith in z))

  pub put_one : (out₁ out₂ out₃ : List ℕ) {width : ℕ} → width ≡ w → count ≡ 1 → out₁ ≡ sets out o (tag ∷ unsigned_bytes 2 len) → out₂ ≡ sets out₁ (o + 3) (unsigned_bytes w first)
      → out₃ ≡ sets out₂ (o + 3 + width) (take (len - width) (drop (start + width) p)) → PutField p tag start len w count first second out o out₃
  put_one out₁ out₂ out₃ q c e f h =
      let fit : w ≤ len = one-fits (λ z. absurd (let x : ⊥ = omega (arith, c, z) in x)) in
      let U = unsigned_bytes w first in
      let D = drop w (take len (drop start p)) in
      let l : length U ≡ w = length-unsigned_bytes w first in
      let h' : out₃ ≡ sets out₂ (o + 3 + w) (take (len - w) (drop (start + w) p)) = subst (λ (n : ℕ). out₃ ≡ sets out₂ (o + 3 + n) (take (len - n) (drop (start + n) p))) q h in
      let all : out₃ ≡ sets out₁ (o + 3) (U ++ D) = copied w out₂ out₃ fit h' ∙ ap₂ (λ (xs : List ℕ) (n : ℕ). sets xs (o + 3 + n) D) f (sym l) ∙ sym (sets-append U D out₁ (o + 3)) in
      whole out₁ out₃ (U ++ D) e all (length-append U D ∙ ap₂ (λ (a b : ℕ). a + b) l (behind-size w fit) ∙ (let z : w + (len - w) ≡ len = omega (arith, fit) in z)) (ap (λ (n : ℕ). numbered n w first second (take len (drop start p))) c)

  pub two-fit : ¬ (count ≡ 0) → ¬ (count ≡ 1) → w + w ≤ len
  two-fit c d = by count c d g.numbers
    where
      by : (n : ℕ) → ¬ (n ≡ 0) → ¬ (n ≡ 1) → n * w ≤ len → w + w ≤ len
      by zero c d h = absurd (c refl)
      by (suc zero) c d h = absurd (d refl)
      by (suc (suc n)) c d h = omega (arith, h, (let z : suc (suc n) * w ≡ w + w + n * w = omega arith in z))

  more-than-one : ¬ (count ≡ 0) → ¬ (count ≡ 1) → numbered count w first second (take len (drop start p)) ≡ unsigned_bytes w first ++ (unsigned_bytes w second ++ drop (w + w) (take len (drop start p)))
  more-than-one c d = by count c d
    where
      by : (n : ℕ) → ¬ (n ≡ 0) → ¬ (n ≡ 1) → numbered n w first second (take len (drop start p)) ≡ unsigned_bytes w first ++ (unsigned_bytes w second ++ drop (w + w) (take len (drop start p)))
      by zero c d = absurd (c refl)
      by (suc zero) c d = absurd (d refl)
      by (suc (suc n)) c d = refl

  pub put_two : (out₁ out₂ out₃ out₄ : List ℕ) {width : ℕ} → width ≡ w → ¬ (count ≡ 0) → ¬ (count ≡ 1) → out₁ ≡ sets out o (tag ∷ unsigned_bytes 2 len) → out₂ ≡ sets out₁ (o + 3) (unsigned_bytes w first)
      → out₃ ≡ sets out₂ (o + 3 + width) (unsigned_bytes w second)
      → out₄ ≡ sets out₃ (o + 3 + 2 * width) (take (len - 2 * width) (drop (start + 2 * width) p)) → PutField p tag start len w count first second out o out₄
  put_two out₁ out₂ out₃ out₄ {width} q c d e f h k =
      let fit : w + w ≤ len = two-fit c d in
      let twice : 2 * width ≡ w + w = omega (arith, q) in
      let One = unsigned_bytes w first in
      let Two = unsigned_bytes w second in
      let D = drop (w + w) (take len (drop start p)) in
      let l : length One ≡ w = length-unsigned_bytes w first in
      let m : length Two ≡ w = length-unsigned_bytes w second in
      let h' : out₃ ≡ sets out₂ (o + 3 + w) Two = subst (λ (n : ℕ). out₃ ≡ sets out₂ (o + 3 + n) Two) q h in
      let k' : out₄ ≡ sets out₃ (o + 3 + (w + w)) (take (len - (w + w)) (drop (start + (w + w)) p)) = subst (λ (n : ℕ). out₄ ≡ sets out₃ (o + 3 + n) (take (len - n) (drop (start + n) p))) twice k in
      let step : o + 3 + (w + w) ≡ o + 3 + length One + length Two = omega (arith, l, m) in
      let three : out₃ ≡ sets (sets out₁ (o + 3) One) (o + 3 + length One) Two = h' ∙ ap₂ (λ (xs : List ℕ) (n : ℕ). sets xs (o + 3 + n) Two) f (sym l) in
      let all : out₄ ≡ sets out₁ (o + 3) (One ++ (Two ++ D)) =
      copied (w + w) out₃ out₄ fit k'
      ∙ ap₂ (λ (xs : List ℕ) (n : ℕ). sets xs n D) three step
      ∙ sym (sets-append Two D (sets out₁ (o + 3) One) (o + 3 + length One))
      ∙ sym (sets-append One (Two ++ D) out₁ (o + 3)) in
      whole out₁ out₄ (One ++ (Two ++ D)) e all
      (length-append One (Two ++ D) ∙ ap₂ (λ (a b : ℕ). a + b) l (length-append Two D ∙ ap₂ (λ (a b : ℕ). a + b) m (behind-size (w + w) fit)) ∙ (let z : w + (w + (len - (w + w))) ≡ len = omega (arith, fit) in z))
      (more-than-one c d)
