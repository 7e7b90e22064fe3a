-- The blocks of a list: masks of all vectors, their bits as bytes, and one block more. Assumes nothing.
use mathlib.Core.Path.{◌≡◌, refl, sym, ap, ap₂, ◌∙◌}
use mathlib.Core.List.{List, [], ◌∷◌, ◌++◌, append_assoc, append-nil}
use Prim.Native.Nat.{ℕ, zero, suc, min, ◌+◌, ◌*◌, ◌-◌, ◌/◌, ◌%◌, ◌^◌, ◌≤◌, ◌<◌}
use native.Mathlib.Nat.{mul-le-mul, le_refl, suc-mul, add-mul}
use native.Mathlib.Numerals.{add-one}
use native.Mathlib.Omega.{arith}
use lib.IntN.{ℤ}
use lib.ListN.{length, set, length-set, take, drop, length-drop}
use lib.Seq.{sets, length-sets, drop-drop, take-take, take-suc-set, take_all, length-take-le}
use borrow.Rule.Slice.PartMut.{put_mid}
use Rattle.forms.specs.Edition.{edition1}
use Rattle.forms.specs.Forms.{Formula}
use Rattle.answers.specs.Answers.{accepted}
use Rattle.number_bytes.proofs.Signed.{drop-take}
use Rattle.number_bytes.proofs.Stores.{sets-append, sets-mid}
use Rattle.fields.specs.Fields.{Fields}
use Rattle.fields.specs.Places.{fields_at}
use Rattle.formula.specs.Formula.{formula_within}
use Rattle.formula.specs.Test.{judge, registers}
use Rattle.formula.specs.TestList.{vectors, byte, truths}
use Rattle.formula_leaf.specs.Masks.{bits_of}
use Rattle.formula_leaf.specs.Leaves.{Block}
use Rattle.formula_block.specs.Blocks.{BlockJudged, VectorList, Fills}
use Rattle.formula_block.specs.declared.block.Masked.{Masked}
use Rattle.formula.proofs.TestList.{vectors-length, truths-length}
use Rattle.formula_leaf.proofs.Masks.{block-bytes}
use Rattle.formula_leaf.proofs.Leaves.{part-within}

-- ---- the bits, one byte each: what is left to write gives what the whole gives
pub length-bits_of : (n m : ℕ) → length (bits_of n m) ≡ n
unfolding bits_of
length-bits_of zero m = refl
length-bits_of (suc n) m = ap suc (length-bits_of n (m / 2))

pub record BitsPut (mask n : ℕ) (out : List ℕ) (left i : ℕ) : Type 0 where
  pub long : length out ≡ n
  pub is : take i out ++ bits_of (n - i) left ≡ bits_of n mask

pub bits-start : (mask : ℕ) (out : List ℕ) → BitsPut mask (length out) out mask 0
bits-start mask out =
    let b : length out - 0 ≡ length out = omega arith in
    record { long = refl; is = rw b }

module _ {mask n : ℕ} {out : List ℕ} {left i : ℕ} (p : BitsPut mask n out left i) where
  pub bits-on : i < n → BitsPut mask n (set out i (left % 2)) (left / 2) (i + 1)
  unfolding bits_of
  bits-on h =
      let a : n - i ≡ suc (n - (i + 1)) = omega arith in
      let b : i < length out = omega (arith, p.long) in
      let c : take (i + 1) (set out i (left % 2)) ≡ take i out ++ (left % 2 ∷ []) = ap (λ (m : ℕ). take m (set out i (left % 2))) (add-one i) ∙ take-suc-set out i (left % 2) b in
      record { long = length-set out i (left % 2) ∙ p.long; is = rw (c, append_assoc (take i out) (left % 2 ∷ []) (bits_of (n - (i + 1)) (left / 2))) (rw a at p.is) }

  pub bits-end : n ≤ i → out ≡ bits_of n mask
  unfolding bits_of
  bits-end h =
      let a : n - i ≡ 0 = omega arith in
      sym (append-nil out) ∙ rw (a, take_all i out (let b : length out ≤ i = omega (arith, p.long) in b)) at p.is

-- the bits put in a part of the output
pub bits-part : (out : List ℕ) {part : List ℕ} (i z mask : ℕ) → i + z ≤ length out → part ≡ bits_of (length (take (i + z - i) (drop i out))) mask → put_mid i (i + z - i) out part ≡ sets out i (bits_of z mask)
bits-part out {part} i z mask h e =
    let a : i + z - i ≡ z = omega arith in
    let b : length (take z (drop i out)) ≡ z = length-take-le z (drop i out) (simp length-drop (omega arith)) in
    sets-mid i z (i + z - i) out (bits_of z mask) part (e ∙ rw (a, b)) (length-bits_of z mask) (sym a) h

-- ---- the vectors of a list, block by block
-- the size of a block
pub size-left : (z a b : ℕ) → z ≡ min a b → z ≤ b
size-left z a b e = omega arith

pub size-most : (z a b : ℕ) → z ≡ min a b → z ≤ a
size-most z a b e = omega arith

vectors-split : (K a b : ℕ) (l : List ℤ) → vectors K (a + b) l ≡ vectors K a l ++ vectors K b (drop (a * K) l)
unfolding vectors
vectors-split K zero b l =
    let e : 0 + b ≡ b = omega arith in
    let f : 0 * K ≡ 0 = omega arith in
    rw (e, f)
vectors-split K (suc a) b l =
    let e : suc a + b ≡ suc (a + b) = omega arith in
    let f : K + a * K ≡ suc a * K = omega (arith, suc-mul a K) in
    rw (e, vectors-split K a b (drop K l), drop-drop (a * K) K l, f)

vectors-part : (K a m : ℕ) (l : List ℤ) → a * K ≤ m → vectors K a (take m l) ≡ vectors K a l
unfolding vectors
vectors-part K zero m l h = refl
vectors-part K (suc a) m l h =
    let f : suc a * K ≡ a * K + K = suc-mul a K in
    ap₂ (λ (v : List ℤ) (vs : List (List ℤ)). v ∷ vs) (take-take K m l (omega arith))
    (ap (vectors K a) (drop-take K m l (omega arith)) ∙ vectors-part K a (m - K) (drop K l) (omega arith))

truths-append : (I : Formula) (us vs : List (List ℤ)) → truths I (us ++ vs) ≡ truths I us ++ truths I vs
unfolding truths
truths-append I [] vs = refl
truths-append I (u ∷ us) vs = ap (λ (l : List ℕ). byte (judge I (registers u)) ∷ l) (truths-append I us vs)

-- The truths of the vectors from i on, written, give what all give.
pub record Filling (s : List ℕ) (start : ℕ) (values : List ℤ) (K n : ℕ) (out₀ out : List ℕ) (i : ℕ) : Type 0 where
  pub upto : i ≤ n
  pub long : length out ≡ length out₀
  pub is : (I : Formula) (rest : Fields) → formula_within edition1 K 600 (fields_at s start) ≡ accepted (I, rest)
      → sets out i (truths I (vectors K (n - i) (drop (i * K) values))) ≡ sets out₀ 0 (truths I (vectors K n values))

pub filling-start : (s : List ℕ) (start : ℕ) (values : List ℤ) (K n : ℕ) (out : List ℕ) → Filling s start values K n out out 0
filling-start s start values K n out =
    let a : n - 0 ≡ n = omega arith in
    let b : 0 * K ≡ 0 = omega arith in
    record { upto = omega arith; long = refl; is = λ I rest w. rw (a, b) }

module _ {values : List ℤ} {K n : ℕ} (l : VectorList values K n) {i z : ℕ} (h : z ≤ n - i) (k : i < n) where
  products : i * K + z * K ≤ n * K
  products =
      let a : (i + z) * K ≤ n * K = mul-le-mul {n₁ = i + z} (let b : i + z ≤ n = omega arith in b) (le_refl K) in
      omega (arith, a, add-mul i z K)

  pub block_room : i * K + z * K ≤ length values
  block_room = omega (arith, products, l.count)

  pub block-part : {a : ℕ} → z ≤ 63 → a + 1 ≡ 2 ^ z → Block (take (i * K + z * K - i * K) (drop (i * K) values)) K z a
  block-part {a} few e =
      let f : i * K + z * K - i * K ≡ z * K = omega arith in
      rw f (record {
        all = part-within l.all (z * K) (i * K);
        count = length-take-le (z * K) (drop (i * K) values) (simp length-drop (omega (arith, block_room)));
        some = l.some;
        few = l.few;
        size = few;
        below = omega arith;
      })

  module _ {s : List ℕ} {start : ℕ} {out₀ out : List ℕ} (p : Filling s start values K n out₀ out i) where
    pub filling-on : {a : ℕ} {r : Masked} {out' : List ℕ} → a + 1 ≡ 2 ^ z → BlockJudged s start (take (i * K + z * K - i * K) (drop (i * K) values)) K z 600 a r
        → out' ≡ sets out i (bits_of z r.mask) → Filling s start values K n out₀ out' (i + z)
    filling-on {a} {r} {out'} e b w = record {
      upto = omega arith;
      long = ap length w ∙ length-sets out i (bits_of z r.mask) ∙ p.long;
      is = on;
    }
      where
        on : (I : Formula) (rest : Fields) → formula_within edition1 K 600 (fields_at s start) ≡ accepted (I, rest)
            → sets out' (i + z) (truths I (vectors K (n - (i + z)) (drop ((i + z) * K) values))) ≡ sets out₀ 0 (truths I (vectors K n values))
        on I rest q =
            let L = drop (i * K) values in
            let xs = truths I (vectors K z L) in
            let ys = truths I (vectors K (n - (i + z)) (drop (z * K) L)) in
            let f : i * K + z * K - i * K ≡ z * K = omega arith in
            let x : bits_of z r.mask ≡ xs = block-bytes e (b.is I rest q).0 ∙ ap (λ (m : ℕ). truths I (vectors K z (take m L))) f ∙ ap (truths I) (vectors-part K z (z * K) L (omega arith)) in
            let c : n - i ≡ z + (n - (i + z)) = omega arith in
            let d : truths I (vectors K (n - i) L) ≡ xs ++ ys = ap (λ (m : ℕ). truths I (vectors K m L)) c ∙ ap (truths I) (vectors-split K z (n - (i + z)) L) ∙ truths-append I (vectors K z L) (vectors K (n - (i + z)) (drop (z * K) L)) in
            let m : length xs ≡ z = truths-length I (vectors K z L) ∙ vectors-length K z L in
            let o : drop (z * K) L ≡ drop ((i + z) * K) values = drop-drop (z * K) (i * K) values ∙ ap (λ (y : ℕ). drop y values) (sym (add-mul i z K)) in
            ap (λ (y : List ℤ). sets out' (i + z) (truths I (vectors K (n - (i + z)) y))) (sym o)
            ∙ ap (λ (y : List ℕ). sets y (i + z) ys) (w ∙ ap (sets out i) x)
            ∙ ap (λ (y : ℕ). sets (sets out i xs) (i + y) ys) (sym m)
            ∙ sym (sets-append xs ys out i)
            ∙ ap (sets out i) (sym d)
            ∙ p.is I rest q

pub filling-end : {s : List ℕ} {start : ℕ} {values : List ℤ} {K n : ℕ} {out₀ out : List ℕ} {i : ℕ} → Filling s start values K n out₀ out i → n ≤ i → Fills s start values K n out₀ out
unfolding vectors truths
filling-end {n = n} {i = i} p h =
    let a : n - i ≡ 0 = omega (arith, p.upto) in
    record { long = p.long; is = λ I rest w. rw a at (p.is I rest w) }
