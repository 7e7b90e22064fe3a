-- The laws of masks: and, or, one vector more, and the bytes of a mask. Assumes nothing.
use Rattle.std.proofs.Common.{◌≡◌, ℕ, zero, suc, ◌+◌, ◌-◌, ◌*◌, ◌/◌, ◌%◌, ◌^◌, ◌<◌, ◌≤◌, Bool, true, false, not, ◌&&◌, ◌||◌, eqb, ltb, List, [], ◌∷◌, map, length, take, drop, ℤ, sym, refl, ap, ◌∙◌, ap₂, le_refl, mul-le-mul, pow-suc, div-add-mod', add-one, arith, drop-drop, pow_pos, pow_mono, ltb-false, ltb-true, eq-eqb, ne_eqb, eqb-true}
use Rattle.forms.specs.Forms.{Formula, ◌and◌, ◌or◌}
use Rattle.formula.specs.Test.{judge, registers}
use Rattle.formula.specs.TestList.{vectors, byte, truths}
use Rattle.formula.proofs.TestList.{vectors-length}
use Rattle.formula_leaf.specs.Masks.{mask, bits_of, among, Marks}

-- ---- sizes
among-length : (I : Formula) (bs : List Bool) (vs : List (List ℤ)) → length bs ≡ length vs → length (among I bs vs) ≡ length bs
unfolding among
among-length I [] vs e = refl
among-length I (b ∷ bs) [] e = absurd (omega arith)
among-length I (b ∷ bs) (v ∷ vs) e = ap suc (among-length I bs vs (omega arith))

both-byte : (a b : Bool) → byte (a && b) ≤ byte a
both-byte true true = omega arith
both-byte true false = omega arith
both-byte false b = omega arith

pub among-le : (I : Formula) (bs : List Bool) (vs : List (List ℤ)) → mask (among I bs vs) ≤ mask bs
unfolding mask among
among-le I [] vs = omega arith
among-le I (b ∷ bs) [] = omega arith
among-le I (b ∷ bs) (v ∷ vs) = omega (arith, both-byte b (judge I (registers v)), among-le I bs vs)

-- ---- and
and_assoc : (a b c : Bool) → ((a && b) && c) ≡ (a && (b && c))
and_assoc true b c = refl
and_assoc false b c = refl

among-and : (I J : Formula) (bs : List Bool) (vs : List (List ℤ)) → among J (among I bs vs) vs ≡ among (I and J) bs vs
unfolding among judge
among-and I J [] vs = refl
among-and I J (b ∷ bs) [] = refl
among-and I J (b ∷ bs) (v ∷ vs) = ap₂ (λ (x : Bool) (l : List Bool). x ∷ l) (and_assoc b (judge I (registers v)) (judge J (registers v))) (among-and I J bs vs)

-- ---- or: the second part is asked of the vectors of which the first is false
unfoldable except : Formula → List Bool → List (List ℤ) → List Bool
except I [] vs = []
except I (b ∷ bs) [] = []
except I (b ∷ bs) (v ∷ vs) = (b && not (judge I (registers v))) ∷ except I bs vs

except-length : (I : Formula) (bs : List Bool) (vs : List (List ℤ)) → length bs ≡ length vs → length (except I bs vs) ≡ length bs
unfolding except
except-length I [] vs e = refl
except-length I (b ∷ bs) [] e = absurd (omega arith)
except-length I (b ∷ bs) (v ∷ vs) e = ap suc (except-length I bs vs (omega arith))

split-byte : (a b : Bool) → byte (a && b) + byte (a && not b) ≡ byte a
split-byte true true = refl
split-byte true false = refl
split-byte false b = refl

or_byte : (a b c : Bool) → byte (a && b) + byte ((a && not b) && c) ≡ byte (a && (b || c))
or_byte true true c = omega arith
or_byte true false c = omega arith
or_byte false b c = omega arith

among-except : (I : Formula) (bs : List Bool) (vs : List (List ℤ)) → length bs ≡ length vs → mask (among I bs vs) + mask (except I bs vs) ≡ mask bs
unfolding mask among except
among-except I [] vs e = refl
among-except I (b ∷ bs) [] e = absurd (omega arith)
among-except I (b ∷ bs) (v ∷ vs) e =
    let h : length bs ≡ length vs = omega arith in
    omega (arith, split-byte b (judge I (registers v)), among-except I bs vs h)

among-or : (I J : Formula) (bs : List Bool) (vs : List (List ℤ)) → mask (among I bs vs) + mask (among J (except I bs vs) vs) ≡ mask (among (I or J) bs vs)
unfolding mask among except judge
among-or I J [] vs = refl
among-or I J (b ∷ bs) [] = refl
among-or I J (b ∷ bs) (v ∷ vs) = omega (arith, or_byte b (judge I (registers v)) (judge J (registers v)), among-or I J bs vs)

long : (K n : ℕ) (values : List ℤ) (bs : List Bool) → length bs ≡ n → length bs ≡ length (vectors K n values)
long K n values bs h = h ∙ sym (vectors-length K n values)

module _ {values : List ℤ} {K n active : ℕ} where
  pub marks-none : {I : Formula} → active ≡ 0 → Marks I values K n active 0
  marks-none {I} z = record { is = λ bs h e. omega (arith, among-le I bs (vectors K n values)) }

  pub marks-and : {I J : Formula} {m r : ℕ} → Marks I values K n active m → Marks J values K n m r → Marks (I and J) values K n active r
  marks-and {I} {J} {m} {r} p q = record {
    is = λ bs h e. q.is (among I bs (vectors K n values)) (among-length I bs (vectors K n values) (long K n values bs h) ∙ h) (p.is bs h e)
        ∙ ap mask (among-and I J bs (vectors K n values));
  }

  pub marks-or : {I J : Formula} {m r : ℕ} → Marks I values K n active m → Marks J values K n (active - m) r → Marks (I or J) values K n active (m + r)
  marks-or {I} {J} {m} {r} p q = record { is = go }
    where
      go : (bs : List Bool) → length bs ≡ n → active ≡ mask bs → m + r ≡ mask (among (I or J) bs (vectors K n values))
      go bs h e =
          let vs = vectors K n values in
          let d : active - m ≡ mask (except I bs vs) = omega (arith, p.is bs h e, among-except I bs vs (long K n values bs h)) in
          let s : r ≡ mask (among J (except I bs vs) vs) = q.is (except I bs vs) (except-length I bs vs (long K n values bs h) ∙ h) d in
          omega (arith, p.is bs h e, s, among-or I J bs vs)

-- ---- one vector more
-- Of the vectors from i on, cs are asked for, and the mask of all is m and what they give.
pub record Open (I : Formula) (values : List ℤ) (K n : ℕ) (bs : List Bool) (left m p i : ℕ) : Type 0 where
  pub cs : List Bool
  pub size : length cs + i ≡ n
  pub left_is : left ≡ mask cs
  pub is : mask (among I bs (vectors K n values)) ≡ m + p * mask (among I cs (vectors K (n - i) (drop (i * K) values)))

pub record Marking (I : Formula) (values : List ℤ) (K n active left m p i : ℕ) : Type 0 where
  pub power : p ≡ 2 ^ i
  pub small : m + p * left ≤ active
  pub rest : (bs : List Bool) → length bs ≡ n → active ≡ mask bs → Open I values K n bs left m p i

pub marking-start : (I : Formula) (values : List ℤ) (K n active : ℕ) → Marking I values K n active active 0 1 0
marking-start I values K n active = record {
  power = refl;
  small = omega arith;
  rest = λ bs h e. record { cs = bs; size = omega arith; left_is = e; is = whole bs };
}
  where
    whole : (bs : List Bool) → mask (among I bs (vectors K n values)) ≡ 0 + 1 * mask (among I bs (vectors K (n - 0) (drop (0 * K) values)))
    whole bs =
        let a : n - 0 ≡ n = omega arith in
        let b : 0 * K ≡ 0 = omega arith in
        rw (a, b) (omega arith)

halves : (p l : ℕ) → p * l ≡ p * 2 * (l / 2) + p * (l % 2)
halves p l = ap (λ (x : ℕ). p * x) (sym (div-add-mod' l 2)) ∙ omega arith

byte_le : (b : Bool) → byte b ≤ 1
byte_le true = omega arith
byte_le false = omega arith

mask-cons : (b : Bool) (bs : List Bool) → mask (b ∷ bs) ≡ byte b + 2 * mask bs
unfolding mask
mask-cons b bs = refl

-- the lowest bit and the others
bit-of : {l : ℕ} (b : Bool) (m : ℕ) → l ≡ byte b + 2 * m → eqb (l % 2) 1 ≡ b
bit-of {l} true m e = eq-eqb (l % 2) 1 (omega arith)
bit-of {l} false m e = ne_eqb (l % 2) 1 (λ q. absurd (omega arith))

half_of : {l : ℕ} (b : Bool) (m : ℕ) → l ≡ byte b + 2 * m → l / 2 ≡ m
half_of true m e = omega arith
half_of false m e = omega arith

first : (I : Formula) (K n i : ℕ) (values : List ℤ) (c : Bool) (cs : List Bool) → i < n
    → mask (among I (c ∷ cs) (vectors K (n - i) (drop (i * K) values)))
    ≡ byte (c && judge I (registers (take K (drop (i * K) values)))) + 2 * mask (among I cs (vectors K (n - (i + 1)) (drop ((i + 1) * K) values)))
unfolding mask among vectors
first I K n i values c cs h =
    let a : n - i ≡ suc (n - (i + 1)) = omega arith in
    let b : i * K + K ≡ (i + 1) * K = omega arith in
    rw (a, drop-drop K (i * K) values, b)

module _ {I : Formula} {values : List ℤ} {K n active left m p i : ℕ} (g : Marking I values K n active left m p i) where
  -- a vector that is asked for is there
  pub marking-there : active < 2 ^ n → 0 < left → i < n
  marking-there h k = go (ltb i n) refl
    where
      go : (b : Bool) → ltb i n ≡ b → i < n
      go true e = ltb-true i n e
      go false e =
          let a : 2 ^ n ≤ 2 ^ i = pow_mono {i = n} {j = i} (ltb-false i n e) in
          let b : p * 1 ≤ p * left = mul-le-mul (le_refl p) k in
          absurd (omega (arith, g.power, g.small))

  module _ (h : active < 2 ^ n) (few : n ≤ 63) (k : 0 < left) where
    pub marking-sum : m + p < 2 ^ 64
    marking-sum =
        let a : 2 ^ n ≤ 2 ^ 63 = pow_mono {i = n} {j = 63} few in
        let b : p * 1 ≤ p * left = mul-le-mul (le_refl p) k in
        omega (arith, g.small)

    pub marking-next : p * 2 < 2 ^ 64
    marking-next =
        let l : i < n = marking-there h k in
        let a : 2 ^ i ≤ 2 ^ 62 = pow_mono {i = i} {j = 62} (omega arith) in
        omega (arith, g.power)

  pub marking-end : left ≤ 0 → (m ≤ active) × Marks I values K n active m
  marking-end z = (omega (arith, g.small), record { is = ends })
    where
      ends : (bs : List Bool) → length bs ≡ n → active ≡ mask bs → m ≡ mask (among I bs (vectors K n values))
      ends bs h e =
          let o = g.rest bs h e in
          let vs = vectors K (n - i) (drop (i * K) values) in
          let y : mask (among I o.cs vs) ≡ 0 = omega (arith, among-le I o.cs vs, o.left_is) in
          sym (o.is ∙ ap (λ (x : ℕ). m + p * x) y ∙ omega arith)

  module _ (h : i < n) {m' : ℕ} (t : Bool) (told : t ≡ (eqb (left % 2) 1 && judge I (registers (take K (drop (i * K) values))))) (added : m' ≡ m + p * byte t) where
    low_bit : byte t ≤ left % 2
    low_bit = go (eqb (left % 2) 1) refl told
      where
        go : (b : Bool) → eqb (left % 2) 1 ≡ b → t ≡ (b && judge I (registers (take K (drop (i * K) values)))) → byte t ≤ left % 2
        go true e f = omega (arith, eqb-true (left % 2) 1 e, byte_le t)
        go false e f = omega (arith, ap byte f)

    opened : (bs : List Bool) → Open I values K n bs left m p i → Open I values K n bs (left / 2) m' (p * 2) (i + 1)
    opened bs o = go o.cs o.size o.left_is o.is
      where
        go : (cs : List Bool) → length cs + i ≡ n → left ≡ mask cs → mask (among I bs (vectors K n values)) ≡ m + p * mask (among I cs (vectors K (n - i) (drop (i * K) values)))
            → Open I values K n bs (left / 2) m' (p * 2) (i + 1)
        go [] l e f = absurd (omega arith)
        go (c ∷ cs) l e f =
            let v = take K (drop (i * K) values) in
            let M = mask (among I cs (vectors K (n - (i + 1)) (drop ((i + 1) * K) values))) in
            let x : mask (among I (c ∷ cs) (vectors K (n - i) (drop (i * K) values))) ≡ byte (c && judge I (registers v)) + 2 * M = first I K n i values c cs h in
            let y : t ≡ (c && judge I (registers v)) = told ∙ ap (λ (b : Bool). b && judge I (registers v)) (bit-of c (mask cs) (e ∙ mask-cons c cs)) in
            let w : p * (byte t + 2 * M) ≡ p * byte t + p * 2 * M = omega arith in
            record {
              cs = cs;
              size = omega arith;
              left_is = half_of c (mask cs) (e ∙ mask-cons c cs);
              is = f ∙ ap (λ (z : ℕ). m + p * z) (x ∙ ap (λ (b : Bool). byte b + 2 * M) (sym y)) ∙ omega (arith, w, added);
            }

    pub marking-on : Marking I values K n active (left / 2) m' (p * 2) (i + 1)
    marking-on = record {
      power = ap (λ (x : ℕ). x * 2) g.power ∙ sym (pow-suc 2 i) ∙ ap (λ (x : ℕ). 2 ^ x) (sym (add-one i));
      small = omega (arith, g.small, added, halves p left, mul-le-mul (le_refl p) low_bit);
      rest = λ bs l e. opened bs (g.rest bs l e);
    }

-- ---- the bytes of a mask
abbrev trues : ℕ → List Bool
trues zero = []
trues (suc n) = true ∷ trues n

trues-length : (n : ℕ) → length (trues n) ≡ n
trues-length zero = refl
trues-length (suc n) = ap suc (trues-length n)

all_true : (n : ℕ) {r : ℕ} → r + 1 ≡ 2 ^ n → r ≡ mask (trues n)
unfolding mask
all_true zero e = omega arith
all_true (suc n) {r} e =
    let a : 2 ^ suc n ≡ 2 ^ n * 2 = pow-suc 2 n in
    let b : 2 ^ n - 1 + 1 ≡ 2 ^ n = omega (arith, pow_pos n) in
    omega (arith, all_true n b)

bits-mask : (bs : List Bool) → bits_of (length bs) (mask bs) ≡ map byte bs
unfolding bits_of mask
bits-mask [] = refl
bits-mask (b ∷ bs) = ap₂ (λ (x : ℕ) (l : List ℕ). x ∷ l) (low b (mask bs)) (ap (bits_of (length bs)) (half_of b (mask bs) refl) ∙ bits-mask bs)
  where
    low : (b : Bool) (m : ℕ) → (byte b + 2 * m) % 2 ≡ byte b
    low true m = omega arith
    low false m = omega arith

truths-among : (I : Formula) (vs : List (List ℤ)) → map byte (among I (trues (length vs)) vs) ≡ truths I vs
unfolding among truths
truths-among I [] = refl
truths-among I (v ∷ vs) = ap (λ (l : List ℕ). byte (judge I (registers v)) ∷ l) (truths-among I vs)

-- The bits of a block's mask are the truths of its vectors.
pub block-bytes : {I : Formula} {values : List ℤ} {K n active r : ℕ} → active + 1 ≡ 2 ^ n → Marks I values K n active r → bits_of n r ≡ truths I (vectors K n values)
block-bytes {I} {values} {K} {n} {active} {r} e p =
    let vs = vectors K n values in
    let s : length vs ≡ n = vectors-length K n values in
    let q : r ≡ mask (among I (trues n) vs) = p.is (trues n) (trues-length n) (all_true n e) in
    let l : length (among I (trues n) vs) ≡ n = among-length I (trues n) vs (trues-length n ∙ sym s) ∙ trues-length n in
    ap₂ bits_of (sym l) q ∙ bits-mask (among I (trues n) vs) ∙ ap (λ (k : ℕ). map byte (among I (trues k) vs)) (sym s) ∙ truths-among I vs
