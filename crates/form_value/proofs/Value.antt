-- The value of a form, summed from its last term to its first, and the numbers of a form in bytes. Assumes nothing.
use Rattle.std.proofs.Common.{◌≡◌, ℕ, zero, suc, ◌+◌, ◌-◌, ◌*◌, ◌/◌, ◌<◌, ◌≤◌, List, [], ◌∷◌, length, get_or, take, drop, ℤ, pos, ◌+ℤ◌, ◌*ℤ◌, refl, sym, ap, ap₂, ◌∙◌, arith, drop-cons, drop_of_length-le, length-take-le, length-drop, get_or-take, take-take, drop-drop, w64, SFits}
use lib.IntN.{+ℤ_assoc, +ℤ_idl}
use lib.Signed.{nat_abs-le}
use Rattle.std.proofs.lemmas.Slice.{between_to_end}
use Rattle.integers.specs.Magnitude.{Within}
use Rattle.integers.proofs.Magnitude.{within-add, within-mul, within-le, within-fits}
use Rattle.forms.specs.Forms.{Form, sum, value}
use Rattle.forms.specs.Flat.{form_in}
use Rattle.number_bytes.specs.Numbers.{signed, signeds, form_from, form_width}
use Rattle.number_bytes.specs.Ranges.{Held}
use Rattle.number_bytes.proofs.Signed.{length-signeds, signeds-take}
use Rattle.formula.specs.Test.{registers}
use Rattle.form_value.specs.Registers.{AllWithin, TotalSmall}
use Rattle.form_value.specs.FormAt.{form_at, numbers_of}

-- a number of four bytes
pub four-within : {z : ℤ} → Held 4 z → Within 2_147_483_648 z
four-within {z} h = record { abs = nat_abs-le z (omega (arith, h.held.half)) }

-- the product and the sum fit a machine word
module _ {c x : ℤ} (h : Within 2_147_483_648 c) (k : Within 1_000_000 x) where
  pub product-fits : SFits w64 (c *ℤ x)
  product-fits = within-fits (within-mul h k) tt

  pub sum_fits : {t : ℤ} → Within 40_000_000_000_000_000 t → SFits w64 (c *ℤ x +ℤ t)
  sum_fits l = within-fits (within-add (within-mul h k) l) tt

-- ---- the sum, from the last term to the first
abbrev form_of : List ℤ → ℤ → Form
form_of cs d = record { coeffs = cs; d = d }

value-cons : (c x d : ℤ) (cs vs : List ℤ) → value (form_of (c ∷ cs) d) (registers (x ∷ vs)) ≡ c *ℤ x +ℤ value (form_of cs d) (registers vs)
unfolding value sum
value-cons c x d cs vs = +ℤ_assoc (c *ℤ x) (sum cs (registers vs)) d

value-nil : (d : ℤ) (vs : List ℤ) → value (form_of [] d) (registers vs) ≡ d
unfolding value sum
value-nil d vs = +ℤ_idl d

-- The terms from i on are summed, and d.
pub record Summed (numbers values : List ℤ) (K i : ℕ) (total : ℤ) : Type 0 where
  pub upto : i ≤ K
  pub is : total ≡ value (form_of (drop i (take K numbers)) (get_or numbers K (pos 0))) (registers (drop i values))
  pub bound : Within ((K - i) * 2_147_483_648_000_000 + 2_147_483_648) total

-- The total is what is told of that sum.
pub record Told {S : Type 0} (of : ℤ → S) (numbers values : List ℤ) (K i : ℕ) (total : S) : Type 0 where
  pub sum : ℤ
  pub summed : Summed numbers values K i sum
  pub is : total ≡ of sum

module _ {S : Type 0} (of : ℤ → S) (numbers values : List ℤ) (K : ℕ) (room : K < length numbers) where
  long : length (take K numbers) ≡ K
  long = length-take-le K numbers (omega arith)

  pub told-none : {d : ℤ} {w : S} → d ≡ get_or numbers K (pos 0) → Within 2_147_483_648 d → w ≡ of d → Told of numbers values K K w
  told-none {d} e h q = record {
    sum = d;
    summed = record {
      upto = omega arith;
      is = e ∙ sym (rw (drop_of_length-le (take K numbers) (let l : length (take K numbers) ≤ K = omega (arith, long) in l)) (value-nil (get_or numbers K (pos 0)) (drop K values)));
      bound = within-le (omega arith) h;
    };
    is = q;
  }

  module _ (all : AllWithin values) (count : length values ≡ K) {i : ℕ} {total : S} (p : Told of numbers values K i total) where
    pub told-small : K ≤ 16 → TotalSmall of total
    told-small few = record { sum = p.sum; small = within-le (omega arith) p.summed.bound; is = p.is }

    pub told-more : {j : ℕ} {c x : ℤ} {t : S} → i ≡ suc j → Within 2_147_483_648 c → c ≡ get_or numbers j (pos 0) → x ≡ get_or values j (pos 0) → ((z : ℤ) → total ≡ of z → t ≡ of (c *ℤ x +ℤ z)) → Told of numbers values K j t
    told-more {j} {c} {x} e held ec ex is =
        let a : j < length (take K numbers) = omega (arith, long, p.summed.upto) in
        let b : j < length values = omega (arith, p.summed.upto) in
        let q : j < K = omega (arith, p.summed.upto) in
        let r : Within 1_000_000 x = rw ex (all.at j) in
        record {
          sum = c *ℤ x +ℤ p.sum;
          summed = record {
            upto = omega (arith, p.summed.upto);
            is =
                rw (drop-cons (take K numbers) j (pos 0) a, drop-cons values j (pos 0) b, get_or-take K numbers j (pos 0) q, value-cons, ← ec, ← ex)
                (ap (λ (u : ℤ). c *ℤ x +ℤ u) (p.summed.is ∙ rw e));
            bound = within-le (omega (arith, p.summed.upto)) (within-add (within-mul held r) p.summed.bound);
          };
          is = is p.sum p.is;
        }

  pub told-all : {i : ℕ} {total : S} → Told of numbers values K i total → i ≤ 0 → total ≡ of (value (form_in K numbers 0) (registers values))
  told-all {i} p h =
      let z : i ≡ 0 = omega arith in
      let k : 0 + K ≡ K = omega arith in
      p.is ∙ ap of (p.summed.is ∙ rw (z, k))

-- ---- in bytes
-- a part of a part
pub part_of : (m j n : ℕ) (l : List ℕ) → j + m ≤ n → take m (drop j (take n l)) ≡ take m (drop j l)
part_of m zero n l h = take-take m n l (omega arith)
part_of m (suc j) zero l h = absurd (omega arith)
part_of m (suc j) (suc n) [] h = refl
part_of m (suc j) (suc n) (x ∷ l) h = part_of m j n l (omega arith)

signeds-at : (n i : ℕ) (bs : List ℕ) → i < n → get_or (signeds 4 n bs) i (pos 0) ≡ signed (take 4 (drop (i * 4) bs))
unfolding signeds
signeds-at zero i bs h = absurd (omega arith)
signeds-at (suc n) zero bs h = refl
signeds-at (suc n) (suc i) bs h = signeds-at n i (drop 4 bs) (omega arith) ∙ ap (λ (l : List ℕ). signed (take 4 l)) (drop-drop (i * 4) 4 bs ∙ (let e : 4 + i * 4 ≡ suc i * 4 = omega arith in ap (λ (m : ℕ). drop m bs) e))

signeds-front : (n K : ℕ) (bs : List ℕ) → K ≤ n → take K (signeds 4 n bs) ≡ signeds 4 K bs
unfolding signeds
signeds-front n zero bs h = refl
signeds-front zero (suc K) bs h = absurd (omega arith)
signeds-front (suc n) (suc K) bs h = ap (λ (l : List ℤ). signed (take 4 bs) ∷ l) (signeds-front n K (drop 4 bs) (omega arith))

module _ (bs : List ℕ) where
  many : length (numbers_of bs) ≡ length bs / 4
  unfolding numbers_of
  many = length-signeds 4 (length bs / 4) bs

  pub numbers-within : {i : ℕ} → i < length (numbers_of bs) → i * 4 + 4 ≤ length bs
  numbers-within h = omega (arith, many)

  pub numbers-at : {i : ℕ} → i < length (numbers_of bs) → get_or (numbers_of bs) i (pos 0) ≡ signed (take 4 (drop (i * 4) bs))
  unfolding numbers_of
  numbers-at {i} h = signeds-at (length bs / 4) i bs (omega (arith, many))

-- a form among the numbers that stand there
pub form-read : (s : List ℕ) (at K n : ℕ) → K < n → form_in K (signeds 4 n (drop at s)) 0 ≡ form_at s at K
unfolding form_at form_from
form-read s at K n h =
    let bs = drop at s in
    let k : 0 + K ≡ K = omega arith in
    rw k
    (ap₂ form_of
    (signeds-front n K bs (omega arith) ∙ sym (signeds-take 4 K (form_width 4 K) bs (omega arith)))
    (signeds-at n K bs h ∙ ap signed (sym (part_of 4 (K * 4) (form_width 4 K) bs (omega arith)))))

module _ (s : List ℕ) (at K : ℕ) (h : at + form_width 4 K ≤ length s) where
  rest_of : take (length s - at) (drop at s) ≡ drop at s
  rest_of = between_to_end s at (length s) (omega arith)

  pub numbers-enough : K < length (numbers_of (take (length s - at) (drop at s)))
  numbers-enough = rw rest_of (omega (arith, many (drop at s), length-drop at s))

  pub form-there : form_in K (numbers_of (take (length s - at) (drop at s))) 0 ≡ form_at s at K
  unfolding numbers_of
  form-there = rw rest_of (form-read s at K (length (drop at s) / 4) (omega (arith, length-drop at s)))
