-- A new line as a sum of multiples of two lines: the laws of `mixed` and `mixed_line`. Assumes nothing.
use mathlib.Core.Path.{◌≡◌, refl, sym, ◌∙◌, ap, ap₂, subst}
use mathlib.Core.List.{List, [], ◌∷◌, ◌++◌}
use mathlib.Core.Bool.{Bool, true, false, ◌&&◌}
use Prim.Native.Nat.{ℕ, zero, suc, ◌+◌, ◌*◌, ◌<◌, ◌≤◌}
use native.Mathlib.Nat.{add_assoc, add-zero}
use native.Mathlib.Omega.{arith}
use lib.Dec.{T}
use lib.IntN.{ℤ, pos, ◌+ℤ◌, ◌*ℤ◌}
use lib.ListN.{length, get_or, take, drop, length-map}
use lib.Seq.{paste, length-paste, take-add, take_all}
use Rattle.integers.proofs.Ring.{var, ring, poly}
use Rattle.forms.specs.Edition.{edition1}
use Rattle.forms.specs.Forms.{Form, Line, sums, ◌⊞◌, ◌·◌, small, every}
use Rattle.calculus.specs.Rules.{in_range}
use Rattle.calculus.proofs.Readings.{get_d-sums, get_d-scaled, length-sums}
use Rattle.number_bytes.proofs.Stores.{part-part}
use Rattle.lines.specs.Parts.{part, Agree}
use Rattle.lines.proofs.Parts.{length_part, part-paste, paste-paste, get_d_part, get_d-paste, agree-part, agree-paste, agree-get_d, agree_trans, agree-le}
use Rattle.forms.specs.Flat.{line_kind_of, form_in}
use Rattle.lines.specs.Buffer.{size, line_in, times, mixed, Mixes, mixed_line, SumAsked, LineTerms}
use Rattle.lines.proofs.Lines.{line_as, form-ext, line-ext, before}
use Rattle.lines.proofs.Range.{every_append, fits_line}

-- ---- sums and multiples of lists, and their parts
take-sums : (n : ℕ) (l m : List ℤ) → take n (sums l m) ≡ sums (take n l) (take n m)
unfolding sums
take-sums zero l m = refl
take-sums (suc n) [] m = refl
take-sums (suc n) (a ∷ l) [] = refl
take-sums (suc n) (a ∷ l) (b ∷ m) = ap (λ (x : List ℤ). (a +ℤ b) ∷ x) (take-sums n l m)

drop-sums : (n : ℕ) (l m : List ℤ) → drop n (sums l m) ≡ sums (drop n l) (drop n m)
unfolding sums
drop-sums zero l m = refl
drop-sums (suc n) [] m = refl
drop-sums (suc n) (a ∷ l) [] = sym (right (drop n l))
  where
    right : (l : List ℤ) → sums l [] ≡ l
    right [] = refl
    right (a ∷ l) = refl
drop-sums (suc n) (a ∷ l) (b ∷ m) = drop-sums n l m

take-times : (n : ℕ) (f : ℤ) (l : List ℤ) → take n (times f l) ≡ times f (take n l)
take-times zero f l = refl
take-times (suc n) f [] = refl
take-times (suc n) f (a ∷ l) = ap (λ (x : List ℤ). (f *ℤ a) ∷ x) (take-times n f l)

drop-times : (n : ℕ) (f : ℤ) (l : List ℤ) → drop n (times f l) ≡ times f (drop n l)
drop-times zero f l = refl
drop-times (suc n) f [] = refl
drop-times (suc n) f (a ∷ l) = drop-times n f l

part-sums : (o n : ℕ) (l m : List ℤ) → part o n (sums l m) ≡ sums (part o n l) (part o n m)
part-sums o n l m = ap (take n) (drop-sums o l m) ∙ take-sums n (drop o l) (drop o m)

part-times : (o n : ℕ) (f : ℤ) (l : List ℤ) → part o n (times f l) ≡ times f (part o n l)
part-times o n f l = ap (take n) (drop-times o f l) ∙ take-times n f (drop o l)

-- ---- the mixed numbers, and the form and the line that they are
module _ (f : ℤ) (a : ℕ) (g : ℤ) (b w : ℕ) (buf : List ℤ) where
  pub part-mixed : (o n : ℕ) → o + n ≤ w → part o n (mixed f a g b w buf) ≡ sums (times f (part (a + o) n buf)) (times g (part (b + o) n buf))
  unfolding mixed
  part-mixed o n h =
      part-sums o n (times f (part a w buf)) (times g (part b w buf))
      ∙ ap₂ sums (part-times o n f (part a w buf) ∙ ap (times f) (part-part o n a w buf h)) (part-times o n g (part b w buf) ∙ ap (times g) (part-part o n b w buf h))

  pub get_d-mixed : (j : ℕ) → j < w → get_or (mixed f a g b w buf) j (pos 0) ≡ f *ℤ get_or buf (a + j) (pos 0) +ℤ g *ℤ get_or buf (b + j) (pos 0)
  unfolding mixed
  get_d-mixed j h =
      get_d-sums (times f (part a w buf)) (times g (part b w buf)) j
      ∙ ap₂ ◌+ℤ◌
      (get_d-scaled f (part a w buf) j ∙ ap (λ (z : ℤ). f *ℤ z) (get_d_part a w buf j (pos 0) h))
      (get_d-scaled g (part b w buf) j ∙ ap (λ (z : ℤ). g *ℤ z) (get_d_part b w buf j (pos 0) h))

  module _ (ha : a + w ≤ length buf) (hb : b + w ≤ length buf) where
    pub length-mixed : length (mixed f a g b w buf) ≡ w
    unfolding mixed
    length-mixed =
        let la = length-map (part a w buf) (λ (c : ℤ). f *ℤ c) ∙ length_part a w buf ha in
        let lb = length-map (part b w buf) (λ (c : ℤ). g *ℤ c) ∙ length_part b w buf hb in
        length-sums (times f (part a w buf)) (times g (part b w buf)) (la ∙ sym lb) ∙ la

    pub mixed-form : (K d o : ℕ) → d ≤ length buf → o + K < w
        → form_in K (paste buf d (mixed f a g b w buf) w) (d + o) ≡ f · form_in K buf (a + o) ⊞ g · form_in K buf (b + o)
    unfolding ◌⊞◌ ◌·◌
    mixed-form K d o hd h =
        let full : w ≤ length (mixed f a g b w buf) = omega (arith, length-mixed) in
        form-ext
        (part-paste buf d (mixed f a g b w buf) w hd o K full (omega arith) ∙ part-mixed o K (omega arith))
        (rw add_assoc (get_d-paste buf d (mixed f a g b w buf) w hd (o + K) (pos 0) full h ∙ rw (add_assoc, add_assoc) (get_d-mixed (o + K) h)))

-- w sums and then the v sums behind them, which come from before d too, are w + v sums.
module _ (f : ℤ) (a : ℕ) (g : ℤ) (b : ℕ) (buf : List ℤ) (d w v : ℕ) (ha : a + (w + v) ≤ d) (hb : b + (w + v) ≤ d) (room : d + (w + v) ≤ length buf) where
  mixed-append : take (w + v) (mixed f a g b (w + v) buf) ≡ take w (mixed f a g b w buf) ++ take v (mixed f (a + w) g (b + w) v buf)
  mixed-append =
      take-add w v (mixed f a g b (w + v) buf)
      ∙ ap₂ ◌++◌
      (part-mixed f a g b (w + v) buf 0 w (omega arith) ∙ sym (part-mixed f a g b w buf 0 w (omega arith)))
      (part-mixed f a g b (w + v) buf w v (omega arith) ∙ rw (add-zero, add-zero) at (sym (part-mixed f (a + w) g (b + w) v buf 0 v (omega arith))))

  -- c is whether the first w of them are in range.
  mixed-fits : {c : Bool} → c ≡ every (small edition1.range) (mixed f a g b w buf) → every (small edition1.range) (mixed f a g b (w + v) buf) ≡ c && every (small edition1.range) (mixed f (a + w) g (b + w) v buf)
  mixed-fits {c} e =
      let p : ℤ → Bool = small edition1.range in
      let all = mixed f a g b (w + v) buf in
      let one = mixed f a g b w buf in
      let two = mixed f (a + w) g (b + w) v buf in
      ap (every p)
      (sym (take_all (w + v) all (omega (arith, length-mixed f a g b (w + v) buf (omega arith) (omega arith))))
      ∙ mixed-append
      ∙ ap₂ ◌++◌ (take_all w one (omega (arith, length-mixed f a g b w buf (omega arith) (omega arith)))) (take_all v two (omega (arith, length-mixed f (a + w) g (b + w) v buf (omega arith) (omega arith)))))
      ∙ every_append p one two
      ∙ ap (λ (x : Bool). x && every p two) (sym e)

  mixes-fails : {buf' : List ℤ} → Mixes buf f a g b d w buf' false → Mixes buf f a g b d (w + v) buf' false
  mixes-fails x = record { fits = sym (mixed-fits x.fits); is = λ e. absurd (subst T (sym e) tt); keeps = x.keeps; long = x.long }

  mixes-on : {buf' buf'' : List ℤ} {r : Bool} → Mixes buf f a g b d w buf' true → Mixes buf' f (a + w) g (b + w) (d + w) v buf'' r → Mixes buf f a g b d (w + v) buf'' r
  unfolding mixed
  mixes-on {buf'} x y =
      let same : Agree d buf buf' = x.keeps in
      let again : mixed f (a + w) g (b + w) v buf' ≡ mixed f (a + w) g (b + w) v buf = ap₂ (λ (l m : List ℤ). sums (times f l) (times g m)) (sym (agree-part same (a + w) v (omega arith))) (sym (agree-part same (b + w) v (omega arith))) in
      record {
        fits = y.fits ∙ ap (every (small edition1.range)) again ∙ sym (mixed-fits x.fits);
        is = λ e. y.is e
            ∙ ap₂ (λ (l m : List ℤ). paste l (d + w) m v) (x.is refl) again
            ∙ paste-paste buf d (mixed f a g b w buf) w (mixed f (a + w) g (b + w) v buf) v (mixed f a g b (w + v) buf) (omega arith) (omega (arith, length-mixed f a g b w buf (omega arith) (omega arith))) mixed-append;
        keeps = agree_trans same (agree-le (omega arith) y.keeps);
        long = y.long ∙ x.long;
      }

-- The form's sums first and then the partial interpolant's, each from and to its own place, make the line; where one of the form's is out of range, one of the line's is.
module _ {K : ℕ} {buf buf' : List ℤ} {f : ℤ} {i : ℕ} {g : ℤ} {j n a b d : ℕ} {r : Bool} (p : LineTerms K buf f i g j n) (x : Mixes buf f a g b d (K + 1) buf' r)
    (ea : a ≡ i * size K) (eb : b ≡ j * size K) (ed : d ≡ n * size K) where
  pub form-fails : r ≡ false → Mixes buf f (i * size K) g (j * size K) (n * size K) (size K) buf' false
  form-fails t =
      let both : K + 1 + (K + 1) ≡ size K = omega arith in
      rw both at (mixes-fails f (i * size K) g (j * size K) buf (n * size K) (K + 1) (K + 1) (omega (arith, before K p.first)) (omega (arith, before K p.second)) (omega (arith, p.branch.room)) (rw (ea, eb, ed, t) at x))

  pub mixed-forms : {buf'' : List ℤ} {aA bA dA : ℕ} {q : Bool} → r ≡ true → Mixes buf' f aA g bA dA (K + 1) buf'' q
      → aA ≡ i * size K + (K + 1) → bA ≡ j * size K + (K + 1) → dA ≡ n * size K + (K + 1) → Mixes buf f (i * size K) g (j * size K) (n * size K) (size K) buf'' q
  mixed-forms t y eaA ebA edA =
      let both : K + 1 + (K + 1) ≡ size K = omega arith in
      rw both at (mixes-on f (i * size K) g (j * size K) buf (n * size K) (K + 1) (K + 1) (omega (arith, before K p.first)) (omega (arith, before K p.second)) (omega (arith, p.branch.room)) (rw (ea, eb, ed, t) at x) (rw (eaA, ebA, edA) at y))

module _ (K : ℕ) (f : ℤ) (i : ℕ) (g : ℤ) (j n : ℕ) (buf : List ℤ) (room : n * size K + size K ≤ length buf) (hi : i < n) (hj : j < n) where
  pub mixed-keeps : Agree (n * size K) buf (mixed_line K f i g j n buf)
  unfolding mixed_line
  mixed-keeps = agree-paste (n * size K) buf (n * size K) (mixed f (i * size K) g (j * size K) (size K) buf) (size K) (omega arith) (omega arith)

  pub length-mixed_line : length (mixed_line K f i g j n buf) ≡ length buf
  unfolding mixed_line
  length-mixed_line =
      length-paste buf (n * size K) (mixed f (i * size K) g (j * size K) (size K) buf) (size K) (omega arith)
      (omega (arith, before K hi, before K hj, length-mixed f (i * size K) g (j * size K) (size K) buf (omega (arith, before K hi)) (omega (arith, before K hj))))

  -- (kinds' may have the new line's kind already.)
  pub mixed-line : (kinds kinds' : List ℕ) (s t : Line) → line_in K kinds buf i ≡ s → line_in K kinds buf j ≡ t
      → line_in K kinds' (mixed_line K f i g j n buf) n ≡ line_as (line_kind_of (get_or kinds' n 0)) (f · s.t ⊞ g · t.t) (f · s.t_A ⊞ g · t.t_A)
  unfolding line_in mixed_line
  mixed-line kinds kinds' s t es et =
      let m = mixed-form f (i * size K) g (j * size K) (size K) buf (omega (arith, before K hi)) (omega (arith, before K hj)) K (n * size K) in
      line-ext refl
      (rw (add-zero, add-zero, add-zero) at (m 0 (omega arith) (omega arith)) ∙ ap₂ (λ (x y : Line). f · x.t ⊞ g · y.t) es et)
      (m (K + 1) (omega arith) (omega arith) ∙ ap₂ (λ (x y : Line). f · x.t_A ⊞ g · y.t_A) es et)

  -- The new line is in range where all of its numbers are.
  pub mixed-range : (r : ℕ) (kinds : List ℕ) → in_range r (line_in K kinds (mixed_line K f i g j n buf) n) ≡ every (small r) (mixed f (i * size K) g (j * size K) (size K) buf)
  unfolding mixed_line
  mixed-range r kinds =
      let all = mixed f (i * size K) g (j * size K) (size K) buf in
      let len : length all ≡ size K = length-mixed f (i * size K) g (j * size K) (size K) buf (omega (arith, before K hi)) (omega (arith, before K hj)) in
      fits_line r K kinds (mixed_line K f i g j n buf) n (omega (arith, length-mixed_line))
      ∙ ap (every (small r)) (rw add-zero at (part-paste buf (n * size K) all (size K) (omega arith) 0 (size K) (omega (arith, len)) (omega arith)) ∙ take_all (size K) all (omega (arith, len)))

-- What a whole line of sums leaves, where all are in range.
pub mixes-line : (K i j n : ℕ) {buf buf' : List ℤ} {f g : ℤ} {r : Bool} → Mixes buf f (i * size K) g (j * size K) (n * size K) (size K) buf' r → r ≡ true → buf' ≡ mixed_line K f i g j n buf
unfolding mixed_line
mixes-line K i j n x e = x.is e

-- ---- one factor 1, the other 0
pub one-mul : (a : ℤ) → pos 1 *ℤ a ≡ a
one-mul a = let x = var a in ring (search poly) x (omega arith)

add-zero-mul : (x a : ℤ) → x +ℤ pos 0 *ℤ a ≡ x
add-zero-mul x a = let y = var x in let z = var a in ring (search poly) y (omega arith)

one-times : (l : List ℤ) → times (pos 1) l ≡ l
one-times [] = refl
one-times (a ∷ l) = ap₂ (λ (x : ℤ) (y : List ℤ). x ∷ y) (one-mul a) (one-times l)

sums-zero : (f : ℤ) (l : List ℤ) → sums (times f l) (times (pos 0) l) ≡ times f l
unfolding sums
sums-zero f [] = refl
sums-zero f (a ∷ l) = ap₂ (λ (x : ℤ) (y : List ℤ). x ∷ y) (add-zero-mul (f *ℤ a) a) (sums-zero f l)

-- The numbers that a copy writes.
pub mixed-copy : (a w : ℕ) (buf : List ℤ) → mixed (pos 1) a (pos 0) a w buf ≡ part a w buf
unfolding mixed
mixed-copy a w buf = sums-zero (pos 1) (part a w buf) ∙ one-times (part a w buf)

pub one_form : (t : Form) → pos 1 · t ≡ t
unfolding ◌·◌
one_form t = form-ext (one-times t.coeffs) (one-mul t.d)

-- 1·s + g·t and f·t + 0·t: what a reduce, a scale and a copy write.
pub mix-one : (s : Form) (g : ℤ) (t : Form) → pos 1 · s ⊞ g · t ≡ s ⊞ g · t
mix-one s g t = ap (λ (x : Form). x ⊞ g · t) (one_form s)

pub mix-zero : (f : ℤ) (t : Form) → f · t ⊞ pos 0 · t ≡ f · t
unfolding ◌⊞◌ ◌·◌
mix-zero f t = form-ext (sums-zero f t.coeffs) (add-zero-mul (f *ℤ t.d) t.d)

-- The numbers of the branch's lines are terms, whatever stands behind these lines.
pub terms : {K : ℕ} {buf buf' : List ℤ} {f : ℤ} {i : ℕ} {g : ℤ} {j n a b d w : ℕ} → LineTerms K buf f i g j n → Agree (n * size K) buf buf'
    → a + w ≤ n * size K → b + w ≤ n * size K → n * size K ≤ d → d + w ≤ length buf' → SumAsked buf' f a g b d w
terms {a = a} {b = b} p same ha hb hd room = record {
  first = omega arith;
  second = omega arith;
  third = room;
  factors = λ x h. record {
    a_in = p.f_in;
    x_in = rw (agree-get_d same (a + x) (pos 0) (omega arith)) at (p.branch.bounded.small (a + x) (omega arith));
    b_in = p.g_in;
    y_in = rw (agree-get_d same (b + x) (pos 0) (omega arith)) at (p.branch.bounded.small (b + x) (omega arith));
  };
}
