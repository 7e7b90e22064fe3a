-- The line that the second branch of a split starts with, line i with -t + x and -tA + y: the laws of `negated_line`. Assumes nothing.
use mathlib.Core.Path.{◌≡◌, refl, sym, ◌∙◌, ap, ap₂, subst}
use mathlib.Core.List.{List, [], ◌∷◌}
use mathlib.Core.Bool.{Bool, true, false, ◌&&◌}
use Prim.Native.Nat.{ℕ, suc, ◌+◌, ◌*◌, ◌<◌, ◌≤◌}
use native.Mathlib.Omega.{arith}
use lib.Dec.{T, leb, le→leb}
use lib.IntN.{ℤ, pos, negsuc, nat_abs, ◌+ℤ◌, ◌*ℤ◌}
use lib.ListN.{length, get_or}
use Rattle.integers.specs.Magnitude.{Within}
use Rattle.integers.proofs.Divisibility.{abs-mul}
use Rattle.integers.proofs.Magnitude.{within-between}
use Rattle.forms.specs.Edition.{edition1}
use Rattle.forms.specs.Forms.{Form, Kind, ≤0, LineKind, plain, Line, line, neg, ◌·◌, ◌plus◌, small, every}
use Rattle.calculus.specs.Rules.{in_range}
use Rattle.lines.specs.Parts.{Agree}
use Rattle.forms.specs.Flat.{line_kind_of, form_in}
use Rattle.lines.specs.Buffer.{size, line_in, times, mixed, Mixes, Bounded, Negated, LineCopy, LineNegated, Raised, mixed_line, negated_line}
use Rattle.lines.proofs.Lines.{line_as, before, line-ext, bounded-same}
use Rattle.lines.proofs.Mixing.{mixed-range, mixes-line}
use Rattle.lines.proofs.Range.{and_both, bounded-more, bounded-line}
use Rattle.lines.proofs.Starting.{times-line, times-room, length-new, new-keeps, new_line, new-raised, terms-within, raised-range, none-stored}

-- ---- -z is as large as z
abs_neg : (z : ℤ) → nat_abs (negsuc 0 *ℤ z) ≡ nat_abs z
abs_neg z = omega (arith, abs-mul (negsuc 0) z)

small-neg : (r : ℕ) (z : ℤ) → small r (negsuc 0 *ℤ z) ≡ small r z
unfolding small
small-neg r z = ap (λ (n : ℕ). leb n r) (abs_neg z)

every-neg : (r : ℕ) (l : List ℤ) → every (small r) (times (negsuc 0) l) ≡ every (small r) l
unfolding every
every-neg r [] = refl
every-neg r (c ∷ l) = ap₂ ◌&&◌ (small-neg r c) (every-neg r l)

within-neg : {r : ℕ} {z : ℤ} → Within r z → Within r (negsuc 0 *ℤ z)
within-neg {r} {z} w = record { abs = omega (arith, abs_neg z, w.abs) }

pub neg-in-range : (r : ℕ) (k k' : LineKind) (t t_A : Form) → in_range r (line_as k (neg t) (neg t_A)) ≡ in_range r (line_as k' t t_A)
unfolding in_range ◌·◌
neg-in-range r k k' t t_A = ap₂ ◌&&◌ (ap₂ ◌&&◌ (ap₂ ◌&&◌ (every-neg r t.coeffs) (small-neg r t.d)) (every-neg r t_A.coeffs)) (small-neg r t_A.d)

-- ---- the new line
module _ {K : ℕ} {buf : List ℤ} {i n x y : ℕ} (p : LineNegated K buf i n x y) where
  pub length-negated : length (negated_line K i n x y buf) ≡ length buf
  unfolding negated_line
  length-negated = length-new p.copy (negsuc 0) x y

  pub negated-keeps : Agree (n * size K) buf (negated_line K i n x y buf)
  unfolding negated_line
  negated-keeps = new-keeps p.copy (negsuc 0) x y

  pub negated-line : (kinds kinds' : List ℕ) {s : Line} → line_in K kinds buf i ≡ s → {k : Kind} → line_kind_of (get_or kinds' n 0) ≡ plain k
      → line_in K kinds' (negated_line K i n x y buf) n ≡ line k (neg s.t plus x) (neg s.t_A plus y)
  unfolding negated_line
  negated-line kinds kinds' es e = new_line p.copy (negsuc 0) x y kinds kinds' es ∙ line-ext e refl refl

-- ---- the negated numbers are in range, so line n becomes line i negated, and that may be raised
module _ {K : ℕ} {buf : List ℤ} {i n : ℕ} (p : LineCopy K buf i n) where
  negated-true : every (small edition1.range) (mixed (negsuc 0) (i * size K) (pos 0) (i * size K) (size K) buf) ≡ true
  unfolding line_in
  negated-true =
      sym (mixed-range K (negsuc 0) i (pos 0) i n buf p.branch.room p.first p.first edition1.range [])
      ∙ ap (in_range edition1.range) (times-line p (negsuc 0) [] [] refl)
      ∙ neg-in-range edition1.range (line_kind_of (get_or [] n 0)) (line_in K [] buf i).kind (line_in K [] buf i).t (line_in K [] buf i).t_A
      ∙ holds (in_range edition1.range (line_in K [] buf i)) (bounded-line K buf i (omega (arith, p.branch.room, before K p.first)) [] p.branch.bounded p.first)
    where
      holds : (b : Bool) → T b → b ≡ true
      holds true h = refl
      holds false h = absurd h

  pub mixes-negated : {buf' : List ℤ} {r : Bool} → Mixes buf (negsuc 0) (i * size K) (pos 0) (i * size K) (n * size K) (size K) buf' r → buf' ≡ mixed_line K (negsuc 0) i (pos 0) i n buf
  mixes-negated x = mixes-line K i i n x (x.fits ∙ negated-true)

pub negated-raised : {K : ℕ} {buf : List ℤ} {i n x y : ℕ} → LineNegated K buf i n x y → (buf' : List ℤ) → buf' ≡ mixed_line K (negsuc 0) i (pos 0) i n buf → (n * size K + size K ≤ length buf') × Raised K buf' n x y
negated-raised {x = x} {y = y} p buf' e = rw e (times-room p.copy (negsuc 0), new-raised p.copy (negsuc 0) x y p.fits.t p.fits.t_A)

-- ---- line i may be negated and raised: where the new line is in range, and by less
pub neg_line : (K : ℕ) (kinds : List ℕ) (buf : List ℤ) (i x y : ℕ) (k : Kind) → T (in_range edition1.range (line k (neg (line_in K kinds buf i).t plus x) (neg (line_in K kinds buf i).t_A plus y))) → Negated K buf i x y
unfolding line_in ◌·◌
neg_line K kinds buf i x y k h = let w = terms-within x y k (neg (line_in K kinds buf i).t) (neg (line_in K kinds buf i).t_A) h in record { t = w.0; t_A = w.1 }

pub neg-less : {K : ℕ} {buf : List ℤ} {i n x y z : ℕ} → Bounded K buf n → i < n → z ≤ y → Negated K buf i x y → Negated K buf i x z
neg-less {K} {i = i} b h l r = record {
  t = r.t;
  t_A = within-between l (within-neg (b.small (i * size K + (K + 1) + K) (omega (arith, before K h)))) r.t_A;
}

-- ---- ranges
pub neg-range : (r x y : ℕ) (k : LineKind) (k' : Kind) (t t_A : Form) → T (in_range r (line_as k t t_A)) → in_range r (line k' (neg t plus x) (neg t_A plus y)) ≡ small r (negsuc 0 *ℤ t.d +ℤ pos x) && small r (negsuc 0 *ℤ t_A.d +ℤ pos y)
unfolding ◌·◌
neg-range r x y k k' t t_A h = raised-range r x y k k' (neg t) (neg t_A) (subst T (sym (neg-in-range r k k t t_A)) h)

-- Line i of n bounded lines.
module _ {K : ℕ} {buf : List ℤ} {i n : ℕ} (room : n * size K ≤ length buf) (b : Bounded K buf n) (h : i < n) (kinds : List ℕ) (x y : ℕ) (k : Kind) where
  in-range : T (in_range edition1.range (line_in K kinds buf i))
  in-range = bounded-line K buf i (omega (arith, before K h)) kinds b h

  -- What a test of its two constant terms tells.
  pub tested-neg : {r : Bool} → r ≡ small edition1.range (negsuc 0 *ℤ (form_in K buf (i * size K)).d +ℤ pos x) && small edition1.range (negsuc 0 *ℤ (form_in K buf (i * size K + (K + 1))).d +ℤ pos y)
      → in_range edition1.range (line k (neg (line_in K kinds buf i).t plus x) (neg (line_in K kinds buf i).t_A plus y)) ≡ r
  unfolding line_in
  tested-neg e = neg-range edition1.range x y (line_in K kinds buf i).kind k (line_in K kinds buf i).t (line_in K kinds buf i).t_A in-range ∙ sym e

  pub fitting-neg : Negated K buf i x y → T (in_range edition1.range (line k (neg (line_in K kinds buf i).t plus x) (neg (line_in K kinds buf i).t_A plus y)))
  unfolding line_in small
  fitting-neg f =
      subst T
      (sym (neg-range edition1.range x y (line_in K kinds buf i).kind k (line_in K kinds buf i).t (line_in K kinds buf i).t_A in-range))
      (and_both (small edition1.range (negsuc 0 *ℤ (line_in K kinds buf i).t.d +ℤ pos x)) (small edition1.range (negsuc 0 *ℤ (line_in K kinds buf i).t_A.d +ℤ pos y)) (le→leb _ _ f.t.abs) (le→leb _ _ f.t_A.abs))

-- The new line is in range, and so the lines are bounded with it.
module _ {K : ℕ} {buf : List ℤ} {i n x y : ℕ} (p : LineNegated K buf i n x y) where
  pub negated-range : (kinds : List ℕ) (k : Kind) {s : Line} → line_in K kinds buf i ≡ s → T (in_range edition1.range (line k (neg s.t plus x) (neg s.t_A plus y)))
  negated-range kinds k e =
      subst (λ (l : Line). T (in_range edition1.range (line k (neg l.t plus x) (neg l.t_A plus y)))) e
      (fitting-neg (omega (arith, p.copy.branch.room)) p.copy.branch.bounded p.copy.first kinds x y k p.fits)

  pub negated-bounded : Bounded K (negated_line K i n x y buf) (suc n)
  negated-bounded =
      bounded-more K (negated_line K i n x y buf) n (omega (arith, p.copy.branch.room, length-negated p)) []
      (bounded-same (negated-keeps p) p.copy.branch.bounded)
      (subst (λ (l : Line). T (in_range edition1.range l)) (sym (negated-line p [] [] refl (none-stored n))) (negated-range [] ≤0 refl))
