-- What the two ways to close a branch say of a line's sides, and what a strengthen does. Assumes nothing.
use mathlib.Core.Path.{◌≡◌, refl, sym, ◌∙◌, ap, subst}
use mathlib.Core.Logic.{◌⊎◌, inl, inr}
use mathlib.Core.List.{List, [], ◌∷◌}
use Prim.Native.Nat.{ℕ, zero, suc}
use native.Mathlib.Omega.{arith}
use lib.ListN.{get_or}
use lib.IntN.{ℤ, pos, negsuc, neg_ℤ, ◌+ℤ◌, ◌-ℤ◌, *ℤ-zero, +ℤ_idl}
use lib.Signed.{◌≤ℤ◌}
use Rattle.integers.proofs.Differences.{ints, add-pn, neg-pn}
use Rattle.integers.proofs.Ring.{var, ring, poly}
use Rattle.integers.proofs.RingLaws.{sub-add}
use Rattle.integers.specs.Divides.{◌∣ℤ◌}
use Rattle.integers.proofs.Divisibility.{∣-zero, ∣-add, ∣-mul}
use Rattle.forms.specs.Forms.{Form, Kind, ≤0, =0, Holds, coeff, value, sum, Assignment, rest, ◌⊞◌, ◌·◌, Formula, literal, ◌divides◌, ◌and◌, ◌or◌, True}
use Rattle.calculus.specs.Rules.{Fails}
use Rattle.calculus.proofs.Readings.{◌⊟◌, of-difference, coeff-reading, value-reading}
use Rattle.calculus.proofs.Sides.{Side, A, B, part, holds-plus}

-- what a formula owes to each side
abbrev pub Verdict : Side → Formula → Assignment → Type 0
Verdict A I v = True I v
Verdict B I v = ¬ (True I v)

-- ---- divisibility
module _ {g : ℤ} (a b : ℤ) where
  pub ∣-right : g ∣ℤ a → g ∣ℤ a -ℤ b → g ∣ℤ b
  ∣-right h k = let x = var a in let y = var b in
      subst (λ (z : ℤ). g ∣ℤ z) (ring (search poly) y (omega arith)) (∣-add h (∣-mul {a = a -ℤ b} (negsuc 0) k))

  pub ∣-left : g ∣ℤ a -ℤ b → g ∣ℤ b → g ∣ℤ a
  ∣-left h k = subst (λ (z : ℤ). g ∣ℤ z) (sub-add a b) (∣-add h k)

∣-sum : {g : ℤ} (l : List ℤ) (v : Assignment) → ((c : ℕ) → g ∣ℤ get_or l c (pos 0)) → g ∣ℤ sum l v
unfolding sum
∣-sum [] v h = ∣-zero
∣-sum (x ∷ l) v h = ∣-add (∣-mul {a = x} (v 0) (h 0)) (∣-sum l (rest v) (λ c. h (suc c)))

-- a form whose coefficients g divides is its d, but for a multiple of g
∣-value : {g : ℤ} (t : Form) (v : Assignment) → ((c : ℕ) → g ∣ℤ coeff t c) → g ∣ℤ value t v -ℤ t.d
unfolding coeff value
∣-value {g} t v h =
    let x = var (sum t.coeffs v) in
    let y = var t.d in
    subst (λ (z : ℤ). g ∣ℤ z) (ring x (search poly) (omega arith)) (∣-sum t.coeffs v h)

-- ---- close by number
constant : (t : Form) (v : Assignment) → ((c : ℕ) → coeff t c ≡ pos 0) → value t v ≡ t.d
constant t v h =
    let gap : pos 0 ∣ℤ value t v -ℤ t.d = ∣-value t v (λ c. subst (λ (z : ℤ). pos 0 ∣ℤ z) (sym (h c)) ∣-zero) in
    sym (sub-add (value t v) t.d) ∙ ap (λ (z : ℤ). z +ℤ t.d) (gap.eq ∙ *ℤ-zero gap.q) ∙ +ℤ_idl t.d

fails : (k : Kind) (d : ℤ) → Fails k d → Holds k d → ⊥
fails ≤0 d f h = omega ints
fails =0 d f h = f h

pub by_number : (σ : Side) (k : Kind) (t t_A : Form) (v : Assignment) → ((c : ℕ) → coeff t c ≡ pos 0) → Fails k t.d
    → Holds k (part σ (value t v) (value t_A v)) → Verdict σ (literal k t_A) v
by_number A k t t_A v z f h = h
by_number B k t t_A v z f h = λ g. fails k t.d f
    (subst (Holds k) (sub-add (value t v) (value t_A v) ∙ constant t v z) (holds-plus k (value t v -ℤ value t_A v) (value t_A v) h g))

-- ---- close by stride
module _ {g : ℤ} (s t : Form) (v : Assignment) (near : (c : ℕ) → g ∣ℤ coeff s c -ℤ coeff t c) (near_d : g ∣ℤ s.d -ℤ t.d) where
  -- forms whose numbers differ by multiples of g have values that do
  d-difference : (s ⊟ t).d ≡ s.d -ℤ t.d
  unfolding ◌⊞◌ ◌·◌
  d-difference = let x = var s.d in let y = var t.d in ring (search poly) (search poly) (omega arith)

  pub ∣-values : g ∣ℤ value s v -ℤ value t v
  ∣-values = let h : g ∣ℤ value (s ⊟ t) v -ℤ (s ⊟ t).d = ∣-value (s ⊟ t) v (λ c. rw (of-difference (coeff-reading c)) (near c)) in
      rw (of-difference (value-reading v)) at (∣-left (value (s ⊟ t) v) (s ⊟ t).d h (rw d-difference near_d))

-- u, the stride's form, has the numbers of tA but for multiples of g
module _ (g : ℕ) (t t_A u : Form) (v : Assignment) (all : (c : ℕ) → pos g ∣ℤ coeff t c)
    (near : (c : ℕ) → pos g ∣ℤ coeff t_A c -ℤ coeff u c) (near_d : pos g ∣ℤ t_A.d -ℤ u.d) where
  gap : pos g ∣ℤ value t_A v -ℤ value u v
  gap = ∣-values t_A u v near near_d

  pub by-stride : (σ : Side) → ¬ (pos g ∣ℤ t.d) → part σ (value t v) (value t_A v) ≡ pos 0 → Verdict σ (g divides u) v
  by-stride A n h = ∣-right (value t_A v) (value u v) (rw h ∣-zero) gap
  by-stride B n h = λ k. n (∣-right (value t v) t.d (∣-left (value t v) (value t_A v) (rw h ∣-zero) (∣-left (value t_A v) (value u v) gap k)) (∣-value t v all))

-- ---- strengthen
pub split : (z : ℤ) → z ≤ℤ pos 0 → (z ≡ pos 0) ⊎ ((z +ℤ pos 1) ≤ℤ pos 0)
split (pos zero) h = inl refl
split (pos (suc n)) h = absurd (omega ints)
split (negsuc n) h = inr (omega (ints, add-pn (negsuc n) (pos 1)))

pub by-strengthen : (σ : Side) (I1 E I0 : Formula) (v : Assignment) (x xA : ℤ) → part σ x xA ≤ℤ pos 0
    → (part σ (x +ℤ pos 1) (xA +ℤ pos 1) ≤ℤ pos 0 → Verdict σ I1 v)
    → (part σ x xA ≡ pos 0 → Verdict σ E v)
    → (part σ (x +ℤ pos 1) xA ≤ℤ pos 0 → Verdict σ I0 v)
    → Verdict σ (I1 or (E and I0)) v
by-strengthen A I1 E I0 v x xA h k1 kE k0 = pick (split xA h)
  where
    pick : (xA ≡ pos 0) ⊎ ((xA +ℤ pos 1) ≤ℤ pos 0) → True (I1 or (E and I0)) v
    pick (inl z) = inr (kE z, k0 h)
    pick (inr l) = inl (k1 l)
by-strengthen B I1 E I0 v x xA h k1 kE k0 = refute
  where
    both : (x -ℤ xA ≡ pos 0) ⊎ ((x -ℤ xA +ℤ pos 1) ≤ℤ pos 0) → True E v → True I0 v → ⊥
    both (inl z) e i = kE z e
    both (inr l) e i = k0 (omega (ints, add-pn x (neg_ℤ xA), neg-pn xA, add-pn (x -ℤ xA) (pos 1), add-pn x (pos 1), add-pn (x +ℤ pos 1) (neg_ℤ xA))) i

    refute : True (I1 or (E and I0)) v → ⊥
    refute (inl i) = k1 (omega (ints, add-pn x (neg_ℤ xA), neg-pn xA, add-pn x (pos 1), add-pn xA (pos 1), neg-pn (xA +ℤ pos 1), add-pn (x +ℤ pos 1) (neg_ℤ (xA +ℤ pos 1)))) i
    refute (inr p) = both (split (x -ℤ xA) h) p.0 p.1
