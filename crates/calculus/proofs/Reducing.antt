-- What a reduced form says: no assignment tells a stride part from its reduced form, nor need it be cut down to B's constants. Assumes nothing.
use mathlib.Core.Path.{◌≡◌, refl, sym, ap, ap₂, subst}
use mathlib.Core.Logic.{◌⊎◌, inl, inr, ◌↔◌}
use mathlib.Core.List.{List}
use mathlib.Core.Bool.{Bool, false}
use Prim.Native.Nat.{ℕ, ◌≤◌}
use native.Mathlib.Omega.{arith}
use lib.IntN.{pos, ◌-ℤ◌}
use Rattle.integers.specs.Divides.{◌∣ℤ◌}
use Rattle.integers.proofs.Divisibility.{∣-zero}
use Rattle.integers.proofs.Remainders.{remainder-congruent, ∣-back}
use Rattle.forms.specs.Edition.{Edition}
use Rattle.forms.specs.Forms.{Form, Line, coeff, value, Assignment, within, Formula, literal, ◌divides◌, ◌and◌, ◌or◌, True}
use Rattle.forms.specs.Reduced.{reduced, reducing, Strides, Reduced}
use Rattle.forms.proofs.Residues.{residues, residues-stand, coeff-reduced, reduced-within}
use Rattle.calculus.specs.Rules.{StrideOf, Closed, derive, strengthen, round, split_eq, split_neq, number, stride, Rounded, last, more}
use Rattle.calculus.proofs.Sides.{Side, part}
use Rattle.calculus.proofs.Leaves.{Verdict, ∣-values, ∣-left, ∣-right, by-stride}

module _ {g : ℕ} (positive : 1 ≤ g) where
  -- ---- what a reduced form says
  near : (t : Form) (c : ℕ) → pos g ∣ℤ coeff t c -ℤ coeff (reduced g t) c
  near t c = rw (coeff-reduced positive t c) (remainder-congruent positive (coeff t c))

  near_d : (t : Form) → pos g ∣ℤ t.d -ℤ (reduced g t).d
  unfolding reduced
  near_d t = remainder-congruent positive t.d

  pub reduced-alike : (t : Form) (v : Assignment) → pos g ∣ℤ value t v ↔ pos g ∣ℤ value (reduced g t) v
  reduced-alike t v =
      let gap : pos g ∣ℤ value t v -ℤ value (reduced g t) v = ∣-values t (reduced g t) v (near t) (near_d t) in
      (λ h. ∣-left (value (reduced g t) v) (value t v) (∣-back (value t v) (value (reduced g t) v) gap) h, λ h. ∣-left (value t v) (value (reduced g t) v) gap h)

  -- ---- the constants that B lacks: there t and tA have one coefficient, which g divides
  module _ (in_b : ℕ → Bool) (t t_A : Form) (all : (c : ℕ) → pos g ∣ℤ coeff t c) (same : (c : ℕ) → in_b c ≡ false → coeff t c -ℤ coeff t_A c ≡ pos 0) where
    own : (c : ℕ) → in_b c ≡ false → pos g ∣ℤ coeff t_A c
    own c o = ∣-right (coeff t c) (coeff t_A c) (all c) (rw (same c o) ∣-zero)

    -- so the form need not be cut down to B's constants
    pub unmasked : reduced g (within in_b t_A) ≡ reduced g t_A
    unmasked = reduced-within positive in_b t_A own

    pub stride-verdict : (v : Assignment) (σ : Side) → ¬ (pos g ∣ℤ t.d) → part σ (value t v) (value t_A v) ≡ pos 0 → Verdict σ (g divides reduced g (within in_b t_A)) v
    stride-verdict v σ n h = rw unmasked (by-stride g t t_A (reduced g t_A) v all (near t_A) (near_d t_A) σ n h)

-- ---- formulas
pub positive : {g : ℕ} → 2 ≤ g → 1 ≤ g
positive h = omega arith

-- under every assignment a formula and the reduced one are true alike
pub reducing-alike : (I : Formula) (v : Assignment) → Strides I → True I v ↔ True (reducing I) v
unfolding reducing
reducing-alike (literal k t) v s = (λ h. h, λ h. h)
reducing-alike (g divides t) v s = reduced-alike (positive s) t v
reducing-alike (I and J) v s = both (reducing-alike I v s.0) (reducing-alike J v s.1)
  where
    both : {P Q P' Q' : Type 0} → P ↔ P' → Q ↔ Q' → (P × Q) ↔ (P' × Q')
    both e f = (λ h. (e.0 h.0, f.0 h.1), λ h. (e.1 h.0, f.1 h.1))
reducing-alike (I or J) v s = either (reducing-alike I v s.0) (reducing-alike J v s.1)
  where
    map-or : {P Q P' Q' : Type 0} → (P → P') → (Q → Q') → P ⊎ Q → P' ⊎ Q'
    map-or e f (inl h) = inl (e h)
    map-or e f (inr h) = inr (f h)

    either : {P Q P' Q' : Type 0} → P ↔ P' → Q ↔ Q' → (P ⊎ Q) ↔ (P' ⊎ Q')
    either e f = (map-or e.0 f.0, map-or e.1 f.1)

-- the reduced formula has numbers from 0 to g-1 only
pub reducing-reduced : (I : Formula) → Strides I → Reduced (reducing I)
unfolding reducing
reducing-reduced (literal k t) s = tt
reducing-reduced (g divides t) s = residues (positive s) t
reducing-reduced (I and J) s = (reducing-reduced I s.0, reducing-reduced J s.1)
reducing-reduced (I or J) s = (reducing-reduced I s.0, reducing-reduced J s.1)

-- a formula whose numbers lie from 0 to g-1 is its reduced one
pub reduced-already : (I : Formula) → Strides I → Reduced I → reducing I ≡ I
unfolding reducing
reduced-already (literal k t) s r = refl
reduced-already (g divides t) s r = ap (λ (u : Form). g divides u) (residues-stand (positive s) t r)
reduced-already (I and J) s r = ap₂ ◌and◌ (reduced-already I s.0 r.0) (reduced-already J s.1 r.1)
reduced-already (I or J) s r = ap₂ ◌or◌ (reduced-already I s.0 r.0) (reduced-already J s.1 r.1)

-- reducing again changes nothing
reducing-strides : (I : Formula) → Strides I → Strides (reducing I)
unfolding reducing
reducing-strides (literal k t) s = tt
reducing-strides (g divides t) s = s
reducing-strides (I and J) s = (reducing-strides I s.0, reducing-strides J s.1)
reducing-strides (I or J) s = (reducing-strides I s.0, reducing-strides J s.1)

pub reducing-again : (I : Formula) → Strides I → reducing (reducing I) ≡ reducing I
reducing-again I s = reduced-already (reducing I) (reducing-strides I s) (reducing-reduced I s)

-- ---- what the rules derive
stride-strides : {in_b : ℕ → Bool} {g : ℕ} {t_A : Form} {E : Formula} → 2 ≤ g → StrideOf in_b g t_A E → Strides E
stride-strides n is = subst Strides (sym is.is) n

stride-reduced : {in_b : ℕ → Bool} {g : ℕ} {t_A : Form} {E : Formula} → 2 ≤ g → StrideOf in_b g t_A E → Reduced E
stride-reduced {in_b} {t_A = t_A} n is = subst Reduced (sym is.is) (residues (positive n) (within in_b t_A))

module _ {e : Edition} {in_b : ℕ → Bool} where
  mutual
    pub derived-strides : {ls : List Line} {I : Formula} → Closed e in_b ls I → Strides I
    derived-strides (derive _ _ _ p) = derived-strides p
    derived-strides (strengthen _ _ _ p1 pE p0) = (derived-strides p1, (derived-strides pE, derived-strides p0))
    derived-strides (round _ _ _ r p ps) = (derived-strides p, rounded-strides ps r.stride)
    derived-strides (split_eq _ _ _ _ p q) = (derived-strides p, derived-strides q)
    derived-strides (split_neq _ _ _ _ p q) = (derived-strides p, derived-strides q)
    derived-strides (number _ _ _ _) = tt
    derived-strides (stride _ _ _ n _ _ is) = stride-strides n is

    rounded-strides : {ls : List Line} {t t_A : Form} {g k j : ℕ} {I : Formula} → Rounded e in_b ls t t_A g k j I → 2 ≤ g → Strides I
    rounded-strides (last _ is p) n = (stride-strides n is, derived-strides p)
    rounded-strides (more _ is p ps) n = ((stride-strides n is, derived-strides p), rounded-strides ps n)

  mutual
    pub derived-reduced : {ls : List Line} {I : Formula} → Closed e in_b ls I → Reduced I
    derived-reduced (derive _ _ _ p) = derived-reduced p
    derived-reduced (strengthen _ _ _ p1 pE p0) = (derived-reduced p1, (derived-reduced pE, derived-reduced p0))
    derived-reduced (round _ _ _ r p ps) = (derived-reduced p, rounded-reduced ps r.stride)
    derived-reduced (split_eq _ _ _ _ p q) = (derived-reduced p, derived-reduced q)
    derived-reduced (split_neq _ _ _ _ p q) = (derived-reduced p, derived-reduced q)
    derived-reduced (number _ _ _ _) = tt
    derived-reduced (stride _ _ _ n _ _ is) = stride-reduced n is

    rounded-reduced : {ls : List Line} {t t_A : Form} {g k j : ℕ} {I : Formula} → Rounded e in_b ls t t_A g k j I → 2 ≤ g → Reduced I
    rounded-reduced (last _ is p) n = (stride-reduced n is, derived-reduced p)
    rounded-reduced (more _ is p ps) n = ((stride-reduced n is, derived-reduced p), rounded-reduced ps n)

  -- so what they derive is reduced already
  pub derived-stands : {ls : List Line} {I : Formula} → Closed e in_b ls I → reducing I ≡ I
  derived-stands {I = I} p = reduced-already I (derived-strides p) (derived-reduced p)
