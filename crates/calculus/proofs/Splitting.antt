-- What a split of a constraint t ≠ 0 does. Assumes nothing.
use mathlib.Core.Path.{◌≡◌, refl}
use mathlib.Core.Logic.{◌⊎◌, inl, inr}
use Prim.Native.Nat.{zero, suc}
use lib.IntN.{ℤ, pos, negsuc, neg_ℤ, ◌+ℤ◌, ◌-ℤ◌}
use lib.Signed.{◌≤ℤ◌}
use Rattle.integers.proofs.Differences.{ints, add-pn, neg-pn}
use Rattle.forms.specs.Forms.{apart, Formula, ◌and◌, ◌or◌, Assignment, True}
use Rattle.calculus.proofs.Sides.{Side, A, B, part, Holding}
use Rattle.calculus.proofs.Leaves.{Verdict}

pub sign : (z : ℤ) → ¬ (z ≡ pos 0) → ((z +ℤ pos 1) ≤ℤ pos 0) ⊎ ((neg_ℤ z +ℤ pos 1) ≤ℤ pos 0)
sign (pos zero) h = absurd (h refl)
sign (pos (suc n)) h = inr (omega (ints, neg-pn (pos (suc n)), add-pn (neg_ℤ (pos (suc n))) (pos 1)))
sign (negsuc n) h = inl (omega (ints, add-pn (negsuc n) (pos 1)))

module _ (v : Assignment) (x xA : ℤ) (I J : Formula) where
  pub by-split-eq : (σ : Side) → Holding σ (apart A) (part σ x xA)
      → (part σ (x +ℤ pos 1) (xA +ℤ pos 1) ≤ℤ pos 0 → Verdict σ I v)
      → (part σ (neg_ℤ x +ℤ pos 1) (neg_ℤ xA +ℤ pos 1) ≤ℤ pos 0 → Verdict σ J v)
      → Verdict σ (I or J) v
  by-split-eq A h i j = pick (sign xA h)
    where
      pick : ((xA +ℤ pos 1) ≤ℤ pos 0) ⊎ ((neg_ℤ xA +ℤ pos 1) ≤ℤ pos 0) → True (I or J) v
      pick (inl l) = inl (i l)
      pick (inr l) = inr (j l)
  by-split-eq B h i j = refute
    where
      refute : True (I or J) v → ⊥
      refute (inl p) = i (omega (ints, add-pn x (neg_ℤ xA), neg-pn xA, add-pn x (pos 1), add-pn xA (pos 1), neg-pn (xA +ℤ pos 1), add-pn (x +ℤ pos 1) (neg_ℤ (xA +ℤ pos 1)))) p
      refute (inr p) = j (omega (ints, add-pn x (neg_ℤ xA), neg-pn xA, neg-pn x, add-pn (neg_ℤ x) (pos 1), add-pn (neg_ℤ xA) (pos 1), neg-pn (neg_ℤ xA +ℤ pos 1), add-pn (neg_ℤ x +ℤ pos 1) (neg_ℤ (neg_ℤ xA +ℤ pos 1)))) p

  pub by-split-neq : (σ : Side) → Holding σ (apart B) (part σ x xA)
      → (part σ (x +ℤ pos 1) xA ≤ℤ pos 0 → Verdict σ I v)
      → (part σ (neg_ℤ x +ℤ pos 1) (neg_ℤ xA) ≤ℤ pos 0 → Verdict σ J v)
      → Verdict σ (I and J) v
  by-split-neq A h i j = (i (omega ints), j (omega (ints, neg-pn xA)))
  by-split-neq B h i j = λ p. pick (sign (x -ℤ xA) h) p.0 p.1
    where
      pick : ((x -ℤ xA +ℤ pos 1) ≤ℤ pos 0) ⊎ ((neg_ℤ (x -ℤ xA) +ℤ pos 1) ≤ℤ pos 0) → True I v → True J v → ⊥
      pick (inl l) p q = i (omega (ints, add-pn x (neg_ℤ xA), neg-pn xA, add-pn (x -ℤ xA) (pos 1), add-pn x (pos 1), add-pn (x +ℤ pos 1) (neg_ℤ xA))) p
      pick (inr l) p q = j (omega (ints, add-pn x (neg_ℤ xA), neg-pn xA, neg-pn (x -ℤ xA), add-pn (neg_ℤ (x -ℤ xA)) (pos 1), neg-pn x, add-pn (neg_ℤ x) (pos 1), neg-pn (neg_ℤ xA), add-pn (neg_ℤ x +ℤ pos 1) (neg_ℤ (neg_ℤ xA)))) q
