-- What a rounding does: its branches between them say of each side what its line says. Assumes nothing.
use mathlib.Core.Path.{◌≡◌, subst}
use mathlib.Core.Logic.{◌⊎◌, inl, inr}
use Prim.Native.Nat.{ℕ, zero, suc, ◌+◌, ◌-◌, ◌<◌, ◌≤◌}
use native.Mathlib.Decide.{dec_le}
use native.Mathlib.Omega.{arith}
use lib.IntN.{ℤ, pos, negsuc, neg_ℤ, ◌+ℤ◌, ◌-ℤ◌}
use lib.Signed.{◌≤ℤ◌}
use Rattle.integers.specs.Linear.{np}
use Rattle.integers.proofs.Differences.{ints, add-pn, neg-pn}
use Rattle.forms.specs.Forms.{Formula, ◌and◌, ◌or◌, Assignment, True}
use Rattle.calculus.proofs.Sides.{Side, A, B, part}
use Rattle.calculus.proofs.Leaves.{Verdict}

-- ---- z + i is 0 for an i from j to below m
pub record Hits (z : ℤ) (j m : ℕ) : Type 0 where
  pub i : ℕ
  pub from : j ≤ i
  pub below : i < m
  pub zero : z +ℤ pos i ≡ pos 0

hit : (z : ℤ) (m : ℕ) → z ≤ℤ pos 0 → Dec (m ≤ np z) → ((z +ℤ pos m) ≤ℤ pos 0) ⊎ Hits z 0 m
hit (pos n) m h (yes l) = inl (omega (ints, add-pn (pos n) (pos m)))
hit (pos n) m h (no l) = inr (record { i = 0; from = omega arith; below = omega arith; zero = omega (ints, add-pn (pos n) (pos 0)) })
hit (negsuc n) m h (yes l) = inl (omega (ints, add-pn (negsuc n) (pos m)))
hit (negsuc n) m h (no l) = inr (record { i = suc n; from = omega arith; below = omega arith; zero = omega (ints, add-pn (negsuc n) (pos (suc n))) })

-- z ≤ 0: it is 0 within m steps, or still at most 0 after them
pub hits : (z : ℤ) (m : ℕ) → z ≤ℤ pos 0 → ((z +ℤ pos m) ≤ℤ pos 0) ⊎ Hits z 0 m
hits z m h = hit z m h (dec_le m (np z))

-- ---- what the branches j to k-1 answer for, and what branch j does
abbrev pub Due : Side → (x xA : ℤ) (k j : ℕ) → Type 0
Due A x xA k j = Hits xA j k
Due B x xA k j = (x -ℤ xA) ≤ℤ pos 0

abbrev pub Now : Side → (x xA : ℤ) (j : ℕ) → Type 0
Now A x xA j = xA +ℤ pos j ≡ pos 0
Now B x xA j = (x -ℤ xA) ≤ℤ pos 0

module _ (v : Assignment) (x xA : ℤ) (k : ℕ) where
  pub by-round : (σ : Side) (I J : Formula) → part σ x xA ≤ℤ pos 0
      → (part σ (x +ℤ pos k) (xA +ℤ pos k) ≤ℤ pos 0 → Verdict σ I v)
      → (Due σ x xA k 0 → Verdict σ J v)
      → Verdict σ (I or J) v
  by-round A I J h i js = pick (hits xA k h)
    where
      pick : ((xA +ℤ pos k) ≤ℤ pos 0) ⊎ Hits xA 0 k → True (I or J) v
      pick (inl l) = inl (i l)
      pick (inr d) = inr (js d)
  by-round B I J h i js = refute
    where
      refute : True (I or J) v → ⊥
      refute (inl p) = i (omega (ints, add-pn x (neg_ℤ xA), neg-pn xA, add-pn x (pos k), add-pn xA (pos k), neg-pn (xA +ℤ pos k), add-pn (x +ℤ pos k) (neg_ℤ (xA +ℤ pos k)))) p
      refute (inr p) = js h p

  module _ (j : ℕ) where
    -- branch j: the stride argument at t+n with tA+j for each n below k, and its own line
    pub by-branch : (σ : Side) (E I : Formula) → j < k
        → ((n : ℕ) → n < k → part σ (x +ℤ pos n) (xA +ℤ pos j) ≡ pos 0 → Verdict σ E v)
        → (part σ (x +ℤ pos k) (xA +ℤ pos j) ≤ℤ pos 0 → Verdict σ I v)
        → Now σ x xA j → Verdict σ (E and I) v
    by-branch A E I b e i h = (e j b h, i (omega ints))
    by-branch B E I b e i h = λ p. pick (hits (x -ℤ xA) (k - j) h) p.0 p.1
      where
        pick : (((x -ℤ xA) +ℤ pos (k - j)) ≤ℤ pos 0) ⊎ Hits (x -ℤ xA) 0 (k - j) → True E v → True I v → ⊥
        pick (inl l) p q = i (omega (ints, add-pn x (neg_ℤ xA), neg-pn xA, add-pn (x -ℤ xA) (pos (k - j)), add-pn x (pos k), add-pn xA (pos j), neg-pn (xA +ℤ pos j), add-pn (x +ℤ pos k) (neg_ℤ (xA +ℤ pos j)))) q
        pick (inr d) p q = e (d.i + j) (omega (arith, d.below))
            (omega (ints, d.zero, add-pn x (neg_ℤ xA), neg-pn xA, add-pn (x -ℤ xA) (pos d.i), add-pn x (pos (d.i + j)), add-pn xA (pos j), neg-pn (xA +ℤ pos j), add-pn (x +ℤ pos (d.i + j)) (neg_ℤ (xA +ℤ pos j)))) p

    pub by_last : (σ : Side) (P : Formula) → suc j ≡ k → (Now σ x xA j → Verdict σ P v) → Due σ x xA k j → Verdict σ P v
    by_last A P e p d = p (subst (λ (n : ℕ). xA +ℤ pos n ≡ pos 0) (omega (arith, d.from, d.below)) d.zero)
    by_last B P e p d = p d

    pub by-more : (σ : Side) (P J : Formula) → (Now σ x xA j → Verdict σ P v) → (Due σ x xA k (suc j) → Verdict σ J v) → Due σ x xA k j → Verdict σ (P or J) v
    by-more A P J p q d = pick (dec_le (suc j) d.i)
      where
        pick : Dec (suc j ≤ d.i) → True (P or J) v
        pick (yes l) = inr (q (record { i = d.i; from = l; below = d.below; zero = d.zero }))
        pick (no l) = inl (p (subst (λ (n : ℕ). xA +ℤ pos n ≡ pos 0) (omega (arith, d.from)) d.zero))
    by-more B P J p q d = refute
      where
        refute : True (P or J) v → ⊥
        refute (inl r) = p d r
        refute (inr r) = q d r
