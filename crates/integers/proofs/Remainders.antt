-- The laws of the remainder: it is below g, congruent, and the only such number. Assumes nothing.
use mathlib.Core.Path.{◌≡◌, sym, subst}
use mathlib.Core.Logic.{◌↔◌}
use Prim.Native.Nat.{ℕ, zero, suc, ◌-◌, ◌/◌, ◌%◌, ◌<◌, ◌≤◌}
use native.Mathlib.Omega.{arith}
use native.Mathlib.Nat.{div-add-mod', mod-lt}
use lib.IntN.{ℤ, pos, negsuc, neg_ℤ, ◌-ℤ◌, ◌*ℤ◌, +ℤ_idr}
use Rattle.integers.specs.Remainder.{remainder}
use Rattle.integers.proofs.Differences.{ints, add-pn, neg-pn, mul-pn}
use Rattle.integers.proofs.Ring.{var, ring, poly}
use Rattle.integers.specs.Divides.{◌∣ℤ◌}
use Rattle.integers.proofs.Divisibility.{∣-add, ∣-mul}

-- ---- differences that g divides
module _ {g : ℤ} where
  pub ∣-back : (a b : ℤ) → g ∣ℤ a -ℤ b → g ∣ℤ b -ℤ a
  ∣-back a b h = let x = var a in let y = var b in
      subst (λ (z : ℤ). g ∣ℤ z) (ring (search poly) (search poly) (omega arith)) (∣-mul {a = a -ℤ b} (negsuc 0) h)

  pub ∣-through : (a b c : ℤ) → g ∣ℤ a -ℤ b → g ∣ℤ b -ℤ c → g ∣ℤ a -ℤ c
  ∣-through a b c h k = let x = var a in let y = var b in let z = var c in
      subst (λ (z : ℤ). g ∣ℤ z) (ring (search poly) (search poly) (omega arith)) (∣-add h k)

-- numbers below g whose difference g divides are equal
near : (g r s : ℕ) (q : ℤ) → pos r -ℤ pos s ≡ q *ℤ pos g → r < g → s < g → r ≡ s
near g r s (pos zero) e h k = omega (ints, add-pn (pos r) (neg_ℤ (pos s)), neg-pn (pos s), mul-pn (pos zero) (pos g))
near g r s (pos (suc n)) e h k = absurd (omega (ints, add-pn (pos r) (neg_ℤ (pos s)), neg-pn (pos s), mul-pn (pos (suc n)) (pos g)))
near g r s (negsuc n) e h k = absurd (omega (ints, add-pn (pos r) (neg_ℤ (pos s)), neg-pn (pos s), mul-pn (negsuc n) (pos g)))

module _ {g : ℕ} (positive : 1 ≤ g) where
  -- below g
  pub remainder-below : (z : ℤ) → remainder g z < g
  unfolding remainder
  remainder-below (pos n) = mod-lt n positive
  remainder-below (negsuc n) = omega (arith, mod-lt n positive)

  -- congruent to z
  pub remainder-congruent : (z : ℤ) → pos g ∣ℤ z -ℤ pos (remainder g z)
  unfolding remainder
  remainder-congruent (pos n) = record {
    q = pos (n / g);
    eq = omega (ints, div-add-mod' n g, add-pn (pos n) (neg_ℤ (pos (n % g))), neg-pn (pos (n % g)), mul-pn (pos (n / g)) (pos g));
  }
  remainder-congruent (negsuc n) = record {
    q = negsuc (n / g);
    eq = omega (ints, div-add-mod' n g, mod-lt n positive, add-pn (negsuc n) (neg_ℤ (pos (g - 1 - n % g))), neg-pn (pos (g - 1 - n % g)), mul-pn (negsuc (n / g)) (pos g));
  }

  -- and the only such number
  pub remainder-unique : (z : ℤ) (r : ℕ) → r < g → pos g ∣ℤ z -ℤ pos r → remainder g z ≡ r
  remainder-unique z r h d =
      let e = ∣-through (pos (remainder g z)) z (pos r) (∣-back z (pos (remainder g z)) (remainder-congruent z)) d in
      near g (remainder g z) r e.q e.eq (remainder-below z) h

  -- 0 just where g divides
  pub remainder-zero : (z : ℤ) → remainder g z ≡ 0 ↔ pos g ∣ℤ z
  remainder-zero z = (
    λ e. subst (λ (x : ℤ). pos g ∣ℤ x) (minus-0 z) (subst (λ (n : ℕ). pos g ∣ℤ z -ℤ pos n) e (remainder-congruent z)),
    λ d. remainder-unique z 0 positive (subst (λ (x : ℤ). pos g ∣ℤ x) (sym (minus-0 z)) d),
  )
    where
      minus-0 : (z : ℤ) → z -ℤ pos 0 ≡ z
      minus-0 z = +ℤ_idr z
