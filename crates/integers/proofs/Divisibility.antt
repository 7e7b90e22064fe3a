-- The laws of divisibility over ℤ. Assumes nothing.
use mathlib.Core.Path.{◌≡◌, refl, ◌∙◌, ap, ap₂}
use Prim.Native.Nat.{ℕ, zero, suc, ◌%◌, ◌/◌, ◌*◌}
use native.Mathlib.Omega.{arith}
use native.Mathlib.Nat.{div-add-mod', mul-mod_left}
use lib.Dec.{T, eqb→eq}
use lib.IntN.{ℤ, pos, negsuc, neg_ℤ, nat_abs, ◌+ℤ◌, ◌*ℤ◌}
use Rattle.integers.specs.Divides.{◌∣ℤ◌, divb}
use Rattle.integers.proofs.Ring.{var, ring, poly}

module _ {g : ℤ} where
  pub ∣-zero : g ∣ℤ pos 0
  ∣-zero = record { q = pos 0; eq = let x = var g in ring (search poly) (search poly) (omega arith) }

  pub ∣-add : {a b : ℤ} → g ∣ℤ a → g ∣ℤ b → g ∣ℤ a +ℤ b
  ∣-add d e = let x = var g in let y = var d.q in let z = var e.q in
      record { q = d.q +ℤ e.q; eq = ap₂ ◌+ℤ◌ d.eq e.eq ∙ ring (search poly) (search poly) (omega arith) }

  pub ∣-mul : {a : ℤ} (c : ℤ) → g ∣ℤ a → g ∣ℤ a *ℤ c
  ∣-mul c d = let x = var g in let y = var d.q in let z = var c in
      record { q = d.q *ℤ c; eq = ap (λ (t : ℤ). t *ℤ c) d.eq ∙ ring (search poly) (search poly) (omega arith) }

-- ---- the test tells of the proposition
abs_neg : (n : ℕ) → nat_abs (neg_ℤ (pos n)) ≡ n
abs_neg zero = refl
abs_neg (suc n) = refl

pub abs-mul : (a b : ℤ) → nat_abs (a *ℤ b) ≡ nat_abs a * nat_abs b
abs-mul (pos a) (pos b) = refl
abs-mul (pos a) (negsuc b) = abs_neg (a * suc b)
abs-mul (negsuc a) (pos b) = abs_neg (suc a * b)
abs-mul (negsuc a) (negsuc b) = refl

by-abs : (g z : ℤ) (k : ℕ) → nat_abs z ≡ k * nat_abs g → g ∣ℤ z
by-abs (pos m) (pos n) k h = record { q = pos k; eq = ap pos h }
by-abs (pos m) (negsuc n) k h = record { q = neg_ℤ (pos k); eq = ring (search poly) (search poly) (omega arith) }
by-abs (negsuc m) (pos n) k h = record { q = neg_ℤ (pos k); eq = ring (search poly) (search poly) (omega arith) }
by-abs (negsuc m) (negsuc n) k h = record { q = pos k; eq = ring (search poly) (search poly) (omega arith) }

pub divb→∣ : {g z : ℤ} → T (divb g z) → g ∣ℤ z
divb→∣ {g} {z} t = by-abs g z (nat_abs z / nat_abs g) (omega (arith, div-add-mod' (nat_abs z) (nat_abs g), eqb→eq (nat_abs z % nat_abs g) 0 t))

pub ∣→divb : {g z : ℤ} → g ∣ℤ z → T (divb g z)
∣→divb {g} {z} d = rw d.eq (rw abs-mul (rw mul-mod_left tt))
