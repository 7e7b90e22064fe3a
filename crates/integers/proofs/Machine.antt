-- The machine's tests and remainders of signed numbers, in ℤ. Assumes nothing.
use mathlib.Core.Path.{◌≡◌, refl, sym, ◌∙◌, ap, ap₂}
use mathlib.Core.Bool.{Bool, true, false, ◌&&◌, true≢false}
use Prim.Native.Nat.{ℕ, zero, suc, ◌-◌, ◌^◌, ◌<◌}
use native.Mathlib.Nat.{mod-eq_of_lt}
use native.Mathlib.Omega.{arith}
use borrow.Author.Tests.{le-leb, ltb-true}
use lib.Dec.{leb, eqb, leb-suc-suc, eqb-suc-zero}
use lib.Bits.{bit_or, or_zero_l, or_add_and, and_le_r}
use lib.IntN.{ℤ, pos, negsuc, nat_abs}
use lib.Signed.{le_z, lt_z}
use mir.Syntax.{w64}
use mir.Val.{Fits, SFits, to_z, of_z}
use mir.ValLaws.{to_z-Fits, of_z_fits, of_z-to_z, Fits-or}
use Rattle.integers.specs.Linear.{eq_z}
use Rattle.integers.specs.Remainder.{remainder}

-- The bits are 0 where the number is.
eqb-pos : (m : ℕ) → 0 < m → eqb m 0 ≡ false
eqb-pos zero h = absurd (omega arith)
eqb-pos (suc m) h = eqb-suc-zero m

-- what lies from 0 to g-1 is its own remainder
pub residue-stands : (x g : ℤ) → (le_z (pos 0) x && lt_z x g) ≡ true → x ≡ pos (remainder (nat_abs g) x)
unfolding remainder
residue-stands (pos n) (pos g) t = ap pos (sym (mod-eq_of_lt (ltb-true n g (rw (le-leb 0 n (omega arith)) at t))))
residue-stands (pos n) (negsuc g) t = absurd (true≢false (sym (rw (le-leb 0 n (omega arith)) at t)))
residue-stands (negsuc a) g t = absurd (true≢false (sym t))

-- Both sides of a range, as one test of the absolute value.
module _ (k : ℕ) where
  pub low-test : (x : ℤ) → le_z x (pos (suc k)) ≡ true → le_z (negsuc k) x ≡ leb (nat_abs x) (suc k)
  low-test (pos n) h = sym h
  low-test (negsuc n) h = sym (leb-suc-suc n k)

  pub high-test : (x : ℤ) → le_z x (pos (suc k)) ≡ false → le_z x (pos (suc k)) ≡ leb (nat_abs x) (suc k)
  high-test (pos n) h = refl
  high-test (negsuc n) h = absurd (omega (arith, (let z : ◌≡◌ {A = ℕ} 0 1 = cc in z)))

-- ---- a number that is 0 where two numbers are
zero_bits : (z : ℤ) → SFits w64 z → eq_z z (pos 0) ≡ eqb (of_z w64 z) 0
zero_bits (pos n) f = refl
zero_bits (negsuc n) f = sym (eqb-pos (2 ^ 64 - suc n) (omega arith))

zero_or : (a b : ℕ) → eqb (bit_or a b) 0 ≡ eqb a 0 && eqb b 0
zero_or zero b = ap (λ (n : ℕ). eqb n 0) (or_zero_l b)
zero_or (suc a) b =
    eqb-pos (bit_or (suc a) b) (omega (arith, or_add_and (suc a) b, and_le_r (suc a) b)) ∙ ap (λ (t : Bool). t && eqb b 0) (sym (eqb-suc-zero a))

pub joined-zero : (x y : ℤ) → SFits w64 x → SFits w64 y → eq_z (to_z w64 (bit_or (of_z w64 x) (of_z w64 y))) (pos 0) ≡ eq_z x (pos 0) && eq_z y (pos 0)
joined-zero x y f g =
    let a = of_z w64 x in
    let b = of_z w64 y in
    let h : Fits w64 (bit_or a b) = Fits-or a b (of_z_fits w64 x f) (of_z_fits w64 y g) in
    zero_bits (to_z w64 (bit_or a b)) (to_z-Fits w64 (bit_or a b) h)
    ∙ ap (λ (n : ℕ). eqb n 0) (of_z-to_z w64 (bit_or a b) h)
    ∙ zero_or a b
    ∙ sym (ap₂ ◌&&◌ (zero_bits x f) (zero_bits y g))
