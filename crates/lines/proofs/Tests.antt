-- What a test of the code says of a line number and of a multiplier. Assumes nothing.
use mathlib.Core.Path.{◌≡◌, refl, sym, ◌∙◌}
use mathlib.Core.Bool.{Bool, true, false}
use Prim.Native.Nat.{ℕ, zero, suc, ◌≤◌, ◌<◌}
use native.Mathlib.Omega.{arith}
use lib.Dec.{ltb}
use lib.IntN.{ℤ, pos, negsuc, nat_abs}
use borrow.Author.Tests.{ltb-true, ltb-false, eqb-true, eqb-false}
use Rattle.integers.specs.Linear.{eq_z}

-- ---- what the code's tests say
pub is_below : (i n : ℕ) {b : Bool} → b ≡ ltb i n → b ≡ true → i < n
is_below i n {b} e h = ltb-true i n (sym e ∙ h)

pub past : (i n : ℕ) {b : Bool} → b ≡ ltb i n → b ≡ false → n ≤ i
past i n {b} e h = ltb-false i n (sym e ∙ h)

pub zero-abs : (z : ℤ) {b : Bool} → b ≡ eq_z z (pos 0) → b ≡ true → nat_abs z ≡ 0
zero-abs (pos n) e h = eqb-true n 0 (sym e ∙ h)
zero-abs (negsuc n) e h = absurd (let z : ◌≡◌ {A = ℕ} 0 1 = cc in omega arith)

pub some-abs : (z : ℤ) {b : Bool} → b ≡ eq_z z (pos 0) → b ≡ false → 1 ≤ nat_abs z
some-abs (pos zero) e h = absurd (eqb-false 0 0 (sym e ∙ h) refl)
some-abs (pos (suc n)) e h = omega arith
some-abs (negsuc n) e h = omega arith
