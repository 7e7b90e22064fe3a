-- Numbers with their sign, as the code's tests leave them. Assumes nothing.
use mathlib.Core.Path.{◌≡◌, refl}
use mathlib.Core.Bool.{true, false}
use mathlib.Core.List.{◌++◌}
use Prim.Native.Nat.{ℕ}
use native.Mathlib.Omega.{arith}
use lib.IntN.{ℤ, pos, negsuc, nat_abs}
use lib.Signed.{lt_z}
use borrow.Author.Tests.{ltb-true}
use mir.Syntax.{w64}
use mir.Val.{SFits, to_z, of_z}
use mir.ValLaws.{to_z-of_z}
use Rattle.printing.specs.Text.{ascii, decimal, term_text}
use Rattle.printing.specs.Translation.{integer}

negative : (z : ℤ) → lt_z z (pos 0) ≡ true → (ascii "(- " ++ decimal (nat_abs z)) ++ ascii ")" ≡ term_text (integer z)
unfolding integer term_text
negative (pos n) h = absurd (omega (arith, ltb-true n 0 h))
negative (negsuc n) h = refl

positive : (z : ℤ) → lt_z z (pos 0) ≡ false → decimal (nat_abs z) ≡ term_text (integer z)
unfolding integer term_text
positive (pos n) h = refl
positive (negsuc n) h = absurd (let z : ◌≡◌ {A = ℕ} 0 1 = cc in omega arith)

-- z as the machine reads it back
module _ {n : ℕ} {z : ℤ} (f : SFits w64 z) (e : n ≡ nat_abs (to_z w64 (of_z w64 z))) where
  pub negative-text : lt_z (to_z w64 (of_z w64 z)) (pos 0) ≡ true → (ascii "(- " ++ decimal n) ++ ascii ")" ≡ term_text (integer z)
  negative-text h = rw (e, to_z-of_z w64 z f) (negative z (rw (to_z-of_z w64 z f) at h))

  pub positive-text : lt_z (to_z w64 (of_z w64 z)) (pos 0) ≡ false → decimal n ≡ term_text (integer z)
  positive-text h = rw (e, to_z-of_z w64 z f) (positive z (rw (to_z-of_z w64 z f) at h))
