-- A number within the range has 32 bits. Assumes nothing.
use mathlib.Core.Path.{◌≡◌, sym, ◌∙◌}
use mathlib.Core.Bool.{Bool, true}
use Prim.Native.Nat.{◌≤◌}
use native.Mathlib.Omega.{arith}
use borrow.Author.Tests.{leb-true}
use lib.Dec.{leb}
use lib.IntN.{ℤ, pos, negsuc, nat_abs}
use lib.Signed.{mag}
use mir.Syntax.{w32, w64}
use mir.Val.{SFits, to_z, of_z}
use mir.ValLaws.{to_z-of_z}
use Rattle.integers.specs.Magnitude.{Within}
use Rattle.integers.proofs.Magnitude.{within-fits}
use Rattle.forms.specs.Edition.{edition1}

mag-abs : (z : ℤ) → mag z ≤ nat_abs z
mag-abs (pos n) = omega arith
mag-abs (negsuc n) = omega arith

within-narrow : {z : ℤ} → Within edition1.range z → SFits w32 z
within-narrow {z} h = record { sfits = omega (arith, mag-abs z, h.abs) }

-- y is computed in 64 bits, and is z.
module _ {y z : ℤ} (e : y ≡ z) (h : Within edition1.range z) where
  pub wide_fits : SFits w64 y
  wide_fits = rw e (within-fits h tt)

  pub narrow-fits : SFits w32 (to_z w64 (of_z w64 y))
  narrow-fits = rw (to_z-of_z w64 y wide_fits, e) (within-narrow h)

  pub narrowed : to_z w32 (of_z w32 (to_z w64 (of_z w64 y))) ≡ z
  narrowed = to_z-of_z w32 (to_z w64 (of_z w64 y)) narrow-fits ∙ to_z-of_z w64 y wide_fits ∙ e

-- r is what the test of z gave.
pub tested-within : {z : ℤ} {r : Bool} → r ≡ leb (nat_abs z) edition1.range → r ≡ true → Within edition1.range z
tested-within {z} {r} q k = record { abs = leb-true (nat_abs z) edition1.range (sym q ∙ k) }
