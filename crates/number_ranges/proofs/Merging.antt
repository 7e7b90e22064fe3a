-- Numbers tested for two bytes all at once: each is shifted to a natural that is below 65,536 where it passes, and these are merged. Assumes nothing.
use mathlib.Core.Path.{◌≡◌, refl, sym, ◌∙◌}
use mathlib.Core.Bool.{Bool, true, false, ◌&&◌}
use Prim.Native.Nat.{ℕ, suc, ◌+◌, ◌-◌, ◌%◌, ◌^◌}
use native.Mathlib.Omega.{arith}
use lib.Bits.{bit_or, or_lt, or_add_and, and_le_l, and_le_r}
use lib.Dec.{ltb}
use lib.IntN.{ℤ, pos, negsuc}
use lib.Signed.{mag}
use borrow.Author.Tests.{ltb-true, ltb-false, lt-ltb, le-ltb}
use mir.Syntax.{w32}
use mir.Val.{SFits, of_z}
use Rattle.bundle.specs.Write.{holdable}
use Rattle.number_ranges.proofs.Ranging.{two-held}

-- Two numbers merged are below a power of two where both are, and only there.
pub or-below : (k a b : ℕ) → ltb (bit_or a b) (2 ^ k) ≡ (ltb a (2 ^ k) && ltb b (2 ^ k))
or-below k a b = go (ltb a (2 ^ k)) refl (ltb b (2 ^ k)) refl
  where
    go : (s : Bool) → ltb a (2 ^ k) ≡ s → (t : Bool) → ltb b (2 ^ k) ≡ t → ltb (bit_or a b) (2 ^ k) ≡ (s && t)
    go true e true f = lt-ltb (bit_or a b) (2 ^ k) (or_lt k a b (ltb-true a (2 ^ k) e) (ltb-true b (2 ^ k) f))
    go true e false f = le-ltb (bit_or a b) (2 ^ k) (omega (arith, ltb-false b (2 ^ k) f, or_add_and a b, and_le_l a b))
    go false e t f = le-ltb (bit_or a b) (2 ^ k) (omega (arith, ltb-false a (2 ^ k) e, or_add_and a b, and_le_r a b))

-- z + 32,768 as a word is below 65,536 where two bytes hold z, and only there.
pub shifted-held : (z : ℤ) → SFits w32 z → ltb ((of_z w32 z + 0x8000) % 0x1_0000_0000) 0x1_0000 ≡ holdable 2 z
shifted-held z f = go z f (ltb ((of_z w32 z + 0x8000) % 0x1_0000_0000) 0x1_0000) refl ∙ sym (two-held z)
  where
    go : (z : ℤ) → SFits w32 z → (b : Bool) → ltb ((of_z w32 z + 0x8000) % 0x1_0000_0000) 0x1_0000 ≡ b → b ≡ ltb (mag z + mag z) 0x1_0000
    go (pos n) f true e = sym (lt-ltb (n + n) 0x1_0000 (omega (arith, f.sfits, ltb-true ((n + 0x8000) % 0x1_0000_0000) 0x1_0000 e)))
    go (pos n) f false e = sym (le-ltb (n + n) 0x1_0000 (omega (arith, f.sfits, ltb-false ((n + 0x8000) % 0x1_0000_0000) 0x1_0000 e)))
    go (negsuc n) f true e = sym (lt-ltb (n + n) 0x1_0000 (omega (arith, f.sfits, ltb-true ((0x1_0000_0000 - suc n + 0x8000) % 0x1_0000_0000) 0x1_0000 e)))
    go (negsuc n) f false e = sym (le-ltb (n + n) 0x1_0000 (omega (arith, f.sfits, ltb-false ((0x1_0000_0000 - suc n + 0x8000) % 0x1_0000_0000) 0x1_0000 e)))
