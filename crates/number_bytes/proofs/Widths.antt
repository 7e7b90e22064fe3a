-- A width of 2 or 4, and products with it. Assumes nothing.
use mathlib.Core.Path.{◌≡◌, ap}
use mathlib.Core.Logic.{◌⊎◌, inl, inr}
use Prim.Native.Nat.{ℕ, suc, ◌+◌, ◌*◌, ◌≤◌, ◌<◌}
use native.Mathlib.Nat.{suc-mul, mul-le-mul_right}
use native.Mathlib.Omega.{arith}
use lib.IntN.{ℤ}
use mir.Syntax.{w32}
use mir.Val.{SFits}
use Rattle.number_bytes.specs.declared.words.Width.{Width}
use Rattle.number_bytes.specs.declared.words.Width.TheVariants.{Two, Four}
use Rattle.number_bytes.specs.Ranges.{Held}
use Rattle.number_bytes.specs.Widths.{bytes_of}

pub one_more : (k w : ℕ) → (k + 1) * w ≡ suc k * w
one_more k w = let e : k + 1 ≡ suc k = omega arith in ap (λ (x : ℕ). x * w) e

-- the i-th of n parts of w each lies before their end
pub part-before : (i n w : ℕ) → i < n → i * w + w ≤ n * w
part-before i n w h = omega (arith, mul-le-mul_right {m = suc i} {n = n} w h, suc-mul i w)

-- a number that such a width holds fits 32 bits
pub held-bits : (w : Width) {z : ℤ} → Held (bytes_of w) z → SFits w32 z
held-bits Two h = record { sfits = omega (arith, h.held.half) }
held-bits Four h = record { sfits = omega (arith, h.held.half) }

pub held_fits : {w : ℕ} {z : ℤ} → (w ≡ 2) ⊎ (w ≡ 4) → Held w z → SFits w32 z
held_fits (inl e) h = let k = rw e at h in record { sfits = omega (arith, k.held.half) }
held_fits (inr e) h = let k = rw e at h in record { sfits = omega (arith, k.held.half) }
