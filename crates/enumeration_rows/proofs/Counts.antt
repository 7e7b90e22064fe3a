-- Rows by number: how many, and their bytes. Assumes nothing.
use mathlib.Core.Path.{◌≡◌}
use Prim.Native.Nat.{ℕ, ◌*◌, ◌≤◌}
use native.Mathlib.Nat.{mul_assoc, mul-le-mul}
use native.Mathlib.Omega.{arith}

pub eights : (n : ℕ) → 8 * n * n ≡ 2 * (4 * n * n)
eights n = omega (arith, mul_assoc 8 n n, mul_assoc 4 n n)

pub square : (n : ℕ) → n ≤ 6 → 4 * n * n ≤ 144
square n h = let p : 4 * n ≤ 24 = omega arith in mul-le-mul p h
