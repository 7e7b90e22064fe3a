-- The remainder of an integer from 0 to g-1. docs/FORMAT.md, "Formula". Assumes nothing.
use Rattle.std.specs.Prelude.{ℕ, ◌-◌, ◌%◌, ℤ, pos, negsuc}

-- The number from 0 to g-1 that differs from z by a multiple of g: -1 with 5 is 4.
unfoldable pub remainder : ℕ → ℤ → ℕ
remainder g (pos n) = n % g
remainder g (negsuc n) = g - 1 - n % g
