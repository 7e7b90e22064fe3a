-- Divisibility over ℤ, and its test. Assumes nothing.
use Rattle.std.specs.Prelude.{◌≡◌, Bool, ◌%◌, eqb, ℤ, nat_abs, ◌*ℤ◌}

-- g divides z
infix 4 ◌∣ℤ◌
pub record ◌∣ℤ◌ (g z : ℤ) : Type 0 where
  pub q : ℤ
  pub eq : z ≡ q *ℤ g

-- the test: |z| % |g| is 0
abbrev pub divb : ℤ → ℤ → Bool
divb g z = eqb (nat_abs z % nat_abs g) 0
