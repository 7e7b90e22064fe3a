-- A bound on an absolute value. Assumes nothing.
use Rattle.std.specs.Prelude.{ℕ, ◌≤◌, ℤ, nat_abs}

-- z is within ±k. A record, so that z and k are inferred from it.
pub record Within (k : ℕ) (z : ℤ) : Type 0 where
  pub abs : nat_abs z ≤ k

-- Two products small enough that their sum fits a machine word.
pub record Factors (a x b y : ℤ) : Type 0 where
  pub a_in : Within 65535 a
  pub x_in : Within 2147483647 x
  pub b_in : Within 65535 b
  pub y_in : Within 2147483647 y
