-- What is stored of a bundle's fields, and when it fits the lent outputs. Assumes nothing.
use Rattle.std.specs.Prelude.{◌≡◌, List, ℕ, suc, ◌*◌, ◌≤◌, length, ℤ, Ok}
use Rattle.fields.specs.Fields.{Fields}
use Rattle.bundle_scan.specs.Scan.{counted}

-- The constraints of the fields, n before them and m with those, have no fault and fit.
pub record Storable (w K n m : ℕ) (fs : Fields) (kinds : List ℕ) (numbers : List ℤ) : Type 0 where
  pub is : counted w K n fs ≡ Ok m
  pub kinds_fit : m ≤ length kinds
  pub numbers_fit : m * suc K ≤ length numbers
