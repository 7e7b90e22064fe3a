-- What the function test ensures, as one record; the theorems of `guarantee` speak of this very record. Assumes nothing.
use Rattle.std.specs.Prelude.{◌≡◌, List, ℕ, ℤ}
use Rattle.formula.specs.Test.{test_formula, Tested as Outcome}
use Rattle.formula_test.specs.declared.Tested.{Tested}

-- The code's struct for what testing gives.
abbrev pub as_tested : Outcome → Tested
as_tested t = record { answer = t.answer; holds = t.holds }

-- It returns r.
pub record Tests (formula : List ℕ) (values : List ℤ) (r : Tested) : Type 0 where
  pub is : r ≡ as_tested (test_formula formula values)
