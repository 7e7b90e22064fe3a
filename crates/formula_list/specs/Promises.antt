-- What the function test_list ensures, as one record; the theorems of `guarantee` speak of this very record. Assumes nothing.
use Rattle.std.specs.Prelude.{◌≡◌, List, ℕ, ℤ}
use Rattle.answers.specs.declared.WriteResult.{WriteResult}
use Rattle.answers.specs.Answers.{written_of}
use Rattle.formula.specs.TestList.{test_list}

-- It returns r, and the lent output is `left` afterwards.
pub record TestsList (formula : List ℕ) (K : ℕ) (values : List ℤ) (output left : List ℕ) (r : WriteResult) : Type 0 where
  pub is : written_of r left ≡ test_list formula K values output
