-- What the function check ensures, as one record; the theorems of `guarantee` speak of this very record. Assumes nothing.
use Rattle.std.specs.Prelude.{◌≡◌, List, ℕ}
use Rattle.answers.specs.Answers.{written_of}
use Rattle.answers.specs.declared.WriteResult.{WriteResult}
use Rattle.proof.specs.Check.{check}

-- It returns r, and the lent output is `left` afterwards.
pub record Checks (A B proof output left : List ℕ) (r : WriteResult) : Type 0 where
  pub is : written_of r left ≡ check A B proof output
