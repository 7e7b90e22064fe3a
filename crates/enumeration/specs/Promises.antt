-- What the function `next_proof` ensures, as one record; the theorems of `guarantee` speak of this very record. Assumes nothing.
use Rattle.std.specs.Prelude.{◌≡◌, List, ℕ}
use Rattle.answers.specs.Answers.{written_of}
use Rattle.answers.specs.declared.WriteResult.{WriteResult}
use Rattle.enumeration.specs.Next.{next_proof}

-- It returns r, and the lent output is `left` afterwards.
pub record WritesNext (A B given output left : List ℕ) (r : WriteResult) : Type 0 where
  pub is : written_of r left ≡ next_proof A B given output
