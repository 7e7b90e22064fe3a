-- What the functions turn_bundle and turn_proof ensure, each as one record; the theorems of `guarantee` speak of these very records. Assumes nothing.
use Rattle.std.specs.Prelude.{◌≡◌, List, ℕ}
use Rattle.answers.specs.declared.WriteResult.{WriteResult}
use Rattle.answers.specs.Answers.{written_of}
use Rattle.conversion.specs.Turning.{turn_bundle, turn_proof}

-- It returns r, and the lent output is `left` afterwards.
pub record TurnsBundle (to : ℕ) (file output left : List ℕ) (r : WriteResult) : Type 0 where
  pub is : written_of r left ≡ turn_bundle to file output

pub record TurnsProof (to : ℕ) (file output left : List ℕ) (r : WriteResult) : Type 0 where
  pub is : written_of r left ≡ turn_proof to file output
