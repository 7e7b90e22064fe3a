-- What is written of what was found. Assumes nothing.
use Rattle.std.specs.Prelude.{◌≡◌, List, ℕ}
use Rattle.answers.specs.Answers.{written_of, written}
use Rattle.answers.specs.declared.WriteResult.{WriteResult}
use Rattle.enumeration.specs.Search.{Found, found_file}

-- The table found, or the refusal in its place.
pub record WritesFound (K : ℕ) (f : Found) (out out' : List ℕ) (r : WriteResult) : Type 0 where
  pub is : written_of r out' ≡ written (found_file K f) out
