-- What the functions print and print_words ensure, as one record. Assumes nothing.
use Rattle.std.specs.Prelude.{◌≡◌, Bool, List, ℕ}
use Rattle.answers.specs.Answers.{written_of}
use Rattle.answers.specs.declared.WriteResult.{WriteResult}
use Rattle.printing.specs.Print.{print_formula}

-- It returns r, and the lent output is `left` afterwards.
pub record PrintsFile (wording : Bool) (formula output left : List ℕ) (r : WriteResult) : Type 0 where
  pub is : written_of r left ≡ print_formula wording formula output
