-- What the function write ensures, as one record; the theorems of `guarantee` speak of this very record.
-- This office writes editions up to the newest. Assumes nothing.
use Rattle.std.specs.Prelude.{◌≡◌, List, ℕ, ℤ}
use Rattle.forms.specs.Edition.{newest_edition}
use Rattle.answers.specs.declared.WriteResult.{WriteResult}
use Rattle.answers.specs.Answers.{written_of}
use Rattle.bundle.specs.Write.{write_bundle}

-- ---- writing: it returns r, and the lent output is `left` afterwards
pub record Writes (n K : ℕ) (kinds : List ℕ) (numbers : List ℤ) (output left : List ℕ) (r : WriteResult) : Type 0 where
  pub is : written_of r left ≡ write_bundle newest_edition n K kinds numbers output
