-- What the function that writes the guards of a run ensures, as one record. Assumes nothing.
use Rattle.std.specs.Prelude.{◌≡◌, List, ℕ}
use Rattle.answers.specs.declared.WriteResult.{WriteResult}
use Rattle.run.specs.Run.{GuardsWritten, guards}

-- The code's struct (the answer, and the bytes of all guards), and the two outputs as they are left.
abbrev pub guards_of : WriteResult → (left sizesLeft : List ℕ) → GuardsWritten
guards_of r left sizesLeft = record { answer = r.answer; count = r.count; output = left; sizes = sizesLeft }

-- It returns r, and the lent outputs are `left` and `sizesLeft` afterwards.
pub record WritesGuards (buffer lengths proof output sizes left sizesLeft : List ℕ) (r : WriteResult) : Type 0 where
  pub is : guards_of r left sizesLeft ≡ guards buffer lengths proof output sizes
