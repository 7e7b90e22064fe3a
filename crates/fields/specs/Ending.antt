-- What may stand after the root is closed, or the formula is whole, by the code's answer. Assumes nothing.
use Rattle.std.specs.Prelude.{◌≡◌, List, ℕ}
use Rattle.std.specs.declared.result.Result as code
use Rattle.answers.specs.Refusals.{told}
use Rattle.answers.specs.declared.refusals.Fault.{Fault}
use Rattle.fields.specs.declared.FileKind.{FileKind}
use Rattle.fields.specs.Header.{finished}
use Rattle.fields.specs.Places.{fields_at}

pub record IsEnding (kind : FileKind) (s : List ℕ) (at : ℕ) (r : code.Result (Unit {0}) Fault) : Type 0 where
  pub is : (file : ℕ) → finished kind file (fields_at s at) ≡ told file (λ u. u) r
