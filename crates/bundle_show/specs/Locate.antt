-- A constraint's field by place, as the code finds it. Assumes nothing.
use Rattle.std.specs.Prelude.{◌≡◌, List, ℕ, ◌+◌, ◌≤◌, length, Ok, Err}
use Rattle.std.specs.declared.result.Result as code
use Rattle.forms.specs.Edition.{newest_edition}
use Rattle.answers.specs.Answers.{file_a}
use Rattle.answers.specs.declared.refusals.Fault.{Fault}
use Rattle.bundle.specs.Show.{Part, show_part}
use Rattle.bundle_show.specs.Promises.{of_file}
use Rattle.bundle_show.specs.declared.locate.Located.{Located}

-- The part that is handed back: the empty one at A's start where there is none.
abbrev pub handed_of : code.Result Located Fault → Part
handed_of (Ok p) = record { file = p.file; start = p.start; size = p.size }
handed_of (Err e) = record { file = file_a; start = 0; size = 0 }

abbrev pub LiesIn : (A B : List ℕ) → code.Result Located Fault → Type 0
LiesIn A B (Ok p) = p.start + p.size ≤ length (of_file p.file A B)
LiesIn A B (Err e) = Unit {0}

-- The part that a line number shows; and it lies in its file.
pub record IsLocated (A B : List ℕ) (line : ℕ) (r : code.Result Located Fault) : Type 0 where
  pub is : show_part newest_edition A B line ≡ handed_of r
  pub inside : LiesIn A B r
