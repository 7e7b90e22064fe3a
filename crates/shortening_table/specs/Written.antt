-- The shorter table as the code writes it, field by field. Assumes nothing.
use Rattle.std.specs.Prelude.{◌≡◌, Bool, true, List, [], ◌∷◌, ℕ, ◌+◌, ◌≤◌, ◌<◌, length, get_or}
use Rattle.forms.specs.Edition.{edition}
use Rattle.calculus.specs.Rules.{Entry, row, claim}
use Rattle.fields.specs.Fields.{Fields, Item, file_of}
use Rattle.shortening.specs.Passes.{top, pop, Start, retentions, remaining}
use Rattle.shortening.specs.Shorten.{list_of, renumber_item}
use Rattle.shortening_stack.specs.declared.Class.TheVariants.{Makes}
use Rattle.shortening_stack.specs.declared.stack.Step.{Step}
use Rattle.shortening_stack.specs.Outline.{outline_of}
use Rattle.shortening_marks.specs.Gathered.{rows_of, Stating, entries_in}

-- What is left of some fields with these entries: `reported` is the report on the rows to come, `stays` tells whether the row before stays; new line numbers, lines on the branch,
-- how many of them are kept, and the branches to come, as in `retentions`.
abbrev pub written_from : (e : ℕ) → List Entry → (reported : List ℕ) (stays : Bool) (new : ℕ → ℕ) (lines kept : ℕ) → List Start → List Item → List ℕ
written_from e es reported stays new lines kept opened is = file_of (remaining (renumber_item (edition e)) (retentions es reported stays new lines kept opened) is)

-- The fields of a proof of edition e over K constants and n constraints that stay, by a report (and anything behind it).
abbrev pub table_from : (e K n : ℕ) → Fields → (report : List ℕ) → List ℕ
table_from e K n fs report = written_from e (entries_in e K fs) report true (λ j. j) n n [] (list_of fs)

-- The report says 0 only of rows that make a line.
abbrev pub Tells : List Entry → (reported : List ℕ) → Type 0
Tells [] reported = Unit {0}
Tells (claim _ _ ∷ es) reported = Tells es reported
Tells (row r ∷ es) reported = (top 0 reported ≡ 0 → (outline_of (row r)).class ≡ Makes) × Tells es (pop reported)

-- The arrays have room for the rows and lines of what the fields state, no line is gone yet, and the output has room for the table.
pub record TableWritable (e K : ℕ) (fs : Fields) (n : ℕ) (report gones : List ℕ) (steps : List Step) (out : List ℕ) (o : ℕ) : Type 0 where
  pub es : List Entry
  pub stating : Stating e K fs es
  pub tells : Tells es report
  pub report-room : rows_of es ≤ length report
  pub gones_room : n + rows_of es ≤ length gones
  pub steps_room : rows_of es ≤ length steps
  pub few : n + rows_of es < 0xFFFF
  pub clear : (j : ℕ) → get_or gones j 0 ≡ 0
  pub room : o + length (table_from e K n fs report) ≤ length out
