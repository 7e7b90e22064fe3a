-- The stages of shortening a proof that is accepted: what each asks of those before it, and what it leaves. Assumes nothing.
use Rattle.std.specs.Prelude.{◌≡◌, List, ◌++◌, ℕ, ◌+◌, ◌*◌, ◌≤◌, ◌<◌, length, get_or}
use Rattle.forms.specs.Edition.{edition1}
use Rattle.calculus.specs.Rules.{Entry}
use Rattle.answers.specs.Answers.{accepted}
use Rattle.fields.specs.Fields.{Fields}
use Rattle.shortening.specs.Passes.{report_on}
use Rattle.shortening.specs.Shorten.{list_of, shorter, written_both}
use Rattle.shortening_stack.specs.declared.stack.Step.{Step}
use Rattle.shortening_marks.specs.declared.GatheredRow.{GatheredRow}
use Rattle.shortening_marks.specs.Gathered.{rows_of, Stating}
use Rattle.shortening.specs.declared.ShortenResult.{ShortenResult}
use Rattle.shortening.specs.Promises.{shortened_of}

-- The fields state entries, at most so many rows, over n constraints.
pub record Stated (e K : ℕ) (fs : Fields) (n rows : ℕ) : Type 0 where
  pub es : List Entry
  pub stating : Stating e K fs es
  pub few : rows_of es ≤ rows
  pub constraints : n ≤ 2 * edition1.constraints

-- The report on the rows is made, with anything behind it; the arrays have room for the rows and lines, and no line is gone yet.
pub record Deliverable (e K : ℕ) (fs : Fields) (n : ℕ) (reported : List ℕ) (rows : ℕ) (gones : List ℕ) (steps : List Step) : Type 0 where
  pub es : List Entry
  pub stating : Stating e K fs es
  pub behind : List ℕ
  pub reported_is : reported ≡ report_on n es ++ behind
  pub rows_are : rows ≡ rows_of es
  pub gones_room : n + rows_of es ≤ length gones
  pub steps_room : rows_of es ≤ length steps
  pub few : n + rows_of es < 0xFFFF
  pub clear : (j : ℕ) → get_or gones j 0 ≡ 0

-- The arrays have room for the rows and lines of what the fields state, and hold 0 where marks and numbers are kept.
pub record ArraysFit (e K : ℕ) (fs : Fields) (n : ℕ) (gathered : List GatheredRow) (steps : List Step) (marks gones reported : List ℕ) : Type 0 where
  pub es : List Entry
  pub stating : Stating e K fs es
  pub gathered_room : rows_of es ≤ length gathered
  pub steps_room : rows_of es ≤ length steps
  pub reported_room : rows_of es ≤ length reported
  pub marks_room : n + rows_of es < length marks
  pub gones_room : n + rows_of es ≤ length gones
  pub few : n + rows_of es < 0xFFFF
  pub marks_clear : (j : ℕ) → get_or marks j 0 ≡ 0
  pub gones_clear : (j : ℕ) → get_or gones j 0 ≡ 0

-- The answer, both counts and both outputs, by the fields behind the header.
pub record ShortensFields (e K : ℕ) (fs : Fields) (n : ℕ) (report table reportLeft tableLeft : List ℕ) (r : ShortenResult) : Type 0 where
  pub is : shortened_of r reportLeft tableLeft ≡ written_both report table (accepted (shorter e K n (list_of fs)))
