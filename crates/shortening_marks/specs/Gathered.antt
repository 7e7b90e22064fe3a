-- The rows as the code keeps them on the way there, beside the passes over the entries. Assumes nothing.
use Rattle.std.specs.Prelude.{◌≡◌, List, [], ◌∷◌, map, ℕ, suc, ◌+◌, ◌≤◌, ◌<◌, length, get_or}
use Rattle.std.proofs.lemmas.List.Edits.{sets}
use Rattle.forms.specs.Edition.{edition, edition1}
use Rattle.calculus.specs.Rules.{Entry, row, claim}
use Rattle.std.proofs.Math.Option.{some}
use Rattle.fields.specs.Fields.{Fields, Item, items}
use Rattle.bundle.specs.Layout.{Each}
use Rattle.proof.specs.Layout.{Enters}
use Rattle.shortening.specs.Passes.{Backward, backward, report_on}
use Rattle.shortening.specs.Shorten.{list_of, stated_entry}
use Rattle.shortening_stack.specs.Stack.{stack_of}
use Rattle.shortening_stack.specs.declared.stack.Step.{Step}
use Rattle.shortening_marks.specs.declared.GatheredRow.{GatheredRow}
use Rattle.shortening_marks.specs.Marks.{no_row, back_in}

-- How many of the entries are rows.
abbrev pub rows_of : List Entry → ℕ
rows_of [] = 0
rows_of (row r ∷ es) = suc (rows_of es)
rows_of (claim _ _ ∷ es) = rows_of es

-- The fields from a place on state these entries to the file's end, in a proof of edition n over K constants.
pub record Stating (n K : ℕ) (fs : Fields) (es : List Entry) : Type 0 where
  pub list : List Item
  pub are : items fs ≡ some list
  pub each : Each (Enters (edition n) K) list es
  pub few : K ≤ edition1.constants

-- The same marks and the same report.
pub record SameBack (b c : Backward) : Type 0 where
  pub marks : (j : ℕ) → b.marks j ≡ c.marks j
  pub reported : b.reported ≡ c.reported

-- The line counts with which the branches to come start.
abbrev pub starts_of : (steps : List Step) (d : ℕ) → List ℕ
starts_of steps d = map (λ s. s.lines) (stack_of steps d)

-- The entries es, over n lines at first, are gathered: `rows` of them; no line count is above n + rows.
pub record Gathered (es : List Entry) (n : ℕ) (gathered : List GatheredRow) (rows : ℕ) : Type 0 where
  pub rows_are : rows ≡ rows_of es
  pub back : SameBack (back_in gathered rows 0) (backward es n [])
  pub below : (r : ℕ) → r < rows → (get_or gathered r no_row).lines ≤ n + r

-- The arrays have room for the rows of what the fields state, and the line counts stay within two bytes.
pub record Gatherable (e K : ℕ) (fs : Fields) (n : ℕ) (gathered : List GatheredRow) (steps : List Step) : Type 0 where
  pub es : List Entry
  pub stating : Stating e K fs es
  pub gathered_room : rows_of es ≤ length gathered
  pub steps_room : rows_of es ≤ length steps
  pub few : n + rows_of es < 0xFFFF

-- Whatever the fields state is gathered.
pub record GathersAll (e K : ℕ) (fs : Fields) (n : ℕ) (gathered : List GatheredRow) (rows : ℕ) : Type 0 where
  pub all : (es : List Entry) → Stating e K fs es → Gathered es n gathered rows

-- ---- the report
-- The entries that the fields of a proof of edition e over K constants state.
abbrev pub entries_in : (e K : ℕ) → Fields → List Entry
entries_in e K fs = map (stated_entry (edition e) K) (list_of fs)

-- The rows can be gathered and marked; no line is marked yet.
pub record Reportable (e K : ℕ) (fs : Fields) (n : ℕ) (gathered : List GatheredRow) (steps : List Step) (marks report : List ℕ) : Type 0 where
  pub gatherable : Gatherable e K fs n gathered steps
  pub marks_room : n + rows_of gatherable.es < length marks
  pub report-room : rows_of gatherable.es ≤ length report
  pub clear : (j : ℕ) → get_or marks j 0 ≡ 0

-- The report stands in front, a byte a row; what stands behind it stays.
pub record Reported (e K : ℕ) (fs : Fields) (n : ℕ) (report report' : List ℕ) (rows : ℕ) : Type 0 where
  pub is : report' ≡ sets report 0 (report_on n (entries_in e K fs))
  pub rows_are : rows ≡ length (report_on n (entries_in e K fs))
