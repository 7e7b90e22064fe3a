-- One entry of a branch: what the definitions make of it, by the answer of the code. Assumes nothing.
use Rattle.std.specs.Prelude.{◌≡◌, Bool, true, false, List, ℕ, ◌+◌, ◌-◌, ◌≤◌, ltb, ℤ, Ok, Err, IfOk}
use Rattle.std.specs.declared.result.Result as code
use Rattle.std.proofs.Math.Option.{Option, none, some}
use Rattle.forms.specs.Edition.{edition, edition1}
use Rattle.forms.specs.Forms.{Line}
use Rattle.calculus.specs.Rules as rules
use Rattle.answers.specs.declared.Answer.{Answer}
use Rattle.answers.specs.declared.refusals.Refusal.{Refusal}
use Rattle.answers.specs.Answers.{Result, refused, ◌>>=◌, ◌>>◌, need}
use Rattle.answers.specs.Refusals.{number_of}
use Rattle.fields.specs.Fields.{Fields}
use Rattle.proof.specs.Entries.{entry}
use Rattle.proof.specs.Check.{Closing, Checker, Following, check_row, check_entry}
use Rattle.lines.specs.Buffer.{line_in, lines_in}
use Rattle.lines.specs.Ready.{LinesKept, Limited}
use Rattle.tally.specs.Tally.{more_lines, more_rows}
use Rattle.tally.specs.declared.Tally.{Tally}
use Rattle.steps.specs.declared.Stepped.{Stepped}
use Rattle.steps.specs.declared.Stepped.TheVariants.{Made, Claimed, Strengthens, ClosesNumber, ClosesStride, Rounds, Splits}

-- What is checked: given what checks deeper branches, what follows in this branch, the refusal by a number at this field, and the fields after it.
abbrev pub EntryChecked : Type 0
EntryChecked = (deeper : Option Checker) (next : Following) (refusal : ℕ → Answer) (fs : Fields) → Result Closing

pub record SameChecked (f g : EntryChecked) : Type 0 where
  pub is : (deeper : Option Checker) (next : Following) (refusal : ℕ → Answer) (fs : Fields) → f deeper next refusal fs ≡ g deeper next refusal fs

-- A row, counted first, in a branch of the tally's lines.
abbrev pub row_checked : (K : ℕ) (kinds : List ℕ) (buf : List ℤ) (t : Tally) → rules.Row → EntryChecked
row_checked K kinds buf t row deeper next refusal fs =
    need (refusal 18) (ltb t.rows.0 edition1.rows) >> check_row (edition t.edition) K deeper next refusal t.rows.0 (lines_in K kinds buf t.lines.0) fs row

-- The same row, counted already.
abbrev pub row_left : (K : ℕ) (kinds : List ℕ) (buf : List ℤ) (t : Tally) → rules.Row → EntryChecked
row_left K kinds buf t row deeper next refusal fs = check_row (edition t.edition) K deeper next refusal t.rows.0 (lines_in K kinds buf t.lines.0) fs row

-- What f is, by the step that the code made.
abbrev pub StepBy : (f : EntryChecked) (K : ℕ) (kinds : List ℕ) (buf : List ℤ) (t : Tally) (kinds' : List ℕ) (buf' : List ℤ) → Stepped → Type 0
StepBy f K kinds buf t kinds' buf' (Made t') =
    SameChecked f (λ deeper next refusal fs. next (t.rows.0 + 1) (some (line_in K kinds' buf' t.lines.0)) (lines_in K kinds' buf' (t.lines.0 + 1)))
    × Limited t.edition K buf' (t.lines.0 + 1) × (t' ≡ more_lines (more_rows t))
StepBy f K kinds buf t kinds' buf' Claimed = SameChecked f (λ deeper next refusal fs. next t.rows.0 none (lines_in K kinds buf t.lines.0))
StepBy f K kinds buf t kinds' buf' (Strengthens t' i) = SameChecked f (row_left K kinds buf t (rules.Strengthen i.0)) × (t' ≡ more_rows t)
StepBy f K kinds buf t kinds' buf' (ClosesNumber t' i) = SameChecked f (row_left K kinds buf t (rules.CloseNumber i.0)) × (t' ≡ more_rows t)
StepBy f K kinds buf t kinds' buf' (ClosesStride t' i g) =
    SameChecked f (row_left K kinds buf t (rules.CloseStride i.0 g)) × (t' ≡ more_rows t)
StepBy f K kinds buf t kinds' buf' (Rounds t' i g by) =
    SameChecked f (row_left K kinds buf t (rules.Round i.0 g by)) × (t' ≡ more_rows t)
StepBy f K kinds buf t kinds' buf' (Splits t' i) = SameChecked f (row_left K kinds buf t (rules.Split i.0)) × (t' ≡ more_rows t)

-- The same of the code's answer.
abbrev pub SteppedBy : (f : EntryChecked) (K : ℕ) (kinds : List ℕ) (buf : List ℤ) (t : Tally) (kinds' : List ℕ) (buf' : List ℤ) → code.Result Stepped Refusal → Type 0
SteppedBy f K kinds buf t kinds' buf' (Ok s) = StepBy f K kinds buf t kinds' buf' s
SteppedBy f K kinds buf t kinds' buf' (Err r) = SameChecked f (λ deeper next refusal fs. refused (refusal (number_of r)))

pub record Steps (f : EntryChecked) (K : ℕ) (kinds : List ℕ) (buf : List ℤ) (t : Tally) (kinds' : List ℕ) (buf' : List ℤ) (r : code.Result Stepped Refusal) : Type 0 where
  pub kept : LinesKept K t.lines.0 kinds buf kinds' buf'
  pub by : SteppedBy f K kinds buf t kinds' buf' r

-- An entry of a proof of edition e that is not refused has as many bytes of contents as a line number at least.
abbrev pub Advances : (e len : ℕ) → code.Result Stepped Refusal → Type 0
Advances e len r = IfOk r (λ s. (edition e).line_width ≤ len)

-- The line that a claim may state: the last one, if a row 0x10 to 0x12 made it directly before.
abbrev pub last_made : Bool → (K : ℕ) (kinds : List ℕ) (buf : List ℤ) (n : ℕ) → Option Line
last_made true K kinds buf n = some (line_in K kinds buf (n - 1))
last_made false K kinds buf n = none

-- A field of the branch, read and then checked.
abbrev pub field_checked : (K : ℕ) (kinds : List ℕ) (buf : List ℤ) (t : Tally) (made : Bool) (tag : ℕ) (contents : List ℕ) → EntryChecked
field_checked K kinds buf t made tag contents deeper next refusal fs =
    entry (edition t.edition) K refusal made (record { at = 0; tag = tag; contents = contents })
    >>= λ x. check_entry (edition t.edition) K deeper next refusal t.rows.0 (last_made made K kinds buf t.lines.0) (lines_in K kinds buf t.lines.0) fs x
