-- What the code asks and leaves on the way. Assumes nothing.
use Rattle.std.specs.Prelude.{◌≡◌, Bool, true, false, ℕ, ◌*◌, ◌≤◌, eqb, length, Ok, Err}
use Rattle.std.specs.declared.result.Result as code
use Rattle.forms.specs.Edition.{edition}
use Rattle.calculus.specs.Rules.{Entry}
use Rattle.answers.specs.declared.Answer.{Answer}
use Rattle.answers.specs.declared.refusals.Refusal.{Refusal}
use Rattle.answers.specs.declared.refusals.Fault.{Fault}
use Rattle.answers.specs.Refusals.{number_of}
use Rattle.answers.specs.Answers.{answer, file_proof, Result, refused, accepted}
use Rattle.fields.specs.Fields.{Field, Fields, ends, cut, ◌▸◌}
use Rattle.proof.specs.Entries.{entry_tagged, line_count, entry}
use Rattle.conversion.specs.Turning.{each_field, makes_line, entries_read, lines_fit, lines_turned, fields_turned}
use Rattle.conversion_survey.specs.declared.Turned.{Turned}

-- Contents of `len` bytes where `size` are laid out; `made` says whether the entry makes a line.
abbrev pub sized_by : (fits made : Bool) → code.Result Bool Refusal
sized_by true made = Ok made
sized_by false made = Err Refusal.WrongLength

abbrev pub sized_as : (len size : ℕ) (made : Bool) → code.Result Bool Refusal
sized_as len size made = sized_by (eqb len size) made

-- What check's own `entry` answers: an entry, which makes a line or not and whose line numbers stand in the contents; or the refusal by this number.
abbrev pub AnswersOf : (refusal : ℕ → Answer) (w tag len : ℕ) → code.Result Bool Refusal → Result Entry → Type 0
AnswersOf refusal w tag len (Ok made) r = (x : Entry) × (r ≡ accepted x) × (makes_line x ≡ made) × (line_count (entry_tagged tag) * w ≤ len)
AnswersOf refusal w tag len (Err e) r = r ≡ refused (refusal (number_of e))

-- The answer for each field of a proof of edition n with this tag and length.
pub record FieldLaid (n K tag len : ℕ) (made : Bool) (r : code.Result Bool Refusal) : Type 0 where
  pub is : (refusal : ℕ → Answer) (f : Field) → f.tag ≡ tag → length f.contents ≡ len → AnswersOf refusal (edition n).line_width tag len r (entry (edition n) K refusal made f)

-- The fields are read as check reads them, and turned into the edition `to` they have so many bytes; if `fit`, that edition holds each line number.
abbrev pub EntriesReadAs : (e to K : ℕ) → Fields → code.Result Turned Fault → Type 0
EntriesReadAs e to K fs (Ok t) = (entries_read (edition e) K false fs ≡ accepted tt) × (t.size ≡ length (fields_turned (lines_turned (edition e) (edition to)) fs)) × (t.size ≤ 131_072)
    × (t.fit ≡ true → each_field 10 file_proof (lines_fit (edition e) (edition to)) fs ≡ accepted tt)
EntriesReadAs e to K fs (Err f) = entries_read (edition e) K false fs ≡ refused (answer (number_of f.refusal) file_proof f.place)

-- The line numbers of each field, w bytes each, stand in its contents.
pub data LinesThere (w : ℕ) : Fields → Type 0 where
  at_end : {at : ℕ} → LinesThere w (ends at)
  at_cut : {at : ℕ} → LinesThere w (cut at)
  at_field : {f : Field} {fs : Fields} → line_count (entry_tagged f.tag) * w ≤ length f.contents → LinesThere w fs → LinesThere w (f ▸ fs)
