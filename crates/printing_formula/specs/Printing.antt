-- What reading a formula and putting its text leaves, by cases on the code's answers. Assumes nothing.
use Rattle.std.specs.Prelude.{◌≡◌, Bool, List, ℕ, ◌+◌, ◌*◌, ◌-◌, ◌≤◌, pos, nat_abs, length, take, drop, Ok, Err}
use Rattle.std.specs.declared.result.Result as code
use Rattle.std.specs.Int.Signed.{le_z}
use Rattle.forms.specs.Edition.{edition1}
use Rattle.forms.specs.Forms.{Formula, ◌divides◌}
use Rattle.answers.specs.Answers.{answer, file_proof, Result, refused, accepted, ◌>>=◌, ◌>>◌, need}
use Rattle.answers.specs.Refusals.{number_of}
use Rattle.answers.specs.declared.refusals.Fault.{Fault}
use Rattle.number_bytes.specs.Numbers.{signed}
use Rattle.fields.specs.Fields.{Fields}
use Rattle.fields.specs.Places.{fields_at}
use Rattle.formula.specs.Formula.{compound, formula_within}
use Rattle.form_value.specs.FormAt.{form_at}
use Rattle.formula_read.specs.Judging.{two_within}
use Rattle.formula_read.specs.Nodes.{connective}
use Rattle.printing.specs.Dialects.{formula_text}
use Rattle.printing_text.specs.declared.Text.{Text}
use Rattle.printing_text.specs.PutsText.{Puts}

-- A place of the file and one of the output that is no further than 6 bytes for each byte read.
pub record Place (s : List ℕ) (at K o : ℕ) : Type 0 where
  pub file : length s ≤ edition1.formula_bytes
  pub constants : K ≤ edition1.constants
  pub paid : o ≤ 6 * at

-- A formula read as w from a place to the next; its text is put, and has at most 6 bytes for each byte read, and so many more.
pub record PutFormula (wording inner : Bool) (s : List ℕ) (from more : ℕ) (w : Result (Formula × Fields)) (before after : Text) (next : ℕ) : Type 0 where
  pub formula : Formula
  pub is : w ≡ accepted (formula, fields_at s next)
  pub on : from ≤ next
  pub upto : next ≤ length s
  pub puts : Puts before after (formula_text wording inner formula) (more + 6 * (next - from))

abbrev pub PutOr : (wording inner : Bool) (s : List ℕ) (from more : ℕ) → Result (Formula × Fields) → (before after : Text) → code.Result ℕ Fault → Type 0
PutOr wording inner s from more w before after (Err e) = w ≡ refused (answer (number_of e.refusal) file_proof e.place)
PutOr wording inner s from more w before after (Ok next) = PutFormula wording inner s from more w before after next

pub record Prints (wording inner : Bool) (s : List ℕ) (from more : ℕ) (w : Result (Formula × Fields)) (before after : Text) (r : code.Result ℕ Fault) : Type 0 where
  pub put : PutOr wording inner s from more w before after r

-- The stride part whose field starts at a place. 12.
abbrev pub stride_within : (s : List ℕ) (place start next K : ℕ) → Result (Formula × Fields)
stride_within s place start next K =
    need (answer 12 file_proof place) (le_z (pos 2) (signed (take edition1.term_width (drop start s))))
    >> accepted (nat_abs (signed (take edition1.term_width (drop start s))) divides form_at s (start + edition1.term_width) K, fields_at s next)

-- The and/or whose field starts at a place. 17.
abbrev pub pair_within : (K levels : ℕ) → (either : Bool) → (place : ℕ) → Fields → Result (Formula × Fields)
pair_within K levels either place fs = do
  (I, J, after) ← two_within K levels place fs
  accepted (compound (connective either) I J, after)

-- What a stride part, the formula reader and the pair reader ensure.
pub record StrideAt (wording : Bool) (s : List ℕ) (place start next K : ℕ) (before after : Text) (r : code.Result ℕ Fault) : Type 0 where
  pub at : (inner : Bool) → Prints wording inner s next (41 + 23 * K) (stride_within s place start next K) before after r

abbrev pub FormulaAt : (wording inner : Bool) (s : List ℕ) (at K levels : ℕ) (before after : Text) → code.Result ℕ Fault → Type 0
FormulaAt wording inner s at K levels before after r = Prints wording inner s at 0 (formula_within edition1 K levels (fields_at s at)) before after r

abbrev pub PairAt : (wording inner : Bool) (s : List ℕ) (place at K levels : ℕ) → (either : Bool) → (before after : Text) → code.Result ℕ Fault → Type 0
PairAt wording inner s place at K levels either before after r = Prints wording inner s at 11 (pair_within K levels either place (fields_at s at)) before after r
