-- The stages of printing a file: its formula is read whole, or measured, and then its text written. Assumes nothing.
use Rattle.std.specs.Prelude.{◌≡◌, Bool, false, List, ℕ, length, Ok, Err}
use Rattle.std.specs.declared.result.Result as code
use Rattle.forms.specs.Edition.{edition1}
use Rattle.forms.specs.Forms.{Formula}
use Rattle.answers.specs.Answers.{answer, file_proof, Result, refused, accepted, written_of, written}
use Rattle.answers.specs.Refusals.{number_of}
use Rattle.answers.specs.declared.refusals.Fault.{Fault}
use Rattle.answers.specs.declared.WriteResult.{WriteResult}
use Rattle.fields.specs.Fields.{Fields}
use Rattle.fields.specs.Places.{fields_at}
use Rattle.formula.specs.Formula.{formula_within}
use Rattle.printing.specs.Dialects.{formula_text}
use Rattle.printing.specs.Print.{text_behind, printed}

-- The formula at a place is read up to the end of the file.
pub record Stated (s : List ℕ) (at K : ℕ) : Type 0 where
  pub formula : Formula
  pub after : Fields
  pub is : formula_within edition1 K edition1.levels (fields_at s at) ≡ accepted (formula, after)
  pub whole : (wording : Bool) → text_behind wording K (fields_at s at) ≡ accepted (formula_text wording false formula)

-- It is refused, in either language.
pub record Faulty (s : List ℕ) (at K : ℕ) (e : Fault) : Type 0 where
  pub is : (wording : Bool) → text_behind wording K (fields_at s at) ≡ refused (answer (number_of e.refusal) file_proof e.place)

abbrev pub ReadsWhole : (s : List ℕ) (at K : ℕ) → code.Result (Unit {0}) Fault → Type 0
ReadsWhole s at K (Ok _) = Stated s at K
ReadsWhole s at K (Err e) = Faulty s at K e

-- The formula at a place is read, and its text has so many bytes.
pub record Sized (wording : Bool) (s : List ℕ) (at K size : ℕ) : Type 0 where
  pub formula : Formula
  pub after : Fields
  pub is : formula_within edition1 K edition1.levels (fields_at s at) ≡ accepted (formula, after)
  pub size_is : size ≡ length (formula_text wording false formula)

abbrev pub Measures : (wording : Bool) (s : List ℕ) (at K : ℕ) → code.Result ℕ Fault → Type 0
Measures wording s at K (Ok size) = Stated s at K × Sized wording s at K size
Measures wording s at K (Err e) = Faulty s at K e

-- The text of the formula at a place is written, or the output is too short.
pub record WritesText (wording : Bool) (s : List ℕ) (at K : ℕ) (output left : List ℕ) (r : WriteResult) : Type 0 where
  pub is : (I : Formula) (after : Fields) → formula_within edition1 K edition1.levels (fields_at s at) ≡ accepted (I, after)
      → written_of r left ≡ written (accepted (formula_text wording false I)) output

-- What is written of a text, or the refusal of the file, which leaves the output.
abbrev pub Puts : Result (List ℕ) → (output left : List ℕ) → code.Result WriteResult Fault → Type 0
Puts w output left (Ok r) = written_of r left ≡ written w output
Puts w output left (Err e) = (w ≡ refused (answer (number_of e.refusal) file_proof e.place)) × (left ≡ output)

-- Of the formula behind the header, and of the file.
pub record PrintsBehind (wording : Bool) (s : List ℕ) (at K : ℕ) (output left : List ℕ) (r : code.Result WriteResult Fault) : Type 0 where
  pub is : Puts (text_behind wording K (fields_at s at)) output left r

pub record Prints (wording : Bool) (s output left : List ℕ) (r : code.Result WriteResult Fault) : Type 0 where
  pub is : Puts (printed wording s) output left r

abbrev pub refused_write : (number file place : ℕ) → WriteResult
refused_write number file place = record { answer = answer number file place; count = 0 }
