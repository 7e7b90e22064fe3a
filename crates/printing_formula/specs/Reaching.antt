-- What reading a formula without its text gives, by cases on the code's answers. Assumes nothing.
use Rattle.std.specs.Prelude.{◌≡◌, Bool, List, ℕ, ◌≤◌, Ok, Err}
use Rattle.std.specs.declared.result.Result as code
use Rattle.forms.specs.Edition.{edition1}
use Rattle.forms.specs.Forms.{Formula}
use Rattle.answers.specs.Answers.{answer, file_proof, Result, refused, accepted}
use Rattle.answers.specs.Refusals.{number_of}
use Rattle.answers.specs.declared.refusals.Fault.{Fault}
use Rattle.fields.specs.Fields.{Fields}
use Rattle.fields.specs.Places.{fields_at}
use Rattle.formula.specs.Formula.{formula_within}
use Rattle.printing_formula.specs.Printing.{stride_within, pair_within}

-- A formula read as w from a place to the next.
pub record ReadTo (s : List ℕ) (from : ℕ) (w : Result (Formula × Fields)) (next : ℕ) : Type 0 where
  pub formula : Formula
  pub is : w ≡ accepted (formula, fields_at s next)
  pub on : from ≤ next

abbrev pub ReadOr : (s : List ℕ) (from : ℕ) → Result (Formula × Fields) → code.Result ℕ Fault → Type 0
ReadOr s from w (Err e) = w ≡ refused (answer (number_of e.refusal) file_proof e.place)
ReadOr s from w (Ok next) = ReadTo s from w next

pub record ReadsFormula (s : List ℕ) (from : ℕ) (w : Result (Formula × Fields)) (r : code.Result ℕ Fault) : Type 0 where
  pub read : ReadOr s from w r

-- What a stride part, the formula reader and the pair reader ensure.
pub record StrideReached (s : List ℕ) (place start next : ℕ) (r : code.Result ℕ Fault) : Type 0 where
  pub at : (K : ℕ) → ReadsFormula s next (stride_within s place start next K) r

abbrev pub WholeAt : (s : List ℕ) (at K levels : ℕ) → code.Result ℕ Fault → Type 0
WholeAt s at K levels r = ReadsFormula s at (formula_within edition1 K levels (fields_at s at)) r

pub record PartsAt (s : List ℕ) (place at K levels : ℕ) (r : code.Result ℕ Fault) : Type 0 where
  pub of : (either : Bool) → ReadsFormula s at (pair_within K levels either place (fields_at s at)) r
