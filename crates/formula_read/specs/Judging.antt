-- What reading a formula and judging it at the registers gives, by cases on the code's answers. Assumes nothing.
use Rattle.std.specs.Prelude.{◌≡◌, Bool, true, false, ◌&&◌, ◌||◌, cond, List, ℕ, zero, suc, ◌≤◌, ℤ, pos, Ok, Err}
use Rattle.std.specs.declared.result.Result as code
use Rattle.std.specs.Int.Signed.{le_z}
use Rattle.integers.specs.Divides.{divb}
use Rattle.forms.specs.Edition.{edition1}
use Rattle.forms.specs.Forms.{Formula}
use Rattle.answers.specs.Answers.{answer, file_proof, Result, refused, accepted}
use Rattle.answers.specs.Refusals.{number_of}
use Rattle.answers.specs.declared.refusals.Refusal.{Refusal}
use Rattle.answers.specs.declared.refusals.Fault.{Fault}
use Rattle.fields.specs.Fields.{Fields}
use Rattle.fields.specs.Places.{fields_at}
use Rattle.formula.specs.Formula.{formula_within, two_parts}
use Rattle.formula.specs.Test.{judge, registers}
use Rattle.formula_read.specs.declared.reading.Judged.{Judged}
use Rattle.formula_read.specs.declared.reading.Pair.{Pair}

-- The two parts of an and/or whose field starts at a place, with so many levels allowed. 17.
unfoldable pub two_within : (K levels at : ℕ) → Fields → Result (Formula × Formula × Fields)
two_within K zero at fs = refused (answer 17 file_proof at)
two_within K (suc levels) at fs = two_parts edition1 K (formula_within edition1 K levels) fs

-- A formula read as w from a place to the next, and its truth at the registers.
pub record One (s : List ℕ) (at : ℕ) (values : List ℤ) (w : Result (Formula × Fields)) (holds : Bool) (next : ℕ) : Type 0 where
  pub formula : Formula
  pub is : w ≡ accepted (formula, fields_at s next)
  pub truth : holds ≡ judge formula (registers values)
  pub on : at ≤ next

pub record Two (s : List ℕ) (at : ℕ) (values : List ℤ) (w : Result (Formula × Formula × Fields)) (first second : Bool) (next : ℕ) : Type 0 where
  pub left : Formula
  pub right : Formula
  pub is : w ≡ accepted (left, right, fields_at s next)
  pub left_truth : first ≡ judge left (registers values)
  pub right_truth : second ≡ judge right (registers values)
  pub on : at ≤ next

abbrev pub Judges : List ℕ → ℕ → List ℤ → Result (Formula × Fields) → code.Result Judged Fault → Type 0
Judges s from values w (Err e) = w ≡ refused (answer (number_of e.refusal) file_proof e.place)
Judges s from values w (Ok r) = One s from values w r.holds r.next

abbrev pub JudgesTwo : List ℕ → ℕ → List ℤ → Result (Formula × Formula × Fields) → code.Result Pair Fault → Type 0
JudgesTwo s from values w (Err e) = w ≡ refused (answer (number_of e.refusal) file_proof e.place)
JudgesTwo s from values w (Ok r) = Two s from values w r.first r.second r.next

-- What the formula reader and the pair reader ensure.
pub record FormulaRead (s : List ℕ) (at : ℕ) (values : List ℤ) (K levels : ℕ) (r : code.Result Judged Fault) : Type 0 where
  pub judged : Judges s at values (formula_within edition1 K levels (fields_at s at)) r

pub record PairRead (s : List ℕ) (place at : ℕ) (values : List ℤ) (K levels : ℕ) (r : code.Result Pair Fault) : Type 0 where
  pub judged : JudgesTwo s at values (two_within K levels place (fields_at s at)) r

-- The truth of an and/or.
abbrev pub connected : (either first second : Bool) → Bool
connected true first second = first || second
connected false first second = first && second

-- A stride part of the number g, whose form has a value. 12.
unfoldable pub stride_judged : (g value : ℤ) → code.Result Bool Refusal
stride_judged g value = cond (le_z (pos 2) g) (Ok (divb g value)) (Err Refusal.WrongMultiplier)
