-- What the stages of testing a list know and give. Assumes nothing.
use Rattle.std.specs.Prelude.{◌≡◌, List, ℕ, ◌/◌, ℤ, length, Ok, Err}
use Rattle.std.specs.declared.result.Result as code
use Rattle.forms.specs.Edition.{edition1}
use Rattle.forms.specs.Forms.{Formula}
use Rattle.answers.specs.declared.WriteResult.{WriteResult}
use Rattle.answers.specs.declared.refusals.Fault.{Fault}
use Rattle.answers.specs.Answers.{answer, file_proof, refused, accepted}
use Rattle.answers.specs.Refusals.{number_of}
use Rattle.fields.specs.Fields.{Fields, fields}
use Rattle.fields.specs.Places.{fields_at}
use Rattle.formula.specs.Formula.{formula_within, read_formula}
use Rattle.formula.specs.TestList.{read_for_list}
use Rattle.formula_block.specs.Blocks.{VectorList}

abbrev pub unwritten : (number file place : ℕ) → WriteResult
unwritten number file place = record { answer = answer number file place; count = 0 }

-- The values are in order: n vectors, and what comes next is to read the formula.
pub record ToRead (formula : List ℕ) (values : List ℤ) (K n : ℕ) : Type 0 where
  pub vectors : VectorList values K n
  pub number : length values / K ≡ n
  pub next : read_for_list formula K values ≡ read_formula K (fields formula)

-- A formula stands at a place, and it is all that is read.
pub record FormulaStands (formula : List ℕ) (K start : ℕ) : Type 0 where
  pub I : Formula
  pub rest : Fields
  pub is : formula_within edition1 K edition1.levels (fields_at formula start) ≡ accepted (I, rest)
  pub all : read_formula K (fields formula) ≡ accepted I

-- A formula's file read: the place of the formula, or the refusal.
abbrev pub Reads : List ℕ → ℕ → code.Result ℕ Fault → Type 0
Reads formula K (Ok start) = FormulaStands formula K start
Reads formula K (Err e) = read_formula K (fields formula) ≡ refused (answer (number_of e.refusal) file_proof e.place)

pub record ReadOnce (formula : List ℕ) (K : ℕ) (r : code.Result ℕ Fault) : Type 0 where
  pub read : Reads formula K r
