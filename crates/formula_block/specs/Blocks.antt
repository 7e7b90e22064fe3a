-- What judging a formula at the vectors of a block ensures. The formula has been read before: nothing is said where it cannot be read. Assumes nothing.
use Rattle.std.specs.Prelude.{◌≡◌, Bool, List, ℕ, ◌*◌, ◌≤◌, ℤ, length}
use Rattle.std.proofs.lemmas.List.Edits.{sets}
use Rattle.forms.specs.Edition.{edition1}
use Rattle.forms.specs.Forms.{Formula}
use Rattle.answers.specs.Answers.{accepted}
use Rattle.fields.specs.Fields.{Fields}
use Rattle.fields.specs.Places.{fields_at}
use Rattle.formula.specs.Formula.{formula_within, compound}
use Rattle.form_value.specs.Registers.{AllWithin}
use Rattle.formula_read.specs.Nodes.{connective}
use Rattle.formula_read.specs.Judging.{two_within}
use Rattle.formula.specs.TestList.{vectors, truths}
use Rattle.formula_leaf.specs.Masks.{Marks}
use Rattle.formula_block.specs.declared.block.Masked.{Masked}

-- The formula that stands at a place.
pub record BlockJudged (s : List ℕ) (at : ℕ) (values : List ℤ) (K n levels active : ℕ) (r : Masked) : Type 0 where
  pub small : r.mask ≤ active
  pub is : (I : Formula) (rest : Fields) → formula_within edition1 K levels (fields_at s at) ≡ accepted (I, rest)
      → Marks I values K n active r.mask × (rest ≡ fields_at s r.next)

-- The two parts of an and/or.
pub record BothJudged (s : List ℕ) (at : ℕ) (values : List ℤ) (K n levels active : ℕ) (either : Bool) (r : Masked) : Type 0 where
  pub small : r.mask ≤ active
  pub is : (place : ℕ) (I J : Formula) (rest : Fields) → two_within K levels place (fields_at s at) ≡ accepted (I, J, rest)
      → Marks (compound (connective either) I J) values K n active r.mask × (rest ≡ fields_at s r.next)

-- The list's values: n vectors of K in range.
pub record VectorList (values : List ℤ) (K n : ℕ) : Type 0 where
  pub all : AllWithin values
  pub count : length values ≡ n * K
  pub some : 1 ≤ K
  pub few : K ≤ edition1.constants

-- All blocks one after the other: the truths of all vectors stand in front of the output.
pub record Fills (s : List ℕ) (start : ℕ) (values : List ℤ) (K n : ℕ) (out out' : List ℕ) : Type 0 where
  pub long : length out' ≡ length out
  pub is : (I : Formula) (rest : Fields) → formula_within edition1 K edition1.levels (fields_at s start) ≡ accepted (I, rest)
      → out' ≡ sets out 0 (truths I (vectors K n values))
