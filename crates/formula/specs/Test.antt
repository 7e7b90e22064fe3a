-- Testing a formula at register values. docs/FORMAT.md, "Register values" and "The order of tests". Assumes nothing.
use Rattle.std.specs.Prelude.{Bool, false, ◌&&◌, ◌||◌, List, ℕ, leb, length, get_or, ℤ, pos, nat_abs}
use Rattle.std.specs.Int.Signed.{le_z}
use Rattle.integers.specs.Linear.{eq_z}
use Rattle.integers.specs.Divides.{divb}
use Rattle.forms.specs.Edition.{edition1}
use Rattle.forms.specs.Forms.{Kind, ≤0, =0, value, Assignment, Formula, literal, ◌divides◌, ◌and◌, ◌or◌}
use Rattle.answers.specs.declared.Answer.{Answer}
use Rattle.answers.specs.Answers.{answer, acceptance, file_proof, file_lent, Result, refused, accepted, ◌>>◌, need, each}
use Rattle.fields.specs.Fields.{fields}
use Rattle.formula.specs.Formula.{read_formula}

-- The truth of a formula, as a test.
unfoldable pub holds : Kind → ℤ → Bool
holds ≤0 z = le_z z (pos 0)
holds =0 z = eq_z z (pos 0)

unfoldable pub judge : Formula → Assignment → Bool
judge (literal k t) v = holds k (value t v)
judge (g divides t) v = divb (pos g) (value t v)
judge (I and J) v = judge I v && judge J v
judge (I or J) v = judge I v || judge J v

-- Register values as an assignment.
abbrev pub registers : List ℤ → Assignment
registers values k = get_or values k (pos 0)

-- 7 and 23 for the values, then 1, and the formula read whole before judging.
unfoldable pub tested : (formula : List ℕ) (values : List ℤ) → Result Formula
tested formula values = do
  need (answer 7 file_lent 0) (leb 1 (length values) && leb (length values) edition1.constants)
  each (λ i. answer 23 file_lent i) (λ z. leb (nat_abs z) edition1.values) 0 values
  need (answer 1 file_proof 0) (leb (length formula) edition1.formula_bytes)
  read_formula (length values) (fields formula)

-- What testing gives: the answer, and true or false (false where it is refused).
pub record Tested : Type 0 where
  pub answer : Answer
  pub holds : Bool

unfoldable pub judged : List ℤ → Result Formula → Tested
judged values (refused a) = record { answer = a; holds = false }
judged values (accepted I) = record { answer = acceptance; holds = judge I (registers values) }

unfoldable pub test_formula : (formula : List ℕ) (values : List ℤ) → Tested
test_formula formula values = judged values (tested formula values)
