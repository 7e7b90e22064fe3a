-- What the guard program prints. docs/FORMAT.md, "Register values", "The order of tests" and "One stage, byte by byte". Assumes nothing.
use Rattle.std.specs.Prelude.{ℕ, ◌/◌, ◌%◌, ◌≤◌, ◌≡◌, Bool, true, false, cond, List, eqb, ℤ, length}
use Rattle.answers.specs.Answers.{answer, file_lent}
use Rattle.number_bytes.specs.Numbers.{signeds}
use Rattle.formula.specs.Test.{Tested, test_formula}
use Rattle.files.specs.Text.{RefusedLine, ascii}

-- The values, four signed bytes each, of the file v.
unfoldable pub values_of : List ℕ → List ℤ
values_of v = signeds 4 (length v / 4) v

-- The formula of the file f, tested at the values of the file v (its length not a multiple of 4: 7, file 4, place 0).
unfoldable pub test_files : (f v : List ℕ) → Tested
test_files f v = cond (eqb (length v % 4) 0) (test_formula f (values_of v)) (record { answer = answer 7 file_lent 0; holds = false })

-- `true` or `false`, and the line's end
abbrev pub truth_line : Bool → List ℕ
truth_line true = ascii "true\n"
truth_line false = ascii "false\n"

-- s is what is printed of what testing gives: true or false, or the number, file and place of its refusal
pub record Printed (t : Tested) (s : List ℕ) : Type 0 where
  pub if-accepted : t.answer.number ≡ 0 → s ≡ truth_line t.holds
  pub if_refused : 1 ≤ t.answer.number → RefusedLine t.answer.number t.answer.file t.answer.place s
