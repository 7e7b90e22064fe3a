-- What the tests of a close row tell. Assumes nothing.
use Rattle.std.specs.declared.result.Result as code
use Rattle.std.specs.Prelude.{◌≡◌, List, ℕ, ℤ, get_or, Ok, Err}
use Rattle.forms.specs.Flat.{kind_of}
use Rattle.forms.specs.Forms.{Formula, literal}
use Rattle.answers.specs.declared.Answer.{Answer}
use Rattle.answers.specs.Answers.{Result, refused, accepted}
use Rattle.answers.specs.declared.refusals.Refusal.{Refusal}
use Rattle.answers.specs.Refusals.{number_of}
use Rattle.proof.specs.Rows.{by_number}
use Rattle.lines.specs.Buffer.{line_in, lines_in}
use Rattle.tally.specs.declared.Tally.{Tally}

-- What a test answers.
abbrev pub Test : Type 0
Test = code.Result (Unit {0}) Refusal

-- The result by the code's answer: the refusal at this row, whatever that is (f is handed it as a function of its number), or the formula I.
abbrev pub TestedBy : (f : (ℕ → Answer) → Result Formula) (I : Formula) → Test → Type 0
TestedBy f I (Err x) = (refusal : ℕ → Answer) → f refusal ≡ refused (refusal (number_of x))
TestedBy f I (Ok _) = (refusal : ℕ → Answer) → f refusal ≡ accepted I

pub record ByNumber (K : ℕ) (kinds : List ℕ) (buf : List ℤ) (t : Tally) (i : ℕ) (r : Test) : Type 0 where
  pub by : TestedBy (λ refusal. by_number refusal (lines_in K kinds buf t.lines.0) i)
      (literal (kind_of (get_or kinds i 0)) (line_in K kinds buf i).t_A) r
