-- The rows that close a branch, with the formula's bytes. Assumes nothing.
use Rattle.std.specs.declared.result.Result as code
use Rattle.std.specs.Prelude.{◌≡◌, List, ℕ, ◌+◌, ◌≤◌, length, Ok, Err}
use Rattle.forms.specs.Forms.{Formula}
use Rattle.answers.specs.declared.Answer.{Answer}
use Rattle.answers.specs.Answers.{Result, refused, accepted}
use Rattle.answers.specs.declared.refusals.Refusal.{Refusal}
use Rattle.answers.specs.Refusals.{number_of}
use Rattle.formula_write.specs.Writing.{Puts}

-- The formula I, and its bytes in the scratch: 75 of them at most.
pub record Wrote (f : (ℕ → Answer) → Result Formula) (scratch : List ℕ) (o : ℕ) (scratch' : List ℕ) (o' : ℕ) : Type 0 where
  pub formula : Formula
  pub is : (refusal : ℕ → Answer) → f refusal ≡ accepted formula
  pub puts : Puts scratch o formula scratch' o'
  pub short : o' ≤ o + 75

-- The place behind the formula's bytes, or the refusal.
abbrev pub End : Type 0
End = code.Result ℕ Refusal

abbrev pub EndedBy : (f : (ℕ → Answer) → Result Formula) (scratch : List ℕ) (o : ℕ) (scratch' : List ℕ) → End → Type 0
EndedBy f scratch o scratch' (Err x) = ((refusal : ℕ → Answer) → f refusal ≡ refused (refusal (number_of x))) × (length scratch' ≡ length scratch)
EndedBy f scratch o scratch' (Ok o') = Wrote f scratch o scratch' o'
