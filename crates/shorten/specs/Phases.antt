-- What shortening asks of the check before it. Assumes nothing.
use Rattle.std.specs.Prelude.{◌≡◌, List, ℕ, length}
use Rattle.forms.specs.Edition.{newest_edition}
use Rattle.forms.specs.Forms.{Formula}
use Rattle.answers.specs.declared.Answer.{Answer}
use Rattle.answers.specs.declared.WriteResult.{WriteResult}
use Rattle.answers.specs.Answers.{accepted}
use Rattle.proof.specs.Check.{interpolant}
use Rattle.proof.specs.Promises.{Checks}

-- A check with an output of one byte answered so.
pub record CheckAnswered (A B proof : List ℕ) (answer : Answer) : Type 0 where
  pub output : List ℕ
  pub left : List ℕ
  pub r : WriteResult
  pub one : length output ≡ 1
  pub checks : Checks A B proof output left r
  pub is : answer ≡ r.answer

-- The proof is accepted, whatever output is lent.
pub record Accepted (A B proof : List ℕ) : Type 0 where
  pub K : ℕ
  pub I : Formula
  pub is : interpolant newest_edition A B proof ≡ accepted (K, I)
