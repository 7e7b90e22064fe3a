-- The root of a proof, over lines that are there, and the room that its formula needs. Assumes nothing.
use Rattle.std.specs.Prelude.{◌≡◌, ◌⊎◌, List, ℕ, ◌+◌, ◌*◌, ◌≤◌, length}
use Rattle.forms.specs.Edition.{edition, edition1}
use Rattle.forms.specs.Forms.{Line}
use Rattle.answers.specs.Answers.{root, Result, ◌>>=◌, written_of, written}
use Rattle.answers.specs.declared.WriteResult.{WriteResult}
use Rattle.fields.specs.Fields.{Fields}
use Rattle.fields.specs.Places.{fields_at, unread_bytes}
use Rattle.formula.specs.Formula.{encode}
use Rattle.proof.specs.Check.{check_branch}
use Rattle.branches.specs.Branching.{per_byte}
use Rattle.check_output.specs.Output.{finishing}

-- The root of a proof of edition e, what follows it, and the formula's file.
abbrev pub rooted : (e K : ℕ) → List Line → Fields → Result (List ℕ)
rooted e K ls fs = check_branch (edition e) K edition1.branchings root 0 ls fs >>= λ c. finishing K c.after (encode edition1 c.formula)

-- A scratch as long as a formula may be does, and so does one with so many bytes for each byte of the proof that is left.
pub record Enough (P : List ℕ) (at : ℕ) (scratch : List ℕ) : Type 0 where
  pub enough : (l : ℕ) → l ≤ per_byte * unread_bytes P at → l + 8 ≤ edition1.formula_bytes → l ≤ length scratch

-- A formula that has no room in the scratch is refused by 1: an answer is told where the scratch is long enough, or where it is not that.
abbrev pub Told : (P : List ℕ) (at : ℕ) (scratch : List ℕ) → WriteResult → Type 0
Told P at scratch r = Enough P at scratch ⊎ (r.answer.number ≡ 1 → ⊥)

pub record Roots (e K : ℕ) (ls : List Line) (P : List ℕ) (at : ℕ) (scratch out out' : List ℕ) (r : WriteResult) : Type 0 where
  pub is : Told P at scratch r → written_of r out' ≡ written (rooted e K ls (fields_at P at)) out
  pub same : r.answer.number ≡ 1 → out' ≡ out
