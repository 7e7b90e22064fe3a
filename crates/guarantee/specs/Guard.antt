-- What testing a filed guard tells of the registers, after one accepted check. Of what the functions check and test ensure. Assumes nothing.
use Rattle.std.specs.Prelude.{◌≡◌, ◌↔◌, true, false, List, ℕ, ◌≤◌, length, take, ℤ, nat_abs}
use Rattle.forms.specs.Edition.{edition1, newest_edition}
use Rattle.forms.specs.Forms.{All, Meets, Formula, True}
use Rattle.answers.specs.Answers.{acceptance}
use Rattle.answers.specs.declared.WriteResult.{WriteResult}
use Rattle.number_bytes.specs.Numbers.{Bytes}
use Rattle.fields.specs.Fields.{Item, Framed, file_of}
use Rattle.formula.specs.Test.{registers}
use Rattle.formula_test.specs.declared.Tested.{Tested}
use Rattle.formula_test.specs.Promises.{Tests}
use Rattle.proof.specs.Layout.{Certifies}
use Rattle.proof.specs.Promises.{Checks}
use Rattle.guarantee.specs.Soundness.{Meaning, Faithful}

-- The bytes written, tested at values within ±1,000,000, one for each constant: accepted, true just where the formula is true of the values, so true where they meet all of A and false where they meet all of B.
pub record GuardTells : Type 0 where
  pub tells : (FA FB : List Item) → All Framed FA → All Framed FB → (MA MB : Meaning) → Faithful MA → Faithful MB → (proof output left : List ℕ) (r : WriteResult)
      → Bytes proof → Checks (file_of FA) (file_of FB) proof output left r → r.answer.number ≡ 0
      → (values : List ℤ) → length values ≡ (MA FA).0 → All (λ z. nat_abs z ≤ edition1.values) values
      → (t : Tested) → Tests (take r.count left) values t
      → (t.answer ≡ acceptance)
      × ((K : ℕ) (I : Formula) → Certifies newest_edition (file_of FA) (file_of FB) proof K I → t.holds ≡ true ↔ True I (registers values))
      × (All (Meets (registers values)) (MA FA).1 → t.holds ≡ true)
      × (All (Meets (registers values)) (MB FB).1 → t.holds ≡ false)
