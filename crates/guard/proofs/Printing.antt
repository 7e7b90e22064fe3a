-- What the guard program prints, over plain values. Assumes nothing.
use Prim.Native.Nat.{ℕ, ◌%◌, ◌≤◌, ◌<◌}
use mathlib.Core.Path.{◌≡◌, sym, ap, ◌∙◌, subst}
use mathlib.Core.Bool.{Bool, true, false}
use mathlib.Core.List.{List}
use native.Mathlib.Omega.{arith}
use lib.ListN.{length, take}
use Rattle.answers.specs.declared.Answer.{Answer}
use Rattle.answers.specs.Answers.{answer, file_lent}
use Rattle.formula.specs.Test.{Tested as Outcome}
use Rattle.formula_test.specs.Promises.{as_tested}
use Rattle.formula_test.specs.declared.Tested.{Tested}
use Rattle.files.specs.Text.{Put, PutRefused, RefusedLine}
use Rattle.files.proofs.Texts.{uncut}
use Rattle.guard.specs.Said.{test_files, truth_line, Printed}
use Rattle.guard.proofs.Values.{files-odd}

-- either word is shorter than the longest line of a refusal
truth-few : (b : Bool) → length (truth_line b) ≤ 79
truth-few true = omega arith
truth-few false = omega arith

-- with room for that line
module _ {was text : List ℕ} {r : ℕ} (room : 79 ≤ length was) where
  refusal-printed : {t : Outcome} (a : Answer) → a ≡ t.answer → 0 < a.number → PutRefused was a.number a.file a.place text r → Printed t (take r text)
  refusal-printed a is h p =
      let s : RefusedLine a.number a.file a.place (take r text)
      = subst (λ (s : List ℕ). RefusedLine a.number a.file a.place s) (uncut p.put (omega (arith, p.few))) p.refusal in
      record { if-accepted = λ e. absurd (omega (arith, ap (λ (a : Answer). a.number) is)); if_refused = λ _. subst (λ (a : Answer). RefusedLine a.number a.file a.place (take r text)) is s }

  pub prints-odd : (f v : List ℕ) → 0 < length v % 4 → PutRefused was 7 4 0 text r → Printed (test_files f v) (take r text)
  prints-odd f v h p = refusal-printed (answer 7 file_lent 0) (ap (λ (t : Outcome). t.answer) (sym (files-odd f v h))) (omega arith) p

  module _ {t : Outcome} (c : Tested) (is : c ≡ as_tested t) where
    pub prints-refusal : 0 < c.answer.number → PutRefused was c.answer.number c.answer.file c.answer.place text r → Printed t (take r text)
    prints-refusal h p = refusal-printed c.answer (ap (λ (c : Tested). c.answer) is) h p

    pub prints-truth : c.answer.number ≡ 0 → {b : Bool} → c.holds ≡ b → Put was 0 (truth_line b) text r → Printed t (take r text)
    prints-truth e {b} q p =
        let same : b ≡ t.holds = sym q ∙ ap (λ (c : Tested). c.holds) is in
        record {
          if-accepted = λ _. sym (uncut p (omega (arith, truth-few b))) ∙ ap truth_line same;
          if_refused = λ h. absurd (omega (arith, ap (λ (c : Tested). c.answer.number) is));
        }
