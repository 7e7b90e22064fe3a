-- What is printed of a check is one text, and for stages 1 and 2 the one that is shown there. Assumes nothing.
use Prim.Native.Nat.{ℕ, ◌≤◌, ◌<◌}
use mathlib.Core.Path.{◌≡◌, refl, sym, ◌∙◌, subst}
use mathlib.Core.Logic.{⊎_elim}
use mathlib.Core.List.{List, ◌∷◌}
use native.Mathlib.Nat.{eq-zero-or-pos}
use native.Mathlib.Omega.{arith}
use Rattle.forms.specs.Forms.{All, cons}
use Rattle.answers.specs.Answers.{Written}
use Rattle.proof.specs.Check.{check}
use Rattle.proof.specs.Stages.{lent}
use Rattle.proof.proofs.Stages.{stages}
use Rattle.files.specs.Text.{ascii, hex_of}
use Rattle.files.proofs.Texts.{decimal-once, one-digit, two_digits, refused-once}
use Rattle.answer_text.specs.Lines.{AcceptedLines}
use Rattle.checker.specs.Said.{Printed}
use Rattle.checker.specs.Shown.{stage_1, stage_2}

accepted-once : {bytes s t : List ℕ} → AcceptedLines bytes s → AcceptedLines bytes t → s ≡ t
accepted-once p q =
    let c : p.count_text ≡ q.count_text = decimal-once p.count_is q.count_is in
    p.is ∙ rw c (sym q.is)

pub printed-once : {w : Written} {s t : List ℕ} → Printed w s → Printed w t → s ≡ t
printed-once {w} p q =
    ⊎_elim
    (λ (e : w.answer.number ≡ 0). accepted-once (p.if-accepted e) (q.if-accepted e))
    (λ (h : 0 < w.answer.number). refused-once (p.if_refused h) (q.if_refused h))
    (eq-zero-or-pos w.answer.number)

first : {X : Type 0} {P : X → Type 0} {x : X} {xs : List X} → All P (x ∷ xs) → P x
first (cons p ps) = p

others : {X : Type 0} {P : X → Type 0} {x : X} {xs : List X} → All P (x ∷ xs) → All P xs
others (cons p ps) = ps

pub shows-1 : Printed (check stage_1.A stage_1.B stage_1.proof lent) (ascii stage_1.text)
unfolding hex_of
shows-1 = subst (λ (w : Written). Printed w (ascii stage_1.text)) (sym (first stages)) (record {
  if-accepted = λ _. record { count_text = ascii "31"; count_is = two_digits (omega arith) (omega arith) _ refl; is = refl };
  if_refused = λ (h : 1 ≤ 0). absurd (omega arith);
})

pub shows-2 : Printed (check stage_2.A stage_2.B stage_2.proof lent) (ascii stage_2.text)
shows-2 = subst (λ (w : Written). Printed w (ascii stage_2.text)) (sym (first (others stages))) (record {
  if-accepted = λ (e : 15 ≡ 0). absurd (omega arith);
  if_refused = λ _. record {
    number_text = ascii "15";
    file_text = ascii "3";
    place_text = ascii "15";
    number_is = two_digits (omega arith) (omega arith) _ refl;
    file_is = one-digit (omega arith) _ refl;
    place_is = two_digits (omega arith) (omega arith) _ refl;
    is = refl;
  };
})
