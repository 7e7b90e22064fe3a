-- What is printed of a test is one text, and the one shown for the formula of stage 1. Assumes nothing.
use Prim.Native.Nat.{ℕ, ◌≤◌, ◌<◌}
use mathlib.Core.Path.{◌≡◌, refl, sym, ◌∙◌, subst}
use mathlib.Core.Logic.{⊎_elim}
use mathlib.Core.Bool.{Bool, true, false}
use mathlib.Core.List.{List}
use native.Mathlib.Nat.{eq-zero-or-pos}
use native.Mathlib.Omega.{arith}
use Rattle.forms.specs.Forms.{sum, value}
use Rattle.answers.specs.Answers.{answer, acceptance, file_lent, ◌>>=◌, ◌>>◌, need, found, each}
use Rattle.number_bytes.specs.Numbers.{unsigned, complement, signed, signeds, form_from}
use Rattle.fields.specs.Fields.{front, note, unless_note, fields_from, fields}
use Rattle.fields.specs.Header.{header_tag, known, agrees, header_field, edition_field, constants_field, header, finished}
use Rattle.formula.specs.Formula.{formula_tagged, formula_size, formula_of, formula_field, formula_within, read_formula}
use Rattle.formula.specs.Test.{Tested, test_formula, tested, judged, judge}
use Rattle.files.specs.Text.{ascii}
use Rattle.files.proofs.Texts.{one-digit, refused-once}
use Rattle.guard.specs.Said.{Printed, truth_line, values_of, test_files}
use Rattle.guard.specs.Shown.{even, odd, three_bytes}

pub printed-once : {t : Tested} {s u : List ℕ} → Printed t s → Printed t u → s ≡ u
printed-once {t} p q =
    ⊎_elim
    (λ (e : t.answer.number ≡ 0). p.if-accepted e ∙ sym (q.if-accepted e))
    (λ (h : 0 < t.answer.number). refused-once (p.if_refused h) (q.if_refused h))
    (eq-zero-or-pos t.answer.number)

-- true and false
truth-shown : {t : Tested} (b : Bool) → t ≡ record { answer = acceptance; holds = b } → Printed t (truth_line b)
truth-shown b e = subst (λ (t : Tested). Printed t (truth_line b)) (sym e) (record { if-accepted = λ _. refl; if_refused = λ (h : 1 ≤ 0). absurd (omega arith) })

tests : (test_files even.f even.v ≡ record { answer = acceptance; holds = true }) × (test_files odd.f odd.v ≡ record { answer = acceptance; holds = false })
unfolding sum value ◌>>=◌ ◌>>◌ need found each unsigned complement signed signeds form_from front note unless_note fields_from fields header_tag known agrees header_field edition_field constants_field header finished formula_tagged formula_size formula_of formula_field formula_within read_formula test_formula tested judged judge values_of test_files
tests = (refl, refl)

pub shows-even : Printed (test_files even.f even.v) (ascii even.text)
shows-even = truth-shown true tests.0

pub shows-odd : Printed (test_files odd.f odd.v) (ascii odd.text)
shows-odd = truth-shown false tests.1

-- a refusal
three-bytes-test : test_files three_bytes.f three_bytes.v ≡ record { answer = answer 7 file_lent 0; holds = false }
unfolding test_files
three-bytes-test = refl

pub shows-three-bytes : Printed (test_files three_bytes.f three_bytes.v) (ascii three_bytes.text)
shows-three-bytes = subst (λ (t : Tested). Printed t (ascii three_bytes.text)) (sym three-bytes-test) (record {
  if-accepted = λ (e : 7 ≡ 0). absurd (omega arith);
  if_refused = λ _. record {
    number_text = ascii "7";
    file_text = ascii "4";
    place_text = ascii "0";
    number_is = one-digit (omega arith) _ refl;
    file_is = one-digit (omega arith) _ refl;
    place_is = one-digit (omega arith) _ refl;
    is = refl;
  };
})
