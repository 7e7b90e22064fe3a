-- Notes change nothing of what testing a formula gives but places. Assumes nothing.
use mathlib.Core.Path.{◌≡◌, refl, ap}
use mathlib.Core.Option.{some}
use mathlib.Core.List.{List}
use Prim.Native.Nat.{ℕ, zero, suc}
use lib.IntN.{ℤ}
use Rattle.forms.specs.Edition.{Edition, edition1}
use Rattle.forms.specs.Forms.{Formula}
use Rattle.answers.specs.Answers.{file_proof, Result, refused, accepted}
use Rattle.fields.specs.declared.FileKind.{FileKind}
use Rattle.fields.specs.Fields.{Field, Fields, ends, cut, ◌▸◌, Noted, Kept}
use Rattle.fields.proofs.Moved.{move_field, move, move_answer, Moved, move_read, computed, need-moved, found-moved, bind-moved, then-moved, header-moved, finished-moved, erase, kept-length, erase_of, Same, then_same, noted-same, left-same}
use Rattle.formula.specs.Formula.{FormulaTag, pair, atom, stride, Reader, formula_of, formula_field, two_parts, formula_within, read_formula}
use Rattle.formula.specs.Test.{tested, Tested, judged, test_formula}

module _ (φ : ℕ → ℕ) where
  abbrev move_two : Formula × Formula × Fields → Formula × Formula × Fields
  move_two x = (x.0, x.1, move φ x.2)

  -- Readers that move with their fields: of a formula, and of the two parts of an and/or.
  abbrev Moves : Reader → Type 0
  Moves r = (fs : Fields) → Moved φ (move_read φ) (r fs) (r (move φ fs))

  abbrev MovesTwo : (ℕ → Fields → Result (Formula × Formula × Fields)) → Type 0
  MovesTwo two = (at : ℕ) (fs : Fields) → Moved φ move_two (two at fs) (two (φ at) (move φ fs))

  module _ (e : Edition) (K : ℕ) where
    formula_of-moved : (two : ℕ → Fields → Result (Formula × Formula × Fields)) → MovesTwo two → (f : Field) (fs : Fields) (tagged : FormulaTag)
        → Moved φ (move_read φ) (formula_of e K two f fs tagged) (formula_of e K two (move_field φ f) (move φ fs) tagged)
    unfolding formula_of
    formula_of-moved two p f fs (pair c) = bind-moved _ (p f.at fs) λ x. computed
    formula_of-moved two p f fs (atom k) = computed
    formula_of-moved two p f fs stride = need-moved _ _ computed

    formula_field-moved : (two : ℕ → Fields → Result (Formula × Formula × Fields)) → MovesTwo two → Moves (formula_field e K two)
    unfolding formula_field
    formula_field-moved two p (ends at) = computed
    formula_field-moved two p (cut at) = computed
    formula_field-moved two p (f ▸ fs) = need-moved _ _ (found-moved _ _ λ tagged. need-moved _ _ (formula_of-moved two p f fs tagged))

    two_parts-moved : (part : Reader) → Moves part → (fs : Fields) → Moved φ move_two (two_parts e K part fs) (two_parts e K part (move φ fs))
    unfolding two_parts
    two_parts-moved part p fs = bind-moved _ (p fs) λ x. bind-moved _ (p x.1) λ y. computed

    formula_within-moved : (levels : ℕ) → Moves (formula_within e K levels)
    unfolding formula_within
    formula_within-moved zero = formula_field-moved _ (λ at fs. computed)
    formula_within-moved (suc levels) = formula_field-moved _ (λ at fs. two_parts-moved (formula_within e K levels) (formula_within-moved levels) fs)

  read_formula-moved : (K : ℕ) (fs : Fields) → Moved φ (λ x. x) (read_formula K fs) (read_formula K (move φ fs))
  unfolding read_formula
  read_formula-moved K fs =
      bind-moved _ (header-moved FileKind.Formula file_proof 1 (some K) fs) λ h.
      bind-moved _ (formula_within-moved edition1 h.K edition1.levels h.rest) λ x.
      then-moved (finished-moved FileKind.Formula file_proof x.1) computed

abbrev erase_tested : Tested → Tested
erase_tested t = record { answer = move_answer erase t.answer; holds = t.holds }

judged-of : (values : List ℤ) (r : Result Formula) → erase_tested (judged values r) ≡ erase_tested (judged values (erase_of r))
unfolding judged
judged-of values (refused a) = refl
judged-of values (accepted I) = refl

module _ {f f' : List ℕ} (values : List ℤ) (n : Noted f f') (kept : Kept edition1.formula_bytes f f') where
  tested-noted : Same (tested f' values) (tested f values)
  unfolding tested
  tested-noted = rw (kept-length edition1.formula_bytes n kept) (then_same _ (then_same _ (then_same _ (noted-same (read_formula-moved erase _) n))))

  test-noted : erase_tested (test_formula f' values) ≡ erase_tested (test_formula f values)
  unfolding test_formula
  test-noted = left-same (λ (r : Result Formula). erase_tested (judged values r)) (judged-of values) tested-noted

  pub notes-change-no-test : ((test_formula f' values).answer.number ≡ (test_formula f values).answer.number)
      × ((test_formula f' values).answer.file ≡ (test_formula f values).answer.file)
      × ((test_formula f' values).holds ≡ (test_formula f values).holds)
  notes-change-no-test =
      (ap (λ (t : Tested). t.answer.number) test-noted, ap (λ (t : Tested). t.answer.file) test-noted, ap (λ (t : Tested). t.holds) test-noted)
