-- Testing a formula accepts just the files that state one, and tells its truth. Assumes nothing.
use mathlib.Core.Path.{◌≡◌, refl, sym, ◌∙◌, ap}
use mathlib.Core.List.{List}
use Prim.Native.Nat.{ℕ}
use mir.Facts.{and_yes}
use lib.Dec.{leb, leb→le}
use lib.IntN.{ℤ, nat_abs}
use lib.ListN.{length}
use Rattle.forms.specs.Forms.{Formula}
use Rattle.answers.specs.Answers.{acceptance, Result, refused, accepted}
use Rattle.answers.proofs.Results.{Gives, weaken, seq, test, each-gives, not-0}
use Rattle.number_bytes.proofs.Signed.{all-weaken}
use Rattle.formula.specs.Test.{judge, registers, tested, judged, test_formula}
use Rattle.formula.proofs.Judge.{judge-true}
use Rattle.formula_test.specs.declared.Tested.{Tested}
use Rattle.formula_test.specs.Promises.{as_tested, Tests}
use Rattle.guarantee.specs.Testing.{Testable, TestingPromised}
use Rattle.guarantee.proofs.FormulaFiles.{read-gives, file-read, one-spelt}
use Rattle.guarantee.proofs.Guard.{bool-true, tested-as}

-- ---- the values, the length, the file
module _ (file : List ℕ) (values : List ℤ) where
  tested-gives : Gives (tested file values) (λ I. (x : Testable file values) × (x.formula ≡ I))
  unfolding tested
  tested-gives = test _ _ tt λ b.
      let (low, high) = and_yes (leb 1 (length values)) (leb (length values) 16) b in
      seq (each-gives _ _ (λ i. tt) 0 values) λ range. test _ _ tt λ short. weaken (read-gives (length values) file) λ I f. (
        record {
          low = leb→le 1 (length values) low;
          high = leb→le (length values) 16 high;
          range = all-weaken (λ z h. leb→le (nat_abs z) 1_000_000 h) range;
          short = leb→le (length file) 65_536 short;
          formula = I;
          states = f;
        },
        refl,
      )

  testable : (test_formula file values).answer.number ≡ 0 → Testable file values
  unfolding test_formula judged
  testable = go (tested file values) refl
    where
      go : (r : Result Formula) → tested file values ≡ r → (judged values r).answer.number ≡ 0 → Testable file values
      go (refused a) e h = absurd (not-0 (tested-gives.refusal a e) h)
      go (accepted I) e h = (tested-gives.gives I e).0

  testable-told : (x : Testable file values) → test_formula file values ≡ record { answer = acceptance; holds = judge x.formula (registers values) }
  testable-told x = tested-as file values x.formula (file-read (length values) file x.formula x.low x.high x.states) x.short x.low x.high x.range

module _ {file : List ℕ} {values : List ℤ} {t : Tested} (d : Tests file values t) (x : Testable file values) where
  told : t ≡ as_tested (record { answer = acceptance; holds = judge x.formula (registers values) })
  told = d.is ∙ ap as_tested (testable-told file values x)

  pub holds-is : t.holds ≡ judge x.formula (registers values)
  holds-is = ap (λ (t : Tested). t.holds) told

pub testing-promised : TestingPromised
testing-promised = record {
  test_iff = λ file values t d. (
    λ h. testable file values (ap (λ (t : Tested). t.answer.number) (sym d.is) ∙ h),
    λ x. ap (λ (t : Tested). t.answer.number) (told d x),
  );
  tells = λ file values t d x. (
    λ e. (judge-true x.formula (registers values)).0 (rw (sym (holds-is d x), e) tt),
    λ h. holds-is d x ∙ bool-true _ ((judge-true x.formula (registers values)).1 h),
  );
  one_formula = λ K file I J f g. one-spelt f g;
}
