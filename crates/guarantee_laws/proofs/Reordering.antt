-- Registers listed in another sequence change nothing but the sequence. Assumes nothing.
use mathlib.Core.Path.{◌≡◌, sym, ap, subst, ◌∙◌}
use mathlib.Core.Logic.{◌↔◌}
use mathlib.Core.List.{List}
use Prim.Native.Nat.{ℕ, ◌<◌}
use lib.Dec.{T}
use Rattle.forms.specs.Edition.{newest_edition}
use Rattle.forms.specs.Forms.{Assignment, Formula, True}
use Rattle.answers.specs.declared.WriteResult.{WriteResult}
use Rattle.answers.specs.Answers.{written_of}
use Rattle.formula.specs.Test.{judge}
use Rattle.formula.proofs.Judge.{judge-true}
use Rattle.formula_test.specs.Promises.{as_tested}
use Rattle.proof.specs.Check.{check}
use Rattle.proof.specs.Layout.{Certifies}
use Rattle.proof.specs.Promises.{Checks}
use Rattle.proof.proofs.Agree.{interpolant-iff}
use Rattle.reordering.specs.Reordering.{Reordering, bundle_reordered, proof_reordered, reordered_written}
use Rattle.reordering.proofs.ReorderedCheck.{reordered}
use Rattle.reordering.proofs.ReorderedTest.{given-judged, tested-same}
use Rattle.guarantee.specs.Reordering.{Reordered}

module _ {K : ℕ} (π : Reordering K) {A B proof : List ℕ} where
  function_alike : {output left left' : List ℕ} {r r' : WriteResult} → Checks A B proof output left r → Checks (bundle_reordered π A) (bundle_reordered π B) (proof_reordered π proof) output left' r'
      → written_of r' left' ≡ reordered_written π (written_of r left)
  unfolding check
  function_alike {output} c c' = c'.is ∙ reordered π newest_edition A B proof output ∙ ap (reordered_written π) (sym c.is)

  true-both : {newest : ℕ} {I J : Formula} → Certifies newest A B proof K I → Certifies newest (bundle_reordered π A) (bundle_reordered π B) (proof_reordered π proof) K J
      → (v w : Assignment) → ((k : ℕ) → k < K → w k ≡ v (π.from k)) → True J w ↔ True I v
  true-both {newest} {I} {J} c d v w along =
      let e : judge J w ≡ judge I v
      = given-judged π newest A B proof I J ((interpolant-iff newest A B proof K I).1 c) ((interpolant-iff newest (bundle_reordered π A) (bundle_reordered π B) (proof_reordered π proof) K J).1 d) v w along in (
        λ t. (judge-true I v).0 (subst T e ((judge-true J w).1 t)),
        λ t. (judge-true J w).0 (subst T (sym e) ((judge-true I v).1 t)),
      )

-- Point 9.
pub reordered-alike : Reordered
reordered-alike = record {
  of_check = λ newest K π. reordered π newest;
  of_function = λ K π A B proof output left left' r r' c c'. function_alike π c c';
  true_alike = λ newest K π A B proof I J c d. true-both π c d;
  tested_alike = λ K π formula values count range t t' x x'. x'.is ∙ ap as_tested (tested-same π formula values count range) ∙ sym x.is;
}
