-- Registers listed in another sequence. Of the definition of check, and of what the functions ensure. Assumes nothing.
use Rattle.std.specs.Prelude.{◌≡◌, ◌↔◌, List, ℕ, ◌≤◌, ◌<◌, length, ℤ, nat_abs}
use Rattle.forms.specs.Forms.{All, Assignment, Formula, True}
use Rattle.answers.specs.declared.WriteResult.{WriteResult}
use Rattle.answers.specs.Answers.{written_of}
use Rattle.formula_test.specs.declared.Tested.{Tested}
use Rattle.formula_test.specs.Promises.{Tests}
use Rattle.proof.specs.Check.{check_by}
use Rattle.proof.specs.Layout.{Certifies}
use Rattle.proof.specs.Promises.{Checks}
use Rattle.reordering.specs.Reordering.{Reordering, bundle_reordered, proof_reordered, formula_reordered, values_reordered, reordered_written}

-- For every K and every reordering of the constants 0 .. K-1, whatever the files hold, and with the same output lent: where the coefficients are so reordered in A's and B's
-- constraints and in both forms of each claim, in fields of right length for K and the bundle's own edition, and every other byte stays, the answer (number, file, place, row,
-- step and branch) and the count stay, and the bytes written are the old ones so reordered. (A refusal writes none. Where A's K is another, of no field touched are the contents read.)
pub record Reordered : Type 0 where
  -- Of the definition, whatever the newest edition that an office reads: 2 in this one (`check`), 1 in the office before edition 2.
  pub of_check : (newest K : ℕ) (π : Reordering K) (A B proof output : List ℕ)
      → check_by newest (bundle_reordered π A) (bundle_reordered π B) (proof_reordered π proof) output ≡ reordered_written π (check_by newest A B proof output)
  -- Of what the function ensures: it returned r and left the output as `left`, and on the files reordered r' and left'.
  pub of_function : (K : ℕ) (π : Reordering K) (A B proof output left left' : List ℕ) (r r' : WriteResult)
      → Checks A B proof output left r → Checks (bundle_reordered π A) (bundle_reordered π B) (proof_reordered π proof) output left' r' → written_of r' left' ≡ reordered_written π (written_of r left)
  -- Beyond the request, of register values. The formula that the files reordered certify is true where each constant's value has gone along just where the old one is true,
  pub true_alike : (newest K : ℕ) (π : Reordering K) (A B proof : List ℕ) (I J : Formula) → Certifies newest A B proof K I → Certifies newest (bundle_reordered π A) (bundle_reordered π B) (proof_reordered π proof) K J
      → (v w : Assignment) → ((k : ℕ) → k < K → w k ≡ v (π.from k)) → True J w ↔ True I v
  -- and every formula's file so reordered, right or wrong, the guard that check wrote among them, tested at K values so reordered, each within ±1,000,000, is answered as before. (23 tells an index, and that moves.)
  pub tested_alike : (K : ℕ) (π : Reordering K) (formula : List ℕ) (values : List ℤ) → length values ≡ K → All (λ z. nat_abs z ≤ 1_000_000) values
      → (t t' : Tested) → Tests formula values t → Tests (formula_reordered π formula) (values_reordered π values) t' → t' ≡ t
