-- What is promised of shortening holds of the function. Assumes nothing.
use mathlib.Core.Path.{◌≡◌, refl, sym, ◌∙◌, ap}
use mathlib.Core.List.{List, []}
use Prim.Native.Nat.{ℕ}
use native.Mathlib.Omega.{arith}
use Rattle.answers.specs.declared.Answer.{Answer}
use Rattle.answers.specs.declared.WriteResult.{WriteResult}
use Rattle.answers.specs.Answers.{answer, Written, written_of}
use Rattle.proof.specs.Check.{check}
use Rattle.proof.specs.Promises.{Checks}
use Rattle.shortening.proofs.Needed.{depends-iff}
use Rattle.shortening.proofs.Promised.{shortening-holds}
use Rattle.shortening.specs.declared.ShortenResult.{ShortenResult}
use Rattle.shortening.specs.Promises.{shortened_of, Shortens}
use Rattle.guarantee.specs.RefusedIff.{LongFormula, bytes_needed}
use Rattle.guarantee.specs.Shortening.{ShorteningPromised}
use Rattle.guarantee.proofs.RefusedIff.{refused-iff}

same-result : {r s : WriteResult} {left left₁ : List ℕ} → written_of r left ≡ written_of s left₁ → (r ≡ s) × (left ≡ left₁)
same-result e = (ap (λ (w : Written). let x : WriteResult = record { answer = w.answer; count = w.count } in x) e, ap (λ (w : Written). w.output) e)

module _ {A B proof report table reportLeft tableLeft : List ℕ} {r : ShortenResult} (s : Shortens A B proof report table reportLeft tableLeft r) where
  as-checked : (output left : List ℕ) (c : WriteResult) → Checks A B proof output left c → ¬ (c.answer.number ≡ 0) → ¬ (c.answer.number ≡ 21) → r.answer ≡ c.answer
  as-checked output left c k h h₁ =
      let same : c.answer ≡ (check A B proof output).answer = ap (λ (w : Written). w.answer) k.is in
      shortening-holds.as_check A B proof report table (shortened_of r reportLeft tableLeft) s.is output (λ z. h (ap (λ (a : Answer). a.number) same ∙ z)) (λ z. h₁ (ap (λ (a : Answer). a.number) same ∙ z)) ∙ sym same

  -- check without an output
  long-refused : (l : LongFormula A B proof) → r.answer ≡ answer 1 4 (bytes_needed l.derives)
  long-refused l =
      let w = check A B proof [] in
      let c : WriteResult = record { answer = w.answer; count = w.count } in
      let k : Checks A B proof [] w.output c = record { is = refl } in
      let q = (refused-iff.check_1_at_end A B proof [] w.output c k).1 l in
      as-checked [] w.output c k (λ z. absurd (omega (arith, ap (λ (a : Answer). a.number) q, z))) (λ z. absurd (omega (arith, ap (λ (a : Answer). a.number) q, z))) ∙ q

-- Point 12.
pub shortening-promised : ShorteningPromised
shortening-promised = record {
  makes = shortening-holds.makes;
  decided = depends-iff;
  accepted_iff = λ A B proof report table reportLeft tableLeft r s. shortening-holds.accepted_iff A B proof report table (shortened_of r reportLeft tableLeft) s.is;
  writes = λ A B proof report table reportLeft tableLeft r s. shortening-holds.writes A B proof report table (shortened_of r reportLeft tableLeft) s.is;
  short_21 = λ A B proof report table reportLeft tableLeft r s. (
    shortening-holds.only-21 A B proof report table (shortened_of r reportLeft tableLeft) s.is,
    shortening-holds.always-21 A B proof report table (shortened_of r reportLeft tableLeft) s.is,
  );
  as_check = λ A B proof report table reportLeft tableLeft r s. as-checked s;
  as_check_enough = λ A B proof report table reportLeft tableLeft r s output left c k enough h.
      let same : c.answer ≡ (check A B proof output).answer = ap (λ (w : Written). w.answer) k.is in
      shortening-holds.as_check_enough A B proof report table (shortened_of r reportLeft tableLeft) s.is output enough (λ z. h (ap (λ (a : Answer). a.number) same ∙ z)) ∙ sym same;
  too_long = λ A B proof report table reportLeft tableLeft r s l. long-refused s l;
  checked_alike = λ A B proof report table reportLeft tableLeft r s h output left left₁ c c₁ k k₁.
      same-result (k₁.is ∙ shortening-holds.checked_alike A B proof report table (shortened_of r reportLeft tableLeft) s.is h output ∙ sym k.is);
  again = λ A B proof report table reportLeft tableLeft r s h report₁ table₁ reportLeft₁ tableLeft₁ r₁ s₁ fits fits₁.
      shortening-holds.again A B proof report table (shortened_of r reportLeft tableLeft) s.is h report₁ table₁ (shortened_of r₁ reportLeft₁ tableLeft₁) s₁.is fits fits₁;
}
