-- This office, which reads editions 1 and 2, beside the one before edition 2, which reads edition 1 only and has every row and constraint all the same; and how long a bundle with notes may be. docs/FORMAT.md, "Bytes and fields". Assumes nothing.
use Rattle.std.specs.Prelude.{◌≡◌, ◌↔◌, ◌⊎◌, List, ℕ, ◌≤◌, length}
use Rattle.std.proofs.Math.Option.{none}
use Rattle.forms.specs.Edition.{edition1, edition2, newest_edition}
use Rattle.answers.specs.Answers.{file_a, file_b, file_proof, Result, refused, accepted, ◌>>◌, Written}
use Rattle.bundle.specs.Bundle.{at_most, bundle}
use Rattle.bundle.specs.Layout.{Says, bundle_limit}
use Rattle.proof.specs.Check.{check_by, check}

-- ---- two offices
-- All three files say edition 1.
pub record InFirst (A B proof : List ℕ) : Type 0 where
  pub of_a : Says A 1
  pub of_b : Says B 1
  pub of_proof : Says proof 1

abbrev pub Accepts : Written → Type 0
Accepts w = w.answer.number ≡ 0

pub record Offices : Type 0 where
  -- the office before edition 2 accepts only what says edition 1 in all three files, and so none in which A, B or the proof says another
  pub first_only : (A B proof output : List ℕ) → Accepts (check_by 1 A B proof output) → InFirst A B proof
  pub refuses_others : (A B proof output : List ℕ) (n : ℕ) → ¬ (n ≡ 1) → Says A n ⊎ Says B n ⊎ Says proof n → ¬ (Accepts (check_by 1 A B proof output))
  -- both accept the same triples of edition 1, with the same bytes
  pub same_accepted : (A B proof output : List ℕ) → InFirst A B proof → Accepts (check_by 1 A B proof output) ↔ Accepts (check A B proof output)
  pub same_bytes : (A B proof output : List ℕ) → InFirst A B proof → Accepts (check A B proof output) → check A B proof output ≡ check_by 1 A B proof output
  -- both answer alike on those whose bundles have at most 4,096 bytes
  pub same_answer : (A B proof output : List ℕ) → InFirst A B proof → length A ≤ edition1.bundle_bytes → length B ≤ edition1.bundle_bytes
      → check A B proof output ≡ check_by 1 A B proof output

-- ---- the length that demand 3's notes mean: 8,192 for a bundle in which no edition 1 is read, 4,096 for one in which it is
-- A bundle is not read at all behind a refusal.
unfoldable pub limit_behind : {X : Type 0} → Result X → (file : List ℕ) → ℕ
limit_behind (refused a) file = edition2.bundle_bytes
limit_behind (accepted x) file = bundle_limit file

-- The three lengths come before A, and A before B.
unfoldable pub lengths_fit : (A B proof : List ℕ) → Result (Unit {0})
lengths_fit A B proof = do
  at_most edition2.bundle_bytes file_a A
  at_most edition2.bundle_bytes file_b B
  at_most edition2.proof_bytes file_proof proof

unfoldable pub limit_a : (A B proof : List ℕ) → ℕ
limit_a A B proof = limit_behind (lengths_fit A B proof) A

unfoldable pub limit_b : (A B proof : List ℕ) → ℕ
limit_b A B proof = limit_behind (lengths_fit A B proof >> bundle newest_edition file_a none A) B
