-- What is promised of the short proofs of A and B, and of the next one. docs/FORMAT.md, "Short proofs". Assumes nothing.
use Rattle.std.specs.Prelude.{◌≡◌, List, map, ℕ, ◌+◌, ◌≤◌, ◌<◌, length}
use Rattle.forms.specs.Edition.{newest_edition}
use Rattle.forms.specs.Forms.{Constraint}
use Rattle.calculus.specs.Rules.{Row}
use Rattle.answers.specs.Answers.{Result}
use Rattle.bundle.specs.Layout.{BundleFile}
use Rattle.enumeration.specs.ShortProofs.{◌∈◌, proof_file, ShortProof}
use Rattle.enumeration.specs.Order.{Precedes, Increasing}
use Rattle.enumeration.specs.Next.{NextIs}

-- A and B are bundles of edition 1 or 2 with one K and these constraints.
pub record BothState (A B : List ℕ) (K : ℕ) (a b : List Constraint) : Type 0 where
  pub n_A : ℕ
  pub n_B : ℕ
  pub states_a : BundleFile newest_edition A n_A K a
  pub states_b : BundleFile newest_edition B n_B K b

-- They have four constraints together at most; they have a fifth.
pub record Enumerable (A B : List ℕ) (K : ℕ) : Type 0 where
  pub a : List Constraint
  pub b : List Constraint
  pub state : BothState A B K a b
  pub four : length a + length b ≤ 4

pub record Fifth (A B : List ℕ) : Type 0 where
  pub K : ℕ
  pub a : List Constraint
  pub b : List Constraint
  pub state : BothState A B K a b
  pub five : 4 < length a + length b

-- What follows the table given: the next short proof, or 33, or 32.
pub record Follows (A B given : List ℕ) (told : Result (List ℕ)) : Type 0 where
  pub K : ℕ
  pub enumerable : Enumerable A B K
  pub next : NextIs A B given K told

-- The files of these rows are all short proofs of A and B.
pub record Enumerates (A B : List ℕ) (K : ℕ) (rss : List (List Row)) : Type 0 where
  pub none_left_out : (file : List ℕ) → ShortProof A B file → file ∈ map (proof_file K) rss
  pub only_these : (file : List ℕ) → file ∈ map (proof_file K) rss → ShortProof A B file
  -- by number of rows and then by bytes; so no file comes twice
  pub in_order : Increasing (Precedes K) rss
  pub each_once : Increasing (λ f g. ¬ (f ≡ g)) (map (proof_file K) rss)
