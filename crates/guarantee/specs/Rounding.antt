-- Rounding by several at once. docs/FORMAT.md, "Proof". (That roundings are sound, laid out, told by step and branch is in the demands, which speak of every row.) Assumes nothing.
use Rattle.std.specs.Prelude.{◌≡◌, List, [], ℕ, suc, ◌*◌, ◌≤◌}
use Rattle.forms.specs.Edition.{edition, edition1, newest_edition}
use Rattle.forms.specs.Forms.{Formula, height}
use Rattle.calculus.specs.Rules.{Entry}
use Rattle.calculus.specs.Tied.{Tied}
use Rattle.answers.specs.declared.WriteResult.{WriteResult}
use Rattle.proof.specs.Layout.{ProofFile, Yields}
use Rattle.proof.specs.Promises.{Checks}

pub record RoundingPromised : Type 0 where
  -- Where a table with strengthens derives a formula, a table that has, in the place of any of them whose middle branch is only the close of its new line by stride g,
  -- a rounding by 1 with that g and the rows of its two t+1 branches, gives the same answer, count and bytes. (Not the other way round: the strengthen's table has a row more.)
  -- Both proofs are of one edition, or the second is of edition 2: from edition 2 to edition 1 it fails above 128 lines on a branch. Notes may differ too.
  pub tie : (A B proof proof₁ output left left₁ : List ℕ) (r r₁ : WriteResult) (K : ℕ) (I : Formula) (y : Yields newest_edition A B proof K I) (n₁ : ℕ) (es : List Entry)
      → ProofFile newest_edition proof₁ n₁ K es → (edition y.edition_proof).lines ≤ (edition n₁).lines → Tied y.proves.proof [] es
      → Checks A B proof output left r → Checks A B proof₁ output left₁ r₁ → (r₁ ≡ r) × (left₁ ≡ left)
  -- No formula that is derived has more levels than 17 for each of the 32 branching steps that may be open, 544, so that check refuses none for its levels.
  pub levels : (A B proof : List ℕ) (K : ℕ) (I : Formula) → Yields newest_edition A B proof K I
      → (height I ≤ suc edition1.rounding * edition1.branchings) × (suc edition1.rounding * edition1.branchings ≤ edition1.levels)
