-- How a run's proof is refused: as check refuses it for every cut, but for a 13 of some cut, a claim and unlike branches. docs/FORMAT.md, "Guards of a run of stages". Assumes nothing.
use Rattle.std.specs.Prelude.{◌≡◌, ◌⊎◌, List, ℕ, ◌≤◌, ◌<◌, length}
use Rattle.answers.specs.declared.Answer.{Answer}
use Rattle.answers.specs.Answers.{refused}
use Rattle.fields.specs.Fields.{fields}
use Rattle.proof.specs.Check.{check_proof}
use Rattle.chains.specs.Runs.{Run, up_to, beyond}
use Rattle.run.specs.Uniform.{with_number, uniform}
use Rattle.run.specs.Run.{side, check_run}

-- Check refuses cut i so.
abbrev pub CutRefused : (newest K : ℕ) → Run → (proof : List ℕ) → Answer → (i : ℕ) → Type 0
CutRefused newest K Ts proof a i = check_proof newest (side K (up_to Ts i)) (side K (beyond Ts i)) (fields proof) ≡ refused a

-- No cut is refused at a lesser place, and no claim and no unlike branches are met at one.
pub record Earliest (newest K : ℕ) (Ts : Run) (proof : List ℕ) (a : Answer) : Type 0 where
  pub cuts : (j : ℕ) → j ≤ length Ts → (b : Answer) → CutRefused newest K Ts proof b j → a.place ≤ b.place
  pub walk : (b : Answer) → uniform newest K (fields proof) ≡ refused b → a.place ≤ b.place

pub data RunRefused (newest K : ℕ) (Ts : Run) (proof : List ℕ) (a : Answer) : Type 0 where
  -- as every cut
  every_cut : ((i : ℕ) → i ≤ length Ts → CutRefused newest K Ts proof a i) → RunRefused newest K Ts proof a
  -- 13 of some cut
  some_cut : (i : ℕ) → i ≤ length Ts → a.number ≡ 13 → CutRefused newest K Ts proof a i → RunRefused newest K Ts proof a
  -- a claim that some cut refuses by 14: 27 in its place
  differing : (i : ℕ) → i ≤ length Ts → (b : Answer) → b.number ≡ 14 → CutRefused newest K Ts proof b i → a ≡ with_number 27 b → RunRefused newest K Ts proof a
  -- a claim, unlike branches, where no cut is refused there or before
  of_run : (a.number ≡ 27) ⊎ (a.number ≡ 28) → uniform newest K (fields proof) ≡ refused a
      → ((j : ℕ) → j ≤ length Ts → (b : Answer) → CutRefused newest K Ts proof b j → a.place < b.place) → RunRefused newest K Ts proof a

pub record RefusedAsCheck : Type 0 where
  pub as_check : (newest K : ℕ) (Ts : Run) (proof : List ℕ) (a : Answer) → check_run newest K Ts (fields proof) ≡ refused a
      → RunRefused newest K Ts proof a × Earliest newest K Ts proof a × (¬ (a.number ≡ 14))
