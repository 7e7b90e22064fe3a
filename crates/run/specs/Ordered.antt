-- In which order a run is refused before its proof's fields: 25 first, 1 for the stages in turn and the proof, the stages, 26 after them. Of what the function ensures. Assumes nothing.
use Rattle.std.specs.Prelude.{◌≡◌, List, ◌∷◌, ◌++◌, ℕ, ◌+◌, ◌≤◌, ◌<◌, length}
use Rattle.std.proofs.Math.Option.{none}
use Rattle.forms.specs.Edition.{newest_edition}
use Rattle.forms.specs.Forms.{All}
use Rattle.answers.specs.declared.Answer.{Answer}
use Rattle.answers.specs.declared.WriteResult.{WriteResult}
use Rattle.answers.specs.Answers.{answer, refused, accepted}
use Rattle.fields.specs.Fields.{fields}
use Rattle.bundle.specs.Bundle.{Bundle}
use Rattle.chains.specs.Runs.{joined}
use Rattle.run.specs.Run.{total, parts, read_stages, constants_of, run_of, check_run}
use Rattle.run.specs.Promises.{WritesGuards}

-- 1 to 16 lengths that add up to the buffer.
abbrev pub Parted : (lengths buffer : List ℕ) → Type 0
Parted lengths buffer = (1 ≤ length lengths) × (length lengths ≤ 16) × (total lengths ≡ length buffer)

-- The same, and no file is too long for every edition.
abbrev pub RunWithinLimits : (lengths buffer proof : List ℕ) → Type 0
RunWithinLimits lengths buffer proof = Parted lengths buffer × All (λ T. length T ≤ 8_192) (parts lengths buffer) × (length proof ≤ 65_536)

pub record RunOrdered (buffer lengths proof : List ℕ) (r : WriteResult) : Type 0 where
  -- 25 before all else
  pub unparted : ¬ (Parted lengths buffer) → r.answer ≡ answer 25 4 0
  -- 1 for the first stage that is too long, before any field is read
  pub long_stage : Parted lengths buffer → (before : List (List ℕ)) (T : List ℕ) (after : List (List ℕ)) → parts lengths buffer ≡ before ++ (T ∷ after)
      → All (λ S. length S ≤ 8_192) before → 8_192 < length T → r.answer ≡ answer 1 (11 + length before) 0
  -- then for the proof
  pub long_proof : Parted lengths buffer → All (λ T. length T ≤ 8_192) (parts lengths buffer) → 65_536 < length proof → r.answer ≡ answer 1 3 0
  -- the stages in turn, the first as file 11
  pub stage : RunWithinLimits lengths buffer proof → (a : Answer) → read_stages newest_edition 11 none (parts lengths buffer) ≡ refused a → r.answer ≡ a
  -- 26 after all of them
  pub many : RunWithinLimits lengths buffer proof → (ts : List Bundle) → read_stages newest_edition 11 none (parts lengths buffer) ≡ accepted ts → 64 < length (joined (run_of ts)) → r.answer ≡ answer 26 4 0
  -- then the proof
  pub amid : RunWithinLimits lengths buffer proof → (ts : List Bundle) → read_stages newest_edition 11 none (parts lengths buffer) ≡ accepted ts → length (joined (run_of ts)) ≤ 64
      → (a : Answer) → check_run newest_edition (constants_of ts) (run_of ts) (fields proof) ≡ refused a → r.answer ≡ a

pub record RunInOrder : Type 0 where
  pub ordered : (buffer lengths proof output sizes left sizesLeft : List ℕ) (r : WriteResult) → WritesGuards buffer lengths proof output sizes left sizesLeft r
      → RunOrdered buffer lengths proof r
