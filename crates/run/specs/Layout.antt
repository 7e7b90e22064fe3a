-- What it is for a run's files to certify its guards, apart from checking them. docs/FORMAT.md, "Guards of a run of stages". Assumes nothing.
use Rattle.std.specs.Prelude.{◌≡◌, List, [], ℕ, suc, ◌≤◌, pos, length, get_or}
use Rattle.forms.specs.Edition.{edition, edition1}
use Rattle.forms.specs.Forms.{All, Constraint, ≤0, Formula, literal}
use Rattle.calculus.specs.Rules.{Entry}
use Rattle.bundle.specs.Layout.{Each, BundleFile}
use Rattle.formula.specs.Formula.{formula_file}
use Rattle.proof.specs.Layout.{ProofFile}
use Rattle.chains.specs.Runs.{Run, joined, Guards}
use Rattle.run.specs.Run.{most_stages, most_constraints, total, parts}

-- Guard i of a list. (Behind its end some formula.)
unfoldable pub guard_at : List Formula → ℕ → Formula
guard_at Is i = get_or Is i (literal ≤0 (record { coeffs = []; d = pos 0 }))

-- A stage's file, of some edition up to the newest.
pub record StageFile (newest K : ℕ) (file : List ℕ) (T : List Constraint) : Type 0 where
  pub number : ℕ
  pub states : BundleFile newest file number K T

-- 1 to 16 bundles stand end to end in the buffer, each with this K and by its own edition, with at most 64 constraints together; the proof's rows derive guard i from the
-- stages up to i and the others, for each i from 0 to n, within the limits of the proof's edition; and they are uniform.
pub record RunYields (newest : ℕ) (buffer lengths proof : List ℕ) (K : ℕ) (Ts : Run) (Is : List Formula) : Type 0 where
  pub least : 1 ≤ length lengths
  pub most : length lengths ≤ most_stages
  pub adds_up : total lengths ≡ length buffer
  pub stages : Each (StageFile newest K) (parts lengths buffer) Ts
  pub few : length (joined Ts) ≤ most_constraints
  pub edition_proof : ℕ
  pub es : List Entry
  pub file_proof : ProofFile newest proof edition_proof K es
  pub count : length Is ≡ suc (length Ts)
  pub guards : Guards (edition edition_proof) Ts es (guard_at Is)

-- The same, and no guard's file, which is of edition 1, is too long.
pub record RunCertifies (newest : ℕ) (buffer lengths proof : List ℕ) (K : ℕ) (Ts : Run) (Is : List Formula) : Type 0 where
  pub yields : RunYields newest buffer lengths proof K Ts Is
  pub short : All (λ I. length (formula_file edition1 K I) ≤ edition1.formula_bytes) Is
