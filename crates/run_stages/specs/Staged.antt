-- The stages that a buffer holds, once they are read. docs/FORMAT.md, "Guards of a run of stages". Assumes nothing.
use Rattle.std.specs.Prelude.{◌≡◌, List, [], ℕ, ◌≤◌, length}
use Rattle.std.proofs.Math.Option.{none}
use Rattle.forms.specs.Edition.{newest_edition}
use Rattle.answers.specs.Answers.{Result, refused, accepted}
use Rattle.bundle.specs.Bundle.{Bundle}
use Rattle.chains.specs.Runs.{Run, joined}
use Rattle.run.specs.Run.{most_stages, most_constraints, first_stage, total, parts, read_stages, constants_of, run_of}

-- None where they are refused.
abbrev pub stages_of : Result (List Bundle) → List Bundle
stages_of (refused a) = []
stages_of (accepted ts) = ts

unfoldable pub staged : (buffer lengths : List ℕ) → List Bundle
staged buffer lengths = stages_of (read_stages newest_edition first_stage none (parts lengths buffer))

abbrev pub stages : (buffer lengths : List ℕ) → Run
stages buffer lengths = run_of (staged buffer lengths)

-- They are read: bundles end to end, with K constants and so many constraints together.
pub record Staged (buffer lengths : List ℕ) (K count : ℕ) : Type 0 where
  pub is : read_stages newest_edition first_stage none (parts lengths buffer) ≡ accepted (staged buffer lengths)
  pub adds_up : total lengths ≡ length buffer
  pub least : 1 ≤ length lengths
  pub most : length lengths ≤ most_stages
  pub k_is : constants_of (staged buffer lengths) ≡ K
  pub count_is : length (joined (stages buffer lengths)) ≡ count
  pub few : count ≤ most_constraints
