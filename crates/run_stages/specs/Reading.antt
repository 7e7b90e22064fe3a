-- The stages of a buffer, by the answers of the code. Assumes nothing.
use Rattle.std.specs.Prelude.{◌≡◌, List, ℕ, ◌≤◌, length, Option, Some, None, Result, Ok, Err}
use Rattle.std.proofs.Math.Option.{none}
use Rattle.forms.specs.Edition.{edition1, newest_edition}
use Rattle.answers.specs.declared.Answer.{Answer}
use Rattle.answers.specs.Answers.{answer, Result as Answered, refused, accepted}
use Rattle.chains.specs.Runs.{joined}
use Rattle.run.specs.Run.{most_stages, first_stage, total, parts, stages_short, read_stages, constants_of}
use Rattle.run_stages.specs.Staged.{staged, stages}
use Rattle.run_stages.specs.declared.reading.Stages.{Stages}

-- 1 to 16 lengths, which add up to the buffer's.
pub record LengthsAddUp (buffer lengths : List ℕ) : Type 0 where
  pub least : 1 ≤ length lengths
  pub most : length lengths ≤ most_stages
  pub adds_up : total lengths ≡ length buffer

-- The file that is too long, if there is one.
abbrev pub long_of : Option ℕ → Answered (Unit {0})
long_of None = accepted tt
long_of (Some file) = refused (answer 1 file 0)

pub record FindsLong (buffer lengths : List ℕ) (file : Option ℕ) : Type 0 where
  pub is : stages_short newest_edition first_stage (parts lengths buffer) ≡ long_of file

-- All are read, with this K and so many constraints together.
pub record ReadAsStages (buffer lengths : List ℕ) (K count : ℕ) : Type 0 where
  pub is : read_stages newest_edition first_stage none (parts lengths buffer) ≡ accepted (staged buffer lengths)
  pub k_is : constants_of (staged buffer lengths) ≡ K
  pub count_is : length (joined (stages buffer lengths)) ≡ count
  pub low : 1 ≤ K
  pub high : K ≤ edition1.constants

abbrev pub ReadsBy : (buffer lengths : List ℕ) → Result Stages Answer → Type 0
ReadsBy buffer lengths (Err a) = read_stages newest_edition first_stage none (parts lengths buffer) ≡ refused a
ReadsBy buffer lengths (Ok s) = ReadAsStages buffer lengths s.k s.count

pub record ReadsStages (buffer lengths : List ℕ) (r : Result Stages Answer) : Type 0 where
  pub by : ReadsBy buffer lengths r
