-- What the check of a job ensures. (`scheduler` has the contracts of the calls.) Assumes nothing.
use Rattle.std.specs.Prelude.{◌≡◌, List, ℕ}
use Rattle.answers.specs.declared.WriteResult.{WriteResult}
use Rattle.answers.specs.Answers.{written_of}
use Rattle.scheduler.specs.declared.Job.{Job}
use Rattle.scheduler.specs.Scheduler.{check_job}

-- It returns r, and the lent output is `left` afterwards.
pub record ChecksJob (job : Job) (buffer output left : List ℕ) (r : WriteResult) : Type 0 where
  pub is : written_of r left ≡ check_job job buffer output
