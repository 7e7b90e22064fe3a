-- What the functions of the calls ensure, a record each; the theorems speak of these very records. Assumes nothing.
use Rattle.std.specs.Prelude.{◌≡◌, List, ℕ}
use Rattle.answers.specs.Answers.{acceptance, Result, refused, accepted, written_of}
use Rattle.scheduler.specs.declared.Job.{Job}
use Rattle.scheduler.specs.declared.Scheduler.{Scheduler}
use Rattle.scheduler.specs.declared.Changed.{Changed}
use Rattle.scheduler.specs.declared.Turned.{Turned}
use Rattle.scheduler.specs.Scheduler.{submission, cancellation, TurnLeaves, turn}

-- A refusal leaves the scheduler as it was.
unfoldable pub changed : Scheduler → Result Scheduler → Changed
changed s (refused a) = record { answer = a; scheduler = s }
changed s (accepted s') = record { answer = acceptance; scheduler = s' }

pub record Submits (s : Scheduler) (seat : ℕ) (job : Job) (r : Changed) : Type 0 where
  pub is : r ≡ changed s (submission s seat job)

pub record Cancels (s : Scheduler) (seat : ℕ) (r : Changed) : Type 0 where
  pub is : r ≡ changed s (cancellation s seat)

abbrev pub turn_leaves_of : Turned → (left : List ℕ) → TurnLeaves
turn_leaves_of r left = record { idle = r.idle; seat = r.seat; written = written_of r.result left; scheduler = r.scheduler }

-- It returns r, and the lent output is `left` afterwards.
pub record Turns (s : Scheduler) (buffer output left : List ℕ) (r : Turned) : Type 0 where
  pub is : turn_leaves_of r left ≡ turn s buffer output
