-- What a change of the state leaves: the state changed, or as it was, with the refusal. Assumes nothing.
use Rattle.std.specs.Prelude.{◌≡◌, Result as Outcome, Ok, Err}
use Rattle.answers.specs.declared.refusals.Refusal.{Refusal}
use Rattle.answers.specs.Answers.{Result, refused, accepted}
use Rattle.answers.specs.Refusals.{number_of}
use Rattle.scheduler.specs.declared.Scheduler.{Scheduler}
use Rattle.scheduler.specs.Scheduler.{refusal}

abbrev pub Changes : (s left : Scheduler) → Result Scheduler → Outcome (Unit {0}) Refusal → Type 0
Changes s left w (Ok _) = w ≡ accepted left
Changes s left w (Err r) = (w ≡ refused (refusal (number_of r))) × (left ≡ s)
