-- What a change leaves, as submitting and cancelling answer it. Assumes nothing.
use Rattle.std.proofs.Common.{◌≡◌, Result as Outcome, Ok, Err, MatchResult}
use Rattle.answers.specs.declared.Answer.{Answer}
use Rattle.answers.specs.declared.refusals.Refusal.{Refusal}
use Rattle.answers.specs.Answers.{acceptance, Result}
use Rattle.answers.specs.Refusals.{number_of}
use Rattle.scheduler.specs.declared.Scheduler.{Scheduler}
use Rattle.scheduler.specs.declared.Changed.{Changed}
use Rattle.scheduler.specs.Scheduler.{refusal}
use Rattle.scheduler.specs.Promises.{changed}
use Rattle.scheduler_change.specs.Changes.{Changes}

pub change-answered : (s left : Scheduler) (w : Result Scheduler) (r : Outcome (Unit {0}) Refusal) {a : Answer} → Changes s left w r → MatchResult r (λ _. a ≡ acceptance) (λ n. a ≡ refusal (number_of n))
    → ◌≡◌ {A = Changed} (record { scheduler = left; answer = a }) (changed s w)
unfolding changed
change-answered s left w (Ok _) p q = rw (p, q)
change-answered s left w (Err n) p q = rw (p.0, p.1, q)
