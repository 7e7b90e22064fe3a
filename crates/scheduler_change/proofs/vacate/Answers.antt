-- `scheduler_change::vacate` meets its contract. Assumes nothing.
use Rattle.std.proofs.Common.{refl, sym, ◌∙◌, ap}
use Rattle.std.proofs.lemmas.Result.{err_from_is_err_and}
use Rattle.answers.specs.Answers.{accepted}
use Rattle.scheduler.specs.declared.Slot.{Slot}
use Rattle.scheduler.specs.Scheduler.{with_slot}
use Rattle.scheduler.proofs.Changing.{cancellation-29, cancellation-31, cancellation-taken}
use Rattle.scheduler_change.proofs.vacate.Goals as goal

pub returns-in_err-is_waiting : goal.returns-in_err-is_waiting
returns-in_err-is_waiting c =
    let p = err_from_is_err_and c.from_residual.result c.from_residual.ensures.1 in
    let e = c.in_err-is_waiting.ensures in
    rw (p.1, p.2, e.1) (cancellation-29 _ _ e.0, refl)

pub returns-then-not-branch : goal.returns-then-not-branch
returns-then-not-branch c =
    let e = c.in_ok-is_waiting.ensures in
    (cancellation-31 _ _ e.0 (sym e.1 ∙ c.if-not-branch.true), refl)

pub returns : goal.returns
returns c =
    let e = c.in_ok-is_waiting.ensures in
    cancellation-taken _ _ e.0 (sym e.1 ∙ c.if-not-branch.false) ∙ ap (λ (x : Slot). accepted (with_slot c.args.s.now c.args.seat x)) (sym c.vacant.ensures)
