-- `scheduler_change::occupy` meets its contract. Assumes nothing.
use Rattle.std.proofs.Common.{refl, sym, ◌∙◌}
use Rattle.std.proofs.lemmas.Result.{err_from_is_err_and}
use Rattle.scheduler.proofs.Changing.{submission-29, submission-30, submission-taken}
use Rattle.scheduler_change.proofs.occupy.Goals as goal

pub returns-in_err-is_waiting : goal.returns-in_err-is_waiting
returns-in_err-is_waiting c =
    let p = err_from_is_err_and c.from_residual.result c.from_residual.ensures.1 in
    let e = c.in_err-is_waiting.ensures in
    rw (p.1, p.2, e.1) (submission-29 _ _ _ e.0, refl)

pub returns-then-branch : goal.returns-then-branch
returns-then-branch c =
    let e = c.in_ok-is_waiting.ensures in
    (submission-30 _ _ _ e.0 (sym e.1 ∙ c.if-branch.true), refl)

pub returns : goal.returns
returns c =
    let e = c.in_ok-is_waiting.ensures in
    submission-taken _ _ _ e.0 (sym e.1 ∙ c.if-branch.false)
