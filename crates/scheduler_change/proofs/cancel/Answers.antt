-- `scheduler_change::cancel` meets its contract. Assumes nothing.
use Rattle.scheduler_change.proofs.SubmitAndCancel.{change-answered}
use Rattle.scheduler_change.proofs.cancel.Goals as goal

pub returns : goal.returns
returns c = record { is = change-answered _ _ _ _ c.vacate-change.ensures c.answer.ensures }
