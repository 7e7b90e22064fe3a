-- `dulgaverk::check_job` meets its contract. Assumes nothing.
use Rattle.dulgaverk.proofs.Jobs.{check-34, check-parts}
use Rattle.dulgaverk.proofs.check_job.Goals as goal

pub returns-in-Some : goal.returns-in-Some
returns-in-Some c = check-parts _ _ _ c.in-Some.ensures c.dulgaverk_check.ensures

pub returns-in-None : goal.returns-in-None
returns-in-None c = check-34 _ _ _ c.refusal.ensures c.in-None.ensures
