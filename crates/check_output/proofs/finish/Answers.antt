-- `check_output::finish` meets its contract: each answer cites the law for its way. Assumes nothing.
use Rattle.check_output.proofs.Delivering.{finish-fault, finish-ended}
use Rattle.check_output.proofs.finish.Goals as goal

pub returns-in-Ok : goal.returns-in-Ok
returns-in-Ok c = finish-ended c.in-Ok.ensures c.deliver.ensures

pub returns-in-Err : goal.returns-in-Err
returns-in-Err c = finish-fault c.in-Err.ensures c.refusal.ensures
