-- `print::read_whole` meets its contract. Assumes nothing.
use Rattle.std.proofs.lemmas.Result.{err_from_is_err_and}
use Rattle.print.proofs.Phases.{once-refused, once-read, formula-faulty, ended-as}
use Rattle.print.proofs.read_whole.Goals as goal

pub returns-in_err-next : goal.returns-in_err-next
returns-in_err-next c =
    let p = err_from_is_err_and c.from_residual.result c.from_residual.ensures.1 in
    rw (p.1, p.2) (formula-faulty (once-refused _ c.whole_at.ensures c.in_err-next.was))

pub returns : goal.returns
returns c = ended-as c.args.formula.now c.args.at c.args.k (once-read _ c.whole_at.ensures c.in_ok-next.was) _ c.ending_at.ensures
