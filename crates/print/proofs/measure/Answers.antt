-- `print::measure` meets its contract. Assumes nothing.
use Rattle.std.proofs.Common.{refl}
use Rattle.std.proofs.lemmas.Result.{err_from_is_err_and}
use Rattle.print.proofs.Phases.{text-refused, text-read, text-sized, formula-faulty, ending-faulty, stated}
use Rattle.print.proofs.measure.Goals as goal

pub returns-in_err-next : goal.returns-in_err-next
returns-in_err-next g c =
    let p = err_from_is_err_and c.from_residual.result c.from_residual.ensures.1 in
    rw (p.1, p.2) (formula-faulty (text-refused _ c.formula_at.ensures.read refl c.in_err-next.was))

pub returns-in_err-ending_at : goal.returns-in_err-ending_at
returns-in_err-ending_at g c =
    let p = err_from_is_err_and c.from_residual-in_err-ending_at.result c.from_residual-in_err-ending_at.ensures.1 in
    rw (p.1, p.2) (ending-faulty (text-read _ c.formula_at.ensures.read refl c.in_ok-next.was) c.ending_at.ensures c.in_err-ending_at.was)

pub returns : goal.returns
returns g c = (stated (text-read _ c.formula_at.ensures.read refl c.in_ok-next.was) c.ending_at.ensures c.in_ok-ending_at.was, text-sized _ c.formula_at.ensures.read refl c.in_ok-next.was)
