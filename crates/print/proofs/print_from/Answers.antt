-- `print::print_from` meets its contract. Assumes nothing.
use Rattle.std.proofs.Common.{arith}
use Rattle.std.proofs.lemmas.Result.{err_from_is_err_and}
use Rattle.print.proofs.Phases.{behind-fault, behind-put}
use Rattle.print.proofs.print_from.Goals as goal

pub overflow_mul-formula : goal.overflow_mul-formula
overflow_mul-formula g c = omega (arith, c.requires.file)

pub returns-in_err-read_whole : goal.returns-in_err-read_whole
returns-in_err-read_whole g c =
    let p = err_from_is_err_and c.from_residual.result c.from_residual.ensures.1 in
    rw (p.1, p.2) (behind-fault c.in_err-read_whole.ensures)

pub returns-then-formula-out : goal.returns-then-formula-out
returns-then-formula-out g c = behind-put c.in_ok-read_whole.ensures c.put_surely.ensures

pub returns-in_err-size : goal.returns-in_err-size
returns-in_err-size g c =
    let p = err_from_is_err_and c.from_residual-in_err-size.result c.from_residual-in_err-size.ensures.1 in
    rw (p.1, p.2) (behind-fault c.in_err-size.ensures)

pub returns : goal.returns
returns g c = behind-put c.in_ok-size.ensures.0 c.put_whole.ensures
