-- `print::print_file` meets its contract. Assumes nothing.
use Rattle.std.proofs.lemmas.Result.{err_from_is_err_and}
use Rattle.print.proofs.Phases.{file-long, header-fault, header-place, file-printed}
use Rattle.print.proofs.print_file.Goals as goal

pub returns-then-formula-gt-FORMULA_BYTES : goal.returns-then-formula-gt-FORMULA_BYTES
returns-then-formula-gt-FORMULA_BYTES g c = file-long c.if-formula-gt-FORMULA_BYTES.true

pub returns-in_err-head : goal.returns-in_err-head
returns-in_err-head g c =
    let p = err_from_is_err_and c.from_residual.result c.from_residual.ensures.1 in
    rw (p.1, p.2) (header-fault c.if-formula-gt-FORMULA_BYTES.false c.read_header.ensures c.in_err-head.was)

pub print_from-requires : goal.print_from-requires
print_from-requires g c = header-place c.if-formula-gt-FORMULA_BYTES.false c.read_header.ensures c.in_ok-head.was

pub returns : goal.returns
returns g c = file-printed c.if-formula-gt-FORMULA_BYTES.false c.read_header.ensures c.in_ok-head.was c.print_from.ensures
