-- `formula_test::read_whole` meets its contract: each answer cites a lemma of `Phases`. Assumes nothing.
use Rattle.std.proofs.lemmas.Result.{err_from_is_err_and}
use Rattle.formula_test.proofs.Phases.{header_refused, formula-fault, ending-fault, formula-value}
use Rattle.formula_test.proofs.read_whole.Goals as goal

pub returns-in_err-header : goal.returns-in_err-header
returns-in_err-header c =
    let p = err_from_is_err_and c.from_residual.result c.from_residual.ensures.1 in
    rw (p.1, p.2) (header_refused c.requires c.read_header.ensures c.in_err-header.was)

pub returns-in_err-read : goal.returns-in_err-read
returns-in_err-read c =
    let p = err_from_is_err_and c.from_residual-in_err-read.result c.from_residual-in_err-read.ensures.1 in
    rw (p.1, p.2) (formula-fault c.requires c.read_header.ensures c.in_ok-header.was c.formula_at.ensures c.in_err-read.was)

pub returns-in_err-ending_at : goal.returns-in_err-ending_at
returns-in_err-ending_at c =
    let p = err_from_is_err_and c.from_residual-in_err-ending_at.result c.from_residual-in_err-ending_at.ensures.1 in
    rw (p.1, p.2) (ending-fault c.requires c.read_header.ensures c.in_ok-header.was c.formula_at.ensures c.in_ok-read.was c.ending_at.ensures c.in_err-ending_at.was)

pub returns : goal.returns
returns c = formula-value c.requires c.read_header.ensures c.in_ok-header.was c.formula_at.ensures c.in_ok-read.was c.ending_at.ensures c.in_ok-ending_at.was
