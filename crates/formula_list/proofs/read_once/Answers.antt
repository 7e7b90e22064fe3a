-- `formula_list::read_once` meets its contract. Assumes nothing.
use mathlib.Core.Path.{refl}
use Rattle.std.proofs.lemmas.Result.{err_from_is_err_and}
use Rattle.formula_list.proofs.Phases.{zeros-at, zero-registers, header-fault, read-fault, end-fault, read-whole}
use Rattle.formula_list.proofs.read_once.Goals as goal

pub returns-in_err-header : goal.returns-in_err-header
returns-in_err-header c =
    let p = err_from_is_err_and c.from_residual.result c.from_residual.ensures.1 in
    rw (p.1, p.2) (header-fault c.requires.0 c.read_header.ensures c.in_err-header.was)

pub formula_at-requires : goal.formula_at-requires
formula_at-requires c = zero-registers _ c.requires.0 c.requires.1 refl (zeros-at 16)

pub returns-in_err-read : goal.returns-in_err-read
returns-in_err-read c =
    let p = err_from_is_err_and c.from_residual-in_err-read.result c.from_residual-in_err-read.ensures.1 in
    rw (p.1, p.2) (read-fault c.requires.0 c.read_header.ensures c.in_ok-header.was c.formula_at.ensures c.in_err-read.was)

pub returns-in_err-ending_at : goal.returns-in_err-ending_at
returns-in_err-ending_at c =
    let p = err_from_is_err_and c.from_residual-in_err-ending_at.result c.from_residual-in_err-ending_at.ensures.1 in
    rw (p.1, p.2) (end-fault c.requires.0 c.read_header.ensures c.in_ok-header.was c.formula_at.ensures c.in_ok-read.was c.ending_at.ensures c.in_err-ending_at.was)

pub returns : goal.returns
returns c = read-whole c.requires.0 c.read_header.ensures c.in_ok-header.was c.formula_at.ensures c.in_ok-read.was c.ending_at.ensures c.in_ok-ending_at.was
