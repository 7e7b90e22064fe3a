-- `run_guards::guards::check_header` meets its contract. Assumes nothing.
use borrow.Author.Rules.{rules}
use Rattle.std.proofs.lemmas.Result.{err_from_is_err_and}
use Rattle.run_cuts.proofs.Phases.{HeaderTold, guards-refused, unheaded, begun-header}
use Rattle.run_guards.proofs.guards.check_header.Goals as goal

pub returns-in_err-header : goal.returns-in_err-header
returns-in_err-header c =
    let told : HeaderTold c.read_header.result c.map_err.result = search rules in
    let p = err_from_is_err_and c.from_residual.result c.from_residual.ensures.1 in
    rw (p.1, p.2) (guards-refused (unheaded c.requires c.read_header.ensures told c.in_err-header.was))

pub check_sized-requires-clause-begun : goal.check_sized-requires-clause-begun
check_sized-requires-clause-begun c =
    let told : HeaderTold c.read_header.result c.map_err.result = search rules in
    begun-header c.requires c.read_header.ensures told c.in_ok-header.was

pub check_sized-requires-2-clause-begun : goal.check_sized-requires-2-clause-begun
check_sized-requires-2-clause-begun c =
    let told : HeaderTold c.read_header.result c.map_err.result = search rules in
    begun-header c.requires c.read_header.ensures told c.in_ok-header.was
