-- `bundle_scan::scan` meets its contract: each `return` cites the law for its way. Assumes nothing.
use Rattle.std.proofs.lemmas.Result.{err_from_is_err_and}
use Rattle.bundle_scan.proofs.Scanning.{scan-header, seek-fault, seek-count}
use Rattle.bundle_scan.proofs.scan.Goals as goal

pub returns-in_err-head : goal.returns-in_err-head
returns-in_err-head c =
    let p = err_from_is_err_and c.from_residual.result c.from_residual.ensures.1 in
    rw (p.1, p.2) (record { by = scan-header c.open_bundle.ensures c.in_err-head.was })

pub returns-in_err-sought : goal.returns-in_err-sought
returns-in_err-sought c =
    let p = err_from_is_err_and c.from_residual-in_err-sought.result c.from_residual-in_err-sought.ensures.1 in
    rw (p.1, p.2) (seek-fault c.open_bundle.ensures c.in_ok-head.was c.of_coefficients-width.ensures _ c.seek_constraint.ensures c.in_err-sought.was)

pub returns : goal.returns
returns c = seek-count c.open_bundle.ensures c.in_ok-head.was c.of_coefficients-width.ensures _ c.seek_constraint.ensures c.in_ok-sought.was
