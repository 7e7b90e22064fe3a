-- `bundle_scan::open_bundle` meets its contract: each `return` cites the law for its way. Assumes nothing.
use Rattle.std.proofs.lemmas.Result.{err_from_is_err_and}
use Rattle.bundle_scan.proofs.Scanning.{open-refused, open-long, open-k-refused, open-value}
use Rattle.bundle_scan.proofs.open_bundle.Goals as goal

pub returns-in_err-edition : goal.returns-in_err-edition
returns-in_err-edition c = let p = err_from_is_err_and c.from_residual.result c.from_residual.ensures.1 in rw (p.1, p.2) (open-refused c.read_edition.ensures c.in_err-edition.was)

pub returns-then-s-bundle_limit : goal.returns-then-s-bundle_limit
returns-then-s-bundle_limit c = open-long c.read_edition.ensures c.in_ok-edition.was (rw c.bundle_limit.ensures at c.if-s-bundle_limit.true)

pub returns-in_err-constants : goal.returns-in_err-constants
returns-in_err-constants c =
    let p = err_from_is_err_and c.from_residual-in_err-constants.result c.from_residual-in_err-constants.ensures.1 in
    rw (p.1, p.2) (open-k-refused c.read_edition.ensures c.in_ok-edition.was (rw c.bundle_limit.ensures at c.if-s-bundle_limit.false) c.read_constants.ensures c.in_err-constants.was)

pub returns : goal.returns
returns c = open-value c.read_edition.ensures c.in_ok-edition.was (rw c.bundle_limit.ensures at c.if-s-bundle_limit.false) c.read_constants.ensures c.in_ok-constants.was
