-- `fields::header::read_header` meets its contract: each `return` cites the law for its way. Assumes nothing.
use Rattle.std.proofs.lemmas.Result.{err_from_is_err_and}
use Rattle.fields.proofs.Headers.{header_refused, header-k-refused, header-value}
use Rattle.fields.proofs.header.read_header.Goals as goal

pub returns-in_err-edition : goal.returns-in_err-edition
returns-in_err-edition c = let p = err_from_is_err_and c.from_residual.result c.from_residual.ensures.1 in rw (p.1, p.2) (header_refused c.read_edition.ensures c.in_err-edition.was)

pub returns-in_err-constants : goal.returns-in_err-constants
returns-in_err-constants c = let p = err_from_is_err_and c.from_residual-in_err-constants.result c.from_residual-in_err-constants.ensures.1 in rw (p.1, p.2) (header-k-refused c.read_edition.ensures c.in_ok-edition.was c.read_constants.ensures c.in_err-constants.was)

pub returns : goal.returns
returns c = header-value c.read_edition.ensures c.in_ok-edition.was c.read_constants.ensures c.in_ok-constants.was
