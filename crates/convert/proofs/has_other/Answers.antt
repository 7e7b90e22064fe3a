-- `convert::has_other` meets its contract. Assumes nothing.
use Rattle.std.proofs.lemmas.Result.{err_from_is_err_and}
use Rattle.convert.proofs.Other.{other-fine, other-there, other-refused, read-within}
use Rattle.convert.proofs.has_other.Goals as goal

pub returns-in_err-edition : goal.returns-in_err-edition
returns-in_err-edition c =
    let p = err_from_is_err_and c.from_residual.result c.from_residual.ensures.1 in
    rw (p.1, p.2) (other-refused _ _ _ c.read_edition.ensures c.requires c.in_err-edition.was)

pub returns-then-edition-to : goal.returns-then-edition-to
returns-then-edition-to c = other-there _ _ _ c.read_edition.ensures c.requires c.in_ok-edition.was c.if-edition-to.true c.first_place.ensures

pub returns : goal.returns
returns c =
    let v = read-within _ _ c.read_edition.ensures c.in_ok-edition.was in
    other-fine _ _ _ c.read_edition.ensures c.requires c.in_ok-edition.was v.0 v.1 c.if-edition-to.false
