-- `fields::header::read_edition` meets its contract: each `return` cites the law for its way. Assumes nothing.
use mathlib.Core.Path.{sym, ◌∙◌}
use Rattle.std.proofs.lemmas.Result.{err_from_is_err_and}
use Rattle.fields.proofs.Headers.{edition-refused, edition-other, edition-value}
use Rattle.fields.specs.Header.{header_tag}
use borrow.Author.Rules.{rules}
use Rattle.fields.proofs.header.read_edition.Goals as goal

pub header_field-requires : goal.header_field-requires
unfolding header_tag
header_field-requires c = search rules

pub returns-in_err-field : goal.returns-in_err-field
returns-in_err-field c = let p = err_from_is_err_and c.from_residual.result c.from_residual.ensures.1 in rw (p.1, p.2) (edition-refused c.header_field.ensures c.in_err-field.was)

pub returns-then-not-between : goal.returns-then-not-between
returns-then-not-between c = rw c.refused.ensures (edition-other c.header_field.ensures c.in_ok-field.was (sym c.between.ensures ∙ c.if-not-between.true))

pub returns : goal.returns
returns c = edition-value c.header_field.ensures c.in_ok-field.was (sym c.between.ensures ∙ c.if-not-between.false)
