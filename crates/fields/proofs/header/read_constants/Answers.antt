-- `fields::header::read_constants` meets its contract: each `return` cites the law for its way. Assumes nothing.
use mathlib.Core.Path.{sym, ◌∙◌}
use Rattle.std.proofs.lemmas.Result.{err_from_is_err_and}
use Rattle.fields.proofs.Headers.{k-refused, k-range, k-other, k-agrees}
use Rattle.fields.specs.Header.{header_tag}
use borrow.Author.Rules.{rules}
use Rattle.fields.proofs.header.read_constants.Goals as goal

pub header_field-requires : goal.header_field-requires
unfolding header_tag
header_field-requires c = search rules

pub returns-in_err-field : goal.returns-in_err-field
returns-in_err-field c = let p = err_from_is_err_and c.from_residual.result c.from_residual.ensures.1 in rw (p.1, p.2) (k-refused c.header_field.ensures c.in_err-field.was)

pub returns-then-not-between : goal.returns-then-not-between
returns-then-not-between c = rw c.refused.ensures (k-range c.header_field.ensures c.in_ok-field.was (sym c.between.ensures ∙ c.if-not-between.true))

pub returns-then-not-agreeing : goal.returns-then-not-agreeing
returns-then-not-agreeing c =
    rw c.refused-then-not-agreeing.ensures (k-other c.header_field.ensures c.in_ok-field.was (sym c.between.ensures ∙ c.if-not-between.false) (sym c.agreeing.ensures ∙ c.if-not-agreeing.true))

pub returns : goal.returns
returns c = k-agrees c.header_field.ensures c.in_ok-field.was (sym c.between.ensures ∙ c.if-not-between.false) (sym c.agreeing.ensures ∙ c.if-not-agreeing.false)
