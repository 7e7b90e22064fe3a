-- `fields::header::header_field` meets its contract: each `return` cites the law for its way. Assumes nothing.
use mathlib.Core.Path.{sym, ◌∙◌}
use native.Mathlib.Omega.{arith}
use Rattle.std.proofs.lemmas.Result.{err_from_is_err_and}
use Rattle.fields.proofs.Places.{starts-required, ended}
use Rattle.fields.proofs.Headers.{known-header, field-unknown, field-other, field-size, field-value, field-none}
use Rattle.fields.proofs.header.header_field.Goals as goal

pub returns-in_err-field : goal.returns-in_err-field
returns-in_err-field c =
    let p = err_from_is_err_and c.from_residual.result c.from_residual.ensures.1 in
    let e = ended _ c.next_or_fault.ensures c.in_err-field.was in
    rw (p.1, p.2, e.0) (field-none _ _ e.1)

pub returns-then-field-ne1 : goal.returns-then-field-ne1
returns-then-field-ne1 c =
    rw c.refused.ensures (field-size (starts-required c.next_or_fault.ensures c.in_ok-field.was) (rw c.if-field-tag.true (known-header _ _ c.requires)) c.if-field-tag.true c.if-field-ne1.true)

pub bounds-s-field : goal.bounds-s-field
bounds-s-field c =
    let k = starts-required c.next_or_fault.ensures c.in_ok-field.was in
    omega (arith, k.upto, k.next-is, c.if-field-ne1.false)

pub returns-then-field-tag : goal.returns-then-field-tag
returns-then-field-tag c = field-value (starts-required c.next_or_fault.ensures c.in_ok-field.was) (rw c.if-field-tag.true (known-header _ _ c.requires)) c.if-field-tag.true c.if-field-ne1.false

pub returns-then-known : goal.returns-then-known
returns-then-known c = rw c.refused-then-known.ensures (field-other (starts-required c.next_or_fault.ensures c.in_ok-field.was) (sym c.known.ensures ∙ c.if-known.true) c.if-field-tag.false)

pub returns : goal.returns
returns c = rw c.refused-2.ensures (field-unknown (starts-required c.next_or_fault.ensures c.in_ok-field.was) (sym c.known.ensures ∙ c.if-known.false))
