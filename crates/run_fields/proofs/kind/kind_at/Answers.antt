-- `run_fields::kind::kind_at` meets its contract. Assumes nothing.
use Rattle.std.proofs.lemmas.Result.{err_from_is_err_and}
use Rattle.run_fields.proofs.ByTag.{round-kind, kind-refused, kind-sized, kind-other}
use Rattle.run_fields.proofs.kind.kind_at.Goals as goal

pub returns-then-field-eq22 : goal.returns-then-field-eq22
returns-then-field-eq22 c = round-kind c.if-field-eq22.true c.rounding.ensures

pub returns-in_err-size : goal.returns-in_err-size
returns-in_err-size c =
    let p = err_from_is_err_and c.from_residual.result c.from_residual.ensures.1 in
    rw (p.1, p.2) (kind-refused c.args.proof.now.bytes.now c.args.field.start c.args.field.len c.in_err-size.ensures)

pub returns-then-field-size : goal.returns-then-field-size
returns-then-field-size c = kind-other c.args.proof.now.bytes.now c.args.field.start c.args.field.len c.requires c.in_ok-size.ensures c.if-field-size.true

pub returns : goal.returns
returns c = kind-sized c.args.proof.now.bytes.now c.args.field.start c.args.field.len c.requires c.in_ok-size.ensures c.if-field-size.false
