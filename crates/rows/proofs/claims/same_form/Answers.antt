-- `rows::claims::same_form` meets its contract. Assumes nothing.
use native.Mathlib.Omega.{arith}
use Rattle.rows.proofs.Claiming.{claim-on, claim-off, claim-end}
use Rattle.rows.proofs.claims.same_form.Goals as goal

pub returns-then-not-same : goal.returns-then-not-same
returns-then-not-same c = claim-off _ _ _ c.loop-x.invariant (omega arith) c.requires.lines_in_bounds c.signed_at-n.ensures.is c.number.ensures c.signed_at-n.type_inv c.number.type_inv c.same.ensures c.if-not-same.true

pub loop-x-preserved : goal.loop-x-preserved
loop-x-preserved c = claim-on _ _ _ c.loop-x.invariant (omega arith) c.requires.lines_in_bounds c.signed_at-n.ensures.is c.number.ensures c.signed_at-n.type_inv c.number.type_inv c.same.ensures c.if-not-same.false

pub returns : goal.returns
returns c = claim-end _ _ _ c.loop-x.invariant (omega arith)
