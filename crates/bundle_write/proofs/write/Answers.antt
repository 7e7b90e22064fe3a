-- `bundle_write::write` meets its contract: each `return` cites the law for its way. Assumes nothing.
use mathlib.Core.Path.{◌∙◌}
use Rattle.bundle_write.proofs.Writing.{granted, not-granted, write-refused, write-short, write-all}
use Rattle.bundle_write.proofs.write.Goals as goal

pub returns-in-Err : goal.returns-in-Err
returns-in-Err c = rw c.refusal.ensures (write-refused _ _ _ _ _ (not-granted c.order.ensures c.in-Err.is))

pub returns-then-out-needed : goal.returns-then-out-needed
returns-then-out-needed c = rw c.refusal-then-out-needed.ensures (write-short _ _ _ _ _ (granted c.order.ensures c.in-Ok.is) (c.bytes.ensures ∙ c.of_coefficients-width.ensures) c.if-out-needed.true)

pub returns : goal.returns
returns c =
    rw c.acceptance.ensures
    (write-all _ _ _ _ _ (granted c.order.ensures c.in-Ok.is) (c.bytes.ensures ∙ c.of_coefficients-width.ensures) c.if-out-needed.false c.put_header.ensures c.put_constraints.ensures)
