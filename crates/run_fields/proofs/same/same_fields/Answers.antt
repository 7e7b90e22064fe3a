-- `run_fields::same::same_fields` meets its contract. Assumes nothing.
use Rattle.run_fields.proofs.SameFields.{fields-start, fields-done, fields-differ, fields-next}
use Rattle.run_fields.proofs.same.same_fields.Goals as goal

pub loop-init : goal.loop-init
loop-init c = fields-start _ _ _ _

pub loop-preserved : goal.loop-preserved
loop-preserved c = fields-next c.loop.invariant c.in-Some.ensures c.loop-test.true

pub returns-in_default : goal.returns-in_default
returns-in_default c = fields-differ c.loop.invariant c.in_default.ensures c.loop-test.true

pub returns : goal.returns
returns c = fields-done c.loop.invariant c.loop-test.false
