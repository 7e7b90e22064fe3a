-- `shortening_stack::stack::push` meets its contract. Assumes nothing.
use Rattle.shortening_stack.proofs.Stacks.{pushed-some, pushed-few}
use Rattle.shortening_stack.proofs.stack.push.Goals as goal

pub returns-clause-pushed : goal.returns-clause-pushed
returns-clause-pushed c = rw c.from.ensures (pushed-some c.args.steps.now c.args.depth c.args.lines c.args.kept c.args.left c.requires c.if-left-eq0.false)

pub returns-clause-few : goal.returns-clause-few
returns-clause-few c = rw c.from.ensures (pushed-few c.args.steps.now c.args.depth c.args.lines c.args.kept c.args.left c.requires)
