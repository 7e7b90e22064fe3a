-- `shortening_stack::stack::end_branch` meets its contract. Assumes nothing.
use native.Mathlib.Omega.{arith}
use Rattle.shortening_stack.proofs.Stacks.{close-one, close-few}
use Rattle.shortening_stack.proofs.stack.end_branch.Goals as goal

pub returns-clause-popped : goal.returns-clause-popped
returns-clause-popped c = close-one c.args.steps.now c.args.depth c.if-depth-eq0.false c.requires (omega (arith, c.if-left-le1.false))

pub returns-clause-few : goal.returns-clause-few
returns-clause-few c = close-few c.args.steps.now c.args.depth c.if-depth-eq0.false c.requires
