-- `shortening_stack::Outline::advance` meets its contract, each way. Assumes nothing.
use Rattle.shortening_stack.proofs.Stacks.{advanced-closes, closed-few}
use Rattle.shortening_stack.proofs.Outline.advance.Goals as goal

pub returns-in_default-clause-moved : goal.returns-in_default-clause-moved
returns-in_default-clause-moved c = let s = c.args.standing in advanced-closes c.args.self.class c.args.self.come s.lines s.kept s.depth c.args.steps.now c.in_default.not-Makes c.in_default.not-Branches c.end_branch.ensures.popped

pub returns-in_default-clause-few : goal.returns-in_default-clause-few
returns-in_default-clause-few c = closed-few c.args.self.come c.end_branch.ensures.few
