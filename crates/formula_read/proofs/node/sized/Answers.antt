-- `formula_read::node::sized` meets its contract. Assumes nothing.
use borrow.Author.Tests.{eq-eqb, ne_eqb}
use Rattle.formula_read.specs.Nodes.{sized}
use Rattle.formula_read.proofs.node.sized.Goals as goal

pub returns-then-len-size : goal.returns-then-len-size
unfolding sized
returns-then-len-size c = rw (eq-eqb _ _ c.if-len-size.true)

pub returns : goal.returns
unfolding sized
returns c = rw (ne_eqb _ _ c.if-len-size.false)
