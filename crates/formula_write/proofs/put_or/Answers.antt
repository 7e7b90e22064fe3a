-- `formula_write::put_or` meets its contract. Assumes nothing.
use Rattle.formula_write.proofs.Storing.{stores-head, stores-none}
use Rattle.formula_write.proofs.put_or.Goals as goal

pub returns-then-others : goal.returns-then-others
returns-then-others c = rw c.if-others.true (stores-head c.put_pair.ensures)

pub returns : goal.returns
returns c = rw c.if-others.false stores-none
