-- `formula_test::refuse` meets its contract. Assumes nothing.
use Rattle.formula_test.proofs.refuse.Goals as goal

pub returns : goal.returns
returns c = rw c.refusal.ensures
