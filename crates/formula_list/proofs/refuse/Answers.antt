-- `formula_list::refuse` meets its contract. Assumes nothing.
use Rattle.formula_list.proofs.refuse.Goals as goal

pub returns : goal.returns
returns c = rw c.refusal-answer.ensures
