-- `formula_list::range::outside_at` meets its contract. Assumes nothing.
use Rattle.formula_list.proofs.ValuesInRange.{none-outside}
use Rattle.formula_list.proofs.range.outside_at.Goals as goal

pub returns-then-all_permitted : goal.returns-then-all_permitted
returns-then-all_permitted c = none-outside c.all_permitted.ensures c.if-all_permitted.true

pub returns : goal.returns
returns c = c.first_outside.ensures
