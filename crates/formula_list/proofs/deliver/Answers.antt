-- `formula_list::deliver` meets its contract. Assumes nothing.
use Rattle.formula_list.proofs.Phases.{too_short, filled}
use Rattle.formula_list.proofs.deliver.Goals as goal

pub returns-then-out-n : goal.returns-then-out-n
returns-then-out-n c = too_short c.requires.to_read c.requires.stands _ c.if-out-n.true c.refuse.ensures

pub fill-requires : goal.fill-requires
fill-requires c = record { vector_list = c.requires.to_read.vectors; n_in_bounds = c.if-out-n.false }

pub shape_of-out : goal.shape_of-out
shape_of-out c = c.fill.ensures.long

pub returns : goal.returns
returns c = rw c.acceptance-answer.ensures (filled c.requires.to_read c.requires.stands c.if-out-n.false c.fill.ensures)
