-- `formula_leaf::leaf_marks` meets its contract. Assumes nothing.
use Rattle.std.proofs.Common.{arith}
use Rattle.formula_leaf.proofs.Leaves.{stored-form}
use Rattle.formula_leaf.proofs.Masks.{marks-none}
use Rattle.formula_leaf.proofs.leaf_marks.Goals as goal

pub returns-then-active-eq0 : goal.returns-then-active-eq0
returns-then-active-eq0 c = record { small = omega arith; is = marks-none c.if-active-eq0.true }

pub returns : goal.returns
returns c =
    let a = c.args in
    record { small = c.marks.ensures.small; is = rw (stored-form _ a.s.now a.at a.k (omega (arith, c.requires.block.few)) c.store_numbers.ensures) at c.marks.ensures.is }
