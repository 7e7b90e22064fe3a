-- `formula_leaf::marks` meets its contract. Assumes nothing.
use Rattle.forms.specs.Flat.{form_in}
use Rattle.formula_leaf.specs.Leaves.{leaf_formula}
use Rattle.formula_leaf.proofs.Masks.{Marking}
use Rattle.formula_leaf.proofs.marks.Given as goal

abbrev pub invariant-loop-left : goal.invariant-loop-left
invariant-loop-left l = Marking (leaf_formula l.leaf (form_in l.k l.numbers 0)) l.values l.k l.n l.active l.left l.mask l.p l.i

abbrev pub decreases-loop-left : goal.decreases-loop-left
decreases-loop-left l = l.left
