-- `formula_leaf::holds_of` meets its contract. Assumes nothing.
use Rattle.std.proofs.Common.{pos, ◌∙◌, subst, w64}
use mir.ValLaws.{to_z-of_z}
use Rattle.formula_leaf.specs.Leaves.{Proper}
use Rattle.formula_leaf.proofs.Leaves.{literal-holds, power-holds, stride_holds, stride-fits, stride-low}
use Rattle.formula_leaf.proofs.holds_of.Goals as goal

pub divides_word-requires : goal.divides_word-requires
divides_word-requires c = subst Proper c.in-Power.is c.requires.proper

pub overflow_cast-g : goal.overflow_cast-g
overflow_cast-g c = stride-fits (subst Proper c.in-Stride.is c.requires.proper).1

pub divides-requires : goal.divides-requires
divides-requires c = let h = subst Proper c.in-Stride.is c.requires.proper in rw (to_z-of_z w64 (pos c.in-Stride.g) (stride-fits h.1)) (stride-low h.0)

pub returns-in-Literal : goal.returns-in-Literal
returns-in-Literal c = literal-holds _ c.args.vector.now c.in-Literal.is (to_z-of_z w64 c.total_of.result (record { sfits = c.total_of.type_inv }) ∙ c.total_of.ensures) c.says.ensures

pub returns-in-Power : goal.returns-in-Power
returns-in-Power c = power-holds _ c.args.vector.now c.in-Power.is c.requires.proper c.total_of-in-Power.ensures c.divides_word.ensures

pub returns-in-Stride : goal.returns-in-Stride
returns-in-Stride c =
    let h = subst Proper c.in-Stride.is c.requires.proper in
    stride_holds _ c.args.vector.now c.in-Stride.is
    (to_z-of_z w64 c.total_of-in-Stride.result (record { sfits = c.total_of-in-Stride.type_inv }) ∙ c.total_of-in-Stride.ensures)
    (rw (to_z-of_z w64 (pos c.in-Stride.g) (stride-fits h.1)) at c.divides.ensures)
