-- `formula_block::fill::fill` meets its contract. Assumes nothing.
use borrow.Author.Rules.{rules}
use native.Mathlib.Omega.{arith}
use Rattle.formula_block.proofs.Blocks.{size-left, size-most, bits-part, filling-start, block_room, block-part, filling-on, filling-end}
use Rattle.formula_block.proofs.fill.fill.Goals as goal

pub loop-i-init : goal.loop-i-init
loop-i-init c = filling-start _ _ _ _ _ _

pub overflow_sub-n : goal.overflow_sub-n
overflow_sub-n c = omega arith

pub overflow_mul-from : goal.overflow_mul-from
overflow_mul-from c = omega (arith, c.requires.vector_list.count, block_room c.requires.vector_list (size-left _ _ _ c.min-size.ensures) c.loop-i-test.true)

pub overflow_mul-end : goal.overflow_mul-end
overflow_mul-end c = omega (arith, block_room c.requires.vector_list (size-left _ _ _ c.min-size.ensures) c.loop-i-test.true)

pub overflow_add-end : goal.overflow_add-end
overflow_add-end c = omega (arith, block_room c.requires.vector_list (size-left _ _ _ c.min-size.ensures) c.loop-i-test.true)

pub offset_bounds-values-from : goal.offset_bounds-values-from
offset_bounds-values-from c = let h = block_room c.requires.vector_list (size-left _ _ _ c.min-size.ensures) c.loop-i-test.true in search rules

pub slice_bounds-block_judged-count : goal.slice_bounds-block_judged-count
slice_bounds-block_judged-count c = omega arith

pub slice_bounds-block_judged-end : goal.slice_bounds-block_judged-end
slice_bounds-block_judged-end c = let h = block_room c.requires.vector_list (size-left _ _ _ c.min-size.ensures) c.loop-i-test.true in search rules

pub block_judged-judged-requires : goal.block_judged-judged-requires
block_judged-judged-requires c = block-part c.requires.vector_list (size-left _ _ _ c.min-size.ensures) c.loop-i-test.true (size-most _ _ _ c.min-size.ensures) c.all_of.ensures

pub overflow_add-i : goal.overflow_add-i
overflow_add-i c = omega (arith, c.requires.n_in_bounds, (size-left _ _ _ c.min-size.ensures))

pub loop-i-smaller : goal.loop-i-smaller
loop-i-smaller c = omega (arith, c.loop-i-test.true, c.min-size.ensures, (size-left _ _ _ c.min-size.ensures))

pub loop-i-preserved : goal.loop-i-preserved
loop-i-preserved c = filling-on c.requires.vector_list (size-left _ _ _ c.min-size.ensures) c.loop-i-test.true c.loop-i.invariant c.all_of.ensures c.block_judged-judged.ensures (bits-part c.loop-i.out c.loop-i.i c.min-size.result c.block_judged-judged.result.mask (omega (arith, c.requires.n_in_bounds, c.loop-i.invariant.long, size-left _ _ _ c.min-size.ensures)) c.put_bits.ensures)

pub shape_of-out : goal.shape_of-out
shape_of-out c = c.loop-i.invariant.long

pub returns : goal.returns
returns c = filling-end c.loop-i.invariant c.loop-i-test.false
