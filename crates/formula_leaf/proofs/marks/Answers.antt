-- `formula_leaf::marks` meets its contract. Assumes nothing.
use Rattle.std.proofs.Common.{refl, arith}
use Rattle.formula_leaf.proofs.Masks.{marking-start, marking-there, marking-sum, marking-next, marking-on, marking-end}
use Rattle.formula_leaf.proofs.Leaves.{block-vector}
use Rattle.formula_leaf.proofs.marks.Goals as goal

pub loop-left-init : goal.loop-left-init
loop-left-init c = marking-start _ _ _ _ _

pub with_vector-mask-requires : goal.with_vector-mask-requires
with_vector-mask-requires c =
    let b = c.requires.block in
    let g = c.loop-left.invariant in
    record {
      proper = c.requires.proper;
      k_in_bounds = c.requires.k_in_bounds;
      vector_at = block-vector b (marking-there g b.below c.loop-left-test.true);
      p_bound = marking-sum g b.below b.size c.loop-left-test.true;
    }

pub overflow_mul-p : goal.overflow_mul-p
overflow_mul-p c = let b = c.requires.block in record { fits = marking-next c.loop-left.invariant b.below b.size c.loop-left-test.true }

pub overflow_add-i : goal.overflow_add-i
overflow_add-i c = let b = c.requires.block in omega (arith, b.size, marking-there c.loop-left.invariant b.below c.loop-left-test.true)

pub loop-left-smaller : goal.loop-left-smaller
loop-left-smaller c = omega arith

pub loop-left-preserved : goal.loop-left-preserved
loop-left-preserved c = let b = c.requires.block in marking-on c.loop-left.invariant (marking-there c.loop-left.invariant b.below c.loop-left-test.true) _ refl c.with_vector-mask.ensures

pub returns : goal.returns
returns c = let m = marking-end c.loop-left.invariant c.loop-left-test.false in record { small = m.0; is = m.1 }
