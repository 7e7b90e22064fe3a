-- `formula_leaf::with_vector` meets its contract. Assumes nothing.
use Rattle.std.proofs.Common.{◌≡◌, ◌+◌, ◌-◌, ◌*◌, arith}
use Rattle.formula_leaf.proofs.Leaves.{vector-registers, unasked, asked}
use Rattle.formula_leaf.proofs.with_vector.Goals as goal

pub returns-then-left-eq0 : goal.returns-then-left-eq0
returns-then-left-eq0 c = unasked _ _ _ _ c.if-left-eq0.true

pub overflow_mul-from : goal.overflow_mul-from
overflow_mul-from c = omega (arith, c.requires.vector_at.room)

pub overflow_add-end : goal.overflow_add-end
overflow_add-end c = omega (arith, c.requires.vector_at.room)

pub slice_bounds-holds_of-count : goal.slice_bounds-holds_of-count
slice_bounds-holds_of-count c = omega arith

pub holds_of-requires : goal.holds_of-requires
holds_of-requires c = record { proper = c.requires.proper; k_in_bounds = c.requires.k_in_bounds; registers = vector-registers c.requires.vector_at }

pub returns-then-holds_of : goal.returns-then-holds_of
returns-then-holds_of c =
    let e : c.args.i * c.args.k + c.args.k - c.args.i * c.args.k ≡ c.args.k = omega arith in
    asked _ _ _ _ c.if-left-eq0.false (rw e at c.holds_of.ensures) (rw c.if-holds_of.true (omega arith))

pub returns : goal.returns
returns c =
    let e : c.args.i * c.args.k + c.args.k - c.args.i * c.args.k ≡ c.args.k = omega arith in
    asked _ _ _ _ c.if-left-eq0.false (rw e at c.holds_of.ensures) (rw c.if-holds_of.false (omega arith))
