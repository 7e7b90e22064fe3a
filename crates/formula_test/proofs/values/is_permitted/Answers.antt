-- `formula_test::values::is_permitted` meets its contract. Assumes nothing.
use mir.Syntax.{w32}
use mir.ValLaws.{to_z-of_z}
use Rattle.integers.proofs.Machine.{low-test, high-test}
use Rattle.formula_test.proofs.values.is_permitted.Goals as goal

pub returns-then-x-le-MOST : goal.returns-then-x-le-MOST
returns-then-x-le-MOST c =
    let e = to_z-of_z w32 c.args.x c.ranges.x in
    rw e (low-test 999999 c.args.x (rw e at c.if-x-le-MOST.true))

pub returns-else-x-le-MOST : goal.returns-else-x-le-MOST
returns-else-x-le-MOST c =
    let e = to_z-of_z w32 c.args.x c.ranges.x in
    rw e (high-test 999999 c.args.x (rw e at c.if-x-le-MOST.false))
