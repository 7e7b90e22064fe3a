-- `bundle_read::store_body` meets its contract: each `return` cites the law for its way. Assumes nothing.
use mathlib.Core.Path.{sym, ◌∙◌}
use Prim.Native.Nat.{◌+◌, ◌≤◌}
use native.Mathlib.Nat.{mul-le-mul}
use native.Mathlib.Omega.{arith}
use Rattle.bundle_scan.proofs.Bodies.{few, high}
use Rattle.bundle_read.proofs.Reading.{read-unread, short-kinds, short-numbers, read-stored}
use Rattle.bundle_read.proofs.store_body.Goals as goal

pub returns-then-kinds-count : goal.returns-then-kinds-count
returns-then-kinds-count c = read-unread _ _ c.refused_read.ensures ∙ sym (short-kinds _ _ c.requires c.if-kinds-count.true)

pub overflow_mul-count : goal.overflow_mul-count
overflow_mul-count c =
    let k : c.args.k + 1 ≤ 17 = omega (arith, high c.requires) in
    record { fits = omega (arith, mul-le-mul (few c.requires) k) }

pub returns-then-numbers-count : goal.returns-then-numbers-count
returns-then-numbers-count c = read-unread _ _ c.refused_read-then-numbers-count.ensures ∙ sym (short-numbers _ _ c.requires c.if-kinds-count.false c.if-numbers-count.true)

pub store_constraints-requires-clause-few : goal.store_constraints-requires-clause-few
store_constraints-requires-clause-few c = high c.requires

pub returns : goal.returns
returns c = rw c.acceptance.ensures (read-stored _ _ c.requires c.if-kinds-count.false c.if-numbers-count.false c.of_coefficients-width.ensures c.store_constraints.ensures.kinds c.store_constraints.ensures.numbers)
