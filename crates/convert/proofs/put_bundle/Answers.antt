-- `convert::put_bundle` meets its contract. Assumes nothing.
use Prim.Native.Nat.{◌+◌, ◌*◌, ◌≤◌}
use native.Mathlib.Omega.{arith}
use Rattle.convert.proofs.Constraints.{left, size-most, bundle-output-short, bundle-put}
use Rattle.convert.proofs.put_bundle.Goals as goal

pub overflow_mul-size-2 : goal.overflow_mul-size-2
overflow_mul-size-2 c =
    let h : 8 + c.args.body.count * (3 + (c.args.k + 1) * c.coefficient_bytes.result) ≤ 8_192 = rw c.coefficient_bytes.ensures (size-most c.args.to c.args.file.now c.args.out.now c.args.k c.args.body c.requires) in
    record { fits = omega (arith, h) }

pub overflow_add-size-3 : goal.overflow_add-size-3
overflow_add-size-3 c =
    let h : 8 + c.args.body.count * (3 + (c.args.k + 1) * c.coefficient_bytes.result) ≤ 8_192 = rw c.coefficient_bytes.ensures (size-most c.args.to c.args.file.now c.args.out.now c.args.k c.args.body c.requires) in
    record { fits = omega (arith, h) }

pub returns-then-out-size : goal.returns-then-out-size
returns-then-out-size c = bundle-output-short c.args.to c.args.file.now c.args.out.now c.args.k c.args.body c.requires (rw c.coefficient_bytes.ensures at c.if-out-size.true) (rw c.coefficient_bytes.ensures at c.refused.ensures)

pub put_turned-requires : goal.put_turned-requires
put_turned-requires c = record { constraints_left = left c.args.to c.args.file.now c.args.k c.args.body c.requires.hold; at_value = c.requires.fits; k_in_bounds = rw c.coefficient_bytes.ensures at c.if-out-size.false }

pub returns : goal.returns
returns c = rw c.coefficient_bytes.ensures (bundle-put c.args.to c.args.file.now c.args.out.now c.args.k c.args.body c.requires (rw c.coefficient_bytes.ensures at c.if-out-size.false) c.put_turned.ensures c.acceptance.ensures)
