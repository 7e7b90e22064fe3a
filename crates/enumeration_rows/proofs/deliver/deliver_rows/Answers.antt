-- `enumeration_rows::deliver::deliver_rows` meets its contract. Assumes nothing.
use mathlib.Core.Path.{refl}
use mathlib.Core.List.{◌++◌}
use Prim.Native.Nat.{◌+◌}
use native.Mathlib.Omega.{arith}
use lib.ListN.{length, get_or}
use Rattle.fields.specs.Header.{header_bytes}
use Rattle.enumeration_rows.proofs.DeliveredTables.{tell-short, tell-done, told-rows, headed-size, bytes_at, rows-few, close-size-left, table-start, table-on, table-closed}
use Rattle.enumeration_rows.proofs.Stored.{inference-size, close-size}
use Rattle.enumeration_rows.proofs.deliver.deliver_rows.Goals as goal

pub overflow_add-needed : goal.overflow_add-needed
overflow_add-needed c = omega (arith, rows-few c.sizes.invariant, c.inference_bytes-needed.ensures, inference-size (c.args.n + c.sizes.i) (get_or c.args.inferences.now c.sizes.i 0), c.requires.0)

pub overflow_add-needed-2 : goal.overflow_add-needed-2
overflow_add-needed-2 c = omega (arith, rows-few c.sizes.invariant, c.close_bytes-needed.ensures, close-size (c.args.n + length c.args.inferences.now) c.args.c, c.requires.0)

pub returns-then-out-needed : goal.returns-then-out-needed
returns-then-out-needed c = tell-short (header_bytes 1 c.args.k ++ bytes_at c.args.n c.args.inferences.now c.args.c) (told-rows c.args.k c.args.n c.args.inferences.now c.args.c c.requires.0 c.requires.1)
    (omega (arith, headed-size c.args.k (bytes_at c.args.n c.args.inferences.now c.args.c), close-size-left c.sizes.invariant c.sizes-test.false c.sizes.auto.i-end, c.close_bytes-needed.ensures)) c.if-out-needed.true c.refusal.ensures

pub rows-init : goal.rows-init
rows-init c = table-start c.requires.1 c.put_header.ensures

pub rows-preserved : goal.rows-preserved
rows-preserved c = table-on c.rows.invariant c.rows-test.true refl c.put_inference.ensures c.inference_bytes-at.ensures

pub returns : goal.returns
returns c = tell-done (header_bytes 1 c.args.k ++ bytes_at c.args.n c.args.inferences.now c.args.c) (told-rows c.args.k c.args.n c.args.inferences.now c.args.c c.requires.0 c.requires.1)
    (omega (arith, headed-size c.args.k (bytes_at c.args.n c.args.inferences.now c.args.c), close-size-left c.sizes.invariant c.sizes-test.false c.sizes.auto.i-end, c.close_bytes-needed.ensures)) c.if-out-needed.false
    (table-closed c.rows.invariant c.rows-test.false c.rows.auto.i-end c.put_close.ensures) c.written.ensures
