-- `shortening_table::table_bytes` meets its contract. The invariant `CountingBytes`: what is left to count, with what is counted, gives the whole. Assumes nothing.
use native.Mathlib.Omega.{arith}
use Rattle.fields.proofs.Places.{starts, starts-less}
use Rattle.shortening_table.proofs.Counting.{Passed, kept_lines-fit, passed-claim, passed-row, field-stays, field-goes}
use Rattle.shortening_table.proofs.table_bytes.Goals as goal
use Rattle.shortening_table.proofs.table_bytes.Goals.{then-field-ne32, else-field-ne32}

pub overflow_add-bytes-then-stays : goal.overflow_add-bytes-then-stays
overflow_add-bytes-then-stays c = record { fits = omega (arith, kept_lines-fit c.loop-field.invariant (starts c.next_field.ensures c.in-Ok.is)) }

pub loop-field-smaller-then-stays : goal.loop-field-smaller-then-stays
loop-field-smaller-then-stays c = starts-less (starts c.next_field.ensures c.in-Ok.is)

pub loop-field-preserved-then-stays : goal.loop-field-preserved-then-stays
loop-field-preserved-then-stays c =
    let k = starts c.next_field.ensures c.in-Ok.is in
    let q : Passed c.loop-field.invariant k c.if-field-ne32.rows c.if-field-ne32.stays =
    elim c.if-field-ne32.branch [ then-field-ne32 w ↦ passed-row c.loop-field.invariant k w.if-field-ne32.true w.rows-is w.stays-is | else-field-ne32 w ↦ passed-claim c.loop-field.invariant k w.if-field-ne32.false w.rows-is w.stays-is ] in
    field-stays c.loop-field.invariant k q c.if-stays.true

pub loop-field-smaller : goal.loop-field-smaller
loop-field-smaller c = starts-less (starts c.next_field.ensures c.in-Ok.is)

pub loop-field-preserved : goal.loop-field-preserved
loop-field-preserved c =
    let k = starts c.next_field.ensures c.in-Ok.is in
    let q : Passed c.loop-field.invariant k c.if-field-ne32.rows c.if-field-ne32.stays =
    elim c.if-field-ne32.branch [ then-field-ne32 w ↦ passed-row c.loop-field.invariant k w.if-field-ne32.true w.rows-is w.stays-is | else-field-ne32 w ↦ passed-claim c.loop-field.invariant k w.if-field-ne32.false w.rows-is w.stays-is ] in
    field-goes c.loop-field.invariant k q c.if-stays.false
