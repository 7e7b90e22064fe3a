-- `run_fields::same::same_field` meets its contract. Assumes nothing.
use native.Mathlib.Omega.{arith}
use Rattle.fields.proofs.Places.{starts}
use Rattle.run_fields.proofs.SameFields.{none_first, none-second, tags-differ, lengths_differ, contents-differ, fields-same}
use Rattle.run_fields.proofs.same.same_field.Goals as goal
use Rattle.run_fields.proofs.same.same_field.Goals.{else-first-second-via-then-first-second+then-first-second-2+else-same_bytes, else-first-second-via-then-first-second+else-first-second-2, else-first-second-via-else-first-second}

pub returns-in_default : goal.returns-in_default
returns-in_default c = none_first _ _ _ c.in_default.not-Ok c.next_field.ensures

pub returns-in_default-next_field : goal.returns-in_default-next_field
returns-in_default-next_field c = none-second _ _ _ c.in_default-next_field.not-Ok c.next_field-2.ensures

pub same_bytes-requires : goal.same_bytes-requires
same_bytes-requires c =
    let x = starts c.next_field.ensures c.in-Ok.is in
    let y = starts c.next_field-2.ensures c.in-Ok-next_field.is in
    (omega (arith, x.next-is, x.upto), omega (arith, y.next-is, y.upto, c.if-first-second-2.true))

pub returns-then-same_bytes : goal.returns-then-same_bytes
returns-then-same_bytes c = fields-same (starts c.next_field.ensures c.in-Ok.is) (starts c.next_field-2.ensures c.in-Ok-next_field.is) c.if-first-second.true c.if-first-second-2.true c.same_bytes.ensures c.if-same_bytes.true

pub returns : goal.returns
returns c =
    let x = starts c.next_field.ensures c.in-Ok.is in
    let y = starts c.next_field-2.ensures c.in-Ok-next_field.is in
    elim c.else-first-second.branch [
      | else-first-second-via-then-first-second+then-first-second-2+else-same_bytes w ↦ contents-differ x y w.if-first-second.true w.if-first-second-2.true w.same_bytes.ensures w.if-same_bytes.false
      | else-first-second-via-then-first-second+else-first-second-2 w ↦ lengths_differ x y w.if-first-second.true w.if-first-second-2.false
      | else-first-second-via-else-first-second w ↦ tags-differ x y w.if-first-second.false
    ]
