-- `check_output::deliver` meets its contract, each way. Assumes nothing.
use native.Mathlib.Omega.{arith}
use Rattle.check_output.proofs.Delivering.{deliver-long, deliver-short, deliver-done}
use borrow.Author.Rules.{rules}
use Rattle.check_output.proofs.deliver.Goals as goal

pub overflow_add-needed : goal.overflow_add-needed
overflow_add-needed c =
    let few = c.requires.few in
    search rules

pub returns-then-needed-gt-FORMULA_BYTES : goal.returns-then-needed-gt-FORMULA_BYTES
returns-then-needed-gt-FORMULA_BYTES c = deliver-long c.if-needed-gt-FORMULA_BYTES.true c.refusal.ensures

pub returns-then-out-needed : goal.returns-then-out-needed
returns-then-out-needed c = deliver-short c.if-needed-gt-FORMULA_BYTES.false (c.requires.room (omega (arith, c.if-needed-gt-FORMULA_BYTES.false))) c.if-out-needed.true c.refusal-then-out-needed.ensures

pub copy_bytes-requires : goal.copy_bytes-requires
copy_bytes-requires c =
    let room = c.requires.room (omega (arith, c.if-needed-gt-FORMULA_BYTES.false)) in
    search rules

pub returns : goal.returns
returns c = deliver-done c.if-needed-gt-FORMULA_BYTES.false (c.requires.room (omega (arith, c.if-needed-gt-FORMULA_BYTES.false))) c.if-out-needed.false c.put_header.ensures c.copy_bytes.ensures c.acceptance.ensures
