-- `closes::closing::test_number` meets its contract. Assumes nothing.
use mathlib.Core.Path.{◌∙◌}
use native.Mathlib.Omega.{arith}
use mir.Syntax.{w64}
use mir.ValLaws.{to_z-of_z}
use Rattle.lines.proofs.KindBytes.{kind-apart}
use Rattle.lines.proofs.Tests.{is_below, past}
use Rattle.closes.proofs.NumberTests.{line-end, line_low, number-none, number-apart, number-coeffs, number-d, number_passed}
use Rattle.closes.proofs.closing.test_number.Goals as goal

pub returns-then-not-is_there : goal.returns-then-not-is_there
returns-then-not-is_there c =
    let a = c.args in
    number-none a.k a.kinds.now a.lines.now a.tally a.i.0 (past a.i.0 a.tally.lines.0 c.is_there.ensures c.if-not-is_there.true)

pub kind_of-kind-requires : goal.kind_of-kind-requires
kind_of-kind-requires c =
    let a = c.args in
    let h = is_below a.i.0 a.tally.lines.0 c.is_there.ensures c.if-not-is_there.false in
    omega (arith, c.requires.room)

pub returns-then-kind-gt-EQUALITY : goal.returns-then-kind-gt-EQUALITY
returns-then-kind-gt-EQUALITY c =
    let a = c.args in
    let h = is_below a.i.0 a.tally.lines.0 c.is_there.ensures c.if-not-is_there.false in
    number-apart a.k a.kinds.now a.lines.now a.tally a.i.0 h (kind-apart _ _ _ _ c.kind_of-kind.ensures (omega (arith, c.if-kind-gt-EQUALITY.true)))

pub place-t-requires : goal.place-t-requires
place-t-requires c =
    let a = c.args in
    let h = is_below a.i.0 a.tally.lines.0 c.is_there.ensures c.if-not-is_there.false in
    (line_low c.requires h, c.requires.branch.constants)

pub all_zero-requires : goal.all_zero-requires
all_zero-requires c =
    let a = c.args in
    let h = is_below a.i.0 a.tally.lines.0 c.is_there.ensures c.if-not-is_there.false in
    let r = line-end c.requires h in
    omega (arith, c.place-t.ensures)

pub returns-then-not-all_zero : goal.returns-then-not-all_zero
returns-then-not-all_zero c =
    let a = c.args in
    let h = is_below a.i.0 a.tally.lines.0 c.is_there.ensures c.if-not-is_there.false in
    number-coeffs a.k a.kinds.now a.lines.now a.tally a.i.0 h c.kind_of-kind.ensures (omega (arith, c.if-kind-gt-EQUALITY.false)) c.place-t.ensures c.all_zero.ensures c.if-not-all_zero.true

pub overflow_add-t : goal.overflow_add-t
overflow_add-t c =
    let a = c.args in
    let h = is_below a.i.0 a.tally.lines.0 c.is_there.ensures c.if-not-is_there.false in
    let r = line-end c.requires h in
    omega (arith, c.place-t.ensures)

pub number-d-requires : goal.number-d-requires
number-d-requires c =
    let a = c.args in
    let h = is_below a.i.0 a.tally.lines.0 c.is_there.ensures c.if-not-is_there.false in
    let r = line-end c.requires h in
    omega (arith, c.place-t.ensures)

pub returns-then-not-is_false : goal.returns-then-not-is_false
returns-then-not-is_false c =
    let a = c.args in
    let h = is_below a.i.0 a.tally.lines.0 c.is_there.ensures c.if-not-is_there.false in
    number-d a.k a.kinds.now a.lines.now a.tally a.i.0 h c.kind_of-kind.ensures (omega (arith, c.if-kind-gt-EQUALITY.false)) c.place-t.ensures c.all_zero.ensures c.if-not-all_zero.false (to_z-of_z w64 c.number-d.result (record { sfits = c.number-d.type_inv }) ∙ c.number-d.ensures) c.is_false.ensures c.if-not-is_false.true

pub returns : goal.returns
returns c =
    let a = c.args in
    let h = is_below a.i.0 a.tally.lines.0 c.is_there.ensures c.if-not-is_there.false in
    number_passed a.k a.kinds.now a.lines.now a.tally a.i.0 h c.kind_of-kind.ensures (omega (arith, c.if-kind-gt-EQUALITY.false)) c.place-t.ensures c.all_zero.ensures c.if-not-all_zero.false (to_z-of_z w64 c.number-d.result (record { sfits = c.number-d.type_inv }) ∙ c.number-d.ensures) c.is_false.ensures c.if-not-is_false.false
