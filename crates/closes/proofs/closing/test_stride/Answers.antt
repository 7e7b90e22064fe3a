-- `closes::closing::test_stride` meets its contract. Assumes nothing.
use native.Mathlib.Omega.{arith}
use mathlib.Core.Path.{refl, ◌∙◌}
use borrow.Author.Tests.{lt-leb, le-leb}
use mir.Syntax.{w64}
use mir.ValLaws.{to_z-of_z}
use Rattle.lines.proofs.KindBytes.{kind-=, kind-not-=}
use Rattle.lines.proofs.Tests.{is_below, past}
use Rattle.closes.proofs.NumberTests.{line-end, line_low}
use Rattle.closes.proofs.StrideTests.{at-least-two, stride-none, stride-kind, stride-small, stride-coeffs, stride-d, stride-passed}
use Rattle.closes.proofs.closing.test_stride.Goals as goal

pub returns-then-not-is_there : goal.returns-then-not-is_there
returns-then-not-is_there c = stride-none c.args.k c.args.kinds.now c.args.lines.now c.args.tally c.args.i.0 c.args.g (past c.args.i.0 c.args.tally.lines.0 c.is_there.ensures c.if-not-is_there.true)

pub kind_of-requires : goal.kind_of-requires
kind_of-requires c =
    let h = (is_below c.args.i.0 c.args.tally.lines.0 c.is_there.ensures c.if-not-is_there.false) in
    omega (arith, c.requires.room)

pub returns-then-kind_of-ne-EQUALITY : goal.returns-then-kind_of-ne-EQUALITY
returns-then-kind_of-ne-EQUALITY c = stride-kind c.args.k c.args.kinds.now c.args.lines.now c.args.tally c.args.i.0 c.args.g (is_below c.args.i.0 c.args.tally.lines.0 c.is_there.ensures c.if-not-is_there.false) (kind-not-= _ _ _ _ c.kind_of.ensures c.if-kind_of-ne-EQUALITY.true)

pub returns-then-g-lt2 : goal.returns-then-g-lt2
returns-then-g-lt2 c = stride-small c.args.k c.args.kinds.now c.args.lines.now c.args.tally c.args.i.0 c.args.g (is_below c.args.i.0 c.args.tally.lines.0 c.is_there.ensures c.if-not-is_there.false) (kind-= _ _ _ _ c.kind_of.ensures c.if-kind_of-ne-EQUALITY.false) refl (lt-leb 2 c.args.g c.if-g-lt2.true)

pub place-t-requires : goal.place-t-requires
place-t-requires c =
    let h = (is_below c.args.i.0 c.args.tally.lines.0 c.is_there.ensures c.if-not-is_there.false) in
    (line_low c.requires h, c.requires.branch.constants)

pub all_divisible-requires : goal.all_divisible-requires
all_divisible-requires c =
    let h = (is_below c.args.i.0 c.args.tally.lines.0 c.is_there.ensures c.if-not-is_there.false) in
    let r = line-end c.requires h in
    record { k_in_bounds = omega (arith, c.place-t.ensures); pos_bound = at-least-two (to_z-of_z w64 c.from-stride.result (record { sfits = c.from-stride.type_inv }) ∙ c.from-stride.ensures) c.if-g-lt2.false }

pub returns-then-not-all_divisible : goal.returns-then-not-all_divisible
returns-then-not-all_divisible c = stride-coeffs c.args.k c.args.kinds.now c.args.lines.now c.args.tally c.args.i.0 c.args.g (is_below c.args.i.0 c.args.tally.lines.0 c.is_there.ensures c.if-not-is_there.false) (kind-= _ _ _ _ c.kind_of.ensures c.if-kind_of-ne-EQUALITY.false) refl (le-leb 2 c.args.g c.if-g-lt2.false) (to_z-of_z w64 c.from-stride.result (record { sfits = c.from-stride.type_inv }) ∙ c.from-stride.ensures) c.place-t.ensures c.all_divisible.ensures c.if-not-all_divisible.true

pub overflow_add-t : goal.overflow_add-t
overflow_add-t c =
    let h = (is_below c.args.i.0 c.args.tally.lines.0 c.is_there.ensures c.if-not-is_there.false) in
    let r = line-end c.requires h in
    omega (arith, c.place-t.ensures)

pub number-d-requires : goal.number-d-requires
number-d-requires c =
    let h = (is_below c.args.i.0 c.args.tally.lines.0 c.is_there.ensures c.if-not-is_there.false) in
    let r = line-end c.requires h in
    omega (arith, c.place-t.ensures)

pub divides-requires : goal.divides-requires
divides-requires c =
    at-least-two (to_z-of_z w64 c.from-stride.result (record { sfits = c.from-stride.type_inv }) ∙ c.from-stride.ensures) c.if-g-lt2.false

pub returns-then-divides : goal.returns-then-divides
returns-then-divides c = stride-d c.args.k c.args.kinds.now c.args.lines.now c.args.tally c.args.i.0 c.args.g (is_below c.args.i.0 c.args.tally.lines.0 c.is_there.ensures c.if-not-is_there.false) (kind-= _ _ _ _ c.kind_of.ensures c.if-kind_of-ne-EQUALITY.false) refl (le-leb 2 c.args.g c.if-g-lt2.false) (to_z-of_z w64 c.from-stride.result (record { sfits = c.from-stride.type_inv }) ∙ c.from-stride.ensures) c.place-t.ensures c.all_divisible.ensures c.if-not-all_divisible.false (to_z-of_z w64 c.number-d.result (record { sfits = c.number-d.type_inv }) ∙ c.number-d.ensures) c.divides.ensures c.if-divides.true

pub returns : goal.returns
returns c = stride-passed c.args.k c.args.kinds.now c.args.lines.now c.args.tally c.args.i.0 c.args.g (is_below c.args.i.0 c.args.tally.lines.0 c.is_there.ensures c.if-not-is_there.false) (kind-= _ _ _ _ c.kind_of.ensures c.if-kind_of-ne-EQUALITY.false) refl (le-leb 2 c.args.g c.if-g-lt2.false) (to_z-of_z w64 c.from-stride.result (record { sfits = c.from-stride.type_inv }) ∙ c.from-stride.ensures) c.place-t.ensures c.all_divisible.ensures c.if-not-all_divisible.false (to_z-of_z w64 c.number-d.result (record { sfits = c.number-d.type_inv }) ∙ c.number-d.ensures) c.divides.ensures c.if-divides.false
