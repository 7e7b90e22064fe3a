-- `openings::rounding::test_round` meets its contract. Assumes nothing.
use native.Mathlib.Omega.{arith}
use mathlib.Core.Path.{refl, ◌∙◌}
use mathlib.Core.Logic.{inl, inr}
use borrow.Author.Tests.{lt-leb, le-leb}
use mir.Syntax.{w64}
use mir.ValLaws.{to_z-of_z}
use Rattle.forms.proofs.Editions.{lines-most}
use Rattle.lines.proofs.Lines.{before}
use Rattle.lines.proofs.KindBytes.{kind-≤, kind-not-≤}
use Rattle.lines.proofs.Tests.{is_below, past}
use Rattle.closes.proofs.NumberTests.{line-end}
use Rattle.closes.proofs.StrideTests.{at-least-two}
use Rattle.openings.proofs.RoundTests.{round-none, round-kind, round-small, round-least, round-most, round-coeffs, round-d, round-passed}
use Rattle.openings.proofs.rounding.test_round.Goals as goal

pub returns-then-not-is_there : goal.returns-then-not-is_there
returns-then-not-is_there c =
    round-none c.args.k c.args.kinds.now c.args.lines.now c.args.tally c.args.i.0 c.args.g c.args.by (past c.args.i.0 c.args.tally.lines.0 c.is_there.ensures c.if-not-is_there.true)

pub kind_of-requires : goal.kind_of-requires
kind_of-requires c =
    let h = is_below c.args.i.0 c.args.tally.lines.0 c.is_there.ensures c.if-not-is_there.false in
    omega (arith, h, c.requires.most, c.requires.room)

pub returns-then-kind_of-ne-INEQUALITY : goal.returns-then-kind_of-ne-INEQUALITY
returns-then-kind_of-ne-INEQUALITY c =
    let h = is_below c.args.i.0 c.args.tally.lines.0 c.is_there.ensures c.if-not-is_there.false in
    round-kind c.args.k c.args.kinds.now c.args.lines.now c.args.tally c.args.i.0 c.args.g c.args.by h (kind-not-≤ _ _ _ _ c.kind_of.ensures c.if-kind_of-ne-INEQUALITY.true)

pub returns-then-g-lt2 : goal.returns-then-g-lt2
returns-then-g-lt2 c =
    let h = is_below c.args.i.0 c.args.tally.lines.0 c.is_there.ensures c.if-not-is_there.false in
    round-small c.args.k c.args.kinds.now c.args.lines.now c.args.tally c.args.i.0 c.args.g c.args.by h (kind-≤ _ _ _ _ c.kind_of.ensures c.if-kind_of-ne-INEQUALITY.false) refl (lt-leb 2 c.args.g c.if-g-lt2.true)

pub returns-then-by-eq0 : goal.returns-then-by-eq0
returns-then-by-eq0 c =
    let h = is_below c.args.i.0 c.args.tally.lines.0 c.is_there.ensures c.if-not-is_there.false in
    elim c.then-by-eq0.either [
      | inl z ↦ round-least c.args.k c.args.kinds.now c.args.lines.now c.args.tally c.args.i.0 c.args.g c.args.by h (kind-≤ _ _ _ _ c.kind_of.ensures c.if-kind_of-ne-INEQUALITY.false) refl (le-leb 2 c.args.g c.if-g-lt2.false) z
      | inr z ↦ round-most c.args.k c.args.kinds.now c.args.lines.now c.args.tally c.args.i.0 c.args.g c.args.by h (kind-≤ _ _ _ _ c.kind_of.ensures c.if-kind_of-ne-INEQUALITY.false) refl (le-leb 2 c.args.g c.if-g-lt2.false) z.0 z.1
    ]

pub place-t-requires : goal.place-t-requires
place-t-requires c =
    let h = is_below c.args.i.0 c.args.tally.lines.0 c.is_there.ensures c.if-not-is_there.false in
    (omega (arith, h, c.requires.most, lines-most c.args.tally.edition), c.requires.branch.constants)

pub all_divisible-requires : goal.all_divisible-requires
all_divisible-requires c =
    let h = is_below c.args.i.0 c.args.tally.lines.0 c.is_there.ensures c.if-not-is_there.false in
    let r = line-end c.requires h in
    record { k_in_bounds = omega (arith, r, c.place-t.ensures); pos_bound = at-least-two (to_z-of_z w64 c.from-stride.result (record { sfits = c.from-stride.type_inv }) ∙ c.from-stride.ensures) c.if-g-lt2.false }

pub returns-then-not-all_divisible : goal.returns-then-not-all_divisible
returns-then-not-all_divisible c =
    let h = is_below c.args.i.0 c.args.tally.lines.0 c.is_there.ensures c.if-not-is_there.false in
    round-coeffs c.args.k c.args.kinds.now c.args.lines.now c.args.tally c.args.i.0 c.args.g c.args.by h (kind-≤ _ _ _ _ c.kind_of.ensures c.if-kind_of-ne-INEQUALITY.false) refl (le-leb 2 c.args.g c.if-g-lt2.false) c.if-by-eq0.false c.if-by-gt-ROUNDING.false (to_z-of_z w64 c.from-stride.result (record { sfits = c.from-stride.type_inv }) ∙ c.from-stride.ensures) c.place-t.ensures c.all_divisible.ensures c.if-not-all_divisible.true

pub overflow_add-t : goal.overflow_add-t
overflow_add-t c =
    let h = is_below c.args.i.0 c.args.tally.lines.0 c.is_there.ensures c.if-not-is_there.false in
    let r = line-end c.requires h in
    omega (arith, r, c.place-t.ensures)

pub number-d-requires : goal.number-d-requires
number-d-requires c =
    let h = is_below c.args.i.0 c.args.tally.lines.0 c.is_there.ensures c.if-not-is_there.false in
    let r = line-end c.requires h in
    omega (arith, r, c.place-t.ensures)

pub is_undivided-requires : goal.is_undivided-requires
is_undivided-requires c =
    let h = is_below c.args.i.0 c.args.tally.lines.0 c.is_there.ensures c.if-not-is_there.false in
    let r = before c.args.k h in
    let d = to_z-of_z w64 c.number-d.result (record { sfits = c.number-d.type_inv }) ∙ c.number-d.ensures in
    record { pos_bound = at-least-two (to_z-of_z w64 c.from-stride.result (record { sfits = c.from-stride.type_inv }) ∙ c.from-stride.ensures) c.if-g-lt2.false; within = (rw d (c.requires.branch.bounded.small _ (omega (arith, r, c.place-t.ensures))), c.if-by-gt-ROUNDING.false) }

pub returns-then-not-is_undivided : goal.returns-then-not-is_undivided
returns-then-not-is_undivided c =
    let h = is_below c.args.i.0 c.args.tally.lines.0 c.is_there.ensures c.if-not-is_there.false in
    round-d c.args.k c.args.kinds.now c.args.lines.now c.args.tally c.args.i.0 c.args.g c.args.by h (kind-≤ _ _ _ _ c.kind_of.ensures c.if-kind_of-ne-INEQUALITY.false) refl (le-leb 2 c.args.g c.if-g-lt2.false) c.if-by-eq0.false c.if-by-gt-ROUNDING.false (to_z-of_z w64 c.from-stride.result (record { sfits = c.from-stride.type_inv }) ∙ c.from-stride.ensures) c.place-t.ensures c.all_divisible.ensures c.if-not-all_divisible.false (to_z-of_z w64 c.number-d.result (record { sfits = c.number-d.type_inv }) ∙ c.number-d.ensures) (rw (to_z-of_z w64 c.from-stride.result (record { sfits = c.from-stride.type_inv }) ∙ c.from-stride.ensures) at c.is_undivided.ensures) c.if-not-is_undivided.true

pub returns : goal.returns
returns c =
    let h = is_below c.args.i.0 c.args.tally.lines.0 c.is_there.ensures c.if-not-is_there.false in
    round-passed c.args.k c.args.kinds.now c.args.lines.now c.args.tally c.args.i.0 c.args.g c.args.by h (kind-≤ _ _ _ _ c.kind_of.ensures c.if-kind_of-ne-INEQUALITY.false) refl (le-leb 2 c.args.g c.if-g-lt2.false) c.if-by-eq0.false c.if-by-gt-ROUNDING.false (to_z-of_z w64 c.from-stride.result (record { sfits = c.from-stride.type_inv }) ∙ c.from-stride.ensures) c.place-t.ensures c.all_divisible.ensures c.if-not-all_divisible.false (to_z-of_z w64 c.number-d.result (record { sfits = c.number-d.type_inv }) ∙ c.number-d.ensures) (rw (to_z-of_z w64 c.from-stride.result (record { sfits = c.from-stride.type_inv }) ∙ c.from-stride.ensures) at c.is_undivided.ensures) c.if-not-is_undivided.false
