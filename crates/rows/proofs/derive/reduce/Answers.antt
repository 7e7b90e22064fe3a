-- `rows::derive::reduce` meets its contract. Assumes nothing.
use native.Mathlib.Omega.{arith}
use mir.ValLaws.{to_z-of_z}
use Rattle.lines.proofs.KindBytes.{kind-=, kind-not-=, kind-plain, kind-apart}
use Rattle.lines.proofs.Tests.{is_below, past}
use Rattle.rows.proofs.InferenceTests.{reduce-none, reduce-none-2, reduce-apart, reduce-kind, reduce-zero, reduce-made}
use Rattle.rows.proofs.derive.reduce.Goals as goal

pub returns-then-not-is_there : goal.returns-then-not-is_there
returns-then-not-is_there c =
    let a = c.args in
    reduce-none _ _ _ a.tally _ _ _ (past a.s.0 a.tally.lines.0 c.is_there.ensures c.if-not-is_there.true)

pub returns-then-not-is_there-2 : goal.returns-then-not-is_there-2
returns-then-not-is_there-2 c =
    let a = c.args in
    reduce-none-2 _ _ _ a.tally _ _ _ (is_below a.s.0 a.tally.lines.0 c.is_there.ensures c.if-not-is_there.false) (past a.t.0 a.tally.lines.0 c.is_there-2.ensures c.if-not-is_there-2.true)

pub returns-then-kind_s-gt-EQUALITY : goal.returns-then-kind_s-gt-EQUALITY
returns-then-kind_s-gt-EQUALITY c =
    let a = c.args in
    reduce-apart _ _ _ a.tally _ _ _ (is_below a.s.0 a.tally.lines.0 c.is_there.ensures c.if-not-is_there.false) (is_below a.t.0 a.tally.lines.0 c.is_there-2.ensures c.if-not-is_there-2.false) (kind-apart _ _ _ _ c.kind_of-kind_s.ensures (omega (arith, c.if-kind_s-gt-EQUALITY.true)))

pub returns-then-kind_of-ne-EQUALITY : goal.returns-then-kind_of-ne-EQUALITY
returns-then-kind_of-ne-EQUALITY c =
    let a = c.args in
    reduce-kind _ _ _ a.tally _ _ _ (is_below a.s.0 a.tally.lines.0 c.is_there.ensures c.if-not-is_there.false) (is_below a.t.0 a.tally.lines.0 c.is_there-2.ensures c.if-not-is_there-2.false) c.kind_of-kind_s.result (kind-plain _ _ _ _ c.kind_of-kind_s.ensures (omega (arith, c.if-kind_s-gt-EQUALITY.false))) (kind-not-= _ _ _ _ c.kind_of.ensures c.if-kind_of-ne-EQUALITY.true)

pub returns-then-is_zero : goal.returns-then-is_zero
returns-then-is_zero c =
    let a = c.args in
    let fa = c.ranges.alpha in
    reduce-zero _ _ _ a.tally _ _ _ (is_below a.s.0 a.tally.lines.0 c.is_there.ensures c.if-not-is_there.false) (is_below a.t.0 a.tally.lines.0 c.is_there-2.ensures c.if-not-is_there-2.false) c.kind_of-kind_s.result (kind-plain _ _ _ _ c.kind_of-kind_s.ensures (omega (arith, c.if-kind_s-gt-EQUALITY.false))) (kind-= _ _ _ _ c.kind_of.ensures c.if-kind_of-ne-EQUALITY.false) (simp to_z-of_z at c.is_zero.ensures) c.if-is_zero.true

pub returns : goal.returns
returns c =
    let a = c.args in
    let fa = c.ranges.alpha in
    reduce-made _ _ _ a.tally _ _ _ (is_below a.s.0 a.tally.lines.0 c.is_there.ensures c.if-not-is_there.false) (is_below a.t.0 a.tally.lines.0 c.is_there-2.ensures c.if-not-is_there-2.false) c.kind_of-kind_s.result (kind-plain _ _ _ _ c.kind_of-kind_s.ensures (omega (arith, c.if-kind_s-gt-EQUALITY.false))) (kind-= _ _ _ _ c.kind_of.ensures c.if-kind_of-ne-EQUALITY.false) (simp to_z-of_z at c.is_zero.ensures) c.if-is_zero.false (simp to_z-of_z at c.append.ensures)
