-- `rows::derive::combine` meets its contract. Assumes nothing.
use native.Mathlib.Omega.{arith}
use mathlib.Core.Path.{◌∙◌}
use mir.Syntax.{w64}
use mir.ValLaws.{to_z-of_z}
use Rattle.lines.proofs.KindBytes.{kind-≤, kind-not-≤}
use Rattle.lines.proofs.Tests.{is_below, past}
use Rattle.rows.proofs.InferenceTests.{combine-none, combine-none-2, combine-kind, combine-kind-2, combine-zero, combine-zero-2, combine-made}
use Rattle.rows.proofs.derive.combine.Goals as goal

pub returns-then-not-is_there : goal.returns-then-not-is_there
returns-then-not-is_there c =
    let a = c.args in
    combine-none _ _ _ a.tally _ _ _ _ (past a.s.0 a.tally.lines.0 c.is_there.ensures c.if-not-is_there.true)

pub returns-then-not-is_there-2 : goal.returns-then-not-is_there-2
returns-then-not-is_there-2 c =
    let a = c.args in
    combine-none-2 _ _ _ a.tally _ _ _ _ (is_below a.s.0 a.tally.lines.0 c.is_there.ensures c.if-not-is_there.false) (past a.t.0 a.tally.lines.0 c.is_there-2.ensures c.if-not-is_there-2.true)

pub returns-then-kind_of-ne-INEQUALITY : goal.returns-then-kind_of-ne-INEQUALITY
returns-then-kind_of-ne-INEQUALITY c =
    let a = c.args in
    combine-kind _ _ _ a.tally _ _ _ _ (is_below a.s.0 a.tally.lines.0 c.is_there.ensures c.if-not-is_there.false) (is_below a.t.0 a.tally.lines.0 c.is_there-2.ensures c.if-not-is_there-2.false) (kind-not-≤ _ _ _ _ c.kind_of.ensures c.if-kind_of-ne-INEQUALITY.true)

pub returns-then-kind_of-ne-INEQUALITY-2 : goal.returns-then-kind_of-ne-INEQUALITY-2
returns-then-kind_of-ne-INEQUALITY-2 c =
    let a = c.args in
    combine-kind-2 _ _ _ a.tally _ _ _ _ (is_below a.s.0 a.tally.lines.0 c.is_there.ensures c.if-not-is_there.false) (is_below a.t.0 a.tally.lines.0 c.is_there-2.ensures c.if-not-is_there-2.false) (kind-≤ _ _ _ _ c.kind_of.ensures c.if-kind_of-ne-INEQUALITY.false) (kind-not-≤ _ _ _ _ c.kind_of-2.ensures c.if-kind_of-ne-INEQUALITY-2.true)

pub returns-then-alpha-eq0 : goal.returns-then-alpha-eq0
returns-then-alpha-eq0 c =
    let a = c.args in
    combine-zero _ _ _ a.tally _ _ _ _ (is_below a.s.0 a.tally.lines.0 c.is_there.ensures c.if-not-is_there.false) (is_below a.t.0 a.tally.lines.0 c.is_there-2.ensures c.if-not-is_there-2.false) (kind-≤ _ _ _ _ c.kind_of.ensures c.if-kind_of-ne-INEQUALITY.false) (kind-≤ _ _ _ _ c.kind_of-2.ensures c.if-kind_of-ne-INEQUALITY-2.false) c.if-alpha-eq0.true

pub returns-then-beta-eq0 : goal.returns-then-beta-eq0
returns-then-beta-eq0 c =
    let a = c.args in
    combine-zero-2 _ _ _ a.tally _ _ _ _ (is_below a.s.0 a.tally.lines.0 c.is_there.ensures c.if-not-is_there.false) (is_below a.t.0 a.tally.lines.0 c.is_there-2.ensures c.if-not-is_there-2.false) (kind-≤ _ _ _ _ c.kind_of.ensures c.if-kind_of-ne-INEQUALITY.false) (kind-≤ _ _ _ _ c.kind_of-2.ensures c.if-kind_of-ne-INEQUALITY-2.false) (omega (arith, c.if-alpha-eq0.false)) c.if-beta-eq0.true

pub returns : goal.returns
returns c =
    let a = c.args in
    combine-made _ _ _ a.tally _ _ _ _ (is_below a.s.0 a.tally.lines.0 c.is_there.ensures c.if-not-is_there.false) (is_below a.t.0 a.tally.lines.0 c.is_there-2.ensures c.if-not-is_there-2.false) (kind-≤ _ _ _ _ c.kind_of.ensures c.if-kind_of-ne-INEQUALITY.false) (kind-≤ _ _ _ _ c.kind_of-2.ensures c.if-kind_of-ne-INEQUALITY-2.false) (omega (arith, c.if-alpha-eq0.false)) (omega (arith, c.if-beta-eq0.false)) (to_z-of_z w64 c.from.result (record { sfits = c.from.type_inv }) ∙ c.from.ensures) (to_z-of_z w64 c.from-2.result (record { sfits = c.from-2.type_inv }) ∙ c.from-2.ensures) c.append.ensures
