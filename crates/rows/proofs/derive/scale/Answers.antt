-- `rows::derive::scale` meets its contract. Assumes nothing.
use native.Mathlib.Omega.{arith}
use mathlib.Core.Path.{◌∙◌}
use mir.Syntax.{w64}
use mir.ValLaws.{to_z-of_z}
use Rattle.lines.proofs.KindBytes.{kind-plain, kind-apart}
use Rattle.lines.proofs.Tests.{is_below, past}
use Rattle.rows.proofs.InferenceTests.{scale-none, scale-apart, scale-zero, scale-made}
use Rattle.rows.proofs.derive.scale.Goals as goal

pub returns-then-not-is_there : goal.returns-then-not-is_there
returns-then-not-is_there c =
    let a = c.args in
    scale-none _ _ _ a.tally _ _ (past a.t.0 a.tally.lines.0 c.is_there.ensures c.if-not-is_there.true)

pub returns-then-kind-gt-EQUALITY : goal.returns-then-kind-gt-EQUALITY
returns-then-kind-gt-EQUALITY c =
    let a = c.args in
    scale-apart _ _ _ a.tally _ _ (is_below a.t.0 a.tally.lines.0 c.is_there.ensures c.if-not-is_there.false) (kind-apart _ _ _ _ c.kind_of-kind.ensures (omega (arith, c.if-kind-gt-EQUALITY.true)))

pub returns-then-alpha-eq0 : goal.returns-then-alpha-eq0
returns-then-alpha-eq0 c =
    let a = c.args in
    scale-zero _ _ _ a.tally _ _ (is_below a.t.0 a.tally.lines.0 c.is_there.ensures c.if-not-is_there.false) c.kind_of-kind.result (kind-plain _ _ _ _ c.kind_of-kind.ensures (omega (arith, c.if-kind-gt-EQUALITY.false))) c.if-alpha-eq0.true

pub returns : goal.returns
returns c =
    let a = c.args in
    scale-made _ _ _ a.tally _ _ (is_below a.t.0 a.tally.lines.0 c.is_there.ensures c.if-not-is_there.false) c.kind_of-kind.result (kind-plain _ _ _ _ c.kind_of-kind.ensures (omega (arith, c.if-kind-gt-EQUALITY.false))) (omega (arith, c.if-alpha-eq0.false)) (to_z-of_z w64 c.from.result (record { sfits = c.from.type_inv }) ∙ c.from.ensures) c.append.ensures
