-- `openings::strengthen::strengthen` meets its contract. Assumes nothing.
use native.Mathlib.Omega.{arith}
use Rattle.lines.proofs.KindBytes.{kind-≤, kind-not-≤}
use Rattle.lines.proofs.Tests.{is_below, past}
use Rattle.openings.proofs.Opens.{strengthen-none, strengthen-kind, strengthen-opens}
use Rattle.openings.proofs.strengthen.strengthen.Goals as goal

pub returns-then-not-is_there : goal.returns-then-not-is_there
returns-then-not-is_there c = strengthen-none _ _ _ c.args.tally c.args.i.0 (past c.args.i.0 c.args.tally.lines.0 c.is_there.ensures c.if-not-is_there.true)

pub kind_of-requires : goal.kind_of-requires
kind_of-requires c =
    let h = is_below c.args.i.0 c.args.tally.lines.0 c.is_there.ensures c.if-not-is_there.false in
    omega (arith, h, c.requires.most, c.requires.room)

pub returns-then-kind_of-ne-INEQUALITY : goal.returns-then-kind_of-ne-INEQUALITY
returns-then-kind_of-ne-INEQUALITY c =
    let h = is_below c.args.i.0 c.args.tally.lines.0 c.is_there.ensures c.if-not-is_there.false in
    strengthen-kind _ _ _ c.args.tally c.args.i.0 h (kind-not-≤ _ _ _ _ c.kind_of.ensures c.if-kind_of-ne-INEQUALITY.true)

pub open_step-requires : goal.open_step-requires
open_step-requires c = record { ready = c.requires; i_lt_lines = is_below c.args.i.0 c.args.tally.lines.0 c.is_there.ensures c.if-not-is_there.false }

pub shape_of-lines : goal.shape_of-lines
shape_of-lines c = c.open_step.ensures.kept.lines_length

pub shape_of-kinds : goal.shape_of-kinds
shape_of-kinds c = c.open_step.ensures.kept.kinds_length

pub returns : goal.returns
returns c =
    let h = is_below c.args.i.0 c.args.tally.lines.0 c.is_there.ensures c.if-not-is_there.false in
    strengthen-opens _ _ _ c.args.tally c.args.i.0 h (kind-≤ _ _ _ _ c.kind_of.ensures c.if-kind_of-ne-INEQUALITY.false) c.open_step.ensures
