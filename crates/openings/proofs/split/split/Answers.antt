-- `openings::split::split` meets its contract. Assumes nothing.
use native.Mathlib.Omega.{arith}
use mathlib.Core.Path.{refl}
use Rattle.std.proofs.lemmas.Result.{err_from_is_err_and}
use Rattle.lines.proofs.Tests.{is_below, past}
use Rattle.openings.proofs.SplitTests.{split-none, split-kind, split-refused, negated-fit-asked, split-second, split-made}
use Rattle.openings.proofs.split.split.Goals as goal

pub returns-then-not-is_there : goal.returns-then-not-is_there
returns-then-not-is_there c = split-none _ _ _ c.args.tally c.args.i.0 (past c.args.i.0 c.args.tally.lines.0 c.is_there.ensures c.if-not-is_there.true)

pub kind_of-kind-requires : goal.kind_of-kind-requires
kind_of-kind-requires c =
    let h = is_below c.args.i.0 c.args.tally.lines.0 c.is_there.ensures c.if-not-is_there.false in
    omega (arith, h, c.requires.most, c.requires.room)

pub returns-then-kind-lt-APART_A : goal.returns-then-kind-lt-APART_A
returns-then-kind-lt-APART_A c =
    let h = is_below c.args.i.0 c.args.tally.lines.0 c.is_there.ensures c.if-not-is_there.false in
    split-kind _ _ _ c.args.tally c.args.i.0 h c.kind_of-kind.ensures c.if-kind-lt-APART_A.true

pub open_step-requires : goal.open_step-requires
open_step-requires c = record { ready = c.requires; i_lt_lines = is_below c.args.i.0 c.args.tally.lines.0 c.is_there.ensures c.if-not-is_there.false }

pub returns-in_err-next : goal.returns-in_err-next
returns-in_err-next c =
    let h = is_below c.args.i.0 c.args.tally.lines.0 c.is_there.ensures c.if-not-is_there.false in
    let p = err_from_is_err_and c.from_residual.result c.from_residual.ensures.1 in
    rw (p.1, p.2) (split-refused _ _ _ c.args.tally c.args.i.0 h c.kind_of-kind.ensures c.if-kind-lt-APART_A.false c.requires c.raised_by-y.ensures c.in_err-next.ensures refl)

pub negated_fit-requires : goal.negated_fit-requires
negated_fit-requires c =
    let h = is_below c.args.i.0 c.args.tally.lines.0 c.is_there.ensures c.if-not-is_there.false in
    let r = negated-fit-asked _ _ _ c.args.tally c.args.i.0 h c.kind_of-kind.ensures c.if-kind-lt-APART_A.false c.requires c.raised_by-y.ensures c.in_ok-next.ensures refl in
    record { i_bound = r.0; bounded = r.1 }

pub returns-then-not-negated_fit : goal.returns-then-not-negated_fit
returns-then-not-negated_fit c =
    let h = is_below c.args.i.0 c.args.tally.lines.0 c.is_there.ensures c.if-not-is_there.false in
    split-second _ _ _ c.args.tally c.args.i.0 h c.kind_of-kind.ensures c.if-kind-lt-APART_A.false c.requires c.raised_by-y.ensures c.in_ok-next.ensures refl c.negated_fit.ensures c.if-not-negated_fit.true

pub returns : goal.returns
returns c =
    let h = is_below c.args.i.0 c.args.tally.lines.0 c.is_there.ensures c.if-not-is_there.false in
    split-made _ _ _ c.args.tally c.args.i.0 h c.kind_of-kind.ensures c.if-kind-lt-APART_A.false c.requires c.raised_by-y.ensures c.in_ok-next.ensures refl c.negated_fit.ensures c.if-not-negated_fit.false
