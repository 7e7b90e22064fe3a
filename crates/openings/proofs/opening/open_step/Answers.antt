-- `openings::opening::open_step` meets its contract. Assumes nothing.
use native.Mathlib.Omega.{arith}
use Rattle.forms.proofs.Editions.{lines-most}
use Rattle.lines.proofs.Lines.{before, bounded-less}
use Rattle.std.proofs.lemmas.Result.{err_from_is_err_and}
use Rattle.tally.proofs.Counted.{counted-open, full-open}
use Rattle.openings.proofs.Opens.{counted-both, full-both, open_none, open_full, open-range, open-start, open_made}
use Rattle.openings.proofs.opening.open_step.Goals as goal

pub returns-in_err-count_open : goal.returns-in_err-count_open
returns-in_err-count_open c =
    let h = c.in_err-count_open.ensures in
    let p = err_from_is_err_and c.from_residual.result c.from_residual.ensures.1 in
    rw (p.1, p.2, h.0) (open_none c.args.tally c.args.i.0 c.args.x c.args.y c.requires.ready (full-open _ h.1))

pub returns-in_err-count_line : goal.returns-in_err-count_line
returns-in_err-count_line c =
    let may = c.in_ok-count_open.ensures in
    let h = c.in_err-count_line.ensures in
    let p = err_from_is_err_and c.from_residual-in_err-count_line.result c.from_residual-in_err-count_line.ensures.1 in
    rw (p.1, p.2, h.0) (open_full c.args.tally c.args.i.0 c.args.x c.args.y c.requires.ready (counted-open may).0 (full-both c.args.tally may h.1))

pub raised_fit-requires : goal.raised_fit-requires
raised_fit-requires c =
    let both = counted-both c.args.tally c.in_ok-count_open.ensures c.in_ok-count_line.ensures in
    let h = before c.args.k c.requires.i_lt_lines in
    record { i_bound = (omega (arith, both.0, c.requires.i_lt_lines, lines-most c.args.tally.edition), c.requires.ready.branch.constants, omega (arith, c.requires.ready.branch.room)); bounded = bounded-less (omega (arith, c.requires.i_lt_lines)) c.requires.ready.branch.bounded }

pub returns-then-not-raised_fit : goal.returns-then-not-raised_fit
returns-then-not-raised_fit c =
    let both = counted-both c.args.tally c.in_ok-count_open.ensures c.in_ok-count_line.ensures in
    open-range c.args.tally c.args.i.0 c.args.x c.args.y c.requires.ready (counted-open c.in_ok-count_open.ensures).0 c.requires.i_lt_lines both.0 c.raised_fit.ensures c.if-not-raised_fit.true

pub start_line-requires : goal.start_line-requires
start_line-requires c =
    let both = counted-both c.args.tally c.in_ok-count_open.ensures c.in_ok-count_line.ensures in
    (open-start c.args.tally c.args.i.0 c.args.x c.args.y c.requires.ready (counted-open c.in_ok-count_open.ensures).0 c.requires.i_lt_lines both.0 c.raised_fit.ensures c.if-not-raised_fit.false (omega arith) (omega arith), c.requires.ready.room)

pub returns : goal.returns
returns c =
    let both = counted-both c.args.tally c.in_ok-count_open.ensures c.in_ok-count_line.ensures in
    open_made c.args.tally c.args.i.0 c.args.x c.args.y c.requires.ready (counted-open c.in_ok-count_open.ensures).0 c.requires.i_lt_lines both.0 c.raised_fit.ensures c.if-not-raised_fit.false c.start_line.ensures.lines c.start_line.ensures.kinds both.1
