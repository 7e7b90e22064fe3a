-- `openings::rounding::round` meets its contract. Assumes nothing.
use Rattle.std.proofs.lemmas.Result.{err_from_is_err_and}
use Rattle.openings.proofs.Opens.{round-refused, round-line, round-opens}
use Rattle.openings.proofs.rounding.round.Goals as goal

pub returns-in_err-test_round : goal.returns-in_err-test_round
returns-in_err-test_round c =
    let p = err_from_is_err_and c.from_residual.result c.from_residual.ensures.1 in
    rw (p.1, p.2) (round-refused c.in_err-test_round.ensures)

pub open_step-requires : goal.open_step-requires
open_step-requires c = record { ready = c.requires; i_lt_lines = round-line c.in_ok-test_round.ensures }

pub returns : goal.returns
returns c = round-opens c.in_ok-test_round.ensures c.open_step.ensures
