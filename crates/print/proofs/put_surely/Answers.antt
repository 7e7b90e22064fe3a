-- `print::put_surely` meets its contract. Assumes nothing.
use Rattle.std.proofs.Common.{refl, rules}
use Rattle.print.proofs.Phases.{surely-put, surely-read}
use Rattle.print.proofs.put_surely.Goals as goal

pub returns-in-Ok : goal.returns-in-Ok
returns-in-Ok g c =
    let w = surely-put _ c.formula_at.ensures.read refl c.in-Ok.is c.requires.formula_in_bounds c.acceptance.ensures in
    search (rules, w)

pub returns-in-Err : goal.returns-in-Err
returns-in-Err g c =
    let w = surely-read _ c.formula_at.ensures.read refl {r = c.refuse.result} c.in-Err.is in
    search (rules, w)
