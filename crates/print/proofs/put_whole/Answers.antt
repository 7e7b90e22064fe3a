-- `print::put_whole` meets its contract. Assumes nothing.
use Rattle.std.proofs.Common.{refl, rules}
use Rattle.print.proofs.Phases.{text-short, text-put}
use Rattle.print.proofs.put_whole.Goals as goal

pub returns-then-out-size : goal.returns-then-out-size
returns-then-out-size g c = text-short c.requires.sized c.if-out-size.true c.refuse.ensures

pub returns : goal.returns
returns g c =
    let w = text-put c.requires.sized c.formula_at-next.ensures.read refl c.if-out-size.false c.acceptance.ensures in
    search (rules, w)
