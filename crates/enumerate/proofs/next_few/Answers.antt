-- `enumerate::next_few` meets its contract. Assumes nothing.
use mathlib.Core.Path.{refl}
use Rattle.enumerate.proofs.Answering.{nexts-refused, nexts-told, list-fifth}
use Rattle.enumerate.proofs.next_few.Goals as goal

pub returns-then-first-second-gt4 : goal.returns-then-first-second-gt4
returns-then-first-second-gt4 c = nexts-refused (list-fifth c.requires.both_within_limits c.requires.both c.if-first-second-gt4.true) c.refusal.ensures

pub returns : goal.returns
returns c = nexts-told c.requires.both_within_limits c.requires.both refl c.if-first-second-gt4.false c.prepare.ensures c.find-found.ensures c.deliver.ensures
