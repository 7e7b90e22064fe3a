-- `enumeration_search::after_table` meets its contract. Assumes nothing.
use mathlib.Core.Path.{refl}
use Rattle.enumeration_search.proofs.Depths.{follow-ended, follow-found, follow-on}
use Rattle.enumeration_search.proofs.after_table.Goals as goal

pub returns-in-Ok : goal.returns-in-Ok
returns-in-Ok c = follow-found c.loop-d.invariant c.loop-d-test.true c.in-Ok.ensures refl

pub loop-d-preserved : goal.loop-d-preserved
loop-d-preserved c = follow-on c.loop-d.invariant c.loop-d-test.true c.after_depth.ensures c.in_default.is

pub returns : goal.returns
returns c = follow-ended c.loop-d.invariant c.loop-d-test.false
