-- `enumeration_search::first_from` meets its contract. Assumes nothing.
use mathlib.Core.Path.{refl}
use Rattle.enumeration_search.proofs.Depths.{first_ended, first_found_lem, first_on}
use Rattle.enumeration_search.proofs.first_from.Goals as goal

pub returns-in-Some : goal.returns-in-Some
returns-in-Some c = first_found_lem c.loop-d.invariant c.requires.search_room.few c.loop-d-test.true c.in-Some.ensures refl

pub loop-d-preserved : goal.loop-d-preserved
loop-d-preserved c = first_on c.loop-d.invariant c.requires.search_room.few c.loop-d-test.true c.in_default.ensures refl

pub returns : goal.returns
returns c = first_ended c.loop-d.invariant c.loop-d-test.false
