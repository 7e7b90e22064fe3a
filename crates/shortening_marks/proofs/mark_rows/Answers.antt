-- `shortening_marks::mark_rows` meets its contract. The invariant: the rows from r on are gone over. Assumes nothing.
use lib.ListN.{length-set}
use Rattle.shortening_marks.proofs.Marking.{marked_next}
use Rattle.shortening_marks.proofs.mark_rows.Goals as goal

pub loop-r-preserved : goal.loop-r-preserved
loop-r-preserved c = (marked_next c.requires c.loop-r.invariant.0 c.loop-r-test.true c.mark_row.ensures, simp length-set c.loop-r.invariant.1)
