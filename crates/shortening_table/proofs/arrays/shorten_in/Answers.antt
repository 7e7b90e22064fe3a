-- `shortening_table::arrays::shorten_in` meets its contract. Assumes nothing.
use native.Mathlib.Omega.{arith}
use Rattle.shortening_table.proofs.Delivering.{shortenable, reportable, deliverable}
use Rattle.shortening_table.proofs.arrays.shorten_in.Goals as goal

pub report_rows-rows-requires : goal.report_rows-rows-requires
report_rows-rows-requires g c = reportable (shortenable g.row.ROWS g.row.LINES c.requires.rows_bound (omega (arith, c.requires.lines_are)) c.requires.stated)

pub write_both-requires : goal.write_both-requires
write_both-requires g c = deliverable (shortenable g.row.ROWS g.row.LINES c.requires.rows_bound (omega (arith, c.requires.lines_are)) c.requires.stated) c.report_rows-rows.ensures c.report_rows-rows.auto.steps
