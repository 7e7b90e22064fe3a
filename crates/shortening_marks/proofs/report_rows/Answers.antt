-- `shortening_marks::report_rows` meets its contract. Assumes nothing.
use Rattle.shortening_marks.proofs.Reported.{rows-reported}
use Rattle.shortening_marks.proofs.report_rows.Goals as goal

pub returns : goal.returns
returns c = rows-reported c.requires c.gather-rows.ensures c.mark_rows.ensures
