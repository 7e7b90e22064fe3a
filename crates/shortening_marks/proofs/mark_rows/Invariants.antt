-- `shortening_marks::mark_rows` meets its contract. The invariant: the rows from r on are gone over. Assumes nothing.
use mathlib.Core.Path.{◌≡◌}
use lib.ListN.{length}
use Rattle.shortening_marks.specs.Marks.{MarkedFrom}
use Rattle.shortening_marks.proofs.mark_rows.Given as goal

abbrev pub invariant-loop-r : goal.invariant-loop-r
invariant-loop-r l = MarkedFrom l.gathered l.rows l.r l.initial.marks l.initial.report l.marks l.report × (length l.report ≡ length l.initial.report)
