-- `enumeration_rows::read::close_at` meets its contract. Assumes nothing.
use native.Mathlib.Omega.{arith}
use Rattle.enumeration_rows.proofs.RecognisedRows.{close-beyond, close_other}
use Rattle.enumeration_rows.proofs.read.close_at.Goals as goal
use Rattle.enumeration_rows.proofs.read.close_at.Goals.{else-c-close_count-via-then-c-close_count+else-is_close, else-c-close_count-via-else-c-close_count}

pub returns-else-c-close_count : goal.returns-else-c-close_count
returns-else-c-close_count c = elim c.else-c-close_count.branch [
  | else-c-close_count-via-then-c-close_count+else-is_close w ↦ close_other c.requires c.close_guess-c.ensures w.is_close.ensures w.if-is_close.false
  | else-c-close_count-via-else-c-close_count w ↦ close-beyond c.requires c.close_guess-c.ensures (omega arith)
]
