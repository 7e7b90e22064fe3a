-- `enumeration_rows::close::seek_close` meets its contract. Assumes nothing.
use Rattle.enumeration_rows.proofs.Closes.{ClosesLeft}
use Rattle.enumeration_rows.proofs.close.seek_close.Given as goal

abbrev pub invariant-loop-c : goal.invariant-loop-c
invariant-loop-c l = ClosesLeft l.k l.n l.kinds l.lines l.from l.c
