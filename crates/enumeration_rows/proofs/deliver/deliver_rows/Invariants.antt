-- `enumeration_rows::deliver::deliver_rows` meets its contract. Assumes nothing.
use Rattle.enumeration_rows.proofs.DeliveredTables.{RowsLeft, TableLeft}
use Rattle.enumeration_rows.proofs.deliver.deliver_rows.Given as goal

abbrev pub invariant-sizes : goal.invariant-sizes
invariant-sizes l = RowsLeft l.n l.inferences l.c l.i l.needed

abbrev pub invariant-rows : goal.invariant-rows
invariant-rows l = TableLeft l.k l.n l.inferences l.c l.fn.out l.i l.at l.out
