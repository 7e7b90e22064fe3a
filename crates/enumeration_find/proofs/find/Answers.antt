-- `enumeration_find::find` meets its contract. Assumes nothing.
use Rattle.enumeration_find.proofs.Finding.{headed-long}
use Rattle.enumeration_find.proofs.find.Goals as goal

pub slice_bounds-after_table-count : goal.slice_bounds-after_table-count
slice_bounds-after_table-count c = headed-long c.args.k c.args.table.now c.is_headed.ensures c.if-not-is_headed.false

pub slice_bounds-after_table-start : goal.slice_bounds-after_table-start
slice_bounds-after_table-start c = headed-long c.args.k c.args.table.now c.is_headed.ensures c.if-not-is_headed.false
