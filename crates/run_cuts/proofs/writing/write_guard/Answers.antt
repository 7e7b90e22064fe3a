-- `run_cuts::writing::write_guard` meets its contract. Assumes nothing.
use native.Mathlib.Omega.{arith}
use Rattle.run_cuts.proofs.GuardFiles.{guard-room, guard-derives, guard-few, guard-written}
use Rattle.run_cuts.proofs.writing.write_guard.Goals as goal

pub put_header-requires : goal.put_header-requires
put_header-requires c = guard-room c.requires.guard_fits

pub slice_bounds-check_cut-count : goal.slice_bounds-check_cut-count
slice_bounds-check_cut-count c = omega (arith, guard-room c.requires.guard_fits)

pub slice_bounds-check_cut-start : goal.slice_bounds-check_cut-start
slice_bounds-check_cut-start c = omega (arith, guard-room c.requires.guard_fits)

pub unwrap-o-requires : goal.unwrap-o-requires
unwrap-o-requires c = guard-derives c.requires.guard_fits c.check_cut.ensures

pub overflow_add-result : goal.overflow_add-result
overflow_add-result c = omega (arith, guard-few c.requires.guard_fits c.check_cut.ensures c.unwrap-o.ensures)

pub returns : goal.returns
returns c = guard-written c.requires.guard_fits c.check_cut.ensures c.unwrap-o.ensures c.put_header.ensures
