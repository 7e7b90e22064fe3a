-- `run_cuts::writing::write_guards` meets its contract. Assumes nothing.
use native.Mathlib.Omega.{arith}
use mathlib.Core.Path.{refl}
use Rattle.run_cuts.proofs.GuardFiles.{files-start, files-asked, files-done, files-place, files-slot, files-fit, files-size, files-next}
use Rattle.run_cuts.proofs.writing.write_guards.Goals as goal

pub loop-c-init : goal.loop-c-init
loop-c-init c = files-start c.requires.asked c.requires.guards_fit

pub slice_bounds-write_guard-count : goal.slice_bounds-write_guard-count
slice_bounds-write_guard-count c = files-place c.requires.asked c.requires.guards_fit c.loop-c.invariant c.loop-c-test.true

pub slice_bounds-write_guard-start : goal.slice_bounds-write_guard-start
slice_bounds-write_guard-start c = files-place c.requires.asked c.requires.guards_fit c.loop-c.invariant c.loop-c-test.true

pub write_guard-size-requires : goal.write_guard-size-requires
write_guard-size-requires c = record { asked = files-asked c.requires.asked c.requires.guards_fit c.loop-c.invariant; guard_fits = files-fit c.requires.asked c.requires.guards_fit c.loop-c.invariant c.loop-c-test.true }

pub bounds-sizes-c : goal.bounds-sizes-c
bounds-sizes-c c = files-slot c.requires.asked c.requires.guards_fit c.loop-c.invariant c.loop-c-test.true

pub overflow_add-o : goal.overflow_add-o
overflow_add-o c = record { fits = omega (arith, files-size c.requires.asked c.requires.guards_fit c.loop-c.invariant c.loop-c-test.true c.write_guard-size.ensures, c.loop-c.invariant.out_length) }

pub loop-c-preserved : goal.loop-c-preserved
loop-c-preserved c = files-next c.requires.asked c.requires.guards_fit c.loop-c.invariant c.loop-c-test.true c.write_guard-size.ensures c.write_guard-size.auto.kinds c.write_guard-size.auto.lines c.write_guard-size.auto.out refl

pub returns : goal.returns
returns c = files-done c.requires.asked c.requires.guards_fit c.loop-c.invariant (omega arith)

pub returns-2 : goal.returns-2
returns-2 c = files-done c.requires.asked c.requires.guards_fit (files-next c.requires.asked c.requires.guards_fit c.loop-c.invariant c.loop-c-test.true c.write_guard-size.ensures c.write_guard-size.auto.kinds c.write_guard-size.auto.lines c.write_guard-size.auto.out refl) (omega arith)
