-- `run_cuts::writing::write_guards` meets its contract. Assumes nothing.
use Rattle.run_cuts.proofs.GuardFiles.{FilesLeft}
use Rattle.run_cuts.proofs.writing.write_guards.Given as goal

abbrev pub invariant-loop-c : goal.invariant-loop-c
invariant-loop-c l = FilesLeft l.run l.initial.kinds l.initial.lines l.initial.out l.initial.sizes l.kinds l.lines l.out l.sizes l.o l.c
