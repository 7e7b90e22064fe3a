-- `run_cuts::load::load_cut` meets its contract. Assumes nothing.
use Rattle.run_cuts.proofs.CutLines.{LoadingCut}
use Rattle.run_cuts.proofs.load.load_cut.Given as goal

abbrev pub invariant-loop-i : goal.invariant-loop-i
invariant-loop-i l = LoadingCut l.run l.c l.initial.kinds l.initial.lines l.kinds l.lines l.left l.i l.m l.given
