-- `run_cuts::all::check_cuts` meets its contract. Assumes nothing.
use Prim.Native.Nat.{◌+◌}
use Rattle.run_cuts.proofs.AllCuts.{CutsLeft}
use Rattle.run_cuts.proofs.all.check_cuts.Given as goal

abbrev pub invariant-loop-c : goal.invariant-loop-c
invariant-loop-c l = CutsLeft l.run l.initial.kinds l.initial.lines l.initial.scratch l.kinds l.lines l.scratch l.all (l.c + 1)
