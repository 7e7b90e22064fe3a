-- `run_stages::reading::read_stages` meets its contract. Assumes nothing.
use Rattle.run_stages.proofs.StagesRead.{Reading}
use Rattle.run_stages.proofs.reading.read_stages.Given as goal

abbrev pub invariant-loop-i : goal.invariant-loop-i
invariant-loop-i l = Reading l.buffer l.lengths l.left l.i l.k l.count
