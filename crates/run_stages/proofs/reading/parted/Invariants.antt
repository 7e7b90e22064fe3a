-- `run_stages::reading::parted` meets its contract. Assumes nothing.
use Rattle.run_stages.proofs.StagesRead.{Counting}
use Rattle.run_stages.proofs.reading.parted.Given as goal

abbrev pub invariant-loop-own : goal.invariant-loop-own
invariant-loop-own l = Counting l.buffer l.lengths l.own-index l.left
