-- `lines::all_divisible` meets its contract: after x turns the first x numbers pass. Assumes nothing.
use Rattle.lines.proofs.Every.{Passed}
use Rattle.integers.specs.Divides.{divb}
use Rattle.lines.proofs.all_divisible.Given as goal

abbrev pub invariant-loop-x : goal.invariant-loop-x
invariant-loop-x l = Passed (divb l.g) l.lines l.at l.k l.x
