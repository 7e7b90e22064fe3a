-- `formula_block::fill::fill` meets its contract. Assumes nothing.
use Prim.Native.Nat.{◌-◌}
use Rattle.formula_block.proofs.Blocks.{Filling}
use Rattle.formula_block.proofs.fill.fill.Given as goal

abbrev pub invariant-loop-i : goal.invariant-loop-i
invariant-loop-i l = Filling l.formula l.start l.values l.k l.n l.initial.out l.out l.i

abbrev pub decreases-loop-i : goal.decreases-loop-i
decreases-loop-i l = l.n - l.i
