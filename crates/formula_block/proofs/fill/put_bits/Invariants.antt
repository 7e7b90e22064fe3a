-- `formula_block::fill::put_bits` meets its contract. Assumes nothing.
use Rattle.std.proofs.Common.{length}
use Rattle.formula_block.proofs.Blocks.{BitsPut}
use Rattle.formula_block.proofs.fill.put_bits.Given as goal

abbrev pub invariant-loop-bit : goal.invariant-loop-bit
invariant-loop-bit l = BitsPut l.mask (length l.initial.out) l.out l.left l.bit-index
