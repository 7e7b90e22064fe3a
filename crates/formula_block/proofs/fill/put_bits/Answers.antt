-- `formula_block::fill::put_bits` meets its contract. Assumes nothing.
use native.Mathlib.Omega.{arith}
use Rattle.formula_block.proofs.Blocks.{bits-start, bits-on, bits-end}
use Rattle.formula_block.proofs.fill.put_bits.Goals as goal

pub loop-bit-init : goal.loop-bit-init
loop-bit-init c = bits-start _ _

pub loop-bit-preserved : goal.loop-bit-preserved
loop-bit-preserved c = bits-on c.loop-bit.invariant (omega (arith, c.loop-bit.invariant.long))

pub returns : goal.returns
returns c = bits-end c.loop-bit.invariant (omega (arith, c.loop-bit.invariant.long))
