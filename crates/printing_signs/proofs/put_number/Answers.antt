-- `printing_signs::put_number` meets its contract. Assumes nothing.
use Rattle.printing_signs.proofs.Signs.{negative-text, positive-text}
use native.Mathlib.Omega.{arith}
use Rattle.printing_text.proofs.PutsText.{puts_then, puts-is}
use Rattle.printing_signs.proofs.put_number.Goals as goal

pub returns-then-z-lt0-clause-puts : goal.returns-then-z-lt0-clause-puts
returns-then-z-lt0-clause-puts c = puts-is (puts_then (puts_then c.put.ensures.puts c.put_decimal.ensures.puts) c.put-then-z-lt0.ensures.puts) (negative-text c.ranges.z c.magnitude-n.ensures.0 c.if-z-lt0.true) (omega arith)

pub returns-clause-puts : goal.returns-clause-puts
returns-clause-puts c = puts-is c.put_decimal-2.ensures.puts (positive-text c.ranges.z c.magnitude-n.ensures.0 c.if-z-lt0.false) (omega arith)
