-- `printing_formula::words::put_constant` meets its contract. Assumes nothing.
use native.Mathlib.Omega.{arith}
use Rattle.printing_text.proofs.PutsText.{puts_none, puts-is}
use Rattle.printing_formula.proofs.Phrases.{constant-none, constant-some}
use Rattle.printing_formula.proofs.words.put_constant.Goals as goal

pub returns-then-is_zero-clause-puts : goal.returns-then-is_zero-clause-puts
returns-then-is_zero-clause-puts c = puts-is (puts_none _ _) (constant-none c.ranges.d c.is_zero.ensures c.if-is_zero.true) (omega arith)

pub returns-clause-puts : goal.returns-clause-puts
returns-clause-puts c = puts-is c.put_plain.ensures.puts (constant-some c.ranges.d c.is_zero.ensures c.if-is_zero.false) (omega arith)
