-- `printing_text::Text::put_register` meets its contract. Assumes nothing.
use Rattle.std.proofs.Common.{arith}
use Rattle.printing_text.proofs.PutsText.{puts-is}
use Rattle.printing_text.proofs.Numerals.{register-short, register-long}
use Rattle.printing_text.proofs.Text.put_register.Goals as goal

pub returns-then-n-lt10-clause-puts : goal.returns-then-n-lt10-clause-puts
returns-then-n-lt10-clause-puts c = puts-is c.put.ensures.puts (rw c.digit.ensures (register-short c.args.i c.if-n-lt10.true)) (omega arith)

pub returns-clause-puts : goal.returns-clause-puts
returns-clause-puts c = puts-is c.put-2.ensures.puts (rw (c.digit-2.ensures, c.digit-3.ensures) (register-long c.args.i c.if-n-lt10.false c.requires.i_bound)) (omega arith)
