-- `printing_text::Text::put_decimal` meets its contract. Assumes nothing.
use Rattle.std.proofs.Common.{sym, ◌∙◌, arith}
use Rattle.printing_text.proofs.PutsText.{puts-is}
use Rattle.printing_text.proofs.Numerals.{digits_are, one-digit}
use Rattle.printing_text.proofs.Text.put_decimal.Goals as goal

pub returns-then-n-lt10-clause-puts : goal.returns-then-n-lt10-clause-puts
returns-then-n-lt10-clause-puts c = puts-is c.put.ensures.puts (rw c.digit.ensures (one-digit c.if-n-lt10.true)) (omega arith)

pub returns-clause-puts : goal.returns-clause-puts
returns-clause-puts c = puts-is c.put-2.ensures.puts (c.as_bytes.ensures.value ∙ c.format.ensures.text ∙ sym (digits_are c.args.n (omega (arith, c.ranges.n.fits)))) (omega (arith, c.as_bytes.ensures.len, c.format.ensures.fits))
