-- `printing_formula::words::put_plain` meets its contract. Assumes nothing.
use native.Mathlib.Omega.{arith}
use Rattle.printing_text.proofs.PutsText.{puts_then, puts-is}
use Rattle.printing_formula.proofs.Phrases.{alone-put}
use Rattle.printing_formula.proofs.words.put_plain.Goals as goal

pub returns-clause-puts : goal.returns-clause-puts
returns-clause-puts c = puts-is (puts_then c.put_sign.ensures.puts c.put_decimal.ensures.puts) (alone-put c.args.front c.ranges.z c.magnitude-n.ensures.0) (omega arith)
