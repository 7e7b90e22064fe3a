-- `printing_formula::words::put_scaled` meets its contract. Assumes nothing.
use native.Mathlib.Omega.{arith}
use Rattle.printing_text.proofs.PutsText.{puts_then, puts-is}
use Rattle.printing_formula.proofs.Phrases.{scaled-put}
use Rattle.printing_formula.proofs.words.put_scaled.Goals as goal

pub returns-clause-puts : goal.returns-clause-puts
returns-clause-puts c = puts-is (puts_then (puts_then (puts_then c.put_sign.ensures.puts c.put_decimal.ensures.puts) c.put.ensures.puts) c.put_register.ensures.puts) (scaled-put c.args.front c.ranges.z c.magnitude-n.ensures.0 c.args.i) (omega arith)
