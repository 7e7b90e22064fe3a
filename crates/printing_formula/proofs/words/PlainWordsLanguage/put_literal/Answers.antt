-- `printing_formula::words::PlainWordsLanguage::put_literal` meets its contract. Assumes nothing.
use native.Mathlib.Omega.{arith}
use Rattle.printing_text.proofs.PutsText.{puts_then, puts-is}
use Rattle.printing_formula.proofs.Phrases.{said_put}
use Rattle.printing_formula.proofs.words.PlainWordsLanguage.put_literal.Goals as goal

pub returns-clause-puts : goal.returns-clause-puts
returns-clause-puts c = puts-is (puts_then c.put_sum.ensures.puts c.put_said.ensures.puts) (said_put c.args.equality _) (omega arith)
