-- `printing_formula::words::PlainWordsLanguage::put_stride` meets its contract. Assumes nothing.
use native.Mathlib.Omega.{arith}
use Rattle.printing_text.proofs.PutsText.{puts_then, puts-is}
use Rattle.printing_formula.proofs.Phrases.{divides-put}
use Rattle.printing_formula.proofs.words.PlainWordsLanguage.put_stride.Goals as goal

pub returns-clause-puts : goal.returns-clause-puts
returns-clause-puts c = puts-is (puts_then (puts_then c.put_decimal.ensures.puts c.put.ensures.puts) c.put_sum.ensures.puts) (divides-put _ c.ranges.g c.magnitude.ensures.0) (omega arith)
