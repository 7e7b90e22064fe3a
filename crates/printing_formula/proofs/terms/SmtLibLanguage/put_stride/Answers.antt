-- `printing_formula::terms::SmtLibLanguage::put_stride` meets its contract. Assumes nothing.
use native.Mathlib.Omega.{arith}
use Rattle.printing_text.proofs.PutsText.{puts_then, puts-is}
use Rattle.printing_formula.proofs.Forms.{stride-put}
use Rattle.printing_formula.proofs.terms.SmtLibLanguage.put_stride.Goals as goal

pub returns-clause-puts : goal.returns-clause-puts
returns-clause-puts c = puts-is (puts_then (puts_then (puts_then (puts_then c.put.ensures.puts c.put_form.ensures.puts) c.put-2.ensures.puts) c.put_decimal.ensures.puts) c.put-3.ensures.puts) (stride-put _ c.ranges.g c.magnitude.ensures.0) (omega arith)
