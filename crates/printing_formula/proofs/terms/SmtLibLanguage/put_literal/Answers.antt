-- `printing_formula::terms::SmtLibLanguage::put_literal` meets its contract. Assumes nothing.
use native.Mathlib.Omega.{arith}
use Rattle.printing_text.proofs.PutsText.{puts_then, puts-is}
use Rattle.printing_formula.proofs.Texts.{literal-text}
use Rattle.printing_formula.proofs.terms.SmtLibLanguage.put_literal.Goals as goal

pub returns-clause-puts : goal.returns-clause-puts
returns-clause-puts c = puts-is (puts_then (puts_then c.put_relation.ensures.puts c.put_form.ensures.puts) c.put.ensures.puts) (literal-text c.args.equality _) (omega arith)
