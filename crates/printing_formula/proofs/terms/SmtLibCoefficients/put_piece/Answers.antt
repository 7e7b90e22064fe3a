-- `printing_formula::terms::SmtLibCoefficients::put_piece` meets its contract. Assumes nothing.
use mathlib.Core.Path.{sym}
use native.Mathlib.Omega.{arith}
use Rattle.printing_text.proofs.PutsText.{puts_none, puts_then, puts-is}
use Rattle.printing_formula.proofs.Texts.{product-zero}
use Rattle.printing_formula.proofs.Forms.{read-zero, read-nonzero, product-put}
use Rattle.printing_formula.proofs.terms.SmtLibCoefficients.put_piece.Goals as goal

pub returns-then-is_zero-clause-puts : goal.returns-then-is_zero-clause-puts
returns-then-is_zero-clause-puts c = puts-is (puts_none _ _) (sym (product-zero c.args.i _ (read-zero (record { sfits = c.signed_at-c.type_inv }) c.signed_at-c.ensures.is c.is_zero.ensures c.if-is_zero.true))) (omega arith)

pub returns-clause-puts : goal.returns-clause-puts
returns-clause-puts c = puts-is (puts_then (puts_then (puts_then (puts_then c.put.ensures.puts c.put_number.ensures.puts) c.put-2.ensures.puts) c.put_register.ensures.puts) c.put-3.ensures.puts) (product-put c.args.i (record { sfits = c.signed_at-c.type_inv }) c.signed_at-c.ensures.is (read-nonzero (record { sfits = c.signed_at-c.type_inv }) c.signed_at-c.ensures.is c.is_zero.ensures c.if-is_zero.false)) (omega arith)
