-- `printing_formula::words::PlainWordsCoefficients::put_piece` meets its contract. Assumes nothing.
use native.Mathlib.Omega.{arith}
use Rattle.printing_text.proofs.PutsText.{puts_none, puts-is}
use Rattle.printing_formula.proofs.Forms.{read-zero, read-nonzero}
use Rattle.printing_formula.proofs.Phrases.{word-zero, word-put}
use Rattle.printing_formula.proofs.words.PlainWordsCoefficients.put_piece.Goals as goal

pub returns-then-is_zero-clause-puts : goal.returns-then-is_zero-clause-puts
returns-then-is_zero-clause-puts c = puts-is (puts_none _ _) (word-zero c.args.i _ (read-zero (record { sfits = c.signed_at-c.type_inv }) c.signed_at-c.ensures.is c.is_zero.ensures c.if-is_zero.true)) (omega arith)

pub returns-clause-puts : goal.returns-clause-puts
returns-clause-puts c = puts-is c.put_scaled.ensures.puts (word-put c.args.i (record { sfits = c.signed_at-c.type_inv }) c.signed_at-c.ensures.is (read-nonzero (record { sfits = c.signed_at-c.type_inv }) c.signed_at-c.ensures.is c.is_zero.ensures c.if-is_zero.false)) (omega arith)
