-- `printing_formula::terms::put_form` meets its contract. Assumes nothing.
use Rattle.std.proofs.Common.{sym, ◌∙◌, arith}
use Rattle.printing_text.proofs.PutsText.{puts_then, puts-is}
use Rattle.printing_formula.proofs.Forms.{constant, none-nonzero, some-nonzero, constant-put, sum-put}
use Rattle.printing_formula.proofs.terms.put_form.Goals as goal

pub returns-in-None-clause-puts : goal.returns-in-None-clause-puts
returns-in-None-clause-puts c = puts-is c.put_number.ensures.puts (constant-put _ (record { sfits = c.signed_at-d.type_inv }) (c.signed_at-d.ensures.is ∙ sym (constant c.args.s.now c.args.at c.args.k)) (none-nonzero c.in-None.ensures (omega arith))) (omega arith)

pub returns-in-Some-clause-puts : goal.returns-in-Some-clause-puts
returns-in-Some-clause-puts c = puts-is (puts_then (puts_then (puts_then (puts_then c.put.ensures.puts c.put_pieces.ensures.puts) c.put-in-Some.ensures.puts) c.put_number-in-Some.ensures.puts) c.put-in-Some-2.ensures.puts) (sum-put _ (record { sfits = c.signed_at-d.type_inv }) (c.signed_at-d.ensures.is ∙ sym (constant c.args.s.now c.args.at c.args.k)) (some-nonzero c.in-Some.ensures.1 c.in-Some.ensures.0)) (omega arith)
