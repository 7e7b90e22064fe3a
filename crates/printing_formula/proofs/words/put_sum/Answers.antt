-- `printing_formula::words::put_sum` meets its contract. Assumes nothing.
use Rattle.std.proofs.Common.{◌<◌, sym, ◌∙◌, arith}
use Rattle.printing_text.proofs.PutsText.{puts_then, puts-is}
use Rattle.printing_formula.proofs.Forms.{coeffs-long, coefficient, constant}
use Rattle.printing_formula.proofs.Phrases.{held_back, line-alone, line-sum}
use Rattle.printing_formula.proofs.words.put_sum.Goals as goal

pub returns-in-None-clause-puts : goal.returns-in-None-clause-puts
returns-in-None-clause-puts c = puts-is c.put_plain.ensures.puts (line-alone _ c.in-None.ensures (record { sfits = c.signed_at-d.type_inv }) (c.signed_at-d.ensures.is ∙ sym (constant c.args.s.now c.args.at c.args.k)) (omega arith)) (omega arith)

pub overflow_mul-first : goal.overflow_mul-first
overflow_mul-first c = omega (arith, c.in-Some.ensures.0, coeffs-long c.args.s.now c.args.at c.args.k)

pub overflow_add-at-in-Some : goal.overflow_add-at-in-Some
overflow_add-at-in-Some c = omega (arith, c.in-Some.ensures.0, coeffs-long c.args.s.now c.args.at c.args.k)

pub signed_at-c-requires : goal.signed_at-c-requires
signed_at-c-requires c = omega (arith, c.in-Some.ensures.0, coeffs-long c.args.s.now c.args.at c.args.k)

pub put_scaled-requires : goal.put_scaled-requires
put_scaled-requires c = record { end_bound = omega arith; held = held_back (record { sfits = c.signed_at-c.type_inv }) c.signed_at-c.ensures.range; i_lt_constants = omega (arith, c.in-Some.ensures.0, coeffs-long c.args.s.now c.args.at c.args.k) }

pub overflow_add-first : goal.overflow_add-first
overflow_add-first c = omega (arith, c.in-Some.ensures.0, coeffs-long c.args.s.now c.args.at c.args.k)

pub put_pieces-requires-clause-from_le_k : goal.put_pieces-requires-clause-from_le_k
put_pieces-requires-clause-from_le_k c = omega (arith, c.in-Some.ensures.0, coeffs-long c.args.s.now c.args.at c.args.k)

pub returns-in-Some-clause-puts : goal.returns-in-Some-clause-puts
returns-in-Some-clause-puts c =
    let l : c.in-Some.first < c.args.k = omega (arith, c.in-Some.ensures.0, coeffs-long c.args.s.now c.args.at c.args.k) in
    puts-is (puts_then (puts_then c.put_scaled.ensures.puts c.put_pieces.ensures.puts) c.put_constant.ensures.puts) (line-sum _ c.in-Some.ensures.1 (record { sfits = c.signed_at-d.type_inv }) (c.signed_at-d.ensures.is ∙ sym (constant c.args.s.now c.args.at c.args.k)) c.in-Some.ensures.0 (record { sfits = c.signed_at-c.type_inv }) (c.signed_at-c.ensures.is ∙ sym (coefficient c.args.s.now c.args.at c.args.k _ l))) (omega arith)
