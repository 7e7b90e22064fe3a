-- `printing_formula::language::put_pieces` meets its contract. Assumes nothing.
use Rattle.std.proofs.Common.{refl, ◌∙◌, arith}
use Rattle.printing_formula.proofs.Forms.{coeffs-long, coefficient, pieces-start, pieces-on, pieces_end}
use Rattle.printing_formula.proofs.language.put_pieces.Goals as goal

pub loop-i-init : goal.loop-i-init
loop-i-init g c = record { same = refl; pieces = pieces-start g.C.Coefficients.piece _ _ _ _ (omega (arith, coeffs-long c.args.s.now c.args.at c.args.k)) }

pub loop-i-preserved : goal.loop-i-preserved
loop-i-preserved g c = record { same = c.put_piece.ensures.same_output ∙ c.loop-i.invariant.same; pieces = pieces-on c.loop-i.invariant.pieces (omega (arith, coeffs-long c.args.s.now c.args.at c.args.k)) _ (coefficient _ _ _ c.loop-i.i c.loop-i-test.true) c.put_piece.ensures.puts }

pub returns-clause-puts : goal.returns-clause-puts
returns-clause-puts g c = pieces_end c.loop-i.invariant.pieces _ (coeffs-long _ _ _) c.loop-i-test.false
