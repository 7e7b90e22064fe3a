-- `printing_formula::language::put_pieces` meets its contract. The invariant: what is left to put gives what the whole gives. Assumes nothing.
use Rattle.std.proofs.Common.{◌≡◌}
use Rattle.form_value.specs.FormAt.{form_at}
use Rattle.printing_formula.proofs.Forms.{Pieces}
use Rattle.printing_formula.proofs.language.put_pieces.Given as goal

abbrev pub invariant-loop-i : goal.invariant-loop-i
invariant-loop-i g l = record {
  same : l.text.out.ghost_name ≡ l.initial.text.out.ghost_name;
  pieces : Pieces g.C.Coefficients.piece (form_at l.s l.at l.k).coeffs l.from l.initial.text.out.now l.initial.text.end l.text.out.now l.text.end l.i;
}
