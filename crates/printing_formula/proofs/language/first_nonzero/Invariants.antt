-- `printing_formula::language::first_nonzero` meets its contract. The invariant: every coefficient so far is 0. Assumes nothing.
use Rattle.form_value.specs.FormAt.{form_at}
use Rattle.printing_formula.specs.Pieces.{Skipped}
use Rattle.printing_formula.proofs.language.first_nonzero.Given as goal

abbrev pub invariant-loop-i : goal.invariant-loop-i
invariant-loop-i l = Skipped (form_at l.s l.at l.k).coeffs l.i
