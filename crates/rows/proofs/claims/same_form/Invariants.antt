-- `rows::claims::same_form` meets its contract. Assumes nothing.
use Rattle.rows.proofs.Claiming.{Going}
use Rattle.rows.proofs.claims.same_form.Given as goal

abbrev pub invariant-loop-x : goal.invariant-loop-x
invariant-loop-x l = Going l.bytes l.lines l.at l.k l.x
