-- `run_fields::same::same_fields` meets its contract. Assumes nothing.
use Rattle.run_fields.proofs.SameFields.{FieldsLeft}
use Rattle.run_fields.proofs.same.same_fields.Given as goal

abbrev pub invariant-loop : goal.invariant-loop
invariant-loop l = FieldsLeft l.p l.a l.b l.n l.cursors.0 l.cursors.1 l.counter
