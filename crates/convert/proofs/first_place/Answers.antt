-- `convert::first_place` meets its contract. Assumes nothing.
use mathlib.Core.Path.{ap, ◌∙◌}
use Rattle.std.specs.Prelude.{Err}
use Rattle.convert.proofs.Other.{first_field, first-cut, first_ends}
use Rattle.convert.proofs.first_place.Goals as goal

pub returns-in-Ok : goal.returns-in-Ok
returns-in-Ok c = first_field _ c.next_field.ensures c.in-Ok.is

pub returns-in-Err-Cut : goal.returns-in-Err-Cut
returns-in-Err-Cut c = rw c.in-Err-Cut.at-is (first-cut _ c.next_field.ensures (c.in-Err-Cut.is ∙ ap Err c.in-Err-Cut.field-0-is))

pub returns-in-Err-Ends : goal.returns-in-Err-Ends
returns-in-Err-Ends c = rw c.in-Err-Ends.at-is (first_ends _ c.next_field.ensures (c.in-Err-Ends.is ∙ ap Err c.in-Err-Ends.field-0-is))
