-- `fields::ending::ending_at` meets its contract: each answer cites the law for its way. Assumes nothing.
use mathlib.Core.Path.{sym, ap, ◌∙◌}
use Rattle.std.specs.Prelude.{Err}
use Rattle.fields.proofs.Places.{starts}
use Rattle.fields.proofs.Endings.{ending-none, ending-cut, ending-known, ending-unknown}
use Rattle.fields.proofs.ending.ending_at.Goals as goal

pub returns-then-known : goal.returns-then-known
returns-then-known c = rw c.refused.ensures (ending-known (starts c.next_field.ensures c.in-Ok.is) (sym c.known.ensures ∙ c.if-known.true))

pub returns-else-known : goal.returns-else-known
returns-else-known c = rw c.refused-in-Ok.ensures (ending-unknown (starts c.next_field.ensures c.in-Ok.is) (sym c.known.ensures ∙ c.if-known.false))

pub returns-in-Err-Cut : goal.returns-in-Err-Cut
returns-in-Err-Cut c = let h = c.in-Err-Cut.place-is in rw h (ending-cut c.next_field.ensures (c.in-Err-Cut.is ∙ ap Err c.in-Err-Cut.field-0-is))

pub returns-in-Err-Ends : goal.returns-in-Err-Ends
returns-in-Err-Ends c = ending-none c.next_field.ensures (c.in-Err-Ends.is ∙ ap Err c.in-Err-Ends.field-0-is)
