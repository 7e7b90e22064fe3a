-- `fields::next_at` meets its contract. The invariant: the fields from here on are those from the start on. Assumes nothing.
use mathlib.Core.Path.{sym, ap, ◌∙◌}
use Rattle.fields.specs.Places.{next_of}
use Rattle.std.specs.Prelude.{Ok}
use Rattle.fields.proofs.Places.{took, took-at, took-next, took-note, took-less, cut_at, ends_at}
use Rattle.fields.proofs.next_at.Goals as goal

pub returns-then-field-lt128 : goal.returns-then-field-lt128
returns-then-field-lt128 c =
    let q = c.in-Ok-Some.is ∙ ap Ok c.in-Ok-Some.field-0-is in
    sym (ap next_of c.loop-field.invariant ∙ took-next (took c.field_at.ensures q) c.if-field-lt128.true ∙ rw (sym (took-at _ _ c.field_at.ensures q)))

pub loop-field-smaller : goal.loop-field-smaller
loop-field-smaller c = took-less (took c.field_at.ensures (c.in-Ok-Some.is ∙ ap Ok c.in-Ok-Some.field-0-is))

pub loop-field-preserved : goal.loop-field-preserved
loop-field-preserved c = c.loop-field.invariant ∙ took-note (took c.field_at.ensures (c.in-Ok-Some.is ∙ ap Ok c.in-Ok-Some.field-0-is)) c.if-field-lt128.false

pub returns-in-Ok-None : goal.returns-in-Ok-None
returns-in-Ok-None c = sym (ap next_of (c.loop-field.invariant ∙ ends_at _ _ c.field_at.ensures (c.in-Ok-None.is ∙ ap Ok c.in-Ok-None.field-0-is)))

pub returns-in-Err : goal.returns-in-Err
returns-in-Err c = sym (ap next_of (c.loop-field.invariant ∙ cut_at _ _ c.field_at.ensures c.in-Err.is))
