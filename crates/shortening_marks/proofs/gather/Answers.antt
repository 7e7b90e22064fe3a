-- `shortening_marks::gather` meets its contract. The invariant `Gathering`: what is left to gather gives what the whole gives, over any number of constants. Assumes nothing.
use native.Mathlib.Omega.{arith}
use Rattle.fields.proofs.Places.{starts, starts-less}
use Rattle.shortening_marks.proofs.Gathering.{gathering-start, gathering-over, entry-there, rows-room, stack-room, rows_fit, gathering-claim, gathering-row}
use Rattle.shortening_marks.proofs.gather.Goals as goal

pub loop-field-init : goal.loop-field-init
loop-field-init c = λ K a. gathering-start a

pub outline_at-x-requires : goal.outline_at-x-requires
outline_at-x-requires c = entry-there (c.loop-field.invariant c.args.body.k c.requires) (starts c.next_field.ensures c.in-Ok.is)

pub offset_bounds-gathered-rows : goal.offset_bounds-gathered-rows
offset_bounds-gathered-rows c = record { fits = omega (arith, rows_fit (c.loop-field.invariant c.args.body.k c.requires) (starts c.next_field.ensures c.in-Ok.is) c.outline_at-x.ensures c.in_default-class.not-Claims) }

pub bounds-gathered-rows : goal.bounds-gathered-rows
bounds-gathered-rows c = rows-room (c.loop-field.invariant c.args.body.k c.requires) (starts c.next_field.ensures c.in-Ok.is) c.outline_at-x.ensures c.in_default-class.not-Claims

pub advance-moved-requires : goal.advance-moved-requires
advance-moved-requires c = stack-room (c.loop-field.invariant c.args.body.k c.requires) (starts c.next_field.ensures c.in-Ok.is) c.outline_at-x.ensures c.in_default-class.not-Claims

pub overflow_add-rows : goal.overflow_add-rows
overflow_add-rows c = record { fits = omega (arith, rows_fit (c.loop-field.invariant c.args.body.k c.requires) (starts c.next_field.ensures c.in-Ok.is) c.outline_at-x.ensures c.in_default-class.not-Claims) }

pub loop-field-smaller : goal.loop-field-smaller
loop-field-smaller c = starts-less (starts c.next_field.ensures c.in-Ok.is)

pub loop-field-preserved : goal.loop-field-preserved
loop-field-preserved c = λ K a. gathering-row (c.loop-field.invariant K a) (starts c.next_field.ensures c.in-Ok.is) c.outline_at-x.ensures c.in_default-class.not-Claims c.advance-moved.ensures.moved

pub loop-field-smaller-in-Claims : goal.loop-field-smaller-in-Claims
loop-field-smaller-in-Claims c = starts-less (starts c.next_field.ensures c.in-Ok.is)

pub loop-field-preserved-in-Claims : goal.loop-field-preserved-in-Claims
loop-field-preserved-in-Claims c = λ K a. gathering-claim (c.loop-field.invariant K a) (starts c.next_field.ensures c.in-Ok.is) c.outline_at-x.ensures c.in-Claims.is

pub returns : goal.returns
returns c = gathering-over (c.loop-field.invariant c.args.body.k c.requires) c.next_field.ensures c.in_default.not-Ok
