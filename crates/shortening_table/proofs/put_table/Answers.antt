-- `shortening_table::put_table` meets its contract. The invariant `Writing`: what is left to write from here is the whole from the start, over any number of constants. Assumes nothing.
use native.Mathlib.Omega.{arith}
use Rattle.fields.proofs.Places.{starts, starts-less}
use Rattle.shortening_table.proofs.Writing.{writing_start, writing-over, entry-there, claim-keepable, claim-stays, claim-goes, row-reported, rows_fit, lines_fit, writing-gone, row-keepable, stack-room, row-renewable, writing-row}
use Rattle.shortening_table.proofs.put_table.Goals as goal

pub loop-field-init : goal.loop-field-init
loop-field-init c = λ K a. writing_start a

pub put_kept-to-requires : goal.put_kept-to-requires
put_kept-to-requires c = claim-keepable (c.loop-field.invariant c.args.body.k c.requires) (starts c.next_field.ensures c.in-Ok.is) c.if-field-eq32.true c.if-stays.true

pub bounds-report-rows : goal.bounds-report-rows
bounds-report-rows c = row-reported (c.loop-field.invariant c.args.body.k c.requires) (starts c.next_field.ensures c.in-Ok.is) c.if-field-eq32.false

pub renew-requires : goal.renew-requires
renew-requires c = row-renewable (c.loop-field.invariant c.args.body.k c.requires) (starts c.next_field.ensures c.in-Ok.is) c.if-field-eq32.false

pub overflow_add-standing : goal.overflow_add-standing
overflow_add-standing c = record { fits = omega (arith, lines_fit (c.loop-field.invariant c.args.body.k c.requires) (starts c.next_field.ensures c.in-Ok.is) c.if-field-eq32.false) }

pub overflow_add-rows : goal.overflow_add-rows
overflow_add-rows c = record { fits = omega (arith, rows_fit (c.loop-field.invariant c.args.body.k c.requires) (starts c.next_field.ensures c.in-Ok.is) c.if-field-eq32.false) }

pub outline_at-x-requires : goal.outline_at-x-requires
outline_at-x-requires c = entry-there (c.loop-field.invariant c.args.body.k c.requires) (starts c.next_field.ensures c.in-Ok.is)

pub put_kept-to-requires-else-report-rows-eq0 : goal.put_kept-to-requires-else-report-rows-eq0
put_kept-to-requires-else-report-rows-eq0 c = row-keepable (c.loop-field.invariant c.args.body.k c.requires) (starts c.next_field.ensures c.in-Ok.is) c.if-field-eq32.false c.if-report-rows-eq0.false

pub renew-requires-else-report-rows-eq0 : goal.renew-requires-else-report-rows-eq0
renew-requires-else-report-rows-eq0 c = row-renewable (c.loop-field.invariant c.args.body.k c.requires) (starts c.next_field.ensures c.in-Ok.is) c.if-field-eq32.false

pub advance-standing-requires : goal.advance-standing-requires
advance-standing-requires c = stack-room (c.loop-field.invariant c.args.body.k c.requires) (starts c.next_field.ensures c.in-Ok.is) c.if-field-eq32.false c.if-report-rows-eq0.false

pub loop-field-smaller-then-stays : goal.loop-field-smaller-then-stays
loop-field-smaller-then-stays c = starts-less (starts c.next_field.ensures c.in-Ok.is)

pub loop-field-preserved-then-stays : goal.loop-field-preserved-then-stays
loop-field-preserved-then-stays c = λ K a. claim-stays (c.loop-field.invariant K a) (starts c.next_field.ensures c.in-Ok.is) c.if-field-eq32.true c.if-stays.true c.put_kept-to.ensures

pub loop-field-smaller-else-stays : goal.loop-field-smaller-else-stays
loop-field-smaller-else-stays c = starts-less (starts c.next_field.ensures c.in-Ok.is)

pub loop-field-preserved-else-stays : goal.loop-field-preserved-else-stays
loop-field-preserved-else-stays c = λ K a. claim-goes (c.loop-field.invariant K a) (starts c.next_field.ensures c.in-Ok.is) c.if-field-eq32.true c.if-stays.false

pub loop-field-smaller-then-report-rows-eq0 : goal.loop-field-smaller-then-report-rows-eq0
loop-field-smaller-then-report-rows-eq0 c = starts-less (starts c.next_field.ensures c.in-Ok.is)

pub loop-field-preserved-then-report-rows-eq0 : goal.loop-field-preserved-then-report-rows-eq0
loop-field-preserved-then-report-rows-eq0 c = λ K a. writing-gone (c.loop-field.invariant K a) (starts c.next_field.ensures c.in-Ok.is) c.if-field-eq32.false c.if-report-rows-eq0.true c.renew.ensures

pub loop-field-smaller : goal.loop-field-smaller
loop-field-smaller c = starts-less (starts c.next_field.ensures c.in-Ok.is)

pub loop-field-preserved : goal.loop-field-preserved
loop-field-preserved c = λ K a. writing-row (c.loop-field.invariant K a) (starts c.next_field.ensures c.in-Ok.is) c.if-field-eq32.false c.if-report-rows-eq0.false c.outline_at-x.ensures c.put_kept-to-else-report-rows-eq0.ensures c.renew-else-report-rows-eq0.ensures c.advance-standing.ensures.moved

pub returns : goal.returns
returns c = writing-over (c.loop-field.invariant c.args.body.k c.requires) c.next_field.ensures c.in_default.not-Ok
