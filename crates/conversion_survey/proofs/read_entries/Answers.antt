-- `conversion_survey::read_entries` meets its contract: what is left to read and to count from here is the whole from the start. Assumes nothing.
use mathlib.Core.Path.{refl, ap, ◌∙◌}
use Rattle.std.specs.Prelude.{Err}
use native.Mathlib.Omega.{arith}
use Rattle.fields.specs.Places.{fields_at}
use Rattle.fields.proofs.Places.{starts, starts-less, next-cut, next-ends}
use Rattle.conversion_survey.proofs.SurveyedFields.{entries-on, lines-here, entries-stop, entries-cut, entries-ends, fit-step, line-room, fits-ends, size_step, spare-step, len-most, size-ends}
use Rattle.conversion_survey.proofs.read_entries.Goals as goal

pub lines_held-fit-requires : goal.lines_held-fit-requires
lines_held-fit-requires c = let k = starts c.next_field.ensures c.in-Ok.is in record { n_bound = c.line_count.ensures.most; e_in_bounds = line-room c.args.editions.from c.args.editions.to k c.line_count.ensures.is (lines-here c.args.editions.from c.args.k k c.loop-field.made c.laid_out.ensures c.in-Ok-laid_out.is) }

pub turned_len-requires : goal.turned_len-requires
turned_len-requires c = let k = starts c.next_field.ensures c.in-Ok.is in record { e_bound = lines-here c.args.editions.from c.args.k k c.loop-field.made c.laid_out.ensures c.in-Ok-laid_out.is; len_bound = len-most c.args.editions.from c.args.editions.to k c.requires.p_len_bound }

pub overflow_add-size : goal.overflow_add-size
overflow_add-size c = let k = starts c.next_field.ensures c.in-Ok.is in omega (arith, c.turned_len.ensures.most, len-most c.args.editions.from c.args.editions.to k c.requires.p_len_bound)

pub overflow_add-size-in-Ok : goal.overflow_add-size-in-Ok
overflow_add-size-in-Ok c = let k = starts c.next_field.ensures c.in-Ok.is in omega (arith, c.turned_len.ensures.most, len-most c.args.editions.from c.args.editions.to k c.requires.p_len_bound, c.loop-field.invariant.2)

pub loop-field-smaller : goal.loop-field-smaller
loop-field-smaller c = starts-less (starts c.next_field.ensures c.in-Ok.is)

pub loop-field-preserved : goal.loop-field-preserved
loop-field-preserved c = let k = starts c.next_field.ensures c.in-Ok.is in (c.loop-field.invariant.0 ∙ entries-on c.args.editions.from c.args.k k c.loop-field.made c.laid_out.ensures c.in-Ok-laid_out.is, c.loop-field.invariant.1 ∙ size_step c.args.editions.from c.args.editions.to k _ _ c.turned_len.ensures.is, spare-step c.args.editions.from c.args.editions.to k _ _ c.turned_len.ensures.most c.loop-field.invariant.2, λ z. fit-step c.args.editions.from c.args.editions.to k c.line_count.ensures.is (lines-here c.args.editions.from c.args.k k c.loop-field.made c.laid_out.ensures c.in-Ok-laid_out.is) c.lines_held-fit.ensures refl c.loop-field.invariant.3 z)

pub returns-in-Err : goal.returns-in-Err
returns-in-Err c = let k = starts c.next_field.ensures c.in-Ok.is in rw c.refused.ensures (c.loop-field.invariant.0 ∙ entries-stop c.args.editions.from c.args.k k c.loop-field.made c.laid_out.ensures c.in-Err.is)

pub returns-in-Err-Cut : goal.returns-in-Err-Cut
returns-in-Err-Cut c =
    let q = c.in-Err-Cut.is ∙ ap Err c.in-Err-Cut.field-0-is in
    rw c.in-Err-Cut.place-is (c.loop-field.invariant.0 ∙ entries-cut c.args.editions.from c.args.k c.loop-field.made (next-cut (fields_at c.args.p.now c.loop-field.here) c.next_field.ensures q))

pub returns-in-Err-Ends : goal.returns-in-Err-Ends
returns-in-Err-Ends c =
    let q = c.in-Err-Ends.is ∙ ap Err c.in-Err-Ends.field-0-is in
    let e = next-ends (fields_at c.args.p.now c.loop-field.here) c.next_field.ensures q in
    (c.loop-field.invariant.0 ∙ entries-ends c.args.editions.from c.args.k c.loop-field.made e, size-ends c.args.editions.from c.args.editions.to c.loop-field.invariant.1 e, omega (arith, c.loop-field.invariant.2), λ z. c.loop-field.invariant.3 z ∙ fits-ends c.args.editions.from c.args.editions.to e)
