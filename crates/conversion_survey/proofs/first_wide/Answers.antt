-- `conversion_survey::first_wide` meets its contract. Assumes nothing.
use mathlib.Core.Path.{sym, ◌∙◌}
use Rattle.fields.specs.Places.{fields_at}
use Rattle.fields.proofs.Places.{starts, starts-less}
use Rattle.conversion_survey.proofs.SurveyedFields.{fits_on, fits-stop, fits-over, fit_is, there-here, there-on, there-room}
use Rattle.conversion_survey.proofs.first_wide.Goals as goal

pub lines_held-requires : goal.lines_held-requires
lines_held-requires c = record { n_bound = c.line_count.ensures.most; e_in_bounds = there-room c.args.editions.from c.args.editions.to (starts c.next_field.ensures c.in-Ok.is) _ c.line_count.ensures.is c.loop-field.invariant.1 }

pub loop-field-smaller : goal.loop-field-smaller
loop-field-smaller c = starts-less (starts c.next_field.ensures c.in-Ok.is)

pub loop-field-preserved : goal.loop-field-preserved
loop-field-preserved c = let k = starts c.next_field.ensures c.in-Ok.is in (c.loop-field.invariant.0 ∙ fits_on c.args.editions.from c.args.editions.to k (fit_is c.args.editions.from c.args.editions.to k c.line_count.result c.line_count.ensures.is (rw c.line_count.ensures.is (there-here c.args.editions.from c.args.editions.to k c.loop-field.invariant.1)) ∙ sym c.lines_held.ensures ∙ c.if-not-lines_held.false), there-on c.args.editions.from c.args.editions.to k c.loop-field.invariant.1)

pub returns-then-not-lines_held : goal.returns-then-not-lines_held
returns-then-not-lines_held c = let k = starts c.next_field.ensures c.in-Ok.is in rw c.refused.ensures (c.loop-field.invariant.0 ∙ fits-stop c.args.editions.from c.args.editions.to k (fit_is c.args.editions.from c.args.editions.to k c.line_count.result c.line_count.ensures.is (rw c.line_count.ensures.is (there-here c.args.editions.from c.args.editions.to k c.loop-field.invariant.1)) ∙ sym c.lines_held.ensures ∙ c.if-not-lines_held.true))

pub returns : goal.returns
returns c = c.loop-field.invariant.0 ∙ fits-over c.args.editions.from c.args.editions.to (fields_at c.args.p.now c.loop-field.here) c.next_field.ensures c.in_default.not-Ok
