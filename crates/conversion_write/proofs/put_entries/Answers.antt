-- `conversion_write::put_entries` meets its contract. Assumes nothing.
use mathlib.Core.Path.{◌∙◌}
use Prim.Native.Nat.{◌+◌, ◌≤◌}
use lib.ListN.{length}
use native.Mathlib.Omega.{arith}
use Rattle.fields.specs.Places.{fields_at}
use Rattle.fields.proofs.Places.{starts, starts-less}
use Rattle.conversion_survey.proofs.SurveyedFields.{turned, turned-over, there-here, there-on, len-most}
use Rattle.conversion_write.proofs.Putting.{room-step, put_step, put-length, put-room, put-over}
use borrow.Author.Rules.{rules}
use Rattle.conversion_write.proofs.put_entries.Goals as goal

pub put_entry-requires : goal.put_entry-requires
put_entry-requires c = let k = starts c.next_field.ensures c.in-Ok.is in record { e_bound = there-here c.args.editions.from c.args.editions.to k c.loop-field.invariant.1; len_in_bounds = (omega (arith, k.upto, k.next-is), len-most c.args.editions.from c.args.editions.to k c.requires.p_len_bound); e_in_bounds = room-step c.args.editions.from c.args.editions.to k c.loop-field.out c.loop-field.end c.loop-field.invariant.2 }

pub turned_len-requires : goal.turned_len-requires
turned_len-requires c = let k = starts c.next_field.ensures c.in-Ok.is in record { e_bound = there-here c.args.editions.from c.args.editions.to k c.loop-field.invariant.1; len_bound = len-most c.args.editions.from c.args.editions.to k c.requires.p_len_bound }

pub overflow_add-end : goal.overflow_add-end
overflow_add-end c = let k = starts c.next_field.ensures c.in-Ok.is in omega (arith, c.turned_len.ensures.most, len-most c.args.editions.from c.args.editions.to k c.requires.p_len_bound)

pub overflow_add-end-in-Ok : goal.overflow_add-end-in-Ok
overflow_add-end-in-Ok c = let k = starts c.next_field.ensures c.in-Ok.is in let h : c.loop-field.end + (3 + c.turned_len.result) ≤ length c.loop-field.out = omega (arith, room-step c.args.editions.from c.args.editions.to k c.loop-field.out c.loop-field.end c.loop-field.invariant.2, c.turned_len.ensures.is) in search rules

pub loop-field-smaller : goal.loop-field-smaller
loop-field-smaller c = starts-less (starts c.next_field.ensures c.in-Ok.is)

pub loop-field-preserved : goal.loop-field-preserved
loop-field-preserved c = let k = starts c.next_field.ensures c.in-Ok.is in (c.loop-field.invariant.0 ∙ put_step c.args.editions.from c.args.editions.to k c.loop-field.out c.loop-field.end c.put_entry.ensures c.turned_len.result c.turned_len.ensures.is, there-on c.args.editions.from c.args.editions.to k c.loop-field.invariant.1, put-room c.args.editions.from c.args.editions.to k c.loop-field.out c.loop-field.end c.put_entry.ensures c.turned_len.result c.turned_len.ensures.is c.loop-field.invariant.2, put-length c.args.editions.from c.args.editions.to k c.loop-field.out c.loop-field.end c.put_entry.ensures c.turned_len.result c.turned_len.ensures.is ∙ c.loop-field.invariant.3)

pub returns : goal.returns
returns c = put-over c.args.out.now c.loop-field.out (turned c.args.editions.from c.args.editions.to (fields_at c.args.p.now c.args.at)) c.args.o c.loop-field.end c.loop-field.invariant.0 (turned-over c.args.editions.from c.args.editions.to (fields_at c.args.p.now c.loop-field.here) c.next_field.ensures c.in_default.not-Ok)
