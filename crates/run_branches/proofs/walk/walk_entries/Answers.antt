-- `run_branches::walk::walk_entries` meets its contract. Assumes nothing.
use native.Mathlib.Omega.{arith}
use mathlib.Core.Path.{refl, ap, ◌∙◌}
use Rattle.std.specs.Prelude.{Ok, Err}
use Rattle.fields.proofs.Places.{starts, starts-less, next-cut, next-ends}
use Rattle.run_branches.proofs.EntriesLoop.{going_start, going-ends, going-cut, row-few, going-goes, going-opens, going-closes, going-claims, going-fault}
use Rattle.run_branches.proofs.walk.walk_entries.Goals as goal

pub loop-field-init : goal.loop-field-init
loop-field-init c = going_start c.requires

pub kind_at-requires : goal.kind_at-requires
kind_at-requires c =
    let s = starts c.next_field.ensures c.in-Ok.is in
    omega (arith, s.next-is, s.upto)

pub overflow_add-count : goal.overflow_add-count
overflow_add-count c = omega (arith, row-few c.loop-field.invariant (starts c.next_field.ensures c.in-Ok.is) c.kind_at.ensures)

pub loop-field-smaller : goal.loop-field-smaller
loop-field-smaller c = starts-less (starts c.next_field.ensures c.in-Ok.is)

pub loop-field-preserved : goal.loop-field-preserved
loop-field-preserved c = going-goes c.loop-field.invariant (starts c.next_field.ensures c.in-Ok.is) c.kind_at.ensures (c.in-Ok-Derives.is ∙ ap Ok c.in-Ok-Derives.field-0-is)

pub returns-in-Ok-Opens : goal.returns-in-Ok-Opens
returns-in-Ok-Opens c = going-opens c.loop-field.invariant (starts c.next_field.ensures c.in-Ok.is) c.kind_at.ensures (c.in-Ok-Opens.is ∙ ap Ok c.in-Ok-Opens.field-0-is) refl

pub overflow_add-result : goal.overflow_add-result
overflow_add-result c = omega (arith, row-few c.loop-field.invariant (starts c.next_field.ensures c.in-Ok.is) c.kind_at.ensures)

pub returns-in-Ok-Closes : goal.returns-in-Ok-Closes
returns-in-Ok-Closes c = going-closes c.loop-field.invariant (starts c.next_field.ensures c.in-Ok.is) c.kind_at.ensures (c.in-Ok-Closes.is ∙ ap Ok c.in-Ok-Closes.field-0-is) refl c.standing-unlike.ensures

pub returns-in-Ok-Claims : goal.returns-in-Ok-Claims
returns-in-Ok-Claims c = going-claims c.loop-field.invariant (starts c.next_field.ensures c.in-Ok.is) c.kind_at.ensures (c.in-Ok-Claims.is ∙ ap Ok c.in-Ok-Claims.field-0-is) c.standing.ensures

pub returns-in-Err : goal.returns-in-Err
returns-in-Err c = going-fault c.loop-field.invariant (starts c.next_field.ensures c.in-Ok.is) c.kind_at.ensures c.in-Err.is c.proof_refusal-in-Err.ensures

pub returns-in-Err-Cut : goal.returns-in-Err-Cut
returns-in-Err-Cut c = going-cut c.loop-field.invariant (next-cut _ c.next_field.ensures (c.in-Err-Cut.is ∙ ap Err c.in-Err-Cut.field-0-is)) c.proof_refusal.ensures

pub returns-in-Err-Ends : goal.returns-in-Err-Ends
returns-in-Err-Ends c = going-ends c.loop-field.invariant (next-ends _ c.next_field.ensures (c.in-Err-Ends.is ∙ ap Err c.in-Err-Ends.field-0-is)) c.proof_refusal-in-Err-Ends.ensures
