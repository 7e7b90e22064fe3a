-- `branches::branch::entries` meets its contract. Assumes nothing.
use native.Mathlib.Omega.{arith}
use mathlib.Core.Path.{ap, ◌∙◌}
use borrow.Author.Rules.{rules}
use Rattle.std.specs.Prelude.{Ok}
use Rattle.std.proofs.lemmas.Result.{err_from_is_err_and}
use Rattle.fields.proofs.Places.{starts, starts-less}
use Rattle.fields.specs.declared.End.{End}
use Rattle.branches.specs.Branches.{unclosed}
use Rattle.branches.proofs.BranchStops.{Told, told-ok, told-err}
use Rattle.branches.proofs.EntriesLoop.{going-end, going-refused, going-made, going-claimed, going-strengthens, going-number, going-stride, going-rounds, going-splits}
use Rattle.branches.proofs.branch.entries.Goals as goal

pub returns-in_err-field : goal.returns-in_err-field
returns-in_err-field c =
    let of = λ (e : End). unclosed e c.loop-field.count.rows c.args.position in
    let told : Told of c.next_field.result c.map_err.result = search rules in
    let w = told-err of c.next_field.result told c.in_err-field.was in
    let p = err_from_is_err_and c.from_residual.result c.from_residual.ensures.1 in
    rw (p.1, p.2) (going-end c.loop-field.invariant c.args.position c.next_field.ensures w)

pub slice_bounds-contents-end : goal.slice_bounds-contents-end
slice_bounds-contents-end c =
    let of = λ (e : End). unclosed e c.loop-field.count.rows c.args.position in
    let told : Told of c.next_field.result c.map_err.result = search rules in
    let s = starts c.next_field.ensures (told-ok of c.next_field.result told c.in_ok-field.was) in
    omega (arith, s.next-is, s.upto)

pub returns-in-Err : goal.returns-in-Err
returns-in-Err c =
    let of = λ (e : End). unclosed e c.loop-field.count.rows c.args.position in
    let told : Told of c.next_field.result c.map_err.result = search rules in
    let s = starts c.next_field.ensures (told-ok of c.next_field.result told c.in_ok-field.was) in
    rw c.refused.ensures (going-refused c.loop-field.invariant s c.step.ensures.steps c.step.ensures.advances c.args.position c.in-Err.is)

pub returns-in-Ok-Strengthens : goal.returns-in-Ok-Strengthens
returns-in-Ok-Strengthens c =
    let of = λ (e : End). unclosed e c.loop-field.count.rows c.args.position in
    let told : Told of c.next_field.result c.map_err.result = search rules in
    let s = starts c.next_field.ensures (told-ok of c.next_field.result told c.in_ok-field.was) in
    rw c.stopped.ensures (going-strengthens c.loop-field.invariant s c.step.ensures.steps c.step.ensures.advances c.args.position (c.in-Ok-Strengthens.is ∙ ap Ok c.in-Ok-Strengthens.field-0-is))

pub returns-in-Ok-ClosesNumber : goal.returns-in-Ok-ClosesNumber
returns-in-Ok-ClosesNumber c =
    let of = λ (e : End). unclosed e c.loop-field.count.rows c.args.position in
    let told : Told of c.next_field.result c.map_err.result = search rules in
    let s = starts c.next_field.ensures (told-ok of c.next_field.result told c.in_ok-field.was) in
    rw c.stopped-in-Ok-ClosesNumber.ensures (going-number c.loop-field.invariant s c.step.ensures.steps c.step.ensures.advances c.args.position (c.in-Ok-ClosesNumber.is ∙ ap Ok c.in-Ok-ClosesNumber.field-0-is))

pub returns-in-Ok-Splits : goal.returns-in-Ok-Splits
returns-in-Ok-Splits c =
    let of = λ (e : End). unclosed e c.loop-field.count.rows c.args.position in
    let told : Told of c.next_field.result c.map_err.result = search rules in
    let s = starts c.next_field.ensures (told-ok of c.next_field.result told c.in_ok-field.was) in
    rw c.stopped-in-Ok-Splits.ensures (going-splits c.loop-field.invariant s c.step.ensures.steps c.step.ensures.advances c.args.position (c.in-Ok-Splits.is ∙ ap Ok c.in-Ok-Splits.field-0-is))

pub returns-in-Ok-ClosesStride : goal.returns-in-Ok-ClosesStride
returns-in-Ok-ClosesStride c =
    let of = λ (e : End). unclosed e c.loop-field.count.rows c.args.position in
    let told : Told of c.next_field.result c.map_err.result = search rules in
    let s = starts c.next_field.ensures (told-ok of c.next_field.result told c.in_ok-field.was) in
    let e = c.in-Ok-ClosesStride.is ∙ ap Ok c.in-Ok-ClosesStride.field-0-is in
    rw c.stopped-in-Ok-ClosesStride.ensures (going-stride c.loop-field.invariant s c.step.ensures.steps c.step.ensures.advances c.args.position e)

pub returns-in-Ok-Rounds : goal.returns-in-Ok-Rounds
returns-in-Ok-Rounds c =
    let of = λ (e : End). unclosed e c.loop-field.count.rows c.args.position in
    let told : Told of c.next_field.result c.map_err.result = search rules in
    let s = starts c.next_field.ensures (told-ok of c.next_field.result told c.in_ok-field.was) in
    let e = c.in-Ok-Rounds.is ∙ ap Ok c.in-Ok-Rounds.field-0-is in
    rw c.stopped-in-Ok-Rounds.ensures (going-rounds c.loop-field.invariant s c.step.ensures.steps c.step.ensures.advances c.args.position e)

pub loop-field-smaller-in-Ok-Made : goal.loop-field-smaller-in-Ok-Made
loop-field-smaller-in-Ok-Made c =
    let of = λ (e : End). unclosed e c.loop-field.count.rows c.args.position in
    let told : Told of c.next_field.result c.map_err.result = search rules in
    let s = starts c.next_field.ensures (told-ok of c.next_field.result told c.in_ok-field.was) in
    starts-less s

pub loop-field-smaller : goal.loop-field-smaller
loop-field-smaller c =
    let of = λ (e : End). unclosed e c.loop-field.count.rows c.args.position in
    let told : Told of c.next_field.result c.map_err.result = search rules in
    let s = starts c.next_field.ensures (told-ok of c.next_field.result told c.in_ok-field.was) in
    starts-less s

pub loop-field-preserved-in-Ok-Made : goal.loop-field-preserved-in-Ok-Made
loop-field-preserved-in-Ok-Made c =
    let of = λ (e : End). unclosed e c.loop-field.count.rows c.args.position in
    let told : Told of c.next_field.result c.map_err.result = search rules in
    let s = starts c.next_field.ensures (told-ok of c.next_field.result told c.in_ok-field.was) in
    going-made c.loop-field.invariant s c.step.ensures.steps c.step.ensures.advances (c.in-Ok-Made.is ∙ ap Ok c.in-Ok-Made.field-0-is)

pub loop-field-preserved : goal.loop-field-preserved
loop-field-preserved c =
    let of = λ (e : End). unclosed e c.loop-field.count.rows c.args.position in
    let told : Told of c.next_field.result c.map_err.result = search rules in
    let s = starts c.next_field.ensures (told-ok of c.next_field.result told c.in_ok-field.was) in
    going-claimed c.loop-field.invariant s c.step.ensures.steps c.step.ensures.advances (c.in-Ok-Claimed.is ∙ ap Ok c.in-Ok-Claimed.field-0-is)
