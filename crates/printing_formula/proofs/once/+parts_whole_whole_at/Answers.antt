-- The proof of the cycle {whole_at, parts_whole}. Assumes nothing.
use Rattle.std.proofs.Common.{ap, ◌∙◌, arith, Ok}
use Rattle.std.proofs.lemmas.Result.{err_from_is_err_and}
use Rattle.fields.proofs.Places.{starts-required, starts-less}
use Rattle.formula_read.proofs.FormulaReader.{stride-whole}
use Rattle.printing_formula.proofs.Reaching.{at_fault, node-refused, node-literal, node-stride, node-pair, parts_none, first-fault, second-part, whole-on}
use Rattle.printing_formula.proofs.once.+parts_whole_whole_at.Goals as goal

pub whole_at-returns-in_err-field : goal.whole_at-returns-in_err-field
whole_at-returns-in_err-field t c =
    let p = err_from_is_err_and c.from_residual.result c.from_residual.ensures.1 in
    rw (p.1, p.2) (at_fault _ _ c.next_or_fault.ensures c.in_err-field.was)

pub whole_at-stride_whole-requires : goal.whole_at-stride_whole-requires
whole_at-stride_whole-requires t c = omega (arith, (stride-whole (starts-required c.next_or_fault.ensures c.in_ok-field.was) _ c.node_of.ensures (c.in-Ok-Stride.is ∙ ap Ok c.in-Ok-Stride.field-0-is)).upto)

pub whole_at-parts_whole-requires : goal.whole_at-parts_whole-requires
whole_at-parts_whole-requires t c = (omega (arith, c.decreases, starts-less (starts-required {s = c.args.s.now} c.next_or_fault.ensures c.in_ok-field.was)), c.requires)

pub whole_at-returns-in-Err : goal.whole_at-returns-in-Err
whole_at-returns-in-Err t c = node-refused (starts-required c.next_or_fault.ensures c.in_ok-field.was) _ c.node_of.ensures _ c.in-Err.is c.refused.ensures

pub whole_at-returns-in-Ok-Literal : goal.whole_at-returns-in-Ok-Literal
whole_at-returns-in-Ok-Literal t c = node-literal (starts-required c.next_or_fault.ensures c.in_ok-field.was) _ c.node_of.ensures _ (c.in-Ok-Literal.is ∙ ap Ok c.in-Ok-Literal.field-0-is)

pub whole_at-returns-in-Ok-Stride : goal.whole_at-returns-in-Ok-Stride
whole_at-returns-in-Ok-Stride t c = node-stride (starts-required c.next_or_fault.ensures c.in_ok-field.was) _ c.node_of.ensures _ (c.in-Ok-Stride.is ∙ ap Ok c.in-Ok-Stride.field-0-is) c.stride_whole.ensures

pub whole_at-returns-in-Ok-Pair : goal.whole_at-returns-in-Ok-Pair
whole_at-returns-in-Ok-Pair t c = node-pair (starts-required c.next_or_fault.ensures c.in_ok-field.was) _ c.node_of.ensures _ (c.in-Ok-Pair.is ∙ ap Ok c.in-Ok-Pair.field-0-is) c.parts_whole.ensures

pub parts_whole-returns-then-levels-eq0 : goal.parts_whole-returns-then-levels-eq0
parts_whole-returns-then-levels-eq0 t c = parts_none _ _ _ c.if-levels-eq0.true

pub parts_whole-returns-in_err-middle : goal.parts_whole-returns-in_err-middle
parts_whole-returns-in_err-middle t c =
    let p = err_from_is_err_and c.from_residual.result c.from_residual.ensures.1 in
    rw (p.1, p.2) (first-fault _ _ _ c.if-levels-eq0.false c.whole_at.ensures c.in_err-middle.was)

pub parts_whole-whole_at-requires-2 : goal.parts_whole-whole_at-requires-2
parts_whole-whole_at-requires-2 t c = (omega (arith, c.decreases, whole-on _ _ c.whole_at.ensures c.in_ok-middle.was), c.requires)

pub parts_whole-returns : goal.parts_whole-returns
parts_whole-returns t c = second-part _ _ _ c.if-levels-eq0.false c.whole_at.ensures c.in_ok-middle.was c.whole_at-2.ensures
