-- The cycle {formula_at, pair_at, part_at, part_pair_at} meets its contracts. Each answer collects the facts on its way and cites a lemma of `FormulaReader`. Assumes nothing.
use Rattle.std.proofs.Common.{ap, ◌∙◌, arith, Ok}
use Rattle.std.proofs.lemmas.Result.{err_from_is_err_and}
use Rattle.fields.proofs.Places.{starts-required, starts-less}
use Rattle.formula_read.proofs.FormulaReader.{formula-missing, literal-whole, stride-whole, formula-refused, formula-literal, formula-stride, stride-fault, formula-pair, pair-fault, no-level, first-fault, second-fault, both_read, parts-on, parts-fault, parts_next, parts-both}
use Rattle.formula_read.proofs.reading.+formula_at_pair_at_part_at_part_pair_at.Goals as goal

pub formula_at-returns-in_err-field : goal.formula_at-returns-in_err-field
formula_at-returns-in_err-field t c =
    let p = err_from_is_err_and c.from_residual.result c.from_residual.ensures.1 in
    rw (p.1, p.2) (formula-missing _ _ _ _ _ c.next_or_fault.ensures c.in_err-field.was)

pub formula_at-literal_at-requires-clause-whole : goal.formula_at-literal_at-requires-clause-whole
formula_at-literal_at-requires-clause-whole t c = literal-whole (starts-required c.next_or_fault.ensures c.in_ok-field.was) _ c.node_of.ensures (c.in-Ok-Literal.is ∙ ap Ok c.in-Ok-Literal.field-0-is)

pub formula_at-stride_at-requires-clause-whole : goal.formula_at-stride_at-requires-clause-whole
formula_at-stride_at-requires-clause-whole t c = stride-whole (starts-required c.next_or_fault.ensures c.in_ok-field.was) _ c.node_of.ensures (c.in-Ok-Stride.is ∙ ap Ok c.in-Ok-Stride.field-0-is)

pub formula_at-pair_at-requires : goal.formula_at-pair_at-requires
formula_at-pair_at-requires t c = (omega (arith, c.decreases, starts-less (starts-required {s = c.args.s.now} c.next_or_fault.ensures c.in_ok-field.was)), c.requires)

pub formula_at-returns-in_err-both-in-Ok-Pair : goal.formula_at-returns-in_err-both-in-Ok-Pair
formula_at-returns-in_err-both-in-Ok-Pair t c =
    let p = err_from_is_err_and c.from_residual-in_err-both-in-Ok-Pair.result c.from_residual-in_err-both-in-Ok-Pair.ensures.1 in
    rw (p.1, p.2) (pair-fault (starts-required c.next_or_fault.ensures c.in_ok-field.was) _ c.node_of.ensures _ _ (c.in-Ok-Pair.is ∙ ap Ok c.in-Ok-Pair.field-0-is) c.pair_at.ensures c.in_err-both-in-Ok-Pair.was)

pub formula_at-returns-in_ok-both-in-Ok-Pair : goal.formula_at-returns-in_ok-both-in-Ok-Pair
formula_at-returns-in_ok-both-in-Ok-Pair t c = formula-pair (starts-required c.next_or_fault.ensures c.in_ok-field.was) _ c.node_of.ensures _ _ (c.in-Ok-Pair.is ∙ ap Ok c.in-Ok-Pair.field-0-is) c.pair_at.ensures c.in_ok-both-in-Ok-Pair.was c.connect.ensures

pub formula_at-returns-in-Ok-Literal : goal.formula_at-returns-in-Ok-Literal
formula_at-returns-in-Ok-Literal t c = formula-literal (starts-required c.next_or_fault.ensures c.in_ok-field.was) _ c.node_of.ensures _ _ (c.in-Ok-Literal.is ∙ ap Ok c.in-Ok-Literal.field-0-is) c.literal_at.ensures

pub formula_at-returns-in-Ok : goal.formula_at-returns-in-Ok
formula_at-returns-in-Ok t c = formula-stride (starts-required c.next_or_fault.ensures c.in_ok-field.was) _ c.node_of.ensures _ _ (c.in-Ok-Stride.is ∙ ap Ok c.in-Ok-Stride.field-0-is) c.stride_at.ensures c.in-Ok.is

pub formula_at-returns-in-Err-stride_at : goal.formula_at-returns-in-Err-stride_at
formula_at-returns-in-Err-stride_at t c = stride-fault (starts-required c.next_or_fault.ensures c.in_ok-field.was) _ c.node_of.ensures _ _ (c.in-Ok-Stride.is ∙ ap Ok c.in-Ok-Stride.field-0-is) c.stride_at.ensures c.in-Err-stride_at.is c.refused.ensures

pub formula_at-returns-in-Err : goal.formula_at-returns-in-Err
formula_at-returns-in-Err t c = formula-refused (starts-required c.next_or_fault.ensures c.in_ok-field.was) _ c.node_of.ensures _ _ c.in-Err.is c.refused-in-Err.ensures

pub pair_at-returns-then-levels-eq0 : goal.pair_at-returns-then-levels-eq0
pair_at-returns-then-levels-eq0 t c = no-level _ _ _ _ _ c.if-levels-eq0.true

pub pair_at-part_at-requires : goal.pair_at-part_at-requires
pair_at-part_at-requires t c = (omega (arith, c.decreases, parts-on c.loop-i.invariant c.loop-i-test.true), c.requires)

pub pair_at-returns-in_err-part : goal.pair_at-returns-in_err-part
pair_at-returns-in_err-part t c =
    let p = err_from_is_err_and c.from_residual.result c.from_residual.ensures.1 in
    rw (p.1, p.2) (parts-fault c.loop-i.invariant c.if-levels-eq0.false c.loop-i-test.true c.part_at.ensures c.in_err-part.was)

pub pair_at-loop-i-preserved : goal.pair_at-loop-i-preserved
pair_at-loop-i-preserved t c = parts_next c.loop-i.invariant c.if-levels-eq0.false c.loop-i-test.true c.part_at.ensures c.in_ok-part.was

pub pair_at-returns : goal.pair_at-returns
pair_at-returns t c = parts-both c.loop-i.invariant c.loop-i-test.false

pub part_at-returns-in_err-field : goal.part_at-returns-in_err-field
part_at-returns-in_err-field t c =
    let p = err_from_is_err_and c.from_residual.result c.from_residual.ensures.1 in
    rw (p.1, p.2) (formula-missing _ _ _ _ _ c.next_or_fault.ensures c.in_err-field.was)

pub part_at-literal_at-requires-clause-whole : goal.part_at-literal_at-requires-clause-whole
part_at-literal_at-requires-clause-whole t c = literal-whole (starts-required c.next_or_fault.ensures c.in_ok-field.was) _ c.node_of.ensures (c.in-Ok-Literal.is ∙ ap Ok c.in-Ok-Literal.field-0-is)

pub part_at-stride_at-requires-clause-whole : goal.part_at-stride_at-requires-clause-whole
part_at-stride_at-requires-clause-whole t c = stride-whole (starts-required c.next_or_fault.ensures c.in_ok-field.was) _ c.node_of.ensures (c.in-Ok-Stride.is ∙ ap Ok c.in-Ok-Stride.field-0-is)

pub part_at-part_pair_at-requires : goal.part_at-part_pair_at-requires
part_at-part_pair_at-requires t c = (omega (arith, c.decreases, starts-less (starts-required {s = c.args.s.now} c.next_or_fault.ensures c.in_ok-field.was)), c.requires)

pub part_at-returns-in_err-both-in-Ok-Pair : goal.part_at-returns-in_err-both-in-Ok-Pair
part_at-returns-in_err-both-in-Ok-Pair t c =
    let p = err_from_is_err_and c.from_residual-in_err-both-in-Ok-Pair.result c.from_residual-in_err-both-in-Ok-Pair.ensures.1 in
    rw (p.1, p.2) (pair-fault (starts-required c.next_or_fault.ensures c.in_ok-field.was) _ c.node_of.ensures _ _ (c.in-Ok-Pair.is ∙ ap Ok c.in-Ok-Pair.field-0-is) c.part_pair_at.ensures c.in_err-both-in-Ok-Pair.was)

pub part_at-returns-in_ok-both-in-Ok-Pair : goal.part_at-returns-in_ok-both-in-Ok-Pair
part_at-returns-in_ok-both-in-Ok-Pair t c = formula-pair (starts-required c.next_or_fault.ensures c.in_ok-field.was) _ c.node_of.ensures _ _ (c.in-Ok-Pair.is ∙ ap Ok c.in-Ok-Pair.field-0-is) c.part_pair_at.ensures c.in_ok-both-in-Ok-Pair.was c.connect.ensures

pub part_at-returns-in-Ok-Literal : goal.part_at-returns-in-Ok-Literal
part_at-returns-in-Ok-Literal t c = formula-literal (starts-required c.next_or_fault.ensures c.in_ok-field.was) _ c.node_of.ensures _ _ (c.in-Ok-Literal.is ∙ ap Ok c.in-Ok-Literal.field-0-is) c.literal_at.ensures

pub part_at-returns-in-Ok : goal.part_at-returns-in-Ok
part_at-returns-in-Ok t c = formula-stride (starts-required c.next_or_fault.ensures c.in_ok-field.was) _ c.node_of.ensures _ _ (c.in-Ok-Stride.is ∙ ap Ok c.in-Ok-Stride.field-0-is) c.stride_at.ensures c.in-Ok.is

pub part_at-returns-in-Err-stride_at : goal.part_at-returns-in-Err-stride_at
part_at-returns-in-Err-stride_at t c = stride-fault (starts-required c.next_or_fault.ensures c.in_ok-field.was) _ c.node_of.ensures _ _ (c.in-Ok-Stride.is ∙ ap Ok c.in-Ok-Stride.field-0-is) c.stride_at.ensures c.in-Err-stride_at.is c.refused.ensures

pub part_at-returns-in-Err : goal.part_at-returns-in-Err
part_at-returns-in-Err t c = formula-refused (starts-required c.next_or_fault.ensures c.in_ok-field.was) _ c.node_of.ensures _ _ c.in-Err.is c.refused-in-Err.ensures

pub part_pair_at-returns-then-levels-eq0 : goal.part_pair_at-returns-then-levels-eq0
part_pair_at-returns-then-levels-eq0 t c = no-level _ _ _ _ _ c.if-levels-eq0.true

pub part_pair_at-returns-in_err-left : goal.part_pair_at-returns-in_err-left
part_pair_at-returns-in_err-left t c =
    let p = err_from_is_err_and c.from_residual.result c.from_residual.ensures.1 in
    rw (p.1, p.2) (first-fault _ _ c.if-levels-eq0.false c.formula_at.ensures c.in_err-left.was)

pub part_pair_at-returns-in_err-right : goal.part_pair_at-returns-in_err-right
part_pair_at-returns-in_err-right t c =
    let p = err_from_is_err_and c.from_residual-in_err-right.result c.from_residual-in_err-right.ensures.1 in
    rw (p.1, p.2) (second-fault _ _ c.if-levels-eq0.false c.formula_at.ensures c.in_ok-left.was c.formula_at-2.ensures c.in_err-right.was)

pub part_pair_at-returns : goal.part_pair_at-returns
part_pair_at-returns t c = both_read _ _ c.if-levels-eq0.false c.formula_at.ensures c.in_ok-left.was c.formula_at-2.ensures c.in_ok-right.was
