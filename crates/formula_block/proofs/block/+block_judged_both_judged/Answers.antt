-- The cycle {block_judged, both_judged} meets its contracts: each answer collects the facts on its way and cites a lemma of `Judging`. Assumes nothing.
use Rattle.std.proofs.Common.{ap, ◌∙◌, arith, Ok}
use Rattle.fields.proofs.Places.{starts-required}
use Rattle.formula_read.proofs.FormulaReader.{literal-whole, stride-whole}
use Rattle.formula_block.proofs.Judging.{block-missing, block_refused, block-literal, block-stride, block-pair, both-none, both-and, both-or, block-fewer}
use Rattle.formula_block.proofs.block.+block_judged_both_judged.Goals as goal

pub block_judged-leaf_marks-requires-clause-whole : goal.block_judged-leaf_marks-requires-clause-whole
block_judged-leaf_marks-requires-clause-whole t c = literal-whole (starts-required c.next_or_fault.ensures c.in-Ok.is) _ c.node_of.ensures (c.in-Ok-Literal.is ∙ ap Ok c.in-Ok-Literal.field-0-is)

pub block_judged-stride_marks-requires-clause-whole : goal.block_judged-stride_marks-requires-clause-whole
block_judged-stride_marks-requires-clause-whole t c = stride-whole (starts-required c.next_or_fault.ensures c.in-Ok.is) _ c.node_of.ensures (c.in-Ok-Stride.is ∙ ap Ok c.in-Ok-Stride.field-0-is)

pub block_judged-returns-in-Err : goal.block_judged-returns-in-Err
block_judged-returns-in-Err t c = block_refused (starts-required c.next_or_fault.ensures c.in-Ok.is) _ c.node_of.ensures _ _ _ _ c.in-Err.is _

pub block_judged-returns-in-Ok-Literal : goal.block_judged-returns-in-Ok-Literal
block_judged-returns-in-Ok-Literal t c = block-literal (starts-required c.next_or_fault.ensures c.in-Ok.is) _ c.node_of.ensures _ _ _ _ (c.in-Ok-Literal.is ∙ ap Ok c.in-Ok-Literal.field-0-is) c.leaf_marks.ensures.small c.leaf_marks.ensures.is

pub block_judged-returns-in-Ok-Stride : goal.block_judged-returns-in-Ok-Stride
block_judged-returns-in-Ok-Stride t c = block-stride (starts-required c.next_or_fault.ensures c.in-Ok.is) _ c.node_of.ensures _ _ _ _ (c.in-Ok-Stride.is ∙ ap Ok c.in-Ok-Stride.field-0-is) c.stride_marks.ensures.small c.stride_marks.ensures.is

pub block_judged-returns-in-Ok-Pair : goal.block_judged-returns-in-Ok-Pair
block_judged-returns-in-Ok-Pair t c = block-pair (starts-required c.next_or_fault.ensures c.in-Ok.is) _ c.node_of.ensures _ _ _ _ (c.in-Ok-Pair.is ∙ ap Ok c.in-Ok-Pair.field-0-is) c.both_judged.ensures

pub both_judged-returns-then-levels-eq0 : goal.both_judged-returns-then-levels-eq0
both_judged-returns-then-levels-eq0 t c = both-none c.if-levels-eq0.true _

pub both_judged-returns-then-either : goal.both_judged-returns-then-either
both_judged-returns-then-either t c = both-or c.if-levels-eq0.false c.block_judged-first.ensures c.if-either.true c.block_judged-second.ensures

pub both_judged-returns : goal.both_judged-returns
both_judged-returns t c = both-and c.if-levels-eq0.false c.block_judged-first.ensures c.if-either.false c.block_judged.ensures

pub both_judged-block_judged-requires : goal.both_judged-block_judged-requires
both_judged-block_judged-requires t c = (omega arith, block-fewer c.requires (omega (arith, c.block_judged-first.ensures.small)))

pub both_judged-block_judged-second-requires : goal.both_judged-block_judged-second-requires
both_judged-block_judged-second-requires t c = (omega arith, block-fewer c.requires (omega arith))

pub block_judged-returns-in_default : goal.block_judged-returns-in_default
block_judged-returns-in_default t c = block-missing _ _ _ _ c.next_or_fault.ensures c.in_default.is _
