-- The proof of the cycle {formula_at, pair_at}: the bytes fall where the formula reader calls the pair reader, and the levels where that calls the formula reader. Assumes nothing.
use Rattle.std.proofs.Common.{ap, ◌∙◌, arith, rules, Ok}
use Rattle.std.proofs.lemmas.Result.{err_from_is_err_and}
use Rattle.fields.proofs.Places.{starts-required, starts-less}
use Rattle.formula_read.proofs.FormulaReader.{literal-whole, stride-whole}
use Rattle.printing_formula.proofs.PrintingReader.{at_fault, node-refused, node-literal, node-stride, node-pair, pair-none, first-fault, second-fault, both-put, text-on, text-upto, text-few, node-room, parts-place}
use Rattle.printing_formula.proofs.reading.+formula_at_pair_at.Goals as goal

pub formula_at-returns-in_err-field-clause-read : goal.formula_at-returns-in_err-field-clause-read
formula_at-returns-in_err-field-clause-read g t c =
    let p = err_from_is_err_and c.from_residual.result c.from_residual.ensures.1 in
    rw (p.1, p.2) (at_fault _ _ c.next_or_fault.ensures c.in_err-field.was)

pub formula_at-put_literal-requires : goal.formula_at-put_literal-requires
formula_at-put_literal-requires g t c = record {
  whole = literal-whole (starts-required c.next_or_fault.ensures c.in_ok-field.was) _ c.node_of.ensures (c.in-Ok-Literal.is ∙ ap Ok c.in-Ok-Literal.field-0-is);
  k_le_constants = c.requires.constants;
  end_bound = node-room (starts-required c.next_or_fault.ensures c.in_ok-field.was) c.requires;
}

pub formula_at-stride_at-requires : goal.formula_at-stride_at-requires
formula_at-stride_at-requires g t c = record {
  whole = (stride-whole (starts-required c.next_or_fault.ensures c.in_ok-field.was) _ c.node_of.ensures (c.in-Ok-Stride.is ∙ ap Ok c.in-Ok-Stride.field-0-is), (starts-required c.next_or_fault.ensures c.in_ok-field.was).upto);
  k_le_constants = c.requires.constants;
  end_bound = node-room (starts-required c.next_or_fault.ensures c.in_ok-field.was) c.requires;
}

pub formula_at-pair_at-requires : goal.formula_at-pair_at-requires
formula_at-pair_at-requires g t c κs within =
    let k = starts-required {s = c.args.s.now} c.next_or_fault.ensures c.in_ok-field.was in
    (omega (arith, c.decreases, starts-less {s = c.args.s.now} k), (search rules, (parts-place k c.requires, k.upto)))

pub formula_at-returns-in-Err-clause-read : goal.formula_at-returns-in-Err-clause-read
formula_at-returns-in-Err-clause-read g t c = node-refused (starts-required c.next_or_fault.ensures c.in_ok-field.was) _ c.node_of.ensures _ c.in-Err.is c.refused.ensures

pub formula_at-returns-in-Ok-Literal-clause-read : goal.formula_at-returns-in-Ok-Literal-clause-read
formula_at-returns-in-Ok-Literal-clause-read g t c = node-literal (starts-required c.next_or_fault.ensures c.in_ok-field.was) _ c.node_of.ensures _ (c.in-Ok-Literal.is ∙ ap Ok c.in-Ok-Literal.field-0-is) c.put_literal.ensures.puts

pub formula_at-returns-in-Ok-Stride-clause-read : goal.formula_at-returns-in-Ok-Stride-clause-read
formula_at-returns-in-Ok-Stride-clause-read g t c = node-stride (starts-required c.next_or_fault.ensures c.in_ok-field.was) _ c.node_of.ensures _ (c.in-Ok-Stride.is ∙ ap Ok c.in-Ok-Stride.field-0-is) c.stride_at.ensures.read

pub formula_at-returns-in-Ok-Pair-clause-read : goal.formula_at-returns-in-Ok-Pair-clause-read
formula_at-returns-in-Ok-Pair-clause-read g t c = node-pair (starts-required c.next_or_fault.ensures c.in_ok-field.was) _ c.node_of.ensures _ (c.in-Ok-Pair.is ∙ ap Ok c.in-Ok-Pair.field-0-is) c.pair_at.ensures.read

pub pair_at-returns-then-levels-eq0-clause-read : goal.pair_at-returns-then-levels-eq0-clause-read
pair_at-returns-then-levels-eq0-clause-read g t c = pair-none _ _ _ c.args.either c.if-levels-eq0.true

pub pair_at-put_open-requires : goal.pair_at-put_open-requires
pair_at-put_open-requires g t c = omega (arith, c.requires.0.file, c.requires.0.paid, c.requires.1)

pub pair_at-put_between-requires : goal.pair_at-put_between-requires
pair_at-put_between-requires g t c = omega (arith, c.requires.0.file, c.requires.0.paid, c.requires.1, c.put_open.ensures.puts.o_is, c.put_open.ensures.puts.few, text-on _ _ c.formula_at.ensures.read c.in_ok-middle.was, text-upto _ _ c.formula_at.ensures.read c.in_ok-middle.was, text-few _ _ c.formula_at.ensures.read c.in_ok-middle.was)

pub pair_at-put_close-requires : goal.pair_at-put_close-requires
pair_at-put_close-requires g t c = omega (arith, c.requires.0.file, c.requires.0.paid, c.requires.1, c.put_open.ensures.puts.o_is, c.put_open.ensures.puts.few, text-on _ _ c.formula_at.ensures.read c.in_ok-middle.was, text-upto _ _ c.formula_at.ensures.read c.in_ok-middle.was, text-few _ _ c.formula_at.ensures.read c.in_ok-middle.was, c.put_between.ensures.puts.o_is, c.put_between.ensures.puts.few, text-on _ _ c.formula_at-2.ensures.read c.in_ok-next.was, text-upto _ _ c.formula_at-2.ensures.read c.in_ok-next.was, text-few _ _ c.formula_at-2.ensures.read c.in_ok-next.was)

pub pair_at-returns-in_err-middle-clause-read : goal.pair_at-returns-in_err-middle-clause-read
pair_at-returns-in_err-middle-clause-read g t c =
    let p = err_from_is_err_and c.from_residual.result c.from_residual.ensures.1 in
    rw (p.1, p.2) (first-fault c.args.inner _ _ _ c.args.either c.if-levels-eq0.false c.formula_at.ensures.read c.in_err-middle.was)

pub pair_at-returns-in_err-next-clause-read : goal.pair_at-returns-in_err-next-clause-read
pair_at-returns-in_err-next-clause-read g t c =
    let p = err_from_is_err_and c.from_residual-in_err-next.result c.from_residual-in_err-next.ensures.1 in
    rw (p.1, p.2) (second-fault c.args.inner _ _ _ c.args.either c.if-levels-eq0.false c.formula_at.ensures.read c.in_ok-middle.was c.formula_at-2.ensures.read c.in_err-next.was)

pub pair_at-returns-clause-read : goal.pair_at-returns-clause-read
pair_at-returns-clause-read g t c = both-put c.args.inner _ _ _ c.args.either c.if-levels-eq0.false c.formula_at.ensures.read c.in_ok-middle.was c.formula_at-2.ensures.read c.in_ok-next.was c.put_open.ensures.puts c.put_between.ensures.puts c.put_close.ensures.puts
