-- `enumeration_search::after` meets its contract: the measure is the number of inferences. Assumes nothing.
use mathlib.Core.Path.{sym, ◌∙◌, ap}
use Prim.Native.Nat.{◌+◌}
use native.Mathlib.Omega.{arith}
use Rattle.std.specs.Prelude.{Option, Ok}
use Rattle.std.proofs.lemmas.Result.{err_from_is_err_and}
use Rattle.enumeration_rows.specs.declared.found.Rows.{Rows}
use Rattle.enumeration_rows.proofs.Inferred.{roomy-more}
use Rattle.enumeration_search.proofs.Searches.{no-inference, rest-cut, inference-ends, given-refused, given-found, given-barred, given-on, given-roomy, one_less, as-roomy, as-deep, as-deep-after}
use Rattle.enumeration_search.proofs.+after.Goals as goal

pub returns-in_default : goal.returns-in_default
returns-in_default t c = as-deep-after c.args.rest.now (sym (one_less c.if-depth-eq0.false)) (no-inference (as-roomy (sym (one_less c.if-depth-eq0.false)) c.requires.search_room).few c.in_default.ensures)

pub returns-then-not-infer : goal.returns-then-not-infer
returns-then-not-infer t c = as-deep-after c.args.rest.now (sym (one_less c.if-depth-eq0.false)) (given-refused (as-roomy (sym (one_less c.if-depth-eq0.false)) c.requires.search_room) c.args.rest.now c.in-Some.j c.in-Some.ensures c.infer.ensures.derives (c.infer.ensures.refused c.if-not-infer.true).1)

pub slice_bounds-behind-start : goal.slice_bounds-behind-start
slice_bounds-behind-start t c = inference-ends c.in-Some.ensures c.inference_bytes.ensures

pub slice_bounds-behind-count : goal.slice_bounds-behind-count
slice_bounds-behind-count t c = inference-ends c.in-Some.ensures c.inference_bytes.ensures

pub after-requires : goal.after-requires
after-requires t c = (omega (arith, c.decreases, c.if-depth-eq0.false), (roomy-more c.requires.search_room.first_edition c.infer.ensures.derives (as-roomy (sym (one_less c.if-depth-eq0.false)) c.requires.search_room) (c.infer.ensures.made c.if-not-infer.false), omega (arith, c.requires.depth_bound)))

pub returns-in_err-rows : goal.returns-in_err-rows
returns-in_err-rows t c = let p = err_from_is_err_and c.from_residual.result c.from_residual.ensures.1 in rw (p.1, p.2) (as-deep-after c.args.rest.now (sym (one_less c.if-depth-eq0.false)) (given-barred (as-roomy (sym (one_less c.if-depth-eq0.false)) c.requires.search_room) c.args.rest.now c.in-Some.j c.in-Some.ensures c.infer.ensures.derives (c.infer.ensures.made c.if-not-infer.false) (rest-cut c.args.rest.now c.args.n c.in-Some.j c.inference_bytes.ensures) c.after.ensures (omega (arith, c.requires.depth_bound)) c.in_err-rows.was))

pub seek-requires-clause-search_room : goal.seek-requires-clause-search_room
seek-requires-clause-search_room t c = as-roomy (one_less c.if-depth-eq0.false) (given-roomy (as-roomy (sym (one_less c.if-depth-eq0.false)) c.requires.search_room) c.args.rest.now c.in-Some.j c.in-Some.ensures c.infer.ensures.derives (c.infer.ensures.made c.if-not-infer.false) (rest-cut c.args.rest.now c.args.n c.in-Some.j c.inference_bytes.ensures) c.after.ensures (omega (arith, c.requires.depth_bound)))

pub returns-in-Some-2 : goal.returns-in-Some-2
returns-in-Some-2 t c = rw c.with_first.ensures (as-deep-after c.args.rest.now (sym (one_less c.if-depth-eq0.false)) (given-found (as-roomy (sym (one_less c.if-depth-eq0.false)) c.requires.search_room) c.args.rest.now c.in-Some.j c.in-Some.ensures c.infer.ensures.derives (c.infer.ensures.made c.if-not-infer.false) (rest-cut c.args.rest.now c.args.n c.in-Some.j c.inference_bytes.ensures) c.after.ensures (omega (arith, c.requires.depth_bound)) (c.in_ok-rows.was ∙ ap (λ (r : Option Rows). Ok r) c.in-Some-2.is)))

pub returns-in-None : goal.returns-in-None
returns-in-None t c = as-deep-after c.args.rest.now (sym (one_less c.if-depth-eq0.false)) (given-on (as-roomy (sym (one_less c.if-depth-eq0.false)) c.requires.search_room) c.args.rest.now c.in-Some.j c.in-Some.ensures c.infer.ensures.derives (c.infer.ensures.made c.if-not-infer.false) (rest-cut c.args.rest.now c.args.n c.in-Some.j c.inference_bytes.ensures) c.after.ensures (omega (arith, c.requires.depth_bound)) (c.in_ok-rows.was ∙ ap (λ (r : Option Rows). Ok r) c.in-None.is) (as-deep (c.in-Some.j + 1) (one_less c.if-depth-eq0.false) c.seek.ensures))
