-- The proof of the cycle {beginning, seek}: the measure is the number of inferences that may still come, twice, and one more where one of them is made. Assumes nothing.
use mathlib.Core.Path.{refl, sym}
use native.Mathlib.Omega.{arith}
use Rattle.enumeration_rows.proofs.Inferred.{roomy-kept}
use Rattle.enumeration_search.proofs.Searches.{behind-refused, behind-made, inferences-ended, inferences-found, inferences-on, one_less, as-roomy, as-deep}
use Rattle.enumeration_search.proofs.NewCloses.{unclosed-found, unclosed-kept}
use Rattle.enumeration_search.proofs.+beginning_seek.Goals as goal

pub beginning-returns-then-not-infer : goal.beginning-returns-then-not-infer
beginning-returns-then-not-infer t c = behind-refused c.requires.search_room c.args.j c.infer.ensures.derives (c.infer.ensures.refused c.if-not-infer.true).1

pub beginning-seek_close_behind-requires-clause-unclosed : goal.beginning-seek_close_behind-requires-clause-unclosed
beginning-seek_close_behind-requires-clause-unclosed t c = unclosed-kept c.infer.ensures.derives.kept c.requires.unclosed

pub beginning-returns-in_err-rows : goal.beginning-returns-in_err-rows
beginning-returns-in_err-rows t c = rw c.from_residual.ensures (behind-made c.requires.search_room c.args.j c.infer.ensures.derives (c.infer.ensures.made c.if-not-infer.false) (as-deep 0 c.if-depth-eq0.true c.in_err-rows.ensures) c.requires.depth_bound.0 c.requires.depth_bound.1)

pub beginning-returns-then-depth-eq0 : goal.beginning-returns-then-depth-eq0
beginning-returns-then-depth-eq0 t c = rw c.with_first.ensures (behind-made c.requires.search_room c.args.j c.infer.ensures.derives (c.infer.ensures.made c.if-not-infer.false) (as-deep 0 c.if-depth-eq0.true c.in_ok-rows.ensures) c.requires.depth_bound.0 c.requires.depth_bound.1)

pub beginning-returns-in_err-rows-2 : goal.beginning-returns-in_err-rows-2
beginning-returns-in_err-rows-2 t c = rw c.from_residual-in_err-rows-2.ensures (behind-made c.requires.search_room c.args.j c.infer.ensures.derives (c.infer.ensures.made c.if-not-infer.false) c.in_err-rows-2.ensures c.requires.depth_bound.0 c.requires.depth_bound.1)

pub beginning-returns : goal.beginning-returns
beginning-returns t c = rw c.with_first-2.ensures (behind-made c.requires.search_room c.args.j c.infer.ensures.derives (c.infer.ensures.made c.if-not-infer.false) c.in_ok-rows-2.ensures c.requires.depth_bound.0 c.requires.depth_bound.1)

pub seek-beginning-requires : goal.seek-beginning-requires
seek-beginning-requires t c = (omega (arith, c.decreases, c.if-depth-eq0.false), (as-roomy (sym (one_less c.if-depth-eq0.false)) (roomy-kept c.requires.search_room c.loop-j.invariant.kept), ((omega (arith, c.requires.depth_bound), omega (arith, c.loop-j-test.true, c.inference_count-j-end.ensures)), unclosed-kept c.loop-j.invariant.kept (unclosed-found c.seek_close-2.ensures c.is_none-unclosed.ensures))))

pub seek-returns-in-Some : goal.seek-returns-in-Some
seek-returns-in-Some t c = inferences-found c.loop-j.invariant (one_less c.if-depth-eq0.false) c.in-Some.ensures c.inference_count-j-end.ensures c.loop-j-test.true refl

pub seek-loop-j-preserved : goal.seek-loop-j-preserved
seek-loop-j-preserved t c = inferences-on c.loop-j.invariant (one_less c.if-depth-eq0.false) c.in_default.ensures c.inference_count-j-end.ensures c.loop-j-test.true refl

pub seek-returns : goal.seek-returns
seek-returns t c = inferences-ended c.loop-j.invariant (omega (arith, c.if-depth-eq0.false)) c.inference_count-j-end.ensures c.loop-j-test.false
