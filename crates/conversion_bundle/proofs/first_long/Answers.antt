-- `conversion_bundle::first_long` meets its contract: what is left tells what the whole does. Assumes nothing.
use mathlib.Core.Path.{◌≡◌, sym, ap, ◌∙◌}
use Prim.Native.Nat.{◌+◌, ◌*◌}
use native.Mathlib.Omega.{arith}
use Rattle.fields.specs.Places.{fields_at}
use Rattle.fields.proofs.Places.{took-note, took-starts, len_is}
use Rattle.bundle_scan.proofs.SecondPass.{left-took, left-note, left-done, left-turn}
use Rattle.conversion_bundle.specs.Turned.{numbers_held}
use Rattle.conversion_bundle.proofs.Holding.{held_on, held-stop, held_none}
use Rattle.conversion_bundle.proofs.first_long.Goals as goal

pub bounds-s-here : goal.bounds-s-here
bounds-s-here c = let k = left-took c.loop-n.invariant.1 c.loop-n-test.true in omega (arith, k.upto)

pub overflow_add-here : goal.overflow_add-here
overflow_add-here c = let k = left-took c.loop-n.invariant.1 c.loop-n-test.true in omega (arith, k.upto)

pub longs_held-requires : goal.longs_held-requires
longs_held-requires c = (left-turn (took-starts (left-took c.loop-n.invariant.1 c.loop-n-test.true) c.if-tag-lt128.true) c.loop-n.invariant.1).bytes

pub overflow_add-here-then-longs_held : goal.overflow_add-here-then-longs_held
overflow_add-here-then-longs_held c = let t = left-turn (took-starts (left-took c.loop-n.invariant.1 c.loop-n-test.true) c.if-tag-lt128.true) c.loop-n.invariant.1 in omega (arith, t.bytes)

pub loop-n-smaller-then-longs_held : goal.loop-n-smaller-then-longs_held
loop-n-smaller-then-longs_held c = let t = left-turn (took-starts (left-took c.loop-n.invariant.1 c.loop-n-test.true) c.if-tag-lt128.true) c.loop-n.invariant.1 in omega (arith, t.bytes)

pub loop-n-preserved-then-longs_held : goal.loop-n-preserved-then-longs_held
loop-n-preserved-then-longs_held c =
    let k = took-starts (left-took c.loop-n.invariant.1 c.loop-n-test.true) c.if-tag-lt128.true in
    let t = left-turn k c.loop-n.invariant.1 in
    let z : c.loop-n.here + (3 + (c.args.k + 1) * 4) ≡ c.loop-n.here + 3 + (c.args.k + 1) * 4 = omega arith in
    rw (z, ← t.goes) (c.loop-n.invariant.0 ∙ held_on 1 k t (sym c.longs_held.ensures ∙ c.if-longs_held.true), t.left)

pub returns-else-longs_held : goal.returns-else-longs_held
returns-else-longs_held c =
    let k = took-starts (left-took c.loop-n.invariant.1 c.loop-n-test.true) c.if-tag-lt128.true in
    c.loop-n.invariant.0 ∙ held-stop 1 k (left-turn k c.loop-n.invariant.1) (sym c.longs_held.ensures ∙ c.if-longs_held.false)

pub unsigned_at-requires : goal.unsigned_at-requires
unsigned_at-requires c = let k = left-took c.loop-n.invariant.1 c.loop-n-test.true in record { width_bound = omega arith; width_in_bounds = omega (arith, k.upto) }

pub loop-n-preserved : goal.loop-n-preserved
loop-n-preserved c =
    let k = left-took c.loop-n.invariant.1 c.loop-n-test.true in
    let e = c.unsigned_at.ensures.is ∙ len_is c.args.s.now c.loop-n.here (omega (arith, k.upto)) in
    let z : c.loop-n.here + (3 + c.unsigned_at.result) ≡ c.loop-n.here + 3 + c.unsigned_at.result = omega arith in
    let same = took-note k c.if-tag-lt128.false in
    rw (z, e) (c.loop-n.invariant.0 ∙ ap (numbers_held 1 c.args.k) same, left-note c.loop-n.invariant.1 same)

pub returns : goal.returns
returns c = c.loop-n.invariant.0 ∙ held_none 1 c.args.k (fields_at c.args.s.now c.loop-n.here) (left-done c.loop-n.invariant.1 c.loop-n-test.false)
