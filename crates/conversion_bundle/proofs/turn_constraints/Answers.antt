-- `conversion_bundle::turn_constraints` meets its contract. The invariant `Putting`: what is left to write gives what the whole gives. Assumes nothing.
use mathlib.Core.Path.{◌≡◌, ◌∙◌}
use Prim.Native.Nat.{◌+◌, ◌*◌, ◌≤◌}
use native.Mathlib.Omega.{arith}
use lib.ListN.{length}
use Rattle.fields.proofs.Places.{took-note, took-starts, len_is}
use Rattle.bundle_scan.proofs.SecondPass.{left-took}
use Rattle.conversion_bundle.specs.Turned.{old_width}
use Rattle.conversion_bundle.proofs.Putting.{putting-room, putting-note, putting-done, putting-turn, putting-held, putting-next}
use Rattle.conversion_bundle.proofs.turn_constraints.Goals as goal

pub bounds-s-here : goal.bounds-s-here
bounds-s-here c = let k = left-took c.loop-n.invariant.left c.loop-n-test.true in omega (arith, k.upto)

pub overflow_add-here : goal.overflow_add-here
overflow_add-here c = let k = left-took c.loop-n.invariant.left c.loop-n-test.true in omega (arith, k.upto)

pub turn_constraint-requires : goal.turn_constraint-requires
turn_constraint-requires c =
    let k = took-starts (left-took c.loop-n.invariant.left c.loop-n-test.true) c.if-tag-lt128.true in
    record { to_in_bounds = (putting-turn c.loop-n.invariant k).bytes; s_value = putting-held c.loop-n.invariant k; k_in_bounds = putting-room c.loop-n.invariant c.requires.k_in_bounds c.loop-n-test.true }

pub overflow_add-here-then-tag-lt128 : goal.overflow_add-here-then-tag-lt128
overflow_add-here-then-tag-lt128 c =
    let k = took-starts (left-took c.loop-n.invariant.left c.loop-n-test.true) c.if-tag-lt128.true in
    let h : c.loop-n.here + (3 + (c.args.k + 1) * c.old_bytes.result) ≤ length c.args.s.now = rw c.old_bytes.ensures (omega (arith, (putting-turn c.loop-n.invariant k).bytes)) in
    record { fits = omega (arith, h) }

pub loop-n-smaller-then-tag-lt128 : goal.loop-n-smaller-then-tag-lt128
loop-n-smaller-then-tag-lt128 c =
    let k = took-starts (left-took c.loop-n.invariant.left c.loop-n-test.true) c.if-tag-lt128.true in
    let h : c.loop-n.here + (3 + (c.args.k + 1) * c.old_bytes.result) ≤ length c.args.s.now = rw c.old_bytes.ensures (omega (arith, (putting-turn c.loop-n.invariant k).bytes)) in
    omega (arith, h)

pub loop-n-preserved-then-tag-lt128 : goal.loop-n-preserved-then-tag-lt128
loop-n-preserved-then-tag-lt128 c =
    let a = c.args in
    let l = c.loop-n in
    let k = took-starts (left-took c.loop-n.invariant.left c.loop-n-test.true) c.if-tag-lt128.true in
    let z : l.here + (3 + (a.k + 1) * old_width a.to) ≡ l.here + 3 + (a.k + 1) * old_width a.to = omega arith in
    rw (c.old_bytes.ensures, c.coefficient_bytes.ensures, z, ← (putting-turn l.invariant k).goes) (putting-next l.invariant k c.turn_constraint.ensures)

pub unsigned_at-requires : goal.unsigned_at-requires
unsigned_at-requires c = let k = left-took c.loop-n.invariant.left c.loop-n-test.true in record { width_bound = omega arith; width_in_bounds = omega (arith, k.upto) }

pub loop-n-preserved : goal.loop-n-preserved
loop-n-preserved c =
    let k = left-took c.loop-n.invariant.left c.loop-n-test.true in
    let e = c.unsigned_at.ensures.is ∙ len_is c.args.s.now c.loop-n.here (omega (arith, k.upto)) in
    let z : c.loop-n.here + (3 + c.unsigned_at.result) ≡ c.loop-n.here + 3 + c.unsigned_at.result = omega arith in
    rw (z, e) (putting-note c.loop-n.invariant (took-note k c.if-tag-lt128.false))

pub returns : goal.returns
returns c = putting-done c.loop-n.invariant c.loop-n-test.false
