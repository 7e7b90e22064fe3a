-- `bundle_read::store::store_constraints` meets its contract. The invariant `Storing`: what is left to store gives what the whole gives. Assumes nothing.
use mathlib.Core.Path.{◌≡◌, ap, ◌∙◌}
use Prim.Native.Nat.{ℕ, ◌+◌, ◌*◌, ◌-◌}
use native.Mathlib.Nat.{add-mul, one-mul}
use native.Mathlib.Omega.{arith}
use lib.ListN.{length, take, drop, length-drop}
use lib.Seq.{sets, length-take-le}
use Rattle.number_bytes.specs.Numbers.{signeds}
use Rattle.number_bytes.specs.Widths.{bytes_of}
use Rattle.number_runs.proofs.Storing.{stored-part}
use Rattle.fields.proofs.Places.{took-note, took-starts, len_is}
use Rattle.bundle_read.proofs.Storing.{here-took, room, storing-next, storing-note, storing-done}
use Rattle.bundle_read.proofs.store.store_constraints.Goals as goal

pub bounds-s-here : goal.bounds-s-here
bounds-s-here c =
    let k = here-took c.loop-n.invariant.0 c.loop-n-test.true in
    omega (arith, k.upto)

pub overflow_sub-kinds : goal.overflow_sub-kinds
overflow_sub-kinds c =
    let r = room (took-starts (here-took c.loop-n.invariant.0 c.loop-n-test.true) c.if-tag-lt128.true) c.loop-n.invariant.0.able in
    omega (arith, r.turn.from)

pub overflow_add-here : goal.overflow_add-here
overflow_add-here c =
    let k = here-took c.loop-n.invariant.0 c.loop-n-test.true in
    omega (arith, k.upto)

pub store_form-requires-clause-in_bounds : goal.store_form-requires-clause-in_bounds
store_form-requires-clause-in_bounds c =
    let l = c.loop-n in
    let w = c.args.k + 1 in
    let r = room (took-starts (here-took c.loop-n.invariant.0 c.loop-n-test.true) c.if-tag-lt128.true) c.loop-n.invariant.0.able in
    let z : l.to + w - l.to ≡ w = omega arith in
    let e : length (take (l.to + w - l.to) (drop l.to l.numbers)) ≡ w = rw z (length-take-le w (drop l.to l.numbers) (rw length-drop (omega (arith, r.numbers-room, l.invariant.1)))) in
    rw e r.turn.bytes

pub overflow_add-here-then-tag-lt128 : goal.overflow_add-here-then-tag-lt128
overflow_add-here-then-tag-lt128 c =
    let r = room (took-starts (here-took c.loop-n.invariant.0 c.loop-n-test.true) c.if-tag-lt128.true) c.loop-n.invariant.0.able in
    rw c.bytes.ensures (record { fits = omega (arith, r.turn.bytes) })

pub loop-n-smaller-then-tag-lt128 : goal.loop-n-smaller-then-tag-lt128
loop-n-smaller-then-tag-lt128 c =
    let r = room (took-starts (here-took c.loop-n.invariant.0 c.loop-n-test.true) c.if-tag-lt128.true) c.loop-n.invariant.0.able in
    rw c.bytes.ensures (omega (arith, r.turn.bytes))

pub loop-n-preserved-then-tag-lt128 : goal.loop-n-preserved-then-tag-lt128
loop-n-preserved-then-tag-lt128 c =
    let a = c.args in
    let l = c.loop-n in
    let w = bytes_of a.width in
    let k = took-starts (here-took l.invariant.0 c.loop-n-test.true) c.if-tag-lt128.true in
    let r = room k l.invariant.0.able in
    let z : l.here + (3 + (a.k + 1) * w) ≡ l.here + 3 + (a.k + 1) * w = omega arith in
    let t : l.to + (a.k + 1) ≡ (l.n + 1) * (a.k + 1) = omega (arith, l.invariant.1, add-mul l.n 1 (a.k + 1), one-mul (a.k + 1)) in
    let q = stored-part w l.to (a.k + 1) (l.to + (a.k + 1) - l.to) l.numbers c.store_form.new.numbers (drop (l.here + 3) a.s.now) (omega arith) (omega (arith, r.numbers-room, l.invariant.1)) c.store_form.ensures in
    rw (c.bytes.ensures, z) (storing-next k l.invariant.0 (q ∙ ap (λ (i : ℕ). sets l.numbers i (signeds w (a.k + 1) (drop (l.here + 3) a.s.now))) l.invariant.1), t)

pub unsigned_at-requires-clause-width_in_bounds : goal.unsigned_at-requires-clause-width_in_bounds
unsigned_at-requires-clause-width_in_bounds c =
    let k = here-took c.loop-n.invariant.0 c.loop-n-test.true in
    omega (arith, k.upto)

pub overflow_add-here-else-tag-lt128-3 : goal.overflow_add-here-else-tag-lt128-3
overflow_add-here-else-tag-lt128-3 c =
    let k = here-took c.loop-n.invariant.0 c.loop-n-test.true in
    omega (arith, k.upto, c.unsigned_at.ensures.is ∙ len_is c.args.s.now c.loop-n.here (omega (arith, k.upto)))

pub loop-n-smaller : goal.loop-n-smaller
loop-n-smaller c =
    let k = here-took c.loop-n.invariant.0 c.loop-n-test.true in
    omega (arith, k.upto, c.unsigned_at.ensures.is ∙ len_is c.args.s.now c.loop-n.here (omega (arith, k.upto)))

pub loop-n-preserved : goal.loop-n-preserved
loop-n-preserved c =
    let l = c.loop-n in
    let k = here-took l.invariant.0 c.loop-n-test.true in
    let e = c.unsigned_at.ensures.is ∙ len_is c.args.s.now l.here (omega (arith, k.upto)) in
    let z : l.here + (3 + c.unsigned_at.result) ≡ l.here + 3 + c.unsigned_at.result = omega arith in
    (rw (z, e) (storing-note l.invariant.0 (took-note k c.if-tag-lt128.false)), l.invariant.1)

pub returns : goal.returns
returns c =
    let d = storing-done c.loop-n.invariant.0 c.loop-n-test.false in
    record { kinds = d.0; numbers = d.1 }
