-- `number_bytes::numbers::unsigned_at` meets its contract: n is the number of the bytes passed. Assumes nothing.
use mathlib.Core.Path.{◌≡◌, refl}
use Prim.Native.Nat.{◌+◌, ◌-◌, ◌<◌}
use native.Mathlib.Omega.{arith}
use lib.ListN.{drop, length-drop}
use lib.Seq.{get_or-take, get_or-drop, length-take-le}
use Rattle.number_bytes.specs.Numbers.{unsigned}
use Rattle.number_bytes.proofs.Digits.{unsigned-next, pow_below, pow-next}
use Rattle.number_bytes.proofs.numbers.unsigned_at.Goals as goal

pub loop-b-init : goal.loop-b-init
unfolding unsigned
loop-b-init c = (refl, omega arith)

pub overflow_mul-n : goal.overflow_mul-n
overflow_mul-n c =
    let h = c.loop-b in
    let z : c.args.at + c.args.width - c.args.at ≡ c.args.width = omega arith in
    let t = rw z at c.loop-b-test.true in
    let l = length-take-le c.args.width (drop c.args.at c.args.s.now) (rw length-drop (omega arith)) in
    omega (arith, pow_below h.n h.b-index 3 h.invariant.1 (omega (arith, t, l)))

pub loop-b-preserved : goal.loop-b-preserved
loop-b-preserved c =
    let a = c.args in
    let i = c.loop-b.b-index in
    let z : a.at + a.width - a.at ≡ a.width = omega arith in
    let l = length-take-le a.width (drop a.at a.s.now) (rw length-drop (omega arith)) in
    let t : i < a.width = omega (arith, rw z at c.loop-b-test.true, l) in
    let e = rw (z, get_or-take, get_or-drop) at c.from.ensures in
    omega (arith, e, c.type_inv.s (a.at + i), unsigned-next a.s.now a.at i (omega arith), pow-next i)
