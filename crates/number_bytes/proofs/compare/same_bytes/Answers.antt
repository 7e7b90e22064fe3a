-- `number_bytes::compare::same_bytes` meets its contract. Assumes nothing.
use mathlib.Core.Path.{◌≡◌, ◌∙◌}
use Prim.Native.Nat.{◌+◌, ◌-◌}
use native.Mathlib.Omega.{arith}
use lib.ListN.{take, drop}
use Rattle.number_bytes.proofs.Comparing.{pointwise-same}
use Rattle.number_bytes.proofs.compare.same_bytes.Goals as goal

pub returns : goal.returns
returns c =
    let a = c.args in
    let x : a.at + a.n - a.at ≡ a.n = omega arith in
    let y : a.from + a.n - a.from ≡ a.n = omega arith in
    c.eq.ensures ∙ rw (x, y) (pointwise-same (take a.n (drop a.at a.s.now)) (take a.n (drop a.from a.t.now)))
