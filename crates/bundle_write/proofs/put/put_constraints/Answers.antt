-- `bundle_write::put::put_constraints` meets its contract. The invariant `Putting`: what is left to write gives what the whole gives. Assumes nothing.
use mathlib.Core.Path.{◌≡◌, ◌∙◌}
use Prim.Native.Nat.{◌+◌, ◌-◌}
use native.Mathlib.Omega.{arith}
use lib.Dec.{leb→le}
use Rattle.forms.specs.Edition.{edition}
use Rattle.number_bytes.proofs.Signed.{all-weaken, all_take, all_drop, all_get_d}
use Rattle.bundle.proofs.Writable.{holdable-held}
use Rattle.bundle_write.proofs.Putting.{putting-start, putting-next, putting-done}
use Rattle.bundle_write.proofs.put.put_constraints.Goals as goal

pub loop-kind-init : goal.loop-kind-init
loop-kind-init c = putting-start (edition c.args.e) c.requires.in_order.valid c.requires.in_order.size c.requires.k_in_bounds

pub put_constraint-requires-clause-held_all : goal.put_constraint-requires-clause-held_all
put_constraint-requires-clause-held_all c =
    let l = c.loop-kind in
    rw c.of_coefficients-width.ensures
    (record { each = all_take (l.from + (c.args.k + 1) - l.from) (all_drop l.from (all-weaken (holdable-held (edition c.args.e).coefficient_width) c.requires.in_order.held)) })

pub put_constraint-requires-clause-kind_few : goal.put_constraint-requires-clause-kind_few
put_constraint-requires-clause-kind_few c = leb→le _ 2 (all_get_d _ 0 c.loop-kind.invariant.valid (omega arith))

pub loop-kind-preserved : goal.loop-kind-preserved
loop-kind-preserved c =
    let l = c.loop-kind in
    let w = c.of_coefficients-width.ensures in
    let z : l.from + (c.args.k + 1) - l.from ≡ c.args.k + 1 = omega arith in
    rw (c.bytes.ensures ∙ w) (putting-next l.invariant (omega arith) (rw (w, z) at c.put_constraint.ensures))

pub returns : goal.returns
returns c = putting-done c.loop-kind.invariant (omega arith)
