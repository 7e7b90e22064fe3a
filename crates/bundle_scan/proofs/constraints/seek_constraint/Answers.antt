-- `bundle_scan::constraints::seek_constraint` meets its contract. The invariant: going on from here gives what the start gives. Assumes nothing.
use mathlib.Core.Path.{◌≡◌, refl, sym, ap, ◌∙◌}
use Prim.Native.Nat.{◌+◌, ◌-◌}
use native.Mathlib.Omega.{arith}
use Rattle.std.specs.Prelude.{Err}
use Rattle.number_bytes.specs.Widths.{bytes_of}
use Rattle.fields.proofs.Places.{starts, next-cut, next-ends}
use Rattle.bundle_scan.specs.Scan.{sought_of}
use Rattle.bundle_scan.proofs.Scanning.{counted-fault, counted-sized, sized-next, sized-less, counted-cut, seeking-start, seeking-next, seeking-end}
use Rattle.bundle_scan.proofs.constraints.seek_constraint.Goals as goal

pub slice_bounds-contents-end : goal.slice_bounds-contents-end
slice_bounds-contents-end c =
    let k = starts c.next_field.ensures c.in-Ok.is in
    omega (arith, k.upto, k.next-is)

pub loop-field-init : goal.loop-field-init
loop-field-init c = (refl, seeking-start _ _)

pub returns-in-Err : goal.returns-in-Err
returns-in-Err c =
    let f = c.in-Ok.field in
    let k = starts c.next_field.ensures c.in-Ok.is in
    let z : f.start + f.len - f.start ≡ f.len = omega arith in
    rw c.refused.ensures (sym (ap (sought_of _) (c.loop-field.invariant.0 ∙ counted-fault k _ _ _ (rw z at c.in-Err.ensures))))

pub loop-field-smaller : goal.loop-field-smaller
loop-field-smaller c =
    let f = c.in-Ok.field in
    let k = starts c.next_field.ensures c.in-Ok.is in
    let z : f.start + f.len - f.start ≡ f.len = omega arith in
    rw c.bytes.ensures (sized-less k (bytes_of c.args.width) c.args.k c.loop-field.n (rw z at c.in_default.ensures))

pub loop-field-preserved : goal.loop-field-preserved
loop-field-preserved c =
    let f = c.in-Ok.field in
    let k = starts c.next_field.ensures c.in-Ok.is in
    let z : f.start + f.len - f.start ≡ f.len = omega arith in
    let e = rw z at c.in_default.ensures in
    rw c.bytes.ensures (
      c.loop-field.invariant.0 ∙ counted-sized k _ _ _ e,
      seeking-next k c.loop-field.invariant.1 c.kept-found.ensures (sized-next k (bytes_of c.args.width) c.args.k c.loop-field.n e),
    )

pub returns-in-Err-Cut : goal.returns-in-Err-Cut
returns-in-Err-Cut c =
    let q = c.in-Err-Cut.is ∙ ap Err c.in-Err-Cut.field-0-is in
    let h = c.in-Err-Cut.place-is in
    rw h (sym (ap (sought_of _) (c.loop-field.invariant.0 ∙ counted-cut _ _ _ (next-cut _ c.next_field.ensures q))))

pub returns-in-Err-Ends : goal.returns-in-Err-Ends
returns-in-Err-Ends c =
    let q = c.in-Err-Ends.is ∙ ap Err c.in-Err-Ends.field-0-is in
    seeking-end _ _ c.loop-field.invariant.0 c.loop-field.invariant.1 (next-ends _ c.next_field.ensures q)
