-- `bundle_load::load::load_line` meets its contract: t, then tA, then the kind. Assumes nothing.
use mathlib.Core.Path.{◌≡◌, ap, ◌∙◌}
use Prim.Native.Nat.{◌+◌, ◌-◌}
use native.Mathlib.Omega.{arith}
use lib.ListN.{length, take, drop}
use Rattle.number_bytes.specs.Widths.{bytes_of}
use Rattle.number_bytes.proofs.Signed.{length-signeds}
use Rattle.bundle_load.proofs.Loading.{stored-all, part-length, same-length, copies-t, copies-t_a, form-loaded}
use Rattle.bundle_load.proofs.load.load_line.Goals as goal

pub load_partial-requires : goal.load_partial-requires
load_partial-requires c =
    let a = c.args in
    let at = c.place-at.result in
    let w = a.k + 1 in
    let q = copies-t c.requires c.place-at.ensures in
    let m = length (take (at + w - at) (drop at a.lines.now)) in
    let l = ap length c.store_numbers.ensures ∙ length-signeds (bytes_of a.width) m (drop a.start a.s.now) ∙ part-length at w a.lines.now q.room in
    copies-t_a c.requires c.place-at.ensures (same-length at w a.lines.now c.store_numbers.new.numbers q.room l)

pub returns : goal.returns
returns c =
    let a = c.args in
    let at = c.place-at.result in
    let p = c.requires in
    let x = c.place-at.ensures in
    let q = copies-t p x in
    let z : at + (a.k + 1) - at ≡ a.k + 1 = omega arith in
    rw (c.set_kind.ensures, c.line_kind.ensures)
    (form-loaded p a.in_a (rw x at (stored-all q z (part-length at (a.k + 1) a.lines.now q.room) c.store_numbers.ensures)) (rw x at c.load_partial.ensures))
