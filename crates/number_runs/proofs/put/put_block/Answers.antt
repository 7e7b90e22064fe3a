-- `number_runs::put::put_block` meets its contract: the first i are taken over. Assumes nothing.
use mathlib.Core.Path.{◌≡◌, ◌∙◌}
use native.Mathlib.Omega.{arith}
use lib.IntN.{ℤ, pos}
use lib.ListN.{get_or, length-set, length-replicate}
use mir.Syntax.{w32}
use mir.Val.{to_z, of_z}
use mir.ValLaws.{to_z-of_z}
use Rattle.number_bytes.specs.Ranges.{Held}
use Rattle.number_bytes.specs.Widths.{bytes_of, width_of}
use Rattle.number_bytes.proofs.Signed.{all_get_d}
use Rattle.number_bytes.proofs.Widths.{held-bits}
use Rattle.number_runs.proofs.Putting.{taken_next}
use Rattle.number_runs.proofs.put.put_block.Goals as goal

pub narrowed-requires : goal.narrowed-requires
narrowed-requires g c =
    let h = all_get_d c.loop-i.i (pos 0) c.requires.held_all.each (omega arith) in
    rw (c.width_by.ensures, to_z-of_z w32 (get_or c.args.numbers.now c.loop-i.i (pos 0)) (held-bits (width_of g.row.BYTES) h)) h

pub loop-i-preserved : goal.loop-i-preserved
loop-i-preserved g c =
    let a = c.args in
    let x = get_or a.numbers.now c.loop-i.i (pos 0) in
    let h : Held (bytes_of (width_of g.row.BYTES)) x = all_get_d c.loop-i.i (pos 0) c.requires.held_all.each (omega arith) in
    let e : to_z w32 (of_z w32 c.narrowed.result) ≡ x = to_z-of_z w32 c.narrowed.result (record { sfits = c.narrowed.type_inv }) ∙ c.narrowed.ensures ∙ to_z-of_z w32 x (held-bits (width_of g.row.BYTES) h) in
    rw e (taken_next c.loop-i.block a.numbers.now c.loop-i.i (omega (arith, length-replicate {A = ℤ})) (omega arith) c.loop-i.invariant.0, simp length-set c.loop-i.invariant.1)
