-- `formula_write::put_filled` meets its contract. Assumes nothing.
use native.Mathlib.Omega.{arith}
use mathlib.Core.Path.{refl, ◌∙◌}
use lib.IntN.{nat_abs}
use mir.Syntax.{w64}
use mir.ValLaws.{to_z-of_z}
use Rattle.formula_write.proofs.Written.{held-remainder}
use Rattle.formula_write.proofs.Templates.{filled-out, filled_in}
use Rattle.formula_write.proofs.put_filled.Goals as goal

pub returns-then-scratch-end : goal.returns-then-scratch-end
returns-then-scratch-end c =
    filled-out c.args.k (nat_abs c.args.g) c.args.d c.args.template.now c.requires.k_le_constants.1 refl c.if-scratch-end.true

pub put_signed-requires : goal.put_signed-requires
put_signed-requires c =
    let fits = c.ranges.g in
    let e = to_z-of_z w64 c.remainder-r.result (record { sfits = c.remainder-r.type_inv }) in
    record { at_in_bounds = omega arith; held = rw (e, c.remainder-r.ensures) (simp to_z-of_z (held-remainder c.requires.k_le_constants.2 _)) }

pub returns : goal.returns
returns c =
    let a = c.args in
    let fits-g = c.ranges.g in
    let fits-d = c.ranges.d in
    let e = to_z-of_z w64 c.remainder-r.result (record { sfits = c.remainder-r.type_inv }) in
    filled_in a.k (nat_abs a.g) a.d a.template.now c.requires.k_le_constants.1 refl (e ∙ (simp to_z-of_z at c.remainder-r.ensures)) c.copy_bytes.ensures c.put_signed.ensures (c.put_signed.auto.out ∙ c.copy_bytes.auto.to)
