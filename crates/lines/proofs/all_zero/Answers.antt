-- `lines::all_zero` meets its contract: after x turns `joined` is 0 where the first x numbers are. Assumes nothing.
use mathlib.Core.Path.{refl, ◌∙◌}
use native.Mathlib.Omega.{arith}
use mir.Syntax.{w64}
use mir.Val.{to_z}
use mir.ValLaws.{to_z-of_z}
use Rattle.forms.specs.Forms.{every}
use Rattle.lines.proofs.Every.{joined-next}
use Rattle.lines.proofs.all_zero.Goals as goal

pub loop-x-init : goal.loop-x-init
unfolding every
loop-x-init c = (refl, omega arith)

pub loop-x-preserved : goal.loop-x-preserved
loop-x-preserved c =
    let a = c.args in
    let v = c.loop-x in
    rw (to_z-of_z w64 c.joined-joined.result (record { sfits = c.joined-joined.type_inv }))
    (joined-next a.lines.now a.at v.x (to_z w64 v.joined-bits) c.joined-joined.result (omega arith) (to_z-of_z w64 c.number.result (record { sfits = c.number.type_inv }) ∙ c.number.ensures) v.invariant.0 c.joined-joined.ensures, omega arith)
