-- `integers::remainder` meets its contract. Assumes nothing.
use mathlib.Core.Path.{sym, ◌∙◌}
use mir.Syntax.{w64}
use mir.ValLaws.{to_z-of_z}
use Rattle.integers.proofs.Machine.{residue-stands}
use Rattle.integers.proofs.remainder.Goals as goal

pub returns-then-is_residue : goal.returns-then-is_residue
returns-then-is_residue c =
    let e = to_z-of_z w64 c.args.x c.ranges.x in
    let k = to_z-of_z w64 c.args.g c.ranges.g in
    rw e (residue-stands c.args.x c.args.g (sym (rw (e, k) at c.is_residue.ensures) ∙ c.if-is_residue.true))
