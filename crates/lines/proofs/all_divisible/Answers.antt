-- `lines::all_divisible` meets its contract: after x turns the first x numbers pass. Assumes nothing.
use mathlib.Core.Path.{◌∙◌}
use native.Mathlib.Omega.{arith}
use Rattle.lines.proofs.Every.{passed-next, passed-fails, passed-all}
use mir.Syntax.{w64}
use mir.ValLaws.{to_z-of_z}
use Rattle.lines.proofs.all_divisible.Goals as goal

pub returns-then-not-divides : goal.returns-then-not-divides
returns-then-not-divides c =
    let fg = c.ranges.g in
    simp to_z-of_z at (passed-fails c.requires.k_in_bounds c.loop-x.invariant (omega arith) (to_z-of_z w64 c.number.result (record { sfits = c.number.type_inv }) ∙ c.number.ensures) c.divides.ensures c.if-not-divides.true)

pub loop-x-preserved : goal.loop-x-preserved
loop-x-preserved c =
    passed-next c.requires.k_in_bounds c.loop-x.invariant (omega arith) (to_z-of_z w64 c.number.result (record { sfits = c.number.type_inv }) ∙ c.number.ensures) c.divides.ensures c.if-not-divides.false

pub returns : goal.returns
returns c =
    let fg = c.ranges.g in
    simp to_z-of_z at (passed-all c.requires.k_in_bounds c.loop-x.invariant (omega arith))
