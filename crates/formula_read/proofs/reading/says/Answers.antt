-- `formula_read::reading::says` meets its contract. Assumes nothing.
use mathlib.Core.Path.{ap, ◌∙◌}
use lib.IntN.{ℤ, pos}
use lib.Signed.{le_z}
use mir.Syntax.{w64}
use mir.ValLaws.{to_z-of_z}
use Rattle.integers.specs.Linear.{eq_z}
use Rattle.formula.specs.Test.{holds}
use Rattle.formula_read.proofs.reading.says.Goals as goal

pub returns-then-equality : goal.returns-then-equality
unfolding holds
returns-then-equality c = rw c.if-equality.true (c.is_zero.ensures ∙ ap (λ (z : ℤ). eq_z z (pos 0)) (to_z-of_z w64 _ c.ranges.x))

pub returns-else-equality : goal.returns-else-equality
unfolding holds
returns-else-equality c = rw c.if-equality.false (ap (λ (z : ℤ). le_z z (pos 0)) (to_z-of_z w64 _ c.ranges.x))
