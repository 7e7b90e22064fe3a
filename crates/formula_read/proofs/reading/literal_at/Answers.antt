-- `formula_read::reading::literal_at` meets its contract. Assumes nothing.
use mathlib.Core.Path.{ap, ◌∙◌}
use mir.Syntax.{w64}
use mir.ValLaws.{to_z-of_z}
use Rattle.formula.specs.Test.{holds}
use Rattle.formula_read.specs.Nodes.{literal_kind}
use Rattle.formula_read.proofs.reading.literal_at.Goals as goal

pub returns : goal.returns
returns c = c.says.ensures ∙ ap (holds (literal_kind c.args.equality)) (to_z-of_z w64 c.value_at-x.result (record { sfits = c.value_at-x.type_inv }) ∙ c.value_at-x.ensures)
