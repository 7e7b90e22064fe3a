-- `number_ranges::held::shifted` meets its contract. Assumes nothing.
use mir.Syntax.{w32}
use mir.ValLaws.{to_z-of_z}
use Rattle.number_ranges.proofs.Merging.{shifted-held}
use Rattle.number_ranges.proofs.held.shifted.Goals as goal

pub returns : goal.returns
returns c = rw (c.cast_unsigned.ensures, to_z-of_z w32 c.args.x c.ranges.x) (shifted-held c.args.x c.ranges.x)
