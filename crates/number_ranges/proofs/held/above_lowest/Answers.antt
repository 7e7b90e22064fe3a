-- `number_ranges::held::above_lowest` meets its contract. Assumes nothing.
use mir.Syntax.{w32}
use mir.ValLaws.{to_z-of_z}
use Rattle.number_ranges.proofs.Ranging.{lowest-held}
use Rattle.number_ranges.proofs.held.above_lowest.Goals as goal

pub returns : goal.returns
returns c = rw (to_z-of_z w32 c.args.x c.ranges.x) (lowest-held c.args.x c.ranges.x)
