-- `conversion_bundle::is_short` meets its contract. Assumes nothing.
use mir.Syntax.{w32}
use mir.ValLaws.{to_z-of_z}
use Rattle.conversion_bundle.proofs.Holding.{short-held}
use Rattle.conversion_bundle.proofs.is_short.Goals as goal

pub returns : goal.returns
returns c = rw (to_z-of_z w32 c.args.x c.ranges.x) (short-held c.args.x)
