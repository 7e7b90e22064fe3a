-- `integers::joined` meets its contract. Assumes nothing.
use Rattle.integers.proofs.Machine.{joined-zero}
use Rattle.integers.proofs.joined.Goals as goal

pub returns : goal.returns
returns c = joined-zero c.args.x c.args.y c.ranges.x c.ranges.y
