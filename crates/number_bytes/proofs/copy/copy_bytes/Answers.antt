-- `number_bytes::copy::copy_bytes` meets its contract: after i turns the first i bytes are in place. Assumes nothing.
use Rattle.number_bytes.proofs.Stores.{copy_step}
use Rattle.number_bytes.proofs.copy.copy_bytes.Goals as goal

pub loop-i-preserved : goal.loop-i-preserved
loop-i-preserved c = copy_step c.args.to.now c.loop-i.to c.args.from.now c.args.start c.args.at c.loop-i.i c.loop-i.invariant c.args.n c.requires.n_in_bounds c.loop-i-test.true
