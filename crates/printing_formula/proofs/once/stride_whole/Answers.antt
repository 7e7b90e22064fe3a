-- `printing_formula::once::stride_whole` meets its contract. Assumes nothing.
use Rattle.printing_formula.proofs.Reaching.{stride-refused, stride-read}
use Rattle.printing_formula.proofs.once.stride_whole.Goals as goal

pub returns-then-g-lt2 : goal.returns-then-g-lt2
returns-then-g-lt2 c = stride-refused _ c.args.start _ (record { sfits = c.signed_at-g.type_inv }) c.signed_at-g.ensures.is c.if-g-lt2.true

pub returns : goal.returns
returns c = stride-read _ c.args.start _ (record { sfits = c.signed_at-g.type_inv }) c.signed_at-g.ensures.is c.if-g-lt2.false
