-- `formula_write::put_pair` meets its contract. Assumes nothing.
use mathlib.Core.Path.{refl}
use Rattle.formula_write.proofs.Written.{pair-out, pair-in}
use Rattle.formula_write.proofs.put_pair.Goals as goal

pub returns-then-scratch-end : goal.returns-then-scratch-end
returns-then-scratch-end c = pair-out _ refl c.if-scratch-end.true

pub shape_of-scratch : goal.shape_of-scratch
shape_of-scratch c = c.put_head.auto.out

pub returns : goal.returns
returns c = pair-in _ refl c.put_head.ensures c.put_head.auto.out
