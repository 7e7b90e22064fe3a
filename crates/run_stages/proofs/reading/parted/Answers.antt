-- `run_stages::reading::parted` meets its contract. Assumes nothing.
use borrow.Author.Rules.{rules}
use native.Mathlib.Omega.{arith}
use mathlib.Core.Path.{sym}
use borrow.Author.Tests.{eqb-false}
use Rattle.run_stages.proofs.StagesRead.{counting-start, parted-over, counting-next, parted-done}
use Rattle.run_stages.proofs.reading.parted.Goals as goal

pub loop-own-init : goal.loop-own-init
loop-own-init c = counting-start _ _

pub returns-in_default : goal.returns-in_default
returns-in_default c = parted-over _ _ (omega arith) c.if-lengths-gt-STAGES.false c.loop-own.invariant c.loop-own-test.true (search rules)

pub loop-own-preserved : goal.loop-own-preserved
loop-own-preserved c = counting-next c.loop-own.invariant c.loop-own-test.true (search rules)

pub returns : goal.returns
returns c = parted-done _ _ (omega (arith, eqb-false _ 0 (sym c.if-is_empty.ensures))) c.if-lengths-gt-STAGES.false c.loop-own.invariant c.loop-own-test.false
