-- `closes::closing::is_false` meets its contract. Assumes nothing.
use mir.ValLaws.{to_z-of_z}
use Rattle.closes.proofs.NumberTests.{false-≤, false-=}
use Rattle.closes.proofs.closing.is_false.Goals as goal

pub returns-then-kind-eq0 : goal.returns-then-kind-eq0
returns-then-kind-eq0 c = let f = c.ranges.d in false-≤ c.args.d c.if-kind-eq0.true (simp to_z-of_z at c.is_positive.ensures)

pub returns : goal.returns
returns c = let f = c.ranges.d in false-= c.args.d c.if-kind-eq0.false (simp to_z-of_z at c.is_zero.ensures)
