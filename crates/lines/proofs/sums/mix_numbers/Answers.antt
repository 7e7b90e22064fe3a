-- `lines::sums::mix_numbers` meets its contract: after x turns the first x of the sums are in place, and within the range. Assumes nothing.
use mathlib.Core.Path.{refl}
use native.Mathlib.Omega.{arith}
use mir.ValLaws.{to_z-of_z}
use Rattle.lines.proofs.Summing.{first_step, second-step, third-step, turn, fails, next, done, of_words}
use Rattle.lines.proofs.sums.mix_numbers.Goals as goal

pub overflow_mul-alpha_s : goal.overflow_mul-alpha_s
overflow_mul-alpha_s c = first_step (turn (of_words c.ranges.alpha c.ranges.beta c.requires) c.loop-x.invariant (omega arith) c.number.ensures refl)

pub overflow_mul-beta_t : goal.overflow_mul-beta_t
overflow_mul-beta_t c = second-step (turn (of_words c.ranges.alpha c.ranges.beta c.requires) c.loop-x.invariant (omega arith) c.number.ensures c.number-in-loop-x.ensures)

pub overflow_add-sum : goal.overflow_add-sum
overflow_add-sum c = third-step (turn (of_words c.ranges.alpha c.ranges.beta c.requires) c.loop-x.invariant (omega arith) c.number.ensures c.number-in-loop-x.ensures)

pub returns-then-not-in_range : goal.returns-then-not-in_range
returns-then-not-in_range c =
    let ff = c.ranges.alpha in
    let fg = c.ranges.beta in
    simp to_z-of_z at (fails (of_words c.ranges.alpha c.ranges.beta c.requires) c.loop-x.invariant (omega arith) c.number.ensures c.number-in-loop-x.ensures c.in_range.ensures c.if-not-in_range.true)

pub loop-x-preserved : goal.loop-x-preserved
loop-x-preserved c = next (of_words c.ranges.alpha c.ranges.beta c.requires) c.loop-x.invariant (omega arith) c.number.ensures c.number-in-loop-x.ensures c.in_range.ensures c.if-not-in_range.false

pub returns : goal.returns
returns c =
    let ff = c.ranges.alpha in
    let fg = c.ranges.beta in
    simp to_z-of_z at (done (of_words ff fg c.requires) c.loop-x.invariant (omega arith))
