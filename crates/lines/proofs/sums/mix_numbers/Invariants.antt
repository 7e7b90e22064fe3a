-- `lines::sums::mix_numbers` meets its contract: after x turns the first x of the sums are in place, and within the range. Assumes nothing.
use Rattle.lines.specs.Buffer.{mixed}
use Rattle.lines.proofs.Summing.{Sums}
use Rattle.lines.proofs.sums.mix_numbers.Given as goal

-- The first x of the sums are in place.
abbrev pub invariant-loop-x : goal.invariant-loop-x
invariant-loop-x l = Sums l.initial.lines l.new (mixed l.alpha l.s l.beta l.t l.w l.initial.lines) l.lines l.w l.x
