-- `scheduler_turn::next_seat` meets its contract. The invariant: the seats that are left tell what all eight tell. Assumes nothing.
use Rattle.std.proofs.Common.{◌≡◌, ◌+◌, ◌-◌, ◌%◌}
use Rattle.scheduler.specs.Scheduler.{next_from, next_seat}
use Rattle.scheduler_turn.proofs.next_seat.Given as goal

abbrev pub invariant-loop-ahead : goal.invariant-loop-ahead
invariant-loop-ahead l = next_from l.s ((l.first + l.ahead) % 8) (8 - l.ahead) ≡ next_seat l.s
