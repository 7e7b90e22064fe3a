-- `dulgaverk::dulgaverk_scheduler_turn` meets its contract. Assumes nothing.
use native.Mathlib.Omega.{arith}
use mathlib.Core.Path.{sym, ◌∙◌}
use Rattle.scheduler.specs.Scheduler.{next_seat}
use Rattle.scheduler.proofs.Looking.{next-seated}
use Rattle.scheduler_turn.proofs.SeatFound.{one-found}
use Rattle.dulgaverk.proofs.Jobs.{turn_serves, turn_idle}
use Rattle.dulgaverk.proofs.dulgaverk_scheduler_turn.Goals as goal

pub offset_bounds-s-seat : goal.offset_bounds-s-seat
offset_bounds-s-seat c = let h = next-seated c.args.s (one-found (next_seat c.args.s) (sym c.next_seat.ensures ∙ c.in-Some.is)) in record { fits = omega arith }

pub bounds-s-seat : goal.bounds-s-seat
bounds-s-seat c = next-seated c.args.s (one-found (next_seat c.args.s) (sym c.next_seat.ensures ∙ c.in-Some.is))

pub served-requires : goal.served-requires
served-requires c = next-seated c.args.s (one-found (next_seat c.args.s) (sym c.next_seat.ensures ∙ c.in-Some.is))

pub returns-in-Some : goal.returns-in-Some
returns-in-Some c = turn_serves _ _ _ (sym c.next_seat.ensures ∙ c.in-Some.is) c.check_job.ensures c.served.ensures

pub returns-in-None : goal.returns-in-None
returns-in-None c = turn_idle _ _ _ (sym c.next_seat.ensures ∙ c.in-None.is) c.idle.ensures
