-- `scheduler_turn::next_seat` meets its contract. Assumes nothing.
use Rattle.std.proofs.Common.{◌≡◌, ℕ, ◌+◌, ◌-◌, ◌%◌, sym, ◌∙◌, ap, arith}
use Rattle.scheduler.specs.Scheduler.{after, next_from, next_seat}
use Rattle.scheduler.proofs.Looking.{waits, vacated, found, passed, over}
use Rattle.scheduler_turn.specs.Files.{seat_found}
use Rattle.scheduler_turn.proofs.next_seat.Goals as goal

pub loop-ahead-init : goal.loop-ahead-init
unfolding next_seat
loop-ahead-init c = let e : (c.args.s.first % 8 + 0) % 8 ≡ c.args.s.first % 8 = omega arith in ap (λ (k : ℕ). next_from c.args.s k 8) e

pub returns-then-s-seat-ne0 : goal.returns-then-s-seat-ne0
returns-then-s-seat-ne0 c = ap seat_found (found _ _ _ (omega arith) (waits _ _ c.if-s-seat-ne0.true) ∙ c.loop-ahead.invariant)

pub loop-ahead-preserved : goal.loop-ahead-preserved
loop-ahead-preserved c =
    let s = c.args.s in
    let seat = (s.first % 8 + c.loop-ahead.ahead) % 8 in
    let e : (s.first % 8 + (c.loop-ahead.ahead + 1)) % 8 ≡ after seat = omega arith in
    let n : 8 - (c.loop-ahead.ahead + 1) ≡ 8 - c.loop-ahead.ahead - 1 = omega arith in
    ap (λ (k : ℕ). next_from s k (8 - (c.loop-ahead.ahead + 1))) e ∙ ap (λ (k : ℕ). next_from s (after seat) k) n ∙ sym (passed s seat _ (omega arith) (vacated s seat c.if-s-seat-ne0.false)) ∙ c.loop-ahead.invariant

pub returns : goal.returns
returns c = ap seat_found (over _ _ _ (omega arith) ∙ c.loop-ahead.invariant)
