-- `enumeration_rows::close::seek_close` meets its contract. Assumes nothing.
use native.Mathlib.Omega.{arith}
use Rattle.enumeration_rows.proofs.Closes.{closes-ended, closes-found, closes-on}
use Rattle.enumeration_rows.proofs.close.seek_close.Goals as goal

pub returns-then-holds : goal.returns-then-holds
returns-then-holds c = closes-found c.loop-c.invariant (omega (arith, c.loop-c-test.true, c.close_count-c-end.ensures)) c.holds.ensures c.if-holds.true

pub loop-c-preserved : goal.loop-c-preserved
loop-c-preserved c = closes-on c.loop-c.invariant (omega (arith, c.loop-c-test.true, c.close_count-c-end.ensures)) c.holds.ensures c.if-holds.false

pub returns : goal.returns
returns c = closes-ended c.loop-c.invariant (omega (arith, c.loop-c-test.false, c.close_count-c-end.ensures))
