-- `enumeration_rows::close::after_close` meets its contract. Assumes nothing.
use native.Mathlib.Omega.{arith}
use Rattle.enumeration_rows.proofs.Closes.{no-close, open-close, next-close}
use Rattle.enumeration_rows.proofs.close.after_close.Goals as goal

pub returns-in_default : goal.returns-in_default
returns-in_default c = no-close (omega (arith, c.requires.few)) c.in_default.ensures

pub returns-then-not-holds : goal.returns-then-not-holds
returns-then-not-holds c = open-close (omega (arith, c.requires.few)) c.in-Some.ensures c.holds.ensures c.if-not-holds.true

pub returns : goal.returns
returns c = next-close (omega (arith, c.requires.few)) c.in-Some.ensures c.holds.ensures c.if-not-holds.false c.seek_close.ensures
