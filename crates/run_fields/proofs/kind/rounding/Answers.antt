-- `run_fields::kind::rounding` meets its contract. Assumes nothing.
use Rattle.run_fields.proofs.ByTag.{round-read, round-not}
use Rattle.run_fields.proofs.kind.rounding.Goals as goal

pub returns-then-field-width : goal.returns-then-field-width
returns-then-field-width c = round-read _ _ _ _ _ c.requires c.line_bytes-width.ensures c.if-field-width.true c.unsigned_at-by.ensures.is

pub returns : goal.returns
returns c = round-not _ _ _ _ _ c.requires c.line_bytes-width.ensures c.if-field-width.false
