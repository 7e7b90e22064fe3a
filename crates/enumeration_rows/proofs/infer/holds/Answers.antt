-- `enumeration_rows::infer::holds` meets its contract. Assumes nothing.
use Rattle.enumeration_rows.proofs.Numbers.{number-held}
use Rattle.enumeration_rows.proofs.infer.holds.Goals as goal

pub returns-then-c-n : goal.returns-then-c-n
returns-then-c-n c = number-held c.test_number.ensures c.line.ensures c.is_ok.ensures.value c.tally_of-tally.ensures c.if-c-n.true
