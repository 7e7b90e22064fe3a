-- `enumeration_rows::infer::holds_stride` meets its contract. Assumes nothing.
use Rattle.enumeration_rows.proofs.Numbers.{stride-held}
use Rattle.enumeration_rows.proofs.infer.holds_stride.Goals as goal

pub returns : goal.returns
returns c = stride-held c.test_stride.ensures c.line.ensures c.is_ok.ensures.value
