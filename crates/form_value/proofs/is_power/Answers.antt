-- `form_value::is_power` meets its contract. Assumes nothing.
use Rattle.std.proofs.Common.{arith}
use Rattle.form_value.proofs.Quick.{power-test}
use Rattle.form_value.proofs.is_power.Goals as goal

pub overflow_sub-result : goal.overflow_sub-result
overflow_sub-result c = omega arith

pub returns : goal.returns
returns c = power-test c.requires.0 c.requires.1
