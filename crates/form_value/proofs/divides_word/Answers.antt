-- `form_value::divides_word` meets its contract. Assumes nothing.
use Rattle.form_value.proofs.Quick.{power-some, mask-test}
use Rattle.form_value.proofs.divides_word.Goals as goal

pub overflow_sub-result : goal.overflow_sub-result
overflow_sub-result c = power-some c.requires

pub returns : goal.returns
returns c = mask-test _ c.requires
