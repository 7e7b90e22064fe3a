-- `files::put_number` puts a word and a number after it. Assumes nothing.
use Rattle.files.proofs.Texts.{number-after}
use Rattle.files.proofs.put_number.Goals as goal

pub returns-clause-put_number : goal.returns-clause-put_number
returns-clause-put_number c = number-after c.put_text-end.ensures.put c.put_decimal.ensures.put_number
