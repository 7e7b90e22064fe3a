-- `files::put_decimal` puts the digits of a number. Assumes nothing.
use Rattle.files.proofs.Texts.{decimal-put}
use Rattle.files.proofs.put_decimal.Goals as goal

pub returns-clause-put_number : goal.returns-clause-put_number
returns-clause-put_number c = decimal-put c.args.n c.ranges.n.fits (rw (c.as_bytes.ensures.value, c.format.ensures.text) at c.put_text.ensures.put)
