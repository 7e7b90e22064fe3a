-- `files::put_byte` puts the two digits of a byte. Assumes nothing.
use Rattle.files.proofs.Texts.{pair}
use Rattle.files.proofs.put_byte.Goals as goal

pub returns-clause-put : goal.returns-clause-put
returns-clause-put c = pair c.digit.result c.digit-2.result c.args.b c.digit.ensures c.digit-2.ensures c.put_text.ensures.put
