-- `answer_text::put_accepted` puts the lines of an acceptance. Assumes nothing.
use Rattle.answer_text.proofs.Printing.{accepted-put}
use Rattle.answer_text.proofs.put_accepted.Goals as goal

pub returns-clause-put_accepted : goal.returns-clause-put_accepted
returns-clause-put_accepted c = accepted-put c.args.bytes.now c.put_number-end.ensures.put_number c.put_text-end.ensures.put c.put_hex-end.ensures.put c.put_text.ensures.put
