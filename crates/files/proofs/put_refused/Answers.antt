-- `files::put_refused` puts the line of a refusal. Assumes nothing.
use Rattle.files.proofs.Texts.{refused-put}
use Rattle.files.proofs.put_refused.Goals as goal

pub returns-clause-put_refused : goal.returns-clause-put_refused
returns-clause-put_refused c = refused-put c.put_number-end.ensures.put_number c.put_number-end-2.ensures.put_number c.put_number-end-3.ensures.put_number c.put_text.ensures.put
