-- `conversion_bundle::first_field_unheld` meets its contract. Assumes nothing.
use borrow.Author.Tests.{ne_eqb}
use Rattle.fields.specs.Places.{fields_at}
use Rattle.conversion_bundle.proofs.Holding.{up-held}
use Rattle.conversion_bundle.proofs.first_field_unheld.Goals as goal

pub returns : goal.returns
returns c = up-held c.args.to c.args.k 0 c.args.count (fields_at c.args.s.now c.args.at) (rw (ne_eqb c.args.to 1 c.if-to-eq1.false)) c.requires.counts
