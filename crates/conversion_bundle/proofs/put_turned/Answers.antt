-- `conversion_bundle::put_turned` meets its contract. Assumes nothing.
use Rattle.fields.specs.Places.{fields_at}
use Rattle.conversion_bundle.specs.Turned.{constraints_turned}
use Rattle.conversion_bundle.proofs.Putting.{header-put}
use Rattle.conversion_bundle.proofs.put_turned.Goals as goal

pub returns : goal.returns
returns c = header-put c.args.to c.args.k c.args.out.now (constraints_turned c.args.to c.args.k (fields_at c.args.s.now c.args.at)) c.put_header.ensures c.turn_constraints.ensures
