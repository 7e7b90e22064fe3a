-- `shorten::shorten_accepted` meets its contract. Assumes nothing.
use native.Mathlib.Omega.{arith}
use Rattle.shorten.proofs.Accepting.{scans-A, scans-B, reads-header, has-begun, counts-fit, fields-shortened, stated-any, stated-few}
use Rattle.shorten.proofs.shorten_accepted.Goals as goal

pub returns-in_default : goal.returns-in_default
returns-in_default c = absurd (scans-A c.requires c.scan.ensures c.in_default.is)

pub returns-in_default-scan : goal.returns-in_default-scan
returns-in_default-scan c = absurd (scans-B c.requires c.scan.ensures c.in-Ok.is c.scan-2.ensures c.in_default-scan.is)

pub returns-in_default-read_header : goal.returns-in_default-read_header
returns-in_default-read_header c = absurd (reads-header c.requires c.scan.ensures c.in-Ok.is c.scan-2.ensures c.in-Ok-scan.is c.read_header.ensures c.in_default-read_header.is)

pub overflow_add-body : goal.overflow_add-body
overflow_add-body c = record { fits = omega (arith, counts-fit c.requires c.scan.ensures c.in-Ok.is c.scan-2.ensures c.in-Ok-scan.is c.read_header.ensures) }

pub overflow_cast-body : goal.overflow_cast-body
overflow_cast-body c = record { fits = omega (arith, counts-fit c.requires c.scan.ensures c.in-Ok.is c.scan-2.ensures c.in-Ok-scan.is c.read_header.ensures) }

pub shorten_in-requires-clause-stated : goal.shorten_in-requires-clause-stated
shorten_in-requires-clause-stated c = stated-few c.requires (has-begun c.requires c.scan.ensures c.in-Ok.is c.scan-2.ensures c.in-Ok-scan.is c.read_header.ensures c.in-Ok-read_header.is) c.if-proof-le-BYTES_FEW.true

pub returns-then-proof-le-BYTES_FEW : goal.returns-then-proof-le-BYTES_FEW
returns-then-proof-le-BYTES_FEW c = fields-shortened c.requires (has-begun c.requires c.scan.ensures c.in-Ok.is c.scan-2.ensures c.in-Ok-scan.is c.read_header.ensures c.in-Ok-read_header.is) c.shorten_in.ensures

pub shorten_in-requires-2-clause-stated : goal.shorten_in-requires-2-clause-stated
shorten_in-requires-2-clause-stated c = stated-any c.requires (has-begun c.requires c.scan.ensures c.in-Ok.is c.scan-2.ensures c.in-Ok-scan.is c.read_header.ensures c.in-Ok-read_header.is)

pub returns : goal.returns
returns c = fields-shortened c.requires (has-begun c.requires c.scan.ensures c.in-Ok.is c.scan-2.ensures c.in-Ok-scan.is c.read_header.ensures c.in-Ok-read_header.is) c.shorten_in-2.ensures
