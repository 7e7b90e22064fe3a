-- `convert::turn_proof` meets its contract. Assumes nothing.
use Rattle.convert.proofs.Phases.{asked_by, proof-unasked, proof-refused}
use Rattle.convert.proofs.turn_proof.Goals as goal

pub returns-then-not-is_edition : goal.returns-then-not-is_edition
returns-then-not-is_edition c = proof-unasked c.args.edition c.args.file.now c.args.out.now c.is_edition.ensures c.if-not-is_edition.true c.refused.ensures

pub turnable_proof-requires : goal.turnable_proof-requires
turnable_proof-requires c = asked_by c.args.edition c.args.file.now c.args.out.now c.is_edition.ensures c.if-not-is_edition.false

pub returns-in-Err : goal.returns-in-Err
returns-in-Err c = proof-refused c.args.edition c.args.file.now c.args.out.now c.refused-in-Err.ensures c.in-Err.ensures
