-- `convert::turn_bundle` meets its contract. Assumes nothing.
use Rattle.convert.proofs.Phases.{asked_by, bundle-unasked, bundle-refused}
use Rattle.convert.proofs.turn_bundle.Goals as goal

pub returns-then-not-is_edition : goal.returns-then-not-is_edition
returns-then-not-is_edition c = bundle-unasked c.args.edition c.args.file.now c.args.out.now c.is_edition.ensures c.if-not-is_edition.true c.refused.ensures

pub turnable_bundle-requires : goal.turnable_bundle-requires
turnable_bundle-requires c = asked_by c.args.edition c.args.file.now c.args.out.now c.is_edition.ensures c.if-not-is_edition.false

pub returns-in-Err : goal.returns-in-Err
returns-in-Err c = bundle-refused c.args.edition c.args.file.now c.args.out.now c.refused-in-Err.ensures c.in-Err.ensures
