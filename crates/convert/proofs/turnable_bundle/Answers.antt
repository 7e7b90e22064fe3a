-- `convert::turnable_bundle` meets its contract. Assumes nothing.
use native.Mathlib.Omega.{arith}
use Rattle.std.proofs.lemmas.Result.{err_from_is_err_and}
use Rattle.convert.proofs.Phases.{bundle-long, bundle-not-other, to-turn}
use Rattle.convert.proofs.Constraints.{bundle-fault, to-hold, left, number-unheld}
use Rattle.convert.proofs.turnable_bundle.Goals as goal

pub returns-then-file-gt-BUNDLE_BYTES : goal.returns-then-file-gt-BUNDLE_BYTES
returns-then-file-gt-BUNDLE_BYTES c = bundle-long c.args.to c.args.file.now c.requires c.if-file-gt-BUNDLE_BYTES.true

pub returns-in_err-has_other : goal.returns-in_err-has_other
returns-in_err-has_other c =
    let p = err_from_is_err_and c.from_residual.result c.from_residual.ensures.1 in
    rw (p.1, p.2) (bundle-not-other c.args.to c.args.file.now c.requires (omega (arith, c.if-file-gt-BUNDLE_BYTES.false)) c.has_other.ensures c.in_err-has_other.was)

pub returns-in_err-scanned : goal.returns-in_err-scanned
returns-in_err-scanned c =
    let p = err_from_is_err_and c.from_residual-in_err-scanned.result c.from_residual-in_err-scanned.ensures.1 in
    let t = to-turn c.args.to c.args.file.now c.requires (omega (arith, c.if-file-gt-BUNDLE_BYTES.false)) c.has_other.ensures c.in_ok-has_other.was in
    rw (p.1, p.2) (bundle-fault c.args.to c.args.file.now t c.scan.ensures c.in_err-scanned.was)

pub first_field_unheld-requires : goal.first_field_unheld-requires
first_field_unheld-requires c =
    let t = to-turn c.args.to c.args.file.now c.requires (omega (arith, c.if-file-gt-BUNDLE_BYTES.false)) c.has_other.ensures c.in_ok-has_other.was in
    left c.args.to c.args.file.now _ _ (to-hold c.args.to c.args.file.now t c.scan.ensures c.in_ok-scanned.was)

pub returns-in_err-first_field_unheld : goal.returns-in_err-first_field_unheld
returns-in_err-first_field_unheld c =
    let p = err_from_is_err_and c.from_residual-in_err-first_field_unheld.result c.from_residual-in_err-first_field_unheld.ensures.1 in
    let t = to-turn c.args.to c.args.file.now c.requires (omega (arith, c.if-file-gt-BUNDLE_BYTES.false)) c.has_other.ensures c.in_ok-has_other.was in
    rw (p.1, p.2) (number-unheld c.args.to c.args.file.now _ _ (to-hold c.args.to c.args.file.now t c.scan.ensures c.in_ok-scanned.was) c.first_field_unheld.ensures c.in_err-first_field_unheld.was)
