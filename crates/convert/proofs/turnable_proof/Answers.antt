-- `convert::turnable_proof` meets its contract. Assumes nothing.
use native.Mathlib.Omega.{arith}
use Rattle.std.proofs.lemmas.Result.{err_from_is_err_and}
use Rattle.convert.proofs.Phases.{proof-long, proof-not-other, proof-no-header, to-enter, constants-most, no-entries, to-fit, lines-stand, too_wide}
use Rattle.convert.proofs.turnable_proof.Goals as goal

pub returns-then-file-gt-PROOF_BYTES : goal.returns-then-file-gt-PROOF_BYTES
returns-then-file-gt-PROOF_BYTES c = proof-long c.args.to c.args.file.now c.requires c.if-file-gt-PROOF_BYTES.true

pub returns-in_err-has_other : goal.returns-in_err-has_other
returns-in_err-has_other c =
    let p = err_from_is_err_and c.from_residual.result c.from_residual.ensures.1 in
    rw (p.1, p.2) (proof-not-other c.args.to c.args.file.now c.requires (omega (arith, c.if-file-gt-PROOF_BYTES.false)) c.has_other.ensures c.in_err-has_other.was)

pub returns-in_err-head : goal.returns-in_err-head
returns-in_err-head c =
    let p = err_from_is_err_and c.from_residual-in_err-head.result c.from_residual-in_err-head.ensures.1 in
    rw (p.1, p.2) (proof-no-header c.args.to c.args.file.now c.requires (omega (arith, c.if-file-gt-PROOF_BYTES.false)) c.has_other.ensures c.in_ok-has_other.was c.read_header.ensures c.in_err-head.was)

pub read_entries-requires-clause-k_le_constants : goal.read_entries-requires-clause-k_le_constants
read_entries-requires-clause-k_le_constants c =
    let t = to-enter c.args.to c.args.file.now c.requires (omega (arith, c.if-file-gt-PROOF_BYTES.false)) c.has_other.ensures c.in_ok-has_other.was c.read_header.ensures c.in_ok-head.was in
    constants-most c.args.to c.args.file.now _ _ _ t

pub returns-in_err-turned : goal.returns-in_err-turned
returns-in_err-turned c =
    let p = err_from_is_err_and c.from_residual-in_err-turned.result c.from_residual-in_err-turned.ensures.1 in
    let t = to-enter c.args.to c.args.file.now c.requires (omega (arith, c.if-file-gt-PROOF_BYTES.false)) c.has_other.ensures c.in_ok-has_other.was c.read_header.ensures c.in_ok-head.was in
    rw (p.1, p.2) (no-entries c.args.to c.args.file.now _ _ _ t c.read_entries.ensures c.in_err-turned.was)

pub first_wide-requires : goal.first_wide-requires
first_wide-requires c =
    let t = to-enter c.args.to c.args.file.now c.requires (omega (arith, c.if-file-gt-PROOF_BYTES.false)) c.has_other.ensures c.in_ok-has_other.was c.read_header.ensures c.in_ok-head.was in
    lines-stand c.args.to c.args.file.now _ _ _ _ (to-fit c.args.to c.args.file.now _ _ _ t c.read_entries.ensures c.in_ok-turned.was)

pub returns-in_err-first_wide : goal.returns-in_err-first_wide
returns-in_err-first_wide c =
    let p = err_from_is_err_and c.from_residual-in_err-first_wide.result c.from_residual-in_err-first_wide.ensures.1 in
    let t = to-enter c.args.to c.args.file.now c.requires (omega (arith, c.if-file-gt-PROOF_BYTES.false)) c.has_other.ensures c.in_ok-has_other.was c.read_header.ensures c.in_ok-head.was in
    rw (p.1, p.2) (too_wide c.args.to c.args.file.now _ _ _ _ (to-fit c.args.to c.args.file.now _ _ _ t c.read_entries.ensures c.in_ok-turned.was) c.first_wide.ensures c.in_err-first_wide.was)
