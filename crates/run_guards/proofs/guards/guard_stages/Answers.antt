-- `run_guards::guards::guard_stages` meets its contract: each refusal cites the law for its way. Assumes nothing.
use mathlib.Core.Path.{sym, ◌∙◌}
use Rattle.std.proofs.lemmas.Result.{err_from_is_err_and}
use Rattle.run_stages.proofs.StagesRead.{parted-is}
use Rattle.run_cuts.proofs.Phases.{guards-refused, not-parted, stage-long, all_short, proof-long, unread, too_many, gathered}
use Rattle.run_guards.proofs.guards.guard_stages.Goals as goal

pub returns-then-not-parted : goal.returns-then-not-parted
returns-then-not-parted c = rw c.refusal.ensures (guards-refused (not-parted _ _ _ (sym c.parted.ensures ∙ c.if-not-parted.true)))

pub long_stage-requires : goal.long_stage-requires
long_stage-requires c = parted-is (sym c.parted.ensures ∙ c.if-not-parted.false)

pub returns-in-Some : goal.returns-in-Some
returns-in-Some c = rw c.refusal-in-Some.ensures (guards-refused (stage-long _ _ _ (sym c.parted.ensures ∙ c.if-not-parted.false) c.in-Some.ensures))

pub returns-then-proof-gt-PROOF_BYTES : goal.returns-then-proof-gt-PROOF_BYTES
returns-then-proof-gt-PROOF_BYTES c = rw c.refusal-then-proof-gt-PROOF_BYTES.ensures (guards-refused (proof-long _ _ _ (sym c.parted.ensures ∙ c.if-not-parted.false) (all_short c.in_default.ensures) c.if-proof-gt-PROOF_BYTES.true))

pub read_stages-requires : goal.read_stages-requires
read_stages-requires c = parted-is (sym c.parted.ensures ∙ c.if-not-parted.false)

pub returns-in_err-stages : goal.returns-in_err-stages
returns-in_err-stages c =
    let p = err_from_is_err_and c.from_residual.result c.from_residual.ensures.1 in
    rw (p.1, p.2) (guards-refused (unread _ _ _ (sym c.parted.ensures ∙ c.if-not-parted.false) (all_short c.in_default.ensures) c.if-proof-gt-PROOF_BYTES.false c.in_err-stages.ensures))

pub returns-then-stages-gt-ALL_CONSTRAINTS : goal.returns-then-stages-gt-ALL_CONSTRAINTS
returns-then-stages-gt-ALL_CONSTRAINTS c = rw c.refusal-then-stages-gt-ALL_CONSTRAINTS.ensures
    (guards-refused (too_many _ _ _ (sym c.parted.ensures ∙ c.if-not-parted.false) (all_short c.in_default.ensures) c.if-proof-gt-PROOF_BYTES.false c.in_ok-stages.ensures c.if-stages-gt-ALL_CONSTRAINTS.true))

pub check_header-requires : goal.check_header-requires
check_header-requires c = gathered _ _ _ (sym c.parted.ensures ∙ c.if-not-parted.false) (all_short c.in_default.ensures) c.if-proof-gt-PROOF_BYTES.false c.in_ok-stages.ensures c.if-stages-gt-ALL_CONSTRAINTS.false
