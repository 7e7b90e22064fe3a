-- `steps::step` meets its contract. Assumes nothing.
use mathlib.Core.Path.{refl}
use mir.ValLaws.{to_z-of_z}
use Rattle.std.proofs.lemmas.Result.{err_from_is_err_and}
use Rattle.integers.proofs.Magnitude.{within-fits}
use Rattle.lines.proofs.Keeping.{kept_refl}
use Rattle.tally.proofs.Counted.{counted-row}
use Rattle.steps.proofs.Stepping.{step-refused, step_row, step-claim, row-counted, row-made, uncounted, underived}
use Rattle.steps.proofs.step.Goals as goal

pub returns-in_err-entry-clause-steps : goal.returns-in_err-entry-clause-steps
returns-in_err-entry-clause-steps c =
    let p = err_from_is_err_and c.from_residual.result c.from_residual.ensures.1 in
    rw (p.1, p.2) (step-refused _ c.in_err-entry.ensures)

pub returns-in_err-count_row-in-Combine-clause-steps : goal.returns-in_err-count_row-in-Combine-clause-steps
returns-in_err-count_row-in-Combine-clause-steps c = uncounted _ (rw c.in-Combine.is at c.in_ok-entry.ensures) refl c.in_err-count_row-in-Combine.ensures c.from_residual-in_err-count_row-in-Combine.ensures.1

pub combine-requires : goal.combine-requires
combine-requires c = rw (counted-row c.in_ok-count_row-in-Combine.ensures).1 c.requires.ready

pub returns-in_err-tally-in-Combine-clause-steps : goal.returns-in_err-tally-in-Combine-clause-steps
returns-in_err-tally-in-Combine-clause-steps c =
    underived _ (rw c.in-Combine.is at c.in_ok-entry.ensures) refl c.in_ok-count_row-in-Combine.ensures c.in_err-tally-in-Combine.ensures c.from_residual-in_err-tally-in-Combine.ensures.1

pub returns-in_ok-tally-in-Combine-clause-steps : goal.returns-in_ok-tally-in-Combine-clause-steps
returns-in_ok-tally-in-Combine-clause-steps c =
    let e = rw c.in-Combine.is at c.in_ok-entry.ensures in
    (step_row _ e refl (row-made _ c.in_ok-count_row-in-Combine.ensures c.in_ok-tally-in-Combine.ensures)).0

pub returns-in_err-count_row-in-Reduce-clause-steps : goal.returns-in_err-count_row-in-Reduce-clause-steps
returns-in_err-count_row-in-Reduce-clause-steps c = uncounted _ (rw c.in-Reduce.is at c.in_ok-entry.ensures) refl c.in_err-count_row-in-Reduce.ensures c.from_residual-in_err-count_row-in-Reduce.ensures.1

pub reduce-requires-clause-ready : goal.reduce-requires-clause-ready
reduce-requires-clause-ready c = rw (counted-row c.in_ok-count_row-in-Reduce.ensures).1 c.requires.ready

pub returns-in_err-tally-in-Reduce-clause-steps : goal.returns-in_err-tally-in-Reduce-clause-steps
returns-in_err-tally-in-Reduce-clause-steps c =
    let e = rw c.in-Reduce.is at c.in_ok-entry.ensures in
    let f0 = within-fits e.ranged tt in
    underived _ e refl c.in_ok-count_row-in-Reduce.ensures (simp to_z-of_z at c.in_err-tally-in-Reduce.ensures) c.from_residual-in_err-tally-in-Reduce.ensures.1

pub returns-in_ok-tally-in-Reduce-clause-steps : goal.returns-in_ok-tally-in-Reduce-clause-steps
returns-in_ok-tally-in-Reduce-clause-steps c =
    let e = rw c.in-Reduce.is at c.in_ok-entry.ensures in
    let f0 = within-fits e.ranged tt in
    (step_row _ e refl (row-made _ c.in_ok-count_row-in-Reduce.ensures (simp to_z-of_z at c.in_ok-tally-in-Reduce.ensures))).0

pub returns-in_err-count_row-in-Scale-clause-steps : goal.returns-in_err-count_row-in-Scale-clause-steps
returns-in_err-count_row-in-Scale-clause-steps c = uncounted _ (rw c.in-Scale.is at c.in_ok-entry.ensures) refl c.in_err-count_row-in-Scale.ensures c.from_residual-in_err-count_row-in-Scale.ensures.1

pub scale-requires : goal.scale-requires
scale-requires c = rw (counted-row c.in_ok-count_row-in-Scale.ensures).1 c.requires.ready

pub returns-in_err-tally-in-Scale-clause-steps : goal.returns-in_err-tally-in-Scale-clause-steps
returns-in_err-tally-in-Scale-clause-steps c =
    underived _ (rw c.in-Scale.is at c.in_ok-entry.ensures) refl c.in_ok-count_row-in-Scale.ensures c.in_err-tally-in-Scale.ensures c.from_residual-in_err-tally-in-Scale.ensures.1

pub returns-in_ok-tally-in-Scale-clause-steps : goal.returns-in_ok-tally-in-Scale-clause-steps
returns-in_ok-tally-in-Scale-clause-steps c =
    let e = rw c.in-Scale.is at c.in_ok-entry.ensures in
    (step_row _ e refl (row-made _ c.in_ok-count_row-in-Scale.ensures c.in_ok-tally-in-Scale.ensures)).0

pub returns-in_err-count_row-in-Strengthen-clause-steps : goal.returns-in_err-count_row-in-Strengthen-clause-steps
returns-in_err-count_row-in-Strengthen-clause-steps c = uncounted _ (rw c.in-Strengthen.is at c.in_ok-entry.ensures) refl c.in_err-count_row-in-Strengthen.ensures c.from_residual-in_err-count_row-in-Strengthen.ensures.1

pub returns-in_ok-count_row-in-Strengthen-clause-steps : goal.returns-in_ok-count_row-in-Strengthen-clause-steps
returns-in_ok-count_row-in-Strengthen-clause-steps c =
    let h = c.in_ok-count_row-in-Strengthen.ensures in
    (step_row _ (rw c.in-Strengthen.is at c.in_ok-entry.ensures) refl (record { kept = kept_refl; by = (row-counted _ _ _ _ _ h, (counted-row h).1) })).0

pub returns-in_err-count_row-in-CloseNumber-clause-steps : goal.returns-in_err-count_row-in-CloseNumber-clause-steps
returns-in_err-count_row-in-CloseNumber-clause-steps c = uncounted _ (rw c.in-CloseNumber.is at c.in_ok-entry.ensures) refl c.in_err-count_row-in-CloseNumber.ensures c.from_residual-in_err-count_row-in-CloseNumber.ensures.1

pub returns-in_ok-count_row-in-CloseNumber-clause-steps : goal.returns-in_ok-count_row-in-CloseNumber-clause-steps
returns-in_ok-count_row-in-CloseNumber-clause-steps c =
    let h = c.in_ok-count_row-in-CloseNumber.ensures in
    (step_row _ (rw c.in-CloseNumber.is at c.in_ok-entry.ensures) refl (record { kept = kept_refl; by = (row-counted _ _ _ _ _ h, (counted-row h).1) })).0

pub returns-in_err-count_row-in-CloseStride-clause-steps : goal.returns-in_err-count_row-in-CloseStride-clause-steps
returns-in_err-count_row-in-CloseStride-clause-steps c = uncounted _ (rw c.in-CloseStride.is at c.in_ok-entry.ensures) refl c.in_err-count_row-in-CloseStride.ensures c.from_residual-in_err-count_row-in-CloseStride.ensures.1

pub returns-in_ok-count_row-in-CloseStride-clause-steps : goal.returns-in_ok-count_row-in-CloseStride-clause-steps
returns-in_ok-count_row-in-CloseStride-clause-steps c =
    let h = c.in_ok-count_row-in-CloseStride.ensures in
    (step_row _ (rw c.in-CloseStride.is at c.in_ok-entry.ensures) refl (record { kept = kept_refl; by = (row-counted _ _ _ _ _ h, (counted-row h).1) })).0

pub returns-in_err-count_row-in-Round-clause-steps : goal.returns-in_err-count_row-in-Round-clause-steps
returns-in_err-count_row-in-Round-clause-steps c = uncounted _ (rw c.in-Round.is at c.in_ok-entry.ensures) refl c.in_err-count_row-in-Round.ensures c.from_residual-in_err-count_row-in-Round.ensures.1

pub returns-in_ok-count_row-in-Round-clause-steps : goal.returns-in_ok-count_row-in-Round-clause-steps
returns-in_ok-count_row-in-Round-clause-steps c =
    let h = c.in_ok-count_row-in-Round.ensures in
    (step_row _ (rw c.in-Round.is at c.in_ok-entry.ensures) refl (record { kept = kept_refl; by = (row-counted _ _ _ _ _ h, (counted-row h).1) })).0

pub returns-in_err-count_row-in-Split-clause-steps : goal.returns-in_err-count_row-in-Split-clause-steps
returns-in_err-count_row-in-Split-clause-steps c = uncounted _ (rw c.in-Split.is at c.in_ok-entry.ensures) refl c.in_err-count_row-in-Split.ensures c.from_residual-in_err-count_row-in-Split.ensures.1

pub returns-in_ok-count_row-in-Split-clause-steps : goal.returns-in_ok-count_row-in-Split-clause-steps
returns-in_ok-count_row-in-Split-clause-steps c =
    let h = c.in_ok-count_row-in-Split.ensures in
    (step_row _ (rw c.in-Split.is at c.in_ok-entry.ensures) refl (record { kept = kept_refl; by = (row-counted _ _ _ _ _ h, (counted-row h).1) })).0

pub returns-then-not-claim_holds-clause-steps : goal.returns-then-not-claim_holds-clause-steps
returns-then-not-claim_holds-clause-steps c = (step-claim _ (rw c.in-Claim.is at c.in_ok-entry.ensures) refl c.claim_holds.ensures (rw c.if-not-claim_holds.true)).0

pub returns-else-not-claim_holds-clause-steps : goal.returns-else-not-claim_holds-clause-steps
returns-else-not-claim_holds-clause-steps c = (step-claim _ (rw c.in-Claim.is at c.in_ok-entry.ensures) refl c.claim_holds.ensures (rw c.if-not-claim_holds.false)).0
