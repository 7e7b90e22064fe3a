-- `rows::claims::claim_holds` meets its contract. Assumes nothing.
use Rattle.std.proofs.lemmas.List.{take_rest}
use Rattle.rows.proofs.Claiming.{claim-first, claim-second}
use Rattle.rows.proofs.claims.claim_holds.Goals as goal

pub returns-then-same_form : goal.returns-then-same_form
returns-then-same_form c = claim-second _ _ _ _ c.requires.lines_in_bounds c.place.ensures c.same_form.ensures c.if-same_form.true c.place_a.ensures (simp take_rest at c.same_form-then-same_form.ensures)

pub returns-else-same_form : goal.returns-else-same_form
returns-else-same_form c = rw c.if-same_form.false (claim-first _ _ _ _ c.requires.lines_in_bounds c.place.ensures c.same_form.ensures c.if-same_form.false)
