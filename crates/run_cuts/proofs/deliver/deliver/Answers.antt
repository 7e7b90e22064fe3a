-- `run_cuts::deliver::deliver` meets its contract: each answer cites the law for its way. Assumes nothing.
use borrow.Author.Tests.{not-true, not-false}
use Rattle.run_cuts.proofs.Phases.{guards-refused, guard-long, out-short, sizes-short, all_room, all-written}
use Rattle.run_cuts.proofs.deliver.deliver.Goals as goal
use Rattle.run_cuts.proofs.deliver.deliver.Goals.{then-out-total-via-then-out-total, then-out-total-via-else-out-total+then-sizes-run}

pub returns-then-not-derived : goal.returns-then-not-derived
returns-then-not-derived c = rw c.refusal.ensures (guards-refused (guard-long c.requires.passed c.requires.totals (not-true _ c.if-not-derived.true)))

pub returns-then-out-total : goal.returns-then-out-total
returns-then-out-total c =
    elim c.then-out-total.branch [
      | then-out-total-via-then-out-total w ↦ out-short c.requires.passed c.requires.totals (not-false _ c.if-not-derived.false) c.refusal-then-out-total.ensures w.if-out-total.true
      | then-out-total-via-else-out-total+then-sizes-run w ↦ sizes-short c.requires.passed c.requires.totals (not-false _ c.if-not-derived.false) c.refusal-then-out-total.ensures w.if-out-total.false w.if-sizes-run.true
    ]

pub write_guards-requires-clause-guards_fit : goal.write_guards-requires-clause-guards_fit
write_guards-requires-clause-guards_fit c = all_room c.requires.passed c.requires.totals (not-false _ c.if-not-derived.false) c.if-out-total.false c.if-sizes-run.false

pub returns : goal.returns
returns c = all-written c.requires.passed c.requires.totals (not-false _ c.if-not-derived.false) c.if-out-total.false c.if-sizes-run.false c.write_guards.ensures
