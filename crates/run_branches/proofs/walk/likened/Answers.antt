-- `run_branches::walk::likened` meets its contract. Assumes nothing.
use borrow.Author.Tests.{ne_eqb}
use Rattle.run_branches.proofs.BranchByBranch.{likened-not, likened-free, likened-counts, likened-fields}
use Rattle.run_branches.proofs.walk.likened.Goals as goal
use Rattle.run_branches.proofs.walk.likened.Goals.{then-not-like-via-then-not-like, then-not-like-via-else-not-like+then-not-compares}

pub returns-then-not-like : goal.returns-then-not-like
returns-then-not-like c =
    elim c.then-not-like.branch [
      | then-not-like-via-then-not-like w ↦ likened-not w.if-not-like.true
      | then-not-like-via-else-not-like+then-not-compares w ↦ likened-free w.if-not-like.false w.compares.ensures w.if-not-compares.true
    ]

pub returns-then-first-own : goal.returns-then-first-own
returns-then-first-own c = likened-fields c.if-not-like.false c.compares.ensures c.if-not-compares.false c.if-first-own.true c.same_fields.ensures

pub returns-else-first-own : goal.returns-else-first-own
returns-else-first-own c = rw (ne_eqb _ _ c.if-first-own.false) (likened-counts c.if-not-like.false c.compares.ensures c.if-not-compares.false c.if-first-own.false)
