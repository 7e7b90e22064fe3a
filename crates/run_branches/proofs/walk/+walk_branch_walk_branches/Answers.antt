-- The cycle {walk_branch, walk_branches} meets its contracts. Assumes nothing.
use native.Mathlib.Omega.{arith}
use mathlib.Core.Path.{refl}
use Rattle.std.proofs.lemmas.Result.{err_from_is_err_and}
use Rattle.run_branches.proofs.BranchesLoop.{closed-rows, first-fault, first-closed, passing-last, passing-unlike, passing-fault, passing-next, stop-fault, stop-closes, stop-countable, stop-falls, stop-shut, stop-opens}
use Rattle.run_branches.proofs.walk.+walk_branch_walk_branches.Goals as goal

pub walk_branch-returns-in_err-closed : goal.walk_branch-returns-in_err-closed
walk_branch-returns-in_err-closed t c =
    let p = err_from_is_err_and c.from_residual.result c.from_residual.ensures.1 in
    rw (p.1, p.2) (stop-fault c.args.opened c.in_err-closed.ensures)

pub walk_branch-returns-in-Closes : goal.walk_branch-returns-in-Closes
walk_branch-returns-in-Closes t c = stop-closes c.args.opened (rw c.in-Closes.is at c.in_ok-closed.ensures)

pub walk_branch-returns-then-opened-eq-BRANCHINGS : goal.walk_branch-returns-then-opened-eq-BRANCHINGS
walk_branch-returns-then-opened-eq-BRANCHINGS t c = stop-shut (rw c.in-Opens.is at c.in_ok-closed.ensures) c.args.opened c.if-opened-eq-BRANCHINGS.true c.proof_refusal.ensures

pub walk_branch-walk_branches-requires : goal.walk_branch-walk_branches-requires
walk_branch-walk_branches-requires t c =
    let s = rw c.in-Opens.is at c.in_ok-closed.ensures in
    (omega (arith, stop-falls s, c.decreases), (omega (arith, c.requires.opened_few, c.if-opened-eq-BRANCHINGS.false), stop-countable s))

pub walk_branch-returns-else-opened-eq-BRANCHINGS : goal.walk_branch-returns-else-opened-eq-BRANCHINGS
walk_branch-returns-else-opened-eq-BRANCHINGS t c = stop-opens (rw c.in-Opens.is at c.in_ok-closed.ensures) c.args.opened c.requires.opened_few c.if-opened-eq-BRANCHINGS.false c.walk_branches.ensures

pub walk_branches-returns-in_err-closed : goal.walk_branches-returns-in_err-closed
walk_branches-returns-in_err-closed t c =
    let p = err_from_is_err_and c.from_residual.result c.from_residual.ensures.1 in
    rw (p.1, p.2) (first-fault c.args.proof.now.edition c.args.proof.now.k c.args.step.0 c.args.last c.args.alike c.args.opened c.in_err-closed.ensures)

pub walk_branches-overflow_sub-first : goal.walk_branches-overflow_sub-first
walk_branches-overflow_sub-first t c = closed-rows c.args.proof.now.edition c.args.proof.now.k c.args.opened _ _ c.in_ok-closed.ensures

pub walk_branches-loop-b-init : goal.walk_branches-loop-b-init
walk_branches-loop-b-init t c = first-closed c.args.proof.now.edition c.args.proof.now.k c.args.step.0 c.args.last c.args.alike c.args.opened c.requires.countable c.in_ok-closed.ensures refl refl

pub walk_branches-walk_branch-requires-in-loop-b : goal.walk_branches-walk_branch-requires-in-loop-b
walk_branches-walk_branch-requires-in-loop-b t c = (omega (arith, c.loop-b.invariant.unread, c.decreases), (c.requires.opened_few, c.loop-b.invariant.countable))

pub walk_branches-returns-in_err-next : goal.walk_branches-returns-in_err-next
walk_branches-returns-in_err-next t c =
    let p = err_from_is_err_and c.from_residual-in_err-next.result c.from_residual-in_err-next.ensures.1 in
    rw (p.1, p.2) (passing-fault c.loop-b.invariant c.loop-b-test.true c.in_err-next.ensures)

pub walk_branches-overflow_sub-own : goal.walk_branches-overflow_sub-own
walk_branches-overflow_sub-own t c = closed-rows c.args.proof.now.edition c.args.proof.now.k c.args.opened _ c.loop-b.closed.rows.0 c.in_ok-next.ensures

pub walk_branches-loop-b-preserved : goal.walk_branches-loop-b-preserved
walk_branches-loop-b-preserved t c = passing-next c.loop-b.invariant c.loop-b-test.true c.in_ok-next.ensures refl refl c.likened-like.ensures

pub walk_branches-returns-then-not-like : goal.walk_branches-returns-then-not-like
walk_branches-returns-then-not-like t c = passing-unlike c.loop-b.invariant c.loop-b-test.false c.if-not-like.true

pub walk_branches-returns : goal.walk_branches-returns
walk_branches-returns t c = passing-last c.loop-b.invariant c.loop-b-test.false c.if-not-like.false
