-- The measures of the cycle {walk_branch, walk_branches}: how many bytes are unread, twice, and one more where the branches of a step are gone through; and the loop over a step's branches. Assumes nothing.
use Rattle.std.proofs.Common.{◌+◌, ◌*◌}
use Rattle.fields.specs.Places.{unread_bytes}
use Rattle.run_branches.proofs.BranchesLoop.{Passing}
use Rattle.run_branches.proofs.walk.+walk_branch_walk_branches.Given as goal

abbrev pub decreases-walk_branch : goal.decreases-walk_branch
decreases-walk_branch l = 2 * unread_bytes l.proof.now.bytes.now l.at

abbrev pub decreases-walk_branches : goal.decreases-walk_branches
decreases-walk_branches l = 2 * unread_bytes l.proof.now.bytes.now l.at + 1

abbrev pub invariant-walk_branches-loop-b : goal.invariant-walk_branches-loop-b
invariant-walk_branches-loop-b l = Passing l.proof.edition l.proof.k l.proof.bytes.now l.at l.step.0 l.last l.alike l.opened l.first l.closed l.like l.b
