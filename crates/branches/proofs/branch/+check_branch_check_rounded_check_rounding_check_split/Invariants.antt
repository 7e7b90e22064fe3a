-- The proof of the cycle {check_branch, check_rounded, check_rounding, check_split}: the measure is how many bytes are unread and how many more branching steps may be open, twice, and one more where the branches of a rounding or a split are gone through.
-- Each answer collects the facts on its way and cites a lemma of `BranchStops`, `OpenedBranches`, `Rounds` or `Splits`; what is checked in a turn of the loop over j gives what is checked from 0 on. Assumes nothing.
use Rattle.fields.specs.Places.{unread_bytes}
use Rattle.branches.proofs.Rounds.{Rounded}
use Prim.Native.Nat.{◌+◌, ◌*◌, ◌-◌}
use Rattle.branches.proofs.branch.+check_branch_check_rounded_check_rounding_check_split.Given as goal

abbrev pub decreases-check_branch : goal.decreases-check_branch
decreases-check_branch l = 2 * (unread_bytes l.p.now l.here.at + (32 - l.tally.«open»))

abbrev pub decreases-check_rounded : goal.decreases-check_rounded
decreases-check_rounded l = 2 * (unread_bytes l.p.now l.here.at + (32 - l.tally.«open»)) + 1

abbrev pub decreases-check_rounding : goal.decreases-check_rounding
decreases-check_rounding l = 2 * (unread_bytes l.p.now l.here.at + (32 - l.tally.«open»)) + 1

abbrev pub decreases-check_split : goal.decreases-check_split
decreases-check_split l = 2 * (unread_bytes l.p.now l.here.at + (32 - l.tally.«open»)) + 1

-- The loop over j of a rounding's branches.
abbrev pub invariant-check_rounded-loop-j : goal.invariant-check_rounded-loop-j
invariant-check_rounded-loop-j l =
    Rounded l.k l.row.0 l.n.0 l.p l.initial.end.at l.initial.kinds l.initial.lines l.initial.end.tally l.t.0 l.g l.by l.initial.scratch l.initial.end.o l.kinds l.lines l.scratch l.end l.j
