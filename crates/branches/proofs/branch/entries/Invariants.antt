-- `branches::branch::entries` meets its contract. Assumes nothing.
use Prim.Native.Nat.{◌-◌}
use lib.ListN.{length}
use Rattle.branches.proofs.EntriesLoop.{Going}
use Rattle.branches.proofs.branch.entries.Given as goal

abbrev pub invariant-loop-field : goal.invariant-loop-field
invariant-loop-field l = Going l.k l.p l.at l.initial.kinds l.initial.lines l.initial.count l.kinds l.lines l.here l.count l.made

abbrev pub decreases-loop-field : goal.decreases-loop-field
decreases-loop-field l = length l.p - l.here
