-- `run_branches::walk::walk_entries` meets its contract. Assumes nothing.
use Prim.Native.Nat.{◌-◌}
use lib.ListN.{length}
use Rattle.run_branches.proofs.EntriesLoop.{Going}
use Rattle.run_branches.proofs.walk.walk_entries.Given as goal

abbrev pub invariant-loop-field : goal.invariant-loop-field
invariant-loop-field l = Going l.proof.edition l.proof.k l.proof.bytes.now l.at l.position l.initial.count l.here l.count l.made

abbrev pub decreases-loop-field : goal.decreases-loop-field
decreases-loop-field l = length l.proof.bytes.now - l.here
