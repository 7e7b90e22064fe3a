-- `conversion_bundle::turn_constraints` meets its contract. The invariant `Putting`: what is left to write gives what the whole gives. Assumes nothing.
use Prim.Native.Nat.{◌-◌}
use lib.ListN.{length}
use Rattle.conversion_bundle.proofs.Putting.{Putting}
use Rattle.conversion_bundle.proofs.turn_constraints.Given as goal

abbrev pub invariant-loop-n : goal.invariant-loop-n
invariant-loop-n l = Putting l.to l.k l.count l.s l.at l.initial.out l.o l.out l.here l.end l.n

abbrev pub decreases-loop-n : goal.decreases-loop-n
decreases-loop-n l = length l.s - l.here
