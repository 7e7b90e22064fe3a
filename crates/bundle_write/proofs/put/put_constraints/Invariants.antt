-- `bundle_write::put::put_constraints` meets its contract. The invariant `Putting`: what is left to write gives what the whole gives. Assumes nothing.
use Rattle.forms.specs.Edition.{edition}
use Rattle.bundle_write.proofs.Putting.{Putting}
use Rattle.bundle_write.proofs.put.put_constraints.Given as goal

abbrev pub invariant-loop-kind : goal.invariant-loop-kind
invariant-loop-kind l = Putting (edition l.e) l.k l.kinds l.numbers l.initial.out l.at l.out l.here l.from l.kind-index
