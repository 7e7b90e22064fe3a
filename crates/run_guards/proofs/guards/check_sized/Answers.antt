-- `run_guards::guards::check_sized` meets its contract: its arrays have the room that is asked. Assumes nothing.
use native.Mathlib.Omega.{arith}
use Prim.Native.Nat.{ℕ, ◌+◌}
use lib.IntN.{ℤ, pos}
use lib.ListN.{length-replicate}
use Rattle.branches.specs.Spare.{lines_left}
use Rattle.run_cuts.proofs.Phases.{asked}
use Rattle.run_guards.proofs.Room.{spare-all}
use Rattle.run_guards.proofs.guards.check_sized.Goals as goal

pub check_run-requires : goal.check_run-requires
check_run-requires g c =
    let r = c.args.run.now in
    let w = c.requires in
    let may_come : ℕ = r.count + lines_left r.edition r.proof.now r.at in
    let kinds = length-replicate {A = ℕ} g.row.KINDS 0 in
    let numbers = length-replicate {A = ℤ} g.row.NUMBERS (pos 0) in
    record { passed = w.passed; asked = asked r w.passed w.begun (spare-all r.edition r.k may_come (omega (arith, w.kinds_enough, kinds)) w.passed.high (omega (arith, w.numbers_enough.0, kinds, numbers))) }
