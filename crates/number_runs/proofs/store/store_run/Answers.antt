-- `number_runs::store::store_run` meets its contract: the first i are stored. Assumes nothing.
use mathlib.Core.Path.{◌≡◌, ◌∙◌}
use Prim.Native.Nat.{◌+◌, ◌*◌}
use native.Mathlib.Omega.{arith}
use lib.ListN.{take, drop}
use mir.Syntax.{w32, w64}
use mir.Val.{to_z, of_z}
use mir.ValLaws.{to_z-of_z}
use Rattle.number_bytes.specs.Numbers.{signed}
use Rattle.number_bytes.specs.Widths.{bytes_of}
use Rattle.number_bytes.proofs.Widths.{held-bits}
use Rattle.number_runs.proofs.Storing.{stored-none, stored_next}
use Rattle.number_runs.proofs.store.store_run.Goals as goal
use Rattle.number_runs.proofs.store.store_run.Goals.{After-signed_at}

pub loop-i-init : goal.loop-i-init
loop-i-init c = stored-none _ _

number : (c : After-signed_at) → to_z w32 (of_z w32 (to_z w64 (of_z w64 c.signed_at.result))) ≡ signed (take (bytes_of c.args.width) (drop (c.args.start + c.loop-i.i * bytes_of c.args.width) c.args.s.now))
number c =
    rw (to_z-of_z w64 c.signed_at.result (record { sfits = c.signed_at.type_inv }))
    (to_z-of_z w32 c.signed_at.result (held-bits c.args.width c.signed_at.ensures.range) ∙ c.signed_at.ensures.is ∙ rw c.bytes.ensures)

pub loop-i-preserved : goal.loop-i-preserved
loop-i-preserved c =
    let a = c.args in
    rw (number c) (stored_next (bytes_of a.width) c.loop-i.numbers c.loop-i.i a.s.now a.start (omega arith) c.loop-i.invariant)
