-- `number_bytes::words::short_at` meets its contract. Assumes nothing.
use mathlib.Core.Path.{◌∙◌}
use Prim.Native.Nat.{◌+◌}
use native.Mathlib.Omega.{arith}
use mir.Syntax.{w16}
use mir.ValLaws.{to_z-of_z}
use Rattle.number_bytes.proofs.Turned.{signed_two}
use Rattle.number_bytes.proofs.words.short_at.Goals as goal

pub returns : goal.returns
returns c =
    let a = c.args in
    let b = c.type_inv.s in
    to_z-of_z w16 c.cast_signed.result (record { sfits = c.cast_signed.type_inv })
    ∙ c.cast_signed.ensures
    ∙ signed_two a.s.now a.at c.swap_bytes.result c.requires (omega (arith, b a.at, b (a.at + 1), b (a.at + 2), b (a.at + 3))) c.swap_bytes.type_inv
