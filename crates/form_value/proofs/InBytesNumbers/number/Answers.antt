-- A number of a form in bytes. Assumes nothing.
use Rattle.std.proofs.Common.{arith, ◌∙◌, sym, w64}
use mir.ValLaws.{to_z-of_z}
use Rattle.form_value.proofs.Value.{four-within, numbers-within, numbers-at}
use Rattle.form_value.proofs.InBytesNumbers.number.Goals as goal

pub overflow_mul-i : goal.overflow_mul-i
overflow_mul-i c = let room = numbers-within _ c.requires in record { fits = omega (arith, c.ranges.self.0) }

pub signed_at-requires : goal.signed_at-requires
signed_at-requires c = numbers-within _ c.requires

pub returns : goal.returns
returns c =
    let e = to_z-of_z w64 c.signed_at.result (record { sfits = c.signed_at.type_inv }) in
    record { is = e ∙ c.signed_at.ensures.is ∙ sym (numbers-at _ c.requires); range = rw e (four-within c.signed_at.ensures.range) }
