-- `number_ranges::read::long_in_range` meets its contract: of the numbers of four bytes all but the lowest are within the range. Assumes nothing.
use mathlib.Core.Path.{ap, ◌∙◌}
use mir.Syntax.{w32, w64}
use mir.ValLaws.{to_z-of_z}
use Rattle.forms.specs.Forms.{small}
use Rattle.number_bytes.specs.declared.words.Width.TheVariants.{Four}
use Rattle.number_bytes.proofs.Widths.{held-bits}
use Rattle.number_ranges.proofs.Ranging.{lowest-small}
use Rattle.number_ranges.proofs.read.long_in_range.Goals as goal

pub overflow_cast-x : goal.overflow_cast-x
overflow_cast-x c = rw (to_z-of_z w64 c.signed_at-x.result (record { sfits = c.signed_at-x.type_inv })) (held-bits Four c.signed_at-x.ensures.range)

pub returns : goal.returns
returns c =
    let x = to_z-of_z w64 c.signed_at-x.result (record { sfits = c.signed_at-x.type_inv }) in
    let f = held-bits Four c.signed_at-x.ensures.range in
    rw (x, to_z-of_z w32 c.signed_at-x.result f) (lowest-small c.signed_at-x.result f ∙ ap (small 2_147_483_647) c.signed_at-x.ensures.is)
