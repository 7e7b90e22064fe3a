-- `formula_write::put_front` meets its contract: an or, an and, the stride part, each behind the other. Assumes nothing.
use native.Mathlib.Omega.{arith}
use mathlib.Core.List.{[], ◌++◌}
use Rattle.fields.specs.Fields.{field_bytes}
use Rattle.formula_write.specs.Writing.{or_bytes}
use Rattle.formula_write.proofs.Storing.{stores_both, stores-head, or-size}
use mir.ValLaws.{to_z-of_z}
use Rattle.formula_write.proofs.put_front.Goals as goal

pub put_pair-pair-requires : goal.put_pair-pair-requires
put_pair-pair-requires c = omega (arith, c.put_or-head.ensures.o_is, or-size c.args.others, c.requires.o_bound)

pub put_filled-requires : goal.put_filled-requires
put_filled-requires c =
    let fits = c.ranges.g in
    simp to_z-of_z (record { k_le_constants = c.requires.k_le_constants; o_le_scratch_limit = omega (arith, c.put_pair-pair.ensures.o_is, c.put_or-head.ensures.o_is, or-size c.args.others, c.requires.o_bound) })

pub returns : goal.returns
returns c =
    let fits-g = c.ranges.g in
    let fits-d = c.ranges.d in
    let or = or_bytes c.args.others in
    stores_both (or ++ field_bytes 0x32 []) _ (stores_both or (field_bytes 0x32 []) c.put_or-head.ensures (stores-head c.put_pair-pair.ensures)) (simp to_z-of_z at c.put_filled.ensures)
