-- `lines::sums::mix_whole` meets its contract. Assumes nothing.
use native.Mathlib.Omega.{arith}
use mir.ValLaws.{to_z-of_z}
use Rattle.lines.proofs.Parts.{agree_refl}
use Rattle.lines.proofs.Lines.{before}
use Rattle.lines.proofs.Mixing.{terms}
use Rattle.lines.proofs.sums.mix_whole.Goals as goal

pub mix_numbers-requires : goal.mix_numbers-requires
mix_numbers-requires c =
    let p = c.requires in
    let ff = c.ranges.alpha in
    let fg = c.ranges.beta in
    let hs = before c.args.k p.first in
    let ht = before c.args.k p.second in
    simp to_z-of_z (terms p agree_refl (omega arith) (omega arith) (omega arith) (omega arith))
