-- `lines::sums::mix` meets its contract. Assumes nothing.
use Prim.Native.Nat.{◌*◌}
use native.Mathlib.Omega.{arith}
use mir.ValLaws.{to_z-of_z}
use Rattle.lines.specs.Parts.{Agree}
use Rattle.lines.proofs.Parts.{agree_refl, agree-le}
use Rattle.lines.specs.Buffer.{size}
use Rattle.lines.proofs.Lines.{before}
use Rattle.lines.proofs.Mixing.{terms, form-fails, mixed-forms}
use Rattle.lines.proofs.sums.mix.Goals as goal

pub mix_numbers-requires : goal.mix_numbers-requires
mix_numbers-requires c =
    let p = c.requires in
    let ff = c.ranges.alpha in
    let fg = c.ranges.beta in
    let hs = before c.args.k p.first in
    let ht = before c.args.k p.second in
    simp to_z-of_z (terms p agree_refl (omega arith) (omega arith) (omega arith) (omega arith))

pub returns-then-not-mix_numbers : goal.returns-then-not-mix_numbers
returns-then-not-mix_numbers c =
    let ff = c.ranges.alpha in
    let fg = c.ranges.beta in
    form-fails
    c.requires
    (simp to_z-of_z at c.mix_numbers.ensures)
    (omega arith)
    (omega arith)
    (omega arith)
    c.if-not-mix_numbers.true

pub mix_numbers-requires-2 : goal.mix_numbers-requires-2
mix_numbers-requires-2 c =
    let p = c.requires in
    let ff = c.ranges.alpha in
    let fg = c.ranges.beta in
    let hs = before c.args.k p.first in
    let ht = before c.args.k p.second in
    let same : Agree (c.args.n.0 * size c.args.k) c.args.lines.now c.mix_numbers.new.lines = agree-le (omega arith) c.mix_numbers.ensures.keeps in
    simp to_z-of_z (terms p same (omega arith) (omega arith) (omega arith) (omega arith))

pub returns : goal.returns
returns c =
    let ff = c.ranges.alpha in
    let fg = c.ranges.beta in
    mixed-forms
    c.requires
    (simp to_z-of_z at c.mix_numbers.ensures)
    (omega arith)
    (omega arith)
    (omega arith)
    c.if-not-mix_numbers.false
    (simp to_z-of_z at c.mix_numbers-2.ensures)
    (omega arith)
    (omega arith)
    (omega arith)
