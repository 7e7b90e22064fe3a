-- `rows::derive::append` meets its contract. Assumes nothing.
use native.Mathlib.Omega.{arith}
use Rattle.forms.proofs.Editions.{lines-most}
use mir.ValLaws.{to_z-of_z}
use Rattle.std.proofs.lemmas.Result.{err_from_is_err_and}
use Rattle.tally.proofs.Counted.{counted-line, full-line}
use Rattle.rows.proofs.NewLine.{append-full, append-range, append-made}
use Rattle.rows.proofs.derive.append.Goals as goal

pub mix_line-requires : goal.mix_line-requires
mix_line-requires c =
    let ff = c.ranges.f in
    let fg = c.ranges.g in
    let h = counted-line c.in_ok-count_line.ensures in
    simp to_z-of_z (record { branch = c.requires.ready.branch; first = c.requires.operands.first; second = c.requires.operands.second; space = omega (arith, h.0, lines-most c.args.tally.edition); f_in = c.requires.operands.f_in; g_in = c.requires.operands.g_in })

pub returns : goal.returns
returns c =
    let ff = c.ranges.f in
    let fg = c.ranges.g in
    let h = counted-line c.in_ok-count_line.ensures in
    let m = simp to_z-of_z at c.mix_line.ensures in
    append-made _ _ _ _ _ _ c.requires.ready c.requires.operands h.0 m c.if-not-mix_line.false c.set_kind.ensures h.1

pub returns-then-not-mix_line : goal.returns-then-not-mix_line
returns-then-not-mix_line c =
    let ff = c.ranges.f in
    let fg = c.ranges.g in
    let h = counted-line c.in_ok-count_line.ensures in
    let m = simp to_z-of_z at c.mix_line.ensures in
    append-range _ _ _ _ _ _ c.requires.ready c.requires.operands h.0 m c.if-not-mix_line.true

pub returns-in_err-count_line : goal.returns-in_err-count_line
returns-in_err-count_line c =
    let h = c.in_err-count_line.ensures in
    let p = err_from_is_err_and c.from_residual.result c.from_residual.ensures.1 in
    rw (p.1, p.2, h.0) (append-full _ _ _ _ _ _ c.requires.ready (full-line _ h.1))
