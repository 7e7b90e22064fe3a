-- `openings::rounding::start_rounded` meets its contract. Assumes nothing.
use native.Mathlib.Omega.{arith}
use lib.IntN.{nat_abs}
use mir.Syntax.{w64}
use mir.ValLaws.{to_z-of_z}
use Rattle.lines.specs.Buffer.{LineStart}
use Rattle.formula_write.proofs.Templates.{filled-front}
use Rattle.openings.proofs.Starting.{start-below, start-room, start-front}
use Rattle.openings.proofs.rounding.start_rounded.Goals as goal

pub start_line-requires : goal.start_line-requires
start_line-requires c =
    (start-below c.requires.line_start.0 (omega (arith, c.requires.line_start.2)) (omega (arith, c.requires.line_start.2)), c.requires.line_start.1)

pub place_a-ta-requires : goal.place_a-ta-requires
place_a-ta-requires c =
    let p = c.requires.line_start.0.copy in
    (omega (arith, p.space, p.first), p.branch.constants)

pub overflow_add-ta : goal.overflow_add-ta
overflow_add-ta c =
    let s = c.requires.line_start.0 in
    omega (arith, start-room s c.place_a-ta.ensures (omega (arith, s.copy.first)))

pub number-d-requires : goal.number-d-requires
number-d-requires c =
    let s = c.requires.line_start.0 in
    omega (arith, start-room s c.place_a-ta.ensures (omega (arith, s.copy.first)))

pub put_front-requires : goal.put_front-requires
put_front-requires c =
    let fits = c.ranges.g in
    let w = c.requires.stride_template in
    simp to_z-of_z (record { k_le_constants = (c.requires.line_start.0.copy.branch.constants, w.room, c.requires.divisor.0); o_bound = c.requires.divisor.1 })

pub returns : goal.returns
returns c =
    let a = c.args in
    let fits = c.ranges.g in
    let own : LineStart a.k a.lines.now a.i.0 a.n.0 a.by a.j = start-below c.requires.line_start.0 (omega arith) (omega (arith, c.requires.line_start.2)) in
    let l = c.start_line.ensures in
    let d = to_z-of_z w64 c.number-d.result (record { sfits = c.number-d.type_inv }) in
    let front = filled-front c.requires.stride_template c.number-d.result a.others (rw d at (simp to_z-of_z at c.put_front.ensures)) in
    record { line = l.lines; kind = l.kinds; front = start-front own a.kinds.now l.lines c.place_a-ta.ensures c.number-d.ensures (nat_abs a.g) a.others front }
