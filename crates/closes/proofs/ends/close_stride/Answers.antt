-- `closes::ends::close_stride` meets its contract. Assumes nothing.
use mathlib.Core.Path.{◌∙◌}
use native.Mathlib.Omega.{arith}
use mir.Syntax.{w64}
use mir.ValLaws.{to_z-of_z}
use Rattle.closes.proofs.NumberTests.{line_low}
use Rattle.closes.proofs.Ending.{stride-there, stride-two, stride-written, numbered, divisor}
use Rattle.closes.proofs.ends.close_stride.Goals as goal

pub place_a-ta-requires : goal.place_a-ta-requires
place_a-ta-requires c = (line_low c.requires.ready (stride-there c.in_ok-test_stride.ensures), c.requires.ready.branch.constants)

pub put_stride-requires : goal.put_stride-requires
put_stride-requires c =
    let b = c.in_ok-test_stride.ensures in
    let z = to_z-of_z w64 c.from.result (record { sfits = c.from.type_inv }) ∙ c.from.ensures in
    record { numbered = (numbered c.requires.ready (stride-there b) c.place_a-ta.ensures, divisor z (omega arith) (stride-two b)); o_le_scratch_limit = c.requires.o_le_scratch_limit }

pub returns : goal.returns
returns c =
    let z = to_z-of_z w64 c.from.result (record { sfits = c.from.type_inv }) ∙ c.from.ensures in
    stride-written c.requires.ready c.place_a-ta.ensures c.in_ok-test_stride.ensures (rw z at c.put_stride.ensures)
