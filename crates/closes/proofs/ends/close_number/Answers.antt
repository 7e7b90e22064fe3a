-- `closes::ends::close_number` meets its contract. Assumes nothing.
use native.Mathlib.Omega.{arith}
use Rattle.closes.proofs.NumberTests.{line_low}
use Rattle.closes.proofs.Ending.{number-there, number-written, numbered}
use Rattle.closes.proofs.ends.close_number.Goals as goal

pub place_a-ta-requires : goal.place_a-ta-requires
place_a-ta-requires c =
    let h = number-there c.in_ok-test_number.ensures in
    (line_low c.requires.ready h, c.requires.ready.branch.constants)

pub kind_of-kind-requires : goal.kind_of-kind-requires
kind_of-kind-requires c =
    let h = number-there c.in_ok-test_number.ensures in
    omega (arith, c.requires.ready.room)

pub put_literal-requires : goal.put_literal-requires
put_literal-requires c =
    let h = number-there c.in_ok-test_number.ensures in
    record { numbered = numbered c.requires.ready h c.place_a-ta.ensures; o_le_scratch_limit = c.requires.o_le_scratch_limit }

pub returns : goal.returns
returns c = number-written c.requires.ready c.place_a-ta.ensures c.in_ok-test_number.ensures c.kind_of-kind.ensures c.put_literal.ensures
