-- `number_ranges::read::all_in_range` meets its contract: every number of two bytes is within the range. Assumes nothing.
use native.Mathlib.Omega.{arith}
use Rattle.number_ranges.proofs.Ranging.{bytes_of, shorts-small}
use Rattle.number_ranges.proofs.read.all_in_range.Goals as goal

pub returns-in-Two : goal.returns-in-Two
returns-in-Two c =
    let k = rw c.in-Two.is at c.requires in
    rw c.in-Two.is (shorts-small c.args.s.now 0 c.args.n (omega (arith, k)) (bytes_of c.args.s.now (λ i. (c.type_inv.s i).fits)))
