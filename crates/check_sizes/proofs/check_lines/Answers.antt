-- `check_sizes::check_lines` meets its contract: each choice has the room that the lines ask which the bytes may make. Assumes nothing.
use native.Mathlib.Omega.{arith}
use Prim.Native.Nat.{ℕ, ◌+◌, ◌*◌, ◌≤◌}
use lib.ListN.{length}
use Rattle.forms.proofs.Editions.{lines-most}
use Rattle.lines.specs.Buffer.{size}
use Rattle.check_sizes.specs.Sizes.{lines_to_come, NumbersWithin}
use Rattle.check_sizes.proofs.Sizes.{rows-small, numbers-less, numbers-small}
use Rattle.check_sizes.proofs.check_lines.Goals as goal
use Rattle.check_sizes.proofs.check_lines.Goals.{After-most_lines-count}

pub overflow_add-inputs-2 : goal.overflow_add-inputs-2
overflow_add-inputs-2 c = omega (arith, c.most_rows-rows.ensures, rows-small c.args.inputs.now.header.edition (length c.args.inputs.now.proof.now), c.requires.both.a_few, c.requires.both.b_few, c.requires.short.p)

pub overflow_add-numbers : goal.overflow_add-numbers
overflow_add-numbers c = omega (arith, c.most_lines-count.ensures, lines-most c.args.inputs.now.header.edition)

pub overflow_mul-numbers : goal.overflow_mul-numbers
overflow_mul-numbers c =
    omega (arith, numbers-small (c.most_lines-count.result + 1) c.args.inputs.now.header.k {N = 1001} (omega (arith, c.most_lines-count.ensures, lines-most c.args.inputs.now.header.edition)) c.requires.both.high)

-- the lines that may come have no more numbers than those that the bytes may make
within : (c : After-most_lines-count) {N : ℕ} → (c.most_lines-count.result + 1) * size c.args.inputs.now.header.k ≤ N
    → NumbersWithin c.args.inputs.now.header.edition c.args.inputs.now.header.k (lines_to_come c.args.inputs.now) N
within c = numbers-less (c.args.inputs.now.first.count + c.args.inputs.now.second.count) c.args.inputs.now.header.edition c.args.inputs.now.header.k c.args.inputs.now.proof.now c.args.inputs.now.header.next c.most_rows-rows.ensures c.most_lines-count.ensures

pub check_long-requires-clause-numbers_within : goal.check_long-requires-clause-numbers_within
check_long-requires-clause-numbers_within c = within (goal.at.check_long-requires-clause-numbers_within c).After-most_lines-count (omega arith)

pub check_long-requires-then-bytes-le248-clause-numbers_within : goal.check_long-requires-then-bytes-le248-clause-numbers_within
check_long-requires-then-bytes-le248-clause-numbers_within c = within (goal.at.check_long-requires-then-bytes-le248-clause-numbers_within c).After-most_lines-count (omega arith)

pub check_long-requires-then-numbers-le-NUMBERS_1-2-clause-numbers_within : goal.check_long-requires-then-numbers-le-NUMBERS_1-2-clause-numbers_within
check_long-requires-then-numbers-le-NUMBERS_1-2-clause-numbers_within c = within (goal.at.check_long-requires-then-numbers-le-NUMBERS_1-2-clause-numbers_within c).After-most_lines-count (omega arith)

pub check_long-requires-2-clause-numbers_within : goal.check_long-requires-2-clause-numbers_within
check_long-requires-2-clause-numbers_within c = within (goal.at.check_long-requires-2-clause-numbers_within c).After-most_lines-count (omega arith)
