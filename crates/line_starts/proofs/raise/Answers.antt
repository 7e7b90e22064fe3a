-- `line_starts::raise` meets its contract: the sum is within the range, so it fits 64 bits and then 32. Assumes nothing.
use mathlib.Core.Path.{◌≡◌, ◌∙◌, ap, ap₂}
use native.Mathlib.Omega.{arith}
use lib.IntN.{pos, ◌+ℤ◌}
use lib.ListN.{get_or, set}
use mir.Syntax.{w64}
use mir.Val.{to_z, of_z}
use mir.ValLaws.{to_z-of_z, to_z_pos}
use Rattle.lines.specs.Buffer.{raised}
use Rattle.lines.proofs.Narrow.{narrowed}
use Rattle.line_starts.proofs.raise.Goals as goal
use Rattle.line_starts.proofs.raise.Goals.{After-number}

sum_is : (c : After-number) → to_z w64 (of_z w64 c.number.result) +ℤ to_z w64 c.args.x ≡ get_or c.args.lines.now c.args.at (pos 0) +ℤ pos c.args.x
sum_is c =
    ap₂ ◌+ℤ◌
    (to_z-of_z w64 c.number.result (record { sfits = c.number.type_inv }) ∙ c.number.ensures)
    (to_z_pos w64 c.args.x (omega (arith, c.ranges.x)))

pub returns : goal.returns
unfolding raised
returns c = ap (set c.args.lines.now c.args.at) (narrowed (sum_is c) c.requires.within)
