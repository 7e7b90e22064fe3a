-- `number_ranges::held::all_above_lowest` meets its contract: what is tested so far, and what is left, give the whole. Assumes nothing.
use mathlib.Core.Path.{◌≡◌}
use mathlib.Core.Bool.{◌&&◌}
use lib.ListN.{drop}
use Rattle.forms.specs.Forms.{every}
use Rattle.bundle.specs.Write.{holdable}
use Rattle.number_ranges.proofs.held.all_above_lowest.Given as goal

abbrev pub invariant-loop-x : goal.invariant-loop-x
invariant-loop-x l = (l.ok && every (holdable 4) (drop l.x-index l.numbers)) ≡ every (holdable 4) l.numbers
