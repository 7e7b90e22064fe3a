-- `number_ranges::held::all_short` meets its contract: what is merged so far, and what is left, give the whole. Assumes nothing.
use mathlib.Core.Path.{◌≡◌}
use mathlib.Core.Bool.{◌&&◌}
use lib.Dec.{ltb}
use lib.ListN.{drop}
use Rattle.forms.specs.Forms.{every}
use Rattle.bundle.specs.Write.{holdable}
use Rattle.number_ranges.proofs.held.all_short.Given as goal

abbrev pub invariant-loop-x : goal.invariant-loop-x
invariant-loop-x l = (ltb l.all 0x1_0000 && every (holdable 2) (drop l.x-index l.numbers)) ≡ every (holdable 2) l.numbers
