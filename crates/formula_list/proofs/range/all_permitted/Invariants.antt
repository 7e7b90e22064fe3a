-- `formula_list::range::all_permitted` meets its contract. Assumes nothing.
use mathlib.Core.Path.{◌≡◌}
use mathlib.Core.Bool.{◌&&◌}
use lib.ListN.{drop}
use Rattle.forms.specs.Forms.{every}
use Rattle.formula_test.specs.Values.{permitted}
use Rattle.formula_list.proofs.range.all_permitted.Given as goal

abbrev pub invariant-loop-x : goal.invariant-loop-x
invariant-loop-x l = (l.ok && every permitted (drop l.x-index l.values)) ≡ every permitted l.values
