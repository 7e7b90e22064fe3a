-- `number_ranges::held::all_above_lowest` meets its contract: what is tested so far, and what is left, give the whole. Assumes nothing.
use mathlib.Core.Path.{refl, ap, ◌∙◌}
use mathlib.Core.Bool.{◌&&◌}
use lib.IntN.{pos}
use lib.ListN.{get_or}
use borrow.Author.Rules.{rules}
use mir.Syntax.{w32}
use mir.ValLaws.{to_z-of_z}
use Rattle.bundle.specs.Write.{holdable}
use Rattle.number_ranges.proofs.Ranging.{all-next, all_done}
use Rattle.number_ranges.proofs.held.all_above_lowest.Goals as goal

pub loop-x-init : goal.loop-x-init
loop-x-init c = refl

pub loop-x-preserved : goal.loop-x-preserved
loop-x-preserved c =
    let xs = c.args.numbers.now in
    let l = c.loop-x in
    let e = to_z-of_z w32 (get_or xs l.x-index (pos 0)) (search rules) in
    all-next (holdable 4) xs l.x-index l.ok l.invariant (pos 0) c.loop-x-test.true (ap (◌&&◌ l.ok) (c.above_lowest-ok.ensures ∙ ap (holdable 4) e))

pub returns : goal.returns
returns c = all_done (holdable 4) c.args.numbers.now c.loop-x.x-index c.loop-x.ok c.loop-x.invariant c.loop-x-test.false
