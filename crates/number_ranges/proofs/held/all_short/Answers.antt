-- `number_ranges::held::all_short` meets its contract: what is merged so far, and what is left, give the whole. Assumes nothing.
use mathlib.Core.Path.{refl, ap, ◌∙◌}
use mathlib.Core.Bool.{◌&&◌}
use lib.Dec.{ltb}
use lib.IntN.{pos}
use lib.ListN.{get_or}
use borrow.Author.Rules.{rules}
use mir.Syntax.{w32}
use mir.ValLaws.{to_z-of_z}
use Rattle.bundle.specs.Write.{holdable}
use Rattle.number_ranges.proofs.Merging.{or-below}
use Rattle.number_ranges.proofs.Ranging.{all-next, all_done}
use Rattle.number_ranges.proofs.held.all_short.Goals as goal

pub loop-x-init : goal.loop-x-init
loop-x-init c = refl

pub loop-x-preserved : goal.loop-x-preserved
loop-x-preserved c =
    let xs = c.args.numbers.now in
    let l = c.loop-x in
    let e = to_z-of_z w32 (get_or xs l.x-index (pos 0)) (search rules) in
    let b = ltb l.all 0x1_0000 in
    all-next (holdable 2) xs l.x-index b l.invariant (pos 0) c.loop-x-test.true (or-below 16 l.all c.shifted-all.result ∙ ap (◌&&◌ b) (c.shifted-all.ensures ∙ ap (holdable 2) e))

pub returns : goal.returns
returns c = all_done (holdable 2) c.args.numbers.now c.loop-x.x-index (ltb c.loop-x.all 0x1_0000) c.loop-x.invariant c.loop-x-test.false
