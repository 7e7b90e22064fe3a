-- `formula_list::range::all_permitted` meets its contract. Assumes nothing.
use Rattle.std.proofs.Common.{◌≡◌, ap, rules, get_or}
use mathlib.Core.Bool.{Bool, ◌&&◌}
use lib.IntN.{pos}
use Rattle.number_ranges.proofs.Ranging.{all-next, all_done}
use Rattle.formula_test.specs.Values.{permitted}
use Rattle.formula_list.proofs.range.all_permitted.Goals as goal

pub loop-x-preserved : goal.loop-x-preserved
loop-x-preserved c =
    let e : c.is_permitted-ok.result ≡ permitted (get_or c.args.values.now c.loop-x.x-index (pos 0)) = search rules in
    all-next permitted _ c.loop-x.x-index c.loop-x.ok c.loop-x.invariant (pos 0) c.loop-x-test.true (ap (λ (b : Bool). c.loop-x.ok && b) e)

pub returns : goal.returns
returns c = all_done permitted _ c.loop-x.x-index c.loop-x.ok c.loop-x.invariant c.loop-x-test.false
