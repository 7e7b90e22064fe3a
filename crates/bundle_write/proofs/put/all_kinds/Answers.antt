-- `bundle_write::put::all_kinds` meets its contract: what is tested so far, and what is left, give the whole. Assumes nothing.
use mathlib.Core.Path.{ap}
use mathlib.Core.Bool.{◌&&◌}
use native.Mathlib.Omega.{arith}
use lib.Dec.{leb}
use Rattle.number_ranges.proofs.Ranging.{all-next, all_done}
use Rattle.bundle_write.proofs.put.all_kinds.Goals as goal

pub loop-kind-preserved : goal.loop-kind-preserved
loop-kind-preserved c =
    let l = c.loop-kind in
    all-next (λ kind. leb kind 2) c.args.kinds.now l.kind-index l.ok l.invariant 0 (omega arith) (ap (◌&&◌ l.ok) c.is_kind-ok.ensures)

pub returns : goal.returns
returns c = all_done (λ kind. leb kind 2) c.args.kinds.now c.loop-kind.kind-index c.loop-kind.ok c.loop-kind.invariant (omega arith)
