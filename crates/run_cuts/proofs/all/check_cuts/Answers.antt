-- `run_cuts::all::check_cuts` meets its contract. Assumes nothing.
use native.Mathlib.Omega.{arith}
use Prim.Native.Nat.{◌+◌, ◌-◌}
use mathlib.Core.Path.{◌≡◌}
use Rattle.run_cuts.proofs.AllCuts.{all_start, all_asked, all_done, all-summable, all-next}
use Rattle.run_cuts.proofs.all.check_cuts.Goals as goal

pub loop-c-init : goal.loop-c-init
loop-c-init c = all_start c.requires

pub check_cut-own-requires : goal.check_cut-own-requires
check_cut-own-requires c = all_asked c.requires c.loop-c.c c.loop-c.invariant

pub joined-all-requires : goal.joined-all-requires
joined-all-requires c = all-summable c.requires c.loop-c.c c.loop-c.invariant c.check_cut-own.ensures

pub loop-c-preserved : goal.loop-c-preserved
loop-c-preserved c =
    let z : c.loop-c.c - 1 + 1 ≡ c.loop-c.c = omega arith in
    rw z (all-next c.requires c.loop-c.c c.loop-c.invariant c.check_cut-own.ensures c.check_cut-own.auto.kinds c.check_cut-own.auto.lines c.check_cut-own.auto.scratch c.joined-all.ensures)

pub returns : goal.returns
returns c = absurd (omega arith)

pub returns-2 : goal.returns-2
returns-2 c =
    let z : c.loop-c.c ≡ 0 = omega arith in
    let q = all-next c.requires c.loop-c.c c.loop-c.invariant c.check_cut-own.ensures c.check_cut-own.auto.kinds c.check_cut-own.auto.lines c.check_cut-own.auto.scratch c.joined-all.ensures in
    all_done c.requires (rw z at q)
