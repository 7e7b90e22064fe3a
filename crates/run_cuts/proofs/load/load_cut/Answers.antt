-- `run_cuts::load::load_cut` meets its contract. Assumes nothing.
use native.Mathlib.Omega.{arith}
use Rattle.run_stages.proofs.StagesInTurn.{part-upto}
use Rattle.run_cuts.proofs.CutLines.{cut-start, cut-done, cut-read, cut-few, cut-able, cut-next}
use Rattle.run_cuts.proofs.load.load_cut.Goals as goal

pub loop-i-init : goal.loop-i-init
loop-i-init c = cut-start c.requires.staged c.requires.space

pub split_at-requires : goal.split_at-requires
split_at-requires c = part-upto c.loop-i.invariant.stands c.loop-i-test.true

pub unwrap-stage-requires : goal.unwrap-stage-requires
unwrap-stage-requires c = cut-read c.loop-i.invariant c.loop-i-test.true c.split_at.ensures.front c.split_at.ensures.back c.scan.ensures

pub load-requires : goal.load-requires
load-requires c = cut-able c.loop-i.invariant c.loop-i-test.true c.split_at.ensures.front c.split_at.ensures.back c.scan.ensures c.unwrap-stage.ensures c.of_coefficients-width.ensures

pub overflow_add-m : goal.overflow_add-m
overflow_add-m c = omega (arith, cut-few c.loop-i.invariant c.loop-i-test.true c.split_at.ensures.front c.split_at.ensures.back c.scan.ensures c.unwrap-stage.ensures)

pub loop-i-preserved : goal.loop-i-preserved
loop-i-preserved c = cut-next c.loop-i.invariant c.loop-i-test.true c.split_at.ensures.front c.split_at.ensures.back c.scan.ensures c.unwrap-stage.ensures c.of_coefficients-width.ensures c.load.ensures

pub returns : goal.returns
returns c = cut-done c.loop-i.invariant c.loop-i-test.false

pub overflow_cast-m : goal.overflow_cast-m
overflow_cast-m c = record { fits = omega (arith, cut-few c.loop-i.invariant c.loop-i-test.true c.split_at.ensures.front c.split_at.ensures.back c.scan.ensures c.unwrap-stage.ensures) }
