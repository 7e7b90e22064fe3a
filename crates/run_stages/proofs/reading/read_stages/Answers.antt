-- `run_stages::reading::read_stages` meets its contract. Assumes nothing.
use borrow.Author.Rules.{rules}
use native.Mathlib.Omega.{arith}
use Prim.Native.Nat.{◌+◌}
use Rattle.std.proofs.lemmas.Result.{err_from_is_err_and}
use Rattle.run_stages.proofs.StagesInTurn.{part-upto}
use Rattle.run_stages.proofs.StagesRead.{ReadAs, reading-start, reading-done, reading-refused, reading-few, reading-next}
use Rattle.run_stages.proofs.reading.read_stages.Goals as goal

pub loop-i-init : goal.loop-i-init
loop-i-init c = reading-start c.requires

pub split_at-requires : goal.split_at-requires
split_at-requires c = part-upto c.loop-i.invariant.stands c.loop-i-test.true

pub overflow_add-count : goal.overflow_add-count
overflow_add-count c =
    let told : ReadAs (11 + c.loop-i.i) c.scan.result c.map_err.result = search rules in
    omega (arith, reading-few c.loop-i.invariant c.loop-i-test.true c.split_at.ensures.front c.split_at.ensures.back c.scan.ensures told c.in_ok-stage.was, c.requires.most, c.loop-i-test.true)

pub returns-in_err-stage : goal.returns-in_err-stage
returns-in_err-stage c =
    let told : ReadAs (11 + c.loop-i.i) c.scan.result c.map_err.result = search rules in
    let p = err_from_is_err_and c.from_residual.result c.from_residual.ensures.1 in
    rw (p.1, p.2) (reading-refused c.loop-i.invariant c.loop-i-test.true c.split_at.ensures.front c.split_at.ensures.back c.scan.ensures told c.in_err-stage.was)

pub loop-i-preserved : goal.loop-i-preserved
loop-i-preserved c =
    let told : ReadAs (11 + c.loop-i.i) c.scan.result c.map_err.result = search rules in
    reading-next c.loop-i.invariant c.loop-i-test.true c.split_at.ensures.front c.split_at.ensures.back c.scan.ensures told c.in_ok-stage.was

pub returns : goal.returns
returns c = reading-done c.loop-i.invariant c.requires.least c.loop-i-test.false
