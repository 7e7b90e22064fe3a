-- `number_runs::store::store_fours` meets its contract: the first fours are stored. Assumes nothing.
use mathlib.Core.Path.{◌≡◌, refl, sym, ◌∙◌}
use Prim.Native.Nat.{◌+◌, ◌-◌}
use native.Mathlib.Omega.{arith}
use lib.ListN.{length}
use lib.Seq.{take-length}
use Rattle.number_bytes.specs.Widths.{bytes_of, width_of}
use Rattle.number_runs.proofs.Storing.{stored-none, stored-more}
use Rattle.number_runs.proofs.store.store_fours.Goals as goal

pub loop-i-init : goal.loop-i-init
loop-i-init g c = (stored-none _ _, refl, omega arith)

pub loop-i-preserved : goal.loop-i-preserved
loop-i-preserved g c =
    let a = c.args in
    let i = c.loop-i.i in
    (stored-more (bytes_of (width_of g.row.BYTES)) c.loop-i.numbers c.store_block.new.numbers i (i + 4 - i) 4 a.s.now a.start (omega arith) (omega arith) c.loop-i.invariant.0 (rw (c.bytes.ensures, c.width_by.ensures) at c.store_block.ensures), omega arith, omega arith)

pub returns : goal.returns
returns g c =
    let l = c.loop-i in
    let e : length c.args.numbers.now ≡ length l.numbers = omega arith in
    let f : l.i ≡ length l.numbers = omega arith in
    rw e (sym (take-length l.numbers) ∙ rw f at l.invariant.0)
