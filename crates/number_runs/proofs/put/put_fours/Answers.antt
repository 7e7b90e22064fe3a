-- `number_runs::put::put_fours` meets its contract: the first fours are written. Assumes nothing.
use mathlib.Core.Path.{◌≡◌, refl}
use Prim.Native.Nat.{◌+◌, ◌-◌}
use native.Mathlib.Omega.{arith}
use lib.ListN.{length}
use lib.Seq.{take-length}
use Rattle.number_bytes.specs.Widths.{bytes_of, width_of}
use Rattle.number_runs.proofs.Putting.{put-none, put-more, held-part}
use Rattle.number_runs.proofs.put.put_fours.Goals as goal

pub loop-i-init : goal.loop-i-init
loop-i-init g c = (put-none _ _ _, refl, omega arith)

pub put_block-requires-clause-held_all : goal.put_block-requires-clause-held_all
put_block-requires-clause-held_all g c = held-part c.loop-i.i (c.loop-i.i + 4 - c.loop-i.i) c.requires.held_all

pub loop-i-preserved : goal.loop-i-preserved
loop-i-preserved g c =
    let a = c.args in
    let i = c.loop-i.i in
    (put-more (bytes_of (width_of g.row.BYTES)) a.out.now a.at a.numbers.now i (i + 4 - i) 4 (omega arith) (omega arith) c.loop-i.invariant.0 (rw (c.bytes.ensures, c.width_by.ensures) at c.put_block.ensures), omega arith, omega arith)

pub returns : goal.returns
returns g c = let e : c.loop-i.i ≡ length c.args.numbers.now = omega arith in rw (e, take-length c.args.numbers.now) at c.loop-i.invariant.0
