-- `number_runs::put::put_parts` meets its contract: the fours, or two eights, and the rest behind them. Assumes nothing.
use mathlib.Core.Path.{refl}
use Prim.Native.Nat.{◌+◌, ◌*◌, ◌-◌, ◌/◌, ◌%◌}
use native.Mathlib.Omega.{arith}
use lib.ListN.{length}
use Rattle.number_bytes.specs.Widths.{bytes_of, width_of}
use Rattle.number_runs.proofs.Putting.{put-more, put-all, held-part, held_first}
use Rattle.number_runs.proofs.put.put_parts.Goals as goal

pub put_fours-requires-clause-held_all : goal.put_fours-requires-clause-held_all
put_fours-requires-clause-held_all g c = held_first (length c.args.numbers.now / 4 * 4) c.requires.held_all

pub put_run-requires-clause-held_all : goal.put_run-requires-clause-held_all
put_run-requires-clause-held_all g c = rw c.width_by-then-n-lt16.ensures (let m = length c.args.numbers.now / 4 * 4 in held-part m (m + length c.args.numbers.now % 4 - m) c.requires.held_all)

pub returns-then-n-lt16 : goal.returns-then-n-lt16
returns-then-n-lt16 g c =
    let a = c.args in
    let m = length a.numbers.now / 4 * 4 in
    put-all (bytes_of (width_of g.row.BYTES)) a.out.now a.at a.numbers.now m (m + length a.numbers.now % 4 - m) (omega arith) c.put_fours.ensures (rw (c.bytes-w.ensures, c.width_by.ensures, c.width_by-then-n-lt16.ensures) at c.put_run.ensures)

pub put_block-requires-clause-held_all : goal.put_block-requires-clause-held_all
put_block-requires-clause-held_all g c = held_first 8 c.requires.held_all

pub put_block-requires-2-clause-held_all : goal.put_block-requires-2-clause-held_all
put_block-requires-2-clause-held_all g c = held-part 8 8 c.requires.held_all

pub put_run-requires-2-clause-held_all : goal.put_run-requires-2-clause-held_all
put_run-requires-2-clause-held_all g c = rw c.width_by-2.ensures (held-part 16 (16 + length c.args.numbers.now % 4 - 16) c.requires.held_all)

pub returns : goal.returns
returns g c =
    let a = c.args in
    let o = put-more (bytes_of (width_of g.row.BYTES)) a.out.now a.at a.numbers.now 8 8 8 refl (omega arith) c.put_block.ensures (rw (c.bytes-w.ensures, c.width_by.ensures) at c.put_block-2.ensures) in
    put-all (bytes_of (width_of g.row.BYTES)) a.out.now a.at a.numbers.now 16 (16 + length a.numbers.now % 4 - 16) (omega arith) o (rw (c.bytes-w.ensures, c.width_by.ensures, c.width_by-2.ensures) at c.put_run-2.ensures)
