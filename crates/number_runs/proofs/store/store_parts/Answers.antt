-- `number_runs::store::store_parts` meets its contract: the fours, or two eights, and the rest behind them. Assumes nothing.
use mathlib.Core.Path.{refl, ◌∙◌}
use Prim.Native.Nat.{◌+◌, ◌*◌, ◌-◌, ◌/◌, ◌%◌}
use mathlib.Core.List.{◌++◌}
use native.Mathlib.Omega.{arith}
use lib.ListN.{length, take, drop, length-drop}
use lib.Seq.{length-take-le}
use borrow.Rule.Slice.PartMut.{put_mid}
use Rattle.number_bytes.specs.Widths.{bytes_of, width_of}
use Rattle.number_runs.proofs.Storing.{stored_first, stored-more, stored-last, length-first, length-more}
use Rattle.number_runs.proofs.store.store_parts.Goals as goal

pub returns-then-n-lt16 : goal.returns-then-n-lt16
returns-then-n-lt16 g c =
    let a = c.args in
    let x = a.numbers.now in
    let m = length x / 4 * 4 in
    let k = m + length x % 4 - m in
    let s = drop a.start a.s.now in
    let z = length-take-le m x (omega arith) in
    let n = length-first (bytes_of (width_of g.row.BYTES)) x c.store_fours.new.numbers m (length (take m x)) s z c.store_fours.ensures (omega arith) in
    let l = c.store_fours.new.numbers ++ drop m x in
    stored-last (bytes_of (width_of g.row.BYTES)) l c.store_run.new.numbers m k (length (take k (drop m l))) (length x) a.s.now a.start
    (length-take-le k (drop m l) (rw length-drop (omega (arith, n)))) (omega arith) n
    (stored_first (bytes_of (width_of g.row.BYTES)) x c.store_fours.new.numbers m (length (take m x)) s z c.store_fours.ensures) (rw (c.bytes-w.ensures, c.width_by.ensures, c.width_by-then-n-lt16.ensures) at c.store_run.ensures)

pub returns : goal.returns
returns g c =
    let a = c.args in
    let x = a.numbers.now in
    let k = 16 + length x % 4 - 16 in
    let s = drop a.start a.s.now in
    let ys = c.store_block.new.numbers in
    let n = length-first (bytes_of (width_of g.row.BYTES)) x ys 8 8 s refl c.store_block.ensures (omega arith) in
    let l = ys ++ drop 8 x in
    let f = stored_first (bytes_of (width_of g.row.BYTES)) x ys 8 8 s refl c.store_block.ensures in
    let zs = c.store_block-2.new.numbers in
    let n2 = length-more (bytes_of (width_of g.row.BYTES)) l zs 8 8 8 (drop (a.start + 8 * bytes_of (width_of g.row.BYTES)) a.s.now) refl (rw (c.bytes-w.ensures, c.width_by.ensures) at c.store_block-2.ensures) (omega (arith, n)) in
    let l2 = put_mid 8 8 l zs in
    let both = stored-more (bytes_of (width_of g.row.BYTES)) l zs 8 8 8 a.s.now a.start refl (omega (arith, n)) f (rw (c.bytes-w.ensures, c.width_by.ensures) at c.store_block-2.ensures) in
    stored-last (bytes_of (width_of g.row.BYTES)) l2 c.store_run-2.new.numbers 16 k (length (take k (drop 16 l2))) (length x) a.s.now a.start
    (length-take-le k (drop 16 l2) (rw length-drop (omega (arith, n, n2)))) (omega arith) (n2 ∙ n) both (rw (c.bytes-w.ensures, c.width_by.ensures, c.width_by-2.ensures) at c.store_run-2.ensures)
