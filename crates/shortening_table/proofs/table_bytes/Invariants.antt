-- `shortening_table::table_bytes` meets its contract. The invariant `CountingBytes`: what is left to count, with what is counted, gives the whole. Assumes nothing.
use Prim.Native.Nat.{◌-◌}
use lib.ListN.{length}
use Rattle.shortening_table.proofs.Counting.{CountingBytes}
use Rattle.shortening_table.proofs.table_bytes.Given as goal

abbrev pub invariant-loop-field : goal.invariant-loop-field
invariant-loop-field l = CountingBytes l.p l.at l.report l.here l.rows l.stays l.bytes

abbrev pub decreases-loop-field : goal.decreases-loop-field
decreases-loop-field l = length l.p - l.here
