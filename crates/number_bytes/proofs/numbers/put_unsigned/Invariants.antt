-- `number_bytes::numbers::put_unsigned` meets its contract: what is left to write gives the same bytes. Assumes nothing.
use mathlib.Core.Path.{◌≡◌}
use lib.ListN.{length}
use lib.Seq.{sets}
use Rattle.number_bytes.specs.Numbers.{unsigned_bytes}
use Rattle.number_bytes.proofs.numbers.put_unsigned.Given as goal

abbrev pub invariant-loop-i : goal.invariant-loop-i
invariant-loop-i l = (sets l.out l.at (unsigned_bytes l.i l.m) ≡ sets l.initial.out l.at (unsigned_bytes l.width l.n)) × (length l.out ≡ length l.initial.out)
