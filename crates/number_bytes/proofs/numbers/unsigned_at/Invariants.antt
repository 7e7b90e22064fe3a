-- `number_bytes::numbers::unsigned_at` meets its contract: n is the number of the bytes passed. Assumes nothing.
use mathlib.Core.Path.{◌≡◌}
use Prim.Native.Nat.{◌<◌, ◌^◌}
use lib.ListN.{take, drop}
use Rattle.number_bytes.specs.Numbers.{unsigned}
use Rattle.number_bytes.proofs.numbers.unsigned_at.Given as goal

abbrev pub invariant-loop-b : goal.invariant-loop-b
invariant-loop-b l = (l.n ≡ unsigned (take l.b-index (drop l.at l.s))) × (l.n < 256 ^ l.b-index)
