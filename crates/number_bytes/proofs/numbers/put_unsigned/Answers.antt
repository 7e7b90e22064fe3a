-- `number_bytes::numbers::put_unsigned` meets its contract: what is left to write gives the same bytes. Assumes nothing.
use mathlib.Core.Path.{◌≡◌, ◌∙◌}
use native.Mathlib.Omega.{arith}
use lib.ListN.{length-set}
use Rattle.number_bytes.specs.Numbers.{unsigned_bytes}
use Rattle.number_bytes.proofs.Digits.{last-first}
use Rattle.number_bytes.proofs.numbers.put_unsigned.Goals as goal

pub loop-i-preserved : goal.loop-i-preserved
loop-i-preserved c = (last-first _ _ _ _ (omega arith) ∙ c.loop-i.invariant.0, simp length-set c.loop-i.invariant.1)

pub returns : goal.returns
unfolding unsigned_bytes
returns c =
    let e : c.loop-i.i ≡ 0 = omega arith in
    rw e at c.loop-i.invariant.0
