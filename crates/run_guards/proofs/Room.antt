-- Arrays that have room for all lines that a branch may have. Assumes nothing.
use mathlib.Core.List.{List}
use Prim.Native.Nat.{ℕ, ◌+◌, ◌*◌, ◌≤◌, ◌<◌}
use native.Mathlib.Nat.{mul-le-mul}
use native.Mathlib.Omega.{arith}
use lib.IntN.{ℤ}
use lib.ListN.{length}
use Rattle.forms.specs.Edition.{edition}
use Rattle.lines.specs.Buffer.{size}
use Rattle.lines.proofs.Lines.{before}
use Rattle.branches.specs.Spare.{Spare}

-- a kind for each line and for one that is being made, and the numbers of so many lines of 16 constants
pub spare-all : (e K c : ℕ) {kinds : List ℕ} {buf : List ℤ} → (edition e).lines < length kinds → K ≤ 16 → length kinds * 34 ≤ length buf → Spare e K c kinds buf
spare-all e K c {kinds} k h l = record {
  room = λ n m o. omega (arith, before K {i = n} {n = n + 1} (omega arith), mul-le-mul {n₁ = n + 1} {m₁ = size K} {n₂ = length kinds} {m₂ = 34} (omega arith) (omega arith));
  kinds_room = λ n m o. omega arith;
}
