-- Buffers that have the room asked for: all that a branch may have, or the lines that may come. Assumes nothing.
use mathlib.Core.Path.{◌≡◌}
use mathlib.Core.Logic.{◌⊎◌, inl, inr}
use mathlib.Core.List.{List}
use Prim.Native.Nat.{ℕ, ◌+◌, ◌*◌, ◌/◌, ◌≤◌, ◌<◌, min}
use native.Mathlib.Nat.{mul-le-mul}
use native.Mathlib.Omega.{arith}
use lib.IntN.{ℤ}
use lib.ListN.{length}
use Rattle.forms.specs.Edition.{edition}
use Rattle.forms.proofs.Editions.{lines-most, line_width-is}
use Rattle.lines.specs.Buffer.{size}
use Rattle.lines.proofs.Lines.{before}
use Rattle.branches.specs.Spare.{lines_left, Spare}
use Rattle.branches.proofs.Spare.{fewer-by}
use Rattle.check_sizes.specs.Sizes.{LinesWithin, NumbersWithin, Arrays}

-- The numbers of some lines, whatever K is.
pub numbers-small : (n K : ℕ) {N : ℕ} → n ≤ N → K ≤ 16 → n * size K ≤ N * 34
numbers-small n K {N} h k = mul-le-mul {n₂ = N} {m₂ = 34} h (omega arith)

module _ (e : ℕ) {K : ℕ} (c : ℕ) {kinds : List ℕ} {buf : List ℤ} where
  -- room for N lines of 16 constants, and one more
  pub spare-all : {N : ℕ} → LinesWithin e c N → N < length kinds → K ≤ 16 → (N + 1) * 34 ≤ length buf → Spare e K c kinds buf
  spare-all {N} few k h l = record {
    room = λ n m o. omega (arith, few, before K {i = n} {n = n + 1} (omega arith), numbers-small (n + 1) K {N = N + 1} (omega (arith, few)) h);
    kinds_room = λ n m o. omega (arith, few);
  }

  -- room for the numbers of the lines that may come, and for their kinds
  pub spare-most : {M : ℕ} → NumbersWithin e K c M → M ≤ length buf → min c (edition e).lines < length kinds → Spare e K c kinds buf
  spare-most h l k = record {
    room = λ n m o. omega (arith, h, before K {i = n} {n = min c (edition e).lines + 1} (omega arith));
    kinds_room = λ n m o. omega (arith, k);
  }

-- Kinds that are enough for the numbers of the lines that may come are enough for these lines.
pub kinds-within : (e K c : ℕ) {s k M : ℕ} → NumbersWithin e K c M → 1 ≤ K → Arrays s k M → min c (edition e).lines < k
kinds-within e K c w h l = omega (arith, w, l.kinds_enough, lines-most e, mul-le-mul {n₁ = min c (edition e).lines + 1} {m₁ = 4} {n₂ = min c (edition e).lines + 1} {m₂ = size K} (omega arith) (omega arith))

pub lines-any : (e c : ℕ) → LinesWithin e c 1000
lines-any e c = omega (arith, lines-most e)

-- The rows that some bytes may have are no more than these.
rows-by : {w : ℕ} (u : ℕ) → (w ≡ 1) ⊎ (w ≡ 2) → u / (3 + w) ≤ u
rows-by u (inl e) = rw e (omega arith)
rows-by u (inr e) = rw e (omega arith)

pub rows-small : (e u : ℕ) → u / (3 + (edition e).line_width) ≤ u
rows-small e u = rows-by u (line_width-is e)

-- The numbers of the lines that may come, counted by all bytes of the proof.
pub numbers-less : (m e K : ℕ) (P : List ℕ) (at : ℕ) {rows r N : ℕ} → rows ≡ length P / (3 + (edition e).line_width) → r ≡ min (m + rows) (edition e).lines → (r + 1) * size K ≤ N → NumbersWithin e K (m + lines_left e P at) N
numbers-less m e K P at {r = r} p q l =
    let few : lines_left e P at ≤ length P / (3 + (edition e).line_width) = fewer-by (line_width-is e) (omega arith) in
    omega (arith, l, mul-le-mul {n₁ = min (m + lines_left e P at) (edition e).lines + 1} {m₁ = size K} {n₂ = r + 1} {m₂ = size K} (omega (arith, few, p, q)) (omega arith))
