-- Register values by index: those before i are in range, and what follows of the first that is not. Assumes nothing.
use mathlib.Core.Path.{◌≡◌, refl, ◌∙◌}
use mathlib.Core.Bool.{Bool, true, false}
use mathlib.Core.List.{List}
use Prim.Native.Nat.{ℕ, zero, suc, ◌+◌, ◌≤◌, ◌<◌}
use native.Mathlib.Numerals.{add-one}
use native.Mathlib.Omega.{arith}
use lib.Dec.{ltb}
use lib.IntN.{ℤ, pos}
use lib.ListN.{length, get_or, drop, drop_of_length-le, get_or-eq_default}
use lib.Seq.{drop-cons}
use borrow.Author.Tests.{leb-true, ltb-true, ltb-false}
use borrow.Author.Count.{below_more}
use Rattle.integers.specs.Magnitude.{Within}
use Rattle.answers.specs.Answers.{◌>>◌, need, each}
use Rattle.std.specs.Prelude.{MatchOption, Some, None}
use Rattle.std.specs.declared.option.Option as opt
use Rattle.formula_test.specs.Values.{permitted, ranged, FirstOutside}

-- The values before i are in range, so that the first one out of range is the first from i on.
pub record Passed (values : List ℤ) (i : ℕ) : Type 0 where
  pub upto : i ≤ length values
  pub same : ranged 0 values ≡ ranged i (drop i values)
  pub before : (k : ℕ) → k < i → Within 1_000_000 (get_or values k (pos 0))

pub passed_none : (values : List ℤ) → Passed values 0
passed_none values = record { upto = omega arith; same = refl; before = λ k h. absurd (omega arith) }

passed-more : {values : List ℤ} {i : ℕ} → Passed values i → i < length values → permitted (get_or values i (pos 0)) ≡ true → Passed values (i + 1)
unfolding ranged each need ◌>>◌
passed-more {values} {i} p h t = record {
  upto = omega arith;
  same = p.same ∙ rw (add-one, drop-cons values i (pos 0) h, t);
  before = below_more _ _ p.before (record { abs = leb-true _ _ t });
}

passed : (values : List ℤ) (i : ℕ) → i ≤ length values → ((j : ℕ) → j < i → permitted (get_or values j (pos 0)) ≡ true) → Passed values i
passed values zero h f = passed_none values
passed values (suc i) h f =
    let e : i + 1 ≡ suc i = omega arith in
    rw e at (passed-more (passed values i (omega arith) (λ j l. f j (omega arith))) (omega arith) (f i (omega arith)))

all-within : {values : List ℤ} {i : ℕ} → Passed values i → length values ≤ i → (k : ℕ) → Within 1_000_000 (get_or values k (pos 0))
all-within {values} {i} p h k = go (ltb k i) refl
  where
    go : (b : Bool) → ltb k i ≡ b → Within 1_000_000 (get_or values k (pos 0))
    go true e = p.before k (ltb-true k i e)
    go false e = rw (get_or-eq_default values (pos 0) {n = k} (omega (arith, ltb-false k i e))) (record { abs = omega arith })

-- what a search for the first value out of range says
pub search-outside : (values : List ℤ) (r : opt.Option ℕ)
    → MatchOption r ((j : ℕ) → j < length values → permitted (get_or values j (pos 0)) ≡ true)
    (λ i. (i < length values) × (permitted (get_or values i (pos 0)) ≡ false) × ((j : ℕ) → j < i → permitted (get_or values j (pos 0)) ≡ true)) → FirstOutside values r
unfolding ranged each need ◌>>◌
search-outside values None f =
    let p = passed values (length values) (omega arith) f in
    record { is = (p.same ∙ rw (drop_of_length-le values {i = length values} (omega arith)), record { at = all-within p (omega arith) }) }
search-outside values (Some i) f =
    let p = passed values i (omega (arith, f.0)) f.2 in
    record { is = (f.0, p.same ∙ rw (drop-cons values i (pos 0) f.0, f.1)) }
