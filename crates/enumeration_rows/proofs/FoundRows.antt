-- What is found, as the numbers of rows and as the rows. Assumes nothing.
use mathlib.Core.Path.{◌≡◌, refl, sym, ◌∙◌, ap}
use mathlib.Core.List.{◌∷◌}
use Prim.Native.Nat.{ℕ, suc, ◌+◌, ◌≤◌, ◌<◌}
use native.Mathlib.Omega.{arith}
use lib.ListN.{length}
use Rattle.std.specs.Prelude.{Option, None, Some, Result, Ok, Err}
use Rattle.calculus.specs.Rules.{Derive}
use Rattle.enumeration.specs.Numbering.{inference_count, inference_at}
use Rattle.enumeration.specs.Search as search
use Rattle.enumeration.specs.Search.{Found, if_none_left, if_not_among, with_row}
use Rattle.enumeration_rows.specs.declared.found.Rows.{Rows}
use Rattle.enumeration_rows.specs.declared.found.Rows.TheVariants.{One, Two, Three}
use Rattle.enumeration_rows.specs.declared.found.NotAmong.{NotAmong}
use Rattle.enumeration_rows.specs.Searching.{inferences_of, close_of, found_of, NumbersIn, Inferences, with_first}

-- ---- a row before those found
-- There are two of them at most: with j they are one more, of the same close.
pub first-inferences : (j : ℕ) (rows : Rows) → length (inferences_of rows) ≤ 1
    → (more : Rows) × (with_first j rows ≡ Some more) × (inferences_of more ≡ j ∷ inferences_of rows) × (close_of more ≡ close_of rows)
first-inferences j (One c) h = (Two j c, refl, refl, refl)
first-inferences j (Two a c) h = (Three j a c, refl, refl, refl)
first-inferences j (Three a b c) h = absurd (omega arith)

-- The answer with inference j before the rows found.
abbrev pub prepended : (j : ℕ) → Result (Option Rows) NotAmong → Result (Option Rows) NotAmong
prepended j (Err e) = Err e
prepended j (Ok None) = Ok None
prepended j (Ok (Some rows)) = Ok (with_first j rows)

module _ (n d j : ℕ) where
  pub prepend-is : (found : Result (Option Rows) NotAmong) → Inferences d found → d ≤ 1 → found_of n (prepended j found) ≡ with_row (Derive (inference_at n j)) (found_of (n + 1) found)
  unfolding with_row
  prepend-is (Err e) s h = refl
  prepend-is (Ok None) s h = refl
  prepend-is (Ok (Some rows)) s h = let l : length (inferences_of rows) ≤ 1 = omega arith in let (more, e, i, c) = first-inferences j rows l in rw (e, i, c)

  pub prepend-in : (found : Result (Option Rows) NotAmong) → Inferences d found → d ≤ 1 → j < inference_count n → NumbersIn (n + 1) found → NumbersIn n (prepended j found)
  prepend-in (Err e) s h l i = tt
  prepend-in (Ok None) s h l i = tt
  prepend-in (Ok (Some rows)) s h l q = let k : length (inferences_of rows) ≤ 1 = omega arith in let (more, e, i, c) = first-inferences j rows k in rw (e, i, c) (l, q)

  pub prepend-inferences : (found : Result (Option Rows) NotAmong) → Inferences d found → d ≤ 1 → Inferences (suc d) (prepended j found)
  prepend-inferences (Err e) s h = tt
  prepend-inferences (Ok None) s h = tt
  prepend-inferences (Ok (Some rows)) s h = let l : length (inferences_of rows) ≤ 1 = omega arith in let (more, e, i, c) = first-inferences j rows l in rw e (ap suc s ∙ ap length (sym i))

  -- rows before which there is a place are found with it
  pub first-found : (rows : Rows) → d ≡ length (inferences_of rows) → d ≤ 1 → (f : Found) → if_none_left (found_of n (Ok (with_first j rows))) f ≡ found_of n (Ok (with_first j rows))
  unfolding if_none_left
  first-found rows s h f = let l : length (inferences_of rows) ≤ 1 = omega arith in let (more, e, i, c) = first-inferences j rows l in rw e refl

-- ---- what comes next
pub or-none-left : (f : Found) → if_none_left search.none_left f ≡ f
unfolding if_none_left
or-none-left f = refl

pub or-not-among : (f : Found) → if_not_among search.not_among f ≡ f
unfolding if_not_among
or-not-among f = refl

module _ (n : ℕ) (f : Found) where
  pub found-first : (rows : Rows) → if_none_left (found_of n (Ok (Some rows))) f ≡ found_of n (Ok (Some rows))
  unfolding if_none_left
  found-first rows = refl

  pub barred-first : (e : NotAmong) → if_none_left (found_of n (Err e)) f ≡ found_of n (Err e)
  unfolding if_none_left
  barred-first e = refl

  pub among-first : (found : Option Rows) → if_not_among (found_of n (Ok found)) f ≡ found_of n (Ok found)
  unfolding if_not_among
  among-first None = refl
  among-first (Some rows) = refl
