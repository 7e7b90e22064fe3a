-- A part of a list, and lists that begin alike. Assumes nothing.
use Rattle.std.specs.Prelude.{◌≡◌, List, ℕ, take, drop}

module _ {A : Type 0} where
  -- The n elements from index at on.
  abbrev pub part : (at n : ℕ) → List A → List A
  part at n l = take n (drop at l)

-- The first m elements of l and k are the same. A record, so that m, l and k are inferred from it.
pub record Agree {A : Type 0} (m : ℕ) (l k : List A) : Type 0 where
  pub first : take m l ≡ take m k
