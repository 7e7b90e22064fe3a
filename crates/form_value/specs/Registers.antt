-- Register values that are in range. Assumes nothing.
use Rattle.std.specs.Prelude.{◌≡◌, ℕ, ◌≤◌, List, length, ℤ, pos, slice_index_or}
use Rattle.integers.specs.Magnitude.{Within}
use Rattle.forms.specs.Edition.{edition1}

-- Every value is in range. (Past the end they are 0.)
pub record AllWithin (values : List ℤ) : Type 0 where
  pub at : (i : ℕ) → Within edition1.values (slice_index_or values i (pos 0))

-- K registers in range, as many as there are values: what testing a formula rests on.
pub record Registers (values : List ℤ) (K : ℕ) : Type 0 where
  pub all : AllWithin values
  pub count : length values ≡ K
  pub some : 1 ≤ K
  pub few : K ≤ edition1.constants

-- The total so far is that of a number small enough for a product of a coefficient and a register to be added.
pub record TotalSmall {S : Type 0} (of : ℤ → S) (total : S) : Type 0 where
  pub sum : ℤ
  pub small : Within 40_000_000_000_000_000 sum
  pub is : total ≡ of sum
