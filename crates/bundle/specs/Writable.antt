-- The parts of a bundle in order to be written, and how many bytes a constraint's field has. Assumes nothing.
use Rattle.std.specs.Prelude.{◌≡◌, List, ℕ, suc, ◌+◌, ◌*◌, ◌≤◌, T, leb, ℤ, length}
use Rattle.forms.specs.Edition.{edition, edition1}
use Rattle.forms.specs.Forms.{All}
use Rattle.bundle.specs.Write.{holdable}

-- The bytes of a constraint's field whose numbers have w bytes.
abbrev pub field_size : (w K : ℕ) → ℕ
field_size w K = 3 + (K + 1) * w

-- The parts of a bundle of edition n are in order: n is 1 up to the newest, K is 1 to 16, there are at most 32 kinds, each is 0, 1 or 2, and K+1 numbers for
-- each, which the edition holds.
pub record InOrder (newest n K : ℕ) (kinds : List ℕ) (numbers : List ℤ) : Type 0 where
  pub first : 1 ≤ n
  pub last : n ≤ newest
  pub low : 1 ≤ K
  pub high : K ≤ edition1.constants
  pub few : length kinds ≤ edition1.constraints
  pub valid : All (λ kind. T (leb kind 2)) kinds
  pub size : length numbers ≡ length kinds * suc K
  pub held : All (λ z. T (holdable (edition n).coefficient_width z)) numbers
