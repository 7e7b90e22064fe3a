-- A run of numbers that some bytes hold, each. Assumes nothing.
use Rattle.std.specs.Prelude.{List, ℕ, ℤ}
use Rattle.forms.specs.Forms.{All}
use Rattle.number_bytes.specs.Ranges.{Held}

-- w bytes hold each of the numbers.
pub record HeldAll (w : ℕ) (numbers : List ℤ) : Type 0 where
  pub each : All (Held w) numbers
