-- The row that stands at the start of some bytes, by its number. Assumes nothing.
use Rattle.std.specs.Prelude.{◌≡◌, true, false, List, ℕ, ◌<◌, Option, MatchOption}
use Rattle.number_bytes.specs.Same.{same_bytes}
use Rattle.enumeration.specs.Numbering.{inference_count, close_count, inference_bytes, close_bytes, begins}

-- ---- the row that stands in a table at a place, whose bytes from there on are s
pub record InferenceFound (n : ℕ) (s : List ℕ) (r : Option ℕ) : Type 0 where
  pub is : MatchOption r ((j : ℕ) → j < inference_count n → begins (inference_bytes n j) s ≡ false) (λ j. (j < inference_count n) × (begins (inference_bytes n j) s ≡ true))

pub record CloseFound (n : ℕ) (s : List ℕ) (r : Option ℕ) : Type 0 where
  pub is : MatchOption r ((c : ℕ) → c < close_count n → same_bytes (close_bytes n c) s ≡ false) (λ c. (c < close_count n) × (same_bytes (close_bytes n c) s ≡ true))
