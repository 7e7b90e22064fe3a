-- The lines of a branch that are ready for one more, what keeps them, and what is read of the byte of a line's kind. Assumes nothing.
use Rattle.std.specs.Prelude.{◌≡◌, List, ℕ, ◌*◌, ◌≤◌, ◌<◌, length, ℤ}
use Rattle.forms.specs.Edition.{edition}
use Rattle.lines.specs.Parts.{Agree}
use Rattle.lines.specs.Buffer.{size, Bounded, Branch}

-- What is read of the byte of a line's kind. (A record, so that the byte is inferred from it.)
pub record KindRead (b r : ℕ) : Type 0 where
  pub is : r ≡ b

-- The n first lines of the buffers are a branch of a proof of edition e, with room for one more.
pub record Ready (e K : ℕ) (kinds : List ℕ) (buf : List ℤ) (n : ℕ) : Type 0 where
  pub branch : Branch K buf n
  pub room : n < length kinds
  pub most : n ≤ (edition e).lines

-- The n first lines keep the limits of a branch. Whether there is room for one more is for the caller to say.
pub record Limited (e K : ℕ) (buf : List ℤ) (n : ℕ) : Type 0 where
  pub bounded : Bounded K buf n
  pub most : n ≤ (edition e).lines

-- What is written behind the n first lines keeps them, and the lengths.
pub record LinesKept (K n : ℕ) (kinds : List ℕ) (buf : List ℤ) (kinds' : List ℕ) (buf' : List ℤ) : Type 0 where
  pub lines_same : Agree (n * size K) buf' buf
  pub kinds_same : Agree n kinds' kinds
  pub lines_length : length buf' ≡ length buf
  pub kinds_length : length kinds' ≡ length kinds
