-- A part copied into a lent output. Assumes nothing.
use Rattle.std.specs.Prelude.{◌≡◌, List, ℕ, ◌≤◌, ◌<◌, length}
use Rattle.answers.specs.Answers.{over}

-- The length is the part's. Where the part fits it stands over the front of the output, else the output is as it was.
pub record Copied (part was is : List ℕ) (count : ℕ) : Type 0 where
  pub size : count ≡ length part
  pub fits : length part ≤ length was → is ≡ over part was
  pub stays : length was < length part → is ≡ was
