-- Bundles that are not too long. Assumes nothing.
use Rattle.std.specs.Prelude.{List, ℕ, ◌≤◌, length}
use Rattle.forms.specs.Edition.{edition, newest_edition}

-- Neither bundle is too long for every edition.
pub record BothWithinLimits (A B : List ℕ) : Type 0 where
  pub a : length A ≤ (edition newest_edition).bundle_bytes
  pub b : length B ≤ (edition newest_edition).bundle_bytes
