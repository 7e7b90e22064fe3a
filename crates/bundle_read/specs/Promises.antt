-- What the function read ensures, as one record; the theorems of `guarantee` speak of this very record.
-- This office reads editions up to the newest. Assumes nothing.
use Rattle.std.specs.Prelude.{◌≡◌, List, ℕ, ℤ}
use Rattle.forms.specs.Edition.{newest_edition}
use Rattle.bundle.specs.Read.{BundleRead, read_bundle}
use Rattle.bundle_read.specs.declared.ReadResult.{ReadResult}

-- ---- reading: it returns r, and the outputs lent as kinds and numbers are kinds' and numbers' afterwards
abbrev pub read_of : ReadResult → List ℕ → List ℤ → BundleRead
read_of r kinds numbers = record { answer = r.answer; edition = r.edition; count = r.count; K = r.k; kinds = kinds; numbers = numbers }

pub record Reads (file kinds : List ℕ) (numbers : List ℤ) (kinds' : List ℕ) (numbers' : List ℤ) (r : ReadResult) : Type 0 where
  pub is : read_of r kinds' numbers' ≡ read_bundle kinds numbers newest_edition file
