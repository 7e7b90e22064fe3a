-- What `dulgaverk_shorten` ensures, and `shorten` where it is told what check answered, as one record; the theorems of `guarantee` speak of this very record. Assumes nothing.
use Rattle.std.specs.Prelude.{◌≡◌, List, ℕ}
use Rattle.shortening.specs.Shorten as definition
use Rattle.shortening.specs.declared.ShortenResult.{ShortenResult}

-- The code's struct, and both outputs as they are left.
abbrev pub shortened_of : ShortenResult → (report table : List ℕ) → definition.Shortened
shortened_of r report table = record { answer = r.answer; rows = r.rows; count = r.count; report = report; table = table }

-- It returns r, and the lent outputs are `reportLeft` and `tableLeft` afterwards.
pub record Shortens (A B proof report table reportLeft tableLeft : List ℕ) (r : ShortenResult) : Type 0 where
  pub is : shortened_of r reportLeft tableLeft ≡ definition.shorten A B proof report table
