-- The numbers that a width of bytes holds in two's complement. Assumes nothing.
use Rattle.std.specs.Prelude.{◌≡◌, ℕ, ◌+◌, ◌^◌, ◌<◌, ◌≤◌, ℤ, length}
use Rattle.std.specs.Int.Signed.{mag}
use Rattle.integers.specs.Linear.{pp, np}
use Rattle.forms.specs.Forms.{Form, All}

-- z is one of the `full` numbers from -full/2 to full/2 - 1. (`mag` is n of n and of -n-1.)
pub record Half (full : ℕ) (z : ℤ) : Type 0 where
  pub half : mag z + mag z < full

-- The same for the numbers of w bytes.
pub record Held (w : ℕ) (z : ℤ) : Type 0 where
  pub held : Half (256 ^ w) z

-- z has a two's complement of w bytes. (The same, by its positive and its negative part, which `omega` reads.)
pub record InWidth (w : ℕ) (z : ℤ) : Type 0 where
  pub high : pp z + pp z < 256 ^ w
  pub low : np z + np z ≤ 256 ^ w

-- A form of K coefficients whose numbers have two's complements of w bytes.
pub record FormInWidth (w K : ℕ) (t : Form) : Type 0 where
  pub size : length t.coeffs ≡ K
  pub coeffs : All (InWidth w) t.coeffs
  pub d : InWidth w t.d
