-- How many bytes a width is. Assumes nothing.
use Rattle.std.specs.Prelude.{ℕ, cond, eqb}
use Rattle.number_bytes.specs.declared.words.Width.{Width}
use Rattle.number_bytes.specs.declared.words.Width.TheVariants.{Two, Four}

abbrev pub bytes_of : Width → ℕ
bytes_of Two = 2
bytes_of Four = 4

-- The width of 4 bytes, and else that of 2.
abbrev pub width_of : (bytes : ℕ) → Width
width_of n = cond (eqb n 4) Four Two
