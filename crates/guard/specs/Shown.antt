-- Runs of the guard program: the formula of stage 1, values, and what is printed. Assumes nothing.
use Rattle.std.specs.Prelude.{ℕ, List, [], ◌∷◌}
use Prim.Native.String.{String}

-- two files, and what is printed of them
pub record Shown : Type 0 where
  pub f : List ℕ
  pub v : List ℕ
  pub text : String

-- the formula of stage 1, 2 divides y, as the check program prints it
abbrev pub formula_1 : List ℕ
formula_1 =
    0x01 ∷ 0x00 ∷ 0x01 ∷ 0x01 ∷ 0x02 ∷ 0x00 ∷ 0x01 ∷ 0x03 ∷ 0x35 ∷ 0x00 ∷ 0x14 ∷ 0x00 ∷ 0x00 ∷ 0x00 ∷ 0x02 ∷ 0x00 ∷ 0x00 ∷ 0x00 ∷ 0x00 ∷ 0x00 ∷ 0x00 ∷ 0x00 ∷ 0x01 ∷ 0x00 ∷ 0x00 ∷ 0x00 ∷ 0x00 ∷ 0x00 ∷ 0x00 ∷ 0x00 ∷ 0x00 ∷ []

-- at 1, 4, -7
abbrev pub even : Shown
even = record { f = formula_1; v = 0x00 ∷ 0x00 ∷ 0x00 ∷ 0x01 ∷ 0x00 ∷ 0x00 ∷ 0x00 ∷ 0x04 ∷ 0xFF ∷ 0xFF ∷ 0xFF ∷ 0xF9 ∷ []; text = "true\n" }

-- at 1, -3, 0
abbrev pub odd : Shown
odd = record { f = formula_1; v = 0x00 ∷ 0x00 ∷ 0x00 ∷ 0x01 ∷ 0xFF ∷ 0xFF ∷ 0xFF ∷ 0xFD ∷ 0x00 ∷ 0x00 ∷ 0x00 ∷ 0x00 ∷ []; text = "false\n" }

-- at three bytes, which are no values
abbrev pub three_bytes : Shown
three_bytes = record { f = formula_1; v = 0x00 ∷ 0x00 ∷ 0x00 ∷ []; text = "refused 7 file 4 at 0\n" }
