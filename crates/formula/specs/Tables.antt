-- Formulas tested at register values, in numerals: what testing answers. docs/FORMAT.md, "Register values", "The order of tests", "Proof" and "Bytes and fields". Assumes nothing.
use Rattle.std.specs.Prelude.{Bool, true, false, List, [], ◌∷◌, ◌++◌, ℕ, zero, suc, replicate, ℤ, pos, negsuc}
use Rattle.formula.specs.Test.{Tested}

pub record Testing : Type 0 where
  pub formula : List ℕ
  pub values : List ℤ
  pub gives : Tested

-- No test tells a row, step or branch; a refused one is false.
abbrev pub refuses : (number file place : ℕ) → Tested
refuses n f at = record { answer = record { number = n; file = f; place = at; row = record { 0 = 65_535 }; step = record { 0 = 65_535 }; branch = 65_535 }; holds = false }

abbrev pub tells : Bool → Tested
tells b = record { answer = record { number = 0; file = 0; place = 0; row = record { 0 = 65_535 }; step = record { 0 = 65_535 }; branch = 65_535 }; holds = b }

-- The two header fields of edition n and K; over one constant x "c·x ≤ 0", "x ≤ 0" and "g divides x"; an or and an and.
abbrev pub head : (n K : ℕ) → List ℕ
head n K = 0x01 ∷ 0x00 ∷ 0x01 ∷ n ∷ 0x02 ∷ 0x00 ∷ 0x01 ∷ K ∷ []

abbrev pub literal1 : (c : List ℕ) → List ℕ
literal1 c = (0x33 ∷ 0x00 ∷ 0x08 ∷ []) ++ c ++ (0x00 ∷ 0x00 ∷ 0x00 ∷ 0x00 ∷ [])

abbrev pub literal_x : List ℕ
literal_x = literal1 (0x00 ∷ 0x00 ∷ 0x00 ∷ 0x01 ∷ [])

abbrev pub stride_x : (g : List ℕ) → List ℕ
stride_x g = (0x35 ∷ 0x00 ∷ 0x0C ∷ []) ++ g ++ (0x00 ∷ 0x00 ∷ 0x00 ∷ 0x01 ∷ 0x00 ∷ 0x00 ∷ 0x00 ∷ 0x00 ∷ [])

abbrev pub Or : List ℕ
Or = 0x31 ∷ 0x00 ∷ 0x00 ∷ []

abbrev pub And : List ℕ
And = 0x32 ∷ 0x00 ∷ 0x00 ∷ []

-- x ≤ 0 or (x ≤ 0 or .. (x ≤ 0)), of so many levels.
unfoldable pub deep_or : ℕ → List ℕ
deep_or zero = literal_x
deep_or (suc n) = Or ++ literal_x ++ deep_or n

abbrev pub testings : List Testing
testings =
    -- no values, and 17: 7 with file 4; a value of 1,000,001 or -1,000,001: 23 at its index, before 9; -1,000,000 is in range
    record { formula = head 1 1 ++ literal_x; values = []; gives = refuses 7 4 0 }
    ∷ record { formula = head 1 1 ++ literal_x; values = replicate 17 (pos 0); gives = refuses 7 4 0 }
    ∷ record { formula = head 1 1 ++ literal_x; values = pos 0 ∷ pos 1_000_001 ∷ []; gives = refuses 23 4 1 }
    ∷ record { formula = head 1 1 ++ literal_x; values = pos 0 ∷ negsuc 1_000_000 ∷ []; gives = refuses 23 4 1 }
    ∷ record { formula = head 1 1 ++ literal_x; values = negsuc 999_999 ∷ []; gives = tells true }
    -- 65,536 bytes, with a note; 65,537: 1 before 5
    ∷ record { formula = head 1 1 ++ literal_x ++ (0x80 ∷ 0xFF ∷ 0xEA ∷ []) ++ replicate 65_514 0x00; values = pos 0 ∷ []; gives = tells true }
    ∷ record { formula = head 2 1 ++ literal_x ++ (0x80 ∷ 0xFF ∷ 0xEB ∷ []) ++ replicate 65_515 0x00; values = pos 0 ∷ []; gives = refuses 1 3 0 }
    -- two values over one constant: 9; K of 0: 7 with file 3; edition 2: 5
    ∷ record { formula = head 1 1 ++ literal_x; values = pos 0 ∷ pos 0 ∷ []; gives = refuses 9 3 4 }
    ∷ record { formula = head 1 0 ++ literal_x; values = pos 0 ∷ []; gives = refuses 7 3 4 }
    ∷ record { formula = head 2 1 ++ literal_x; values = pos 0 ∷ []; gives = refuses 5 3 0 }
    -- no formula, half of one, and contents that are not there: 2
    ∷ record { formula = head 1 1; values = pos 0 ∷ []; gives = refuses 2 3 8 }
    ∷ record { formula = head 1 1 ++ Or ++ literal_x; values = pos 0 ∷ []; gives = refuses 2 3 22 }
    ∷ record { formula = head 1 1 ++ (0x33 ∷ 0x00 ∷ 0x08 ∷ []); values = pos 0 ∷ []; gives = refuses 2 3 8 }
    -- behind the formula a known field, and an unknown one: 19, 3; in its place an unknown one, a header field, an or with contents: 3, 4, 6
    ∷ record { formula = head 1 1 ++ literal_x ++ Or; values = pos 0 ∷ []; gives = refuses 19 3 19 }
    ∷ record { formula = head 1 1 ++ literal_x ++ (0x36 ∷ 0x00 ∷ 0x00 ∷ []); values = pos 0 ∷ []; gives = refuses 3 3 19 }
    ∷ record { formula = head 1 1 ++ (0x36 ∷ 0x00 ∷ 0x00 ∷ []); values = pos 0 ∷ []; gives = refuses 3 3 8 }
    ∷ record { formula = head 1 1 ++ (0x01 ∷ 0x00 ∷ 0x01 ∷ 0x01 ∷ []); values = pos 0 ∷ []; gives = refuses 4 3 8 }
    ∷ record { formula = head 1 1 ++ (0x31 ∷ 0x00 ∷ 0x01 ∷ 0x00 ∷ []); values = pos 0 ∷ []; gives = refuses 6 3 8 }
    -- g of 1 and of -2, and of 0 in the second part of an and: 12
    ∷ record { formula = head 1 1 ++ stride_x (0x00 ∷ 0x00 ∷ 0x00 ∷ 0x01 ∷ []); values = pos 0 ∷ []; gives = refuses 12 3 8 }
    ∷ record { formula = head 1 1 ++ stride_x (0xFF ∷ 0xFF ∷ 0xFF ∷ 0xFE ∷ []); values = pos 0 ∷ []; gives = refuses 12 3 8 }
    ∷ record { formula = head 1 1 ++ And ++ literal_x ++ stride_x (0x00 ∷ 0x00 ∷ 0x00 ∷ 0x00 ∷ []); values = pos 1 ∷ []; gives = refuses 12 3 22 }
    -- 2 divides -3 and -4; x ≤ 0 at 0; x ≤ 0 or x ≤ 0 at 1, with a note between; -2,147,483,648·x ≤ 0 at -1 and 1
    ∷ record { formula = head 1 1 ++ stride_x (0x00 ∷ 0x00 ∷ 0x00 ∷ 0x02 ∷ []); values = negsuc 2 ∷ []; gives = tells false }
    ∷ record { formula = head 1 1 ++ stride_x (0x00 ∷ 0x00 ∷ 0x00 ∷ 0x02 ∷ []); values = negsuc 3 ∷ []; gives = tells true }
    ∷ record { formula = head 1 1 ++ literal_x; values = pos 0 ∷ []; gives = tells true }
    ∷ record { formula = head 1 1 ++ Or ++ literal_x ++ (0x80 ∷ 0x00 ∷ 0x00 ∷ []) ++ literal_x; values = pos 1 ∷ []; gives = tells false }
    ∷ record { formula = head 1 1 ++ literal1 (0x80 ∷ 0x00 ∷ 0x00 ∷ 0x00 ∷ []); values = negsuc 0 ∷ []; gives = tells false }
    ∷ record { formula = head 1 1 ++ literal1 (0x80 ∷ 0x00 ∷ 0x00 ∷ 0x00 ∷ []); values = pos 1 ∷ []; gives = tells true }
    -- 600 levels, and the 601st: 17 at its field
    ∷ record { formula = head 1 1 ++ deep_or 600; values = pos 1 ∷ []; gives = tells false }
    ∷ record { formula = head 1 1 ++ deep_or 601; values = pos 1 ∷ []; gives = refuses 17 3 8_408 }
    ∷ []
