-- What the search gives, by the code's answer. Assumes nothing.
use Rattle.std.specs.Prelude.{◌≡◌, Bool, true, List, [], ◌∷◌, ℕ, length, ◌+◌, ◌<◌, ℤ, Option, None, Some, Result, Ok, Err}
use Rattle.calculus.specs.Rules.{Row, Derive}
use Rattle.enumeration.specs.Numbering.{inference_count, close_count, inference_at, close_at}
use Rattle.enumeration.specs.Search as search
use Rattle.enumeration.specs.Search.{Found, first_found, proofs_from}
use Rattle.lines.specs.Buffer.{lines_in}
use Rattle.lines.specs.Ready.{LinesKept}
use Rattle.enumeration_rows.specs.declared.found.Rows.{Rows}
use Rattle.enumeration_rows.specs.declared.found.Rows.TheVariants.{One, Two, Three}
use Rattle.enumeration_rows.specs.declared.found.NotAmong.{NotAmong}

-- The inferences of these numbers behind n lines, and then close c.
abbrev pub rows_at : (n : ℕ) (js : List ℕ) (c : ℕ) → List Row
rows_at n [] c = close_at n c ∷ []
rows_at n (j ∷ js) c = Derive (inference_at n j) ∷ rows_at (n + 1) js c

-- The numbers are those of rows.
abbrev pub NumbersAt : (n : ℕ) (js : List ℕ) (c : ℕ) → Type 0
NumbersAt n [] c = c < close_count n
NumbersAt n (j ∷ js) c = (j < inference_count n) × NumbersAt (n + 1) js c

abbrev pub inferences_of : Rows → List ℕ
inferences_of (One c) = []
inferences_of (Two a c) = a ∷ []
inferences_of (Three a b c) = a ∷ b ∷ []

abbrev pub close_of : Rows → ℕ
close_of (One c) = c
close_of (Two a c) = c
close_of (Three a b c) = c

-- The rows that an answer stands for, behind n lines.
abbrev pub found_of : (n : ℕ) → Result (Option Rows) NotAmong → Found
found_of n (Err e) = search.not_among
found_of n (Ok None) = search.none_left
found_of n (Ok (Some rows)) = search.at (rows_at n (inferences_of rows) (close_of rows))

abbrev pub NumbersIn : (n : ℕ) → Result (Option Rows) NotAmong → Type 0
NumbersIn n (Err e) = Unit {0}
NumbersIn n (Ok None) = Unit {0}
NumbersIn n (Ok (Some rows)) = NumbersAt n (inferences_of rows) (close_of rows)

-- It has d inferences.
abbrev pub Inferences : (d : ℕ) → Result (Option Rows) NotAmong → Type 0
Inferences d (Err e) = Unit {0}
Inferences d (Ok None) = Unit {0}
Inferences d (Ok (Some rows)) = d ≡ length (inferences_of rows)

-- An inference before the rows found: there are two of them at most.
abbrev pub with_first : (j : ℕ) → Rows → Option Rows
with_first j (One c) = Some (Two j c)
with_first j (Two a c) = Some (Three j a c)
with_first j (Three a b c) = None

-- The answer r to the search, of d inferences and a close, is what f is of the lines; these stay.
pub record Finds (K n d : ℕ) (f : Found) (kinds : List ℕ) (buf : List ℤ) (kinds' : List ℕ) (buf' : List ℤ) (r : Result (Option Rows) NotAmong) : Type 0 where
  pub kept : LinesKept K n kinds buf kinds' buf'
  pub is : found_of n r ≡ f
  pub within : NumbersIn n r
  pub inferences : Inferences d r

-- The same for any number of rows.
pub record FindsAny (K n : ℕ) (f : Found) (kinds : List ℕ) (buf : List ℤ) (kinds' : List ℕ) (buf' : List ℤ) (r : Result (Option Rows) NotAmong) : Type 0 where
  pub kept : LinesKept K n kinds buf kinds' buf'
  pub is : found_of n r ≡ f
  pub within : NumbersIn n r

-- Where b is true, no close of the first n lines holds; where it is false, nothing is said.
pub record Unclosed (K n : ℕ) (kinds : List ℕ) (buf : List ℤ) (b : Bool) : Type 0 where
  pub none : b ≡ true → first_found (proofs_from 0 (lines_in K kinds buf n) 0) ≡ search.none_left
