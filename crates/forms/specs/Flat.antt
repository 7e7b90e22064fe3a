-- Kinds and forms in lists of numbers: a kind is a byte, a form its K coefficients and then d. Assumes nothing.
use Rattle.std.specs.Prelude.{true, false, List, ℕ, ◌+◌, eqb, leb, ℤ, pos, get_or, take, drop}
use Rattle.forms.specs.Forms.{Form, Kind, ≤0, =0, ConstraintKind, says, ≠0, A, B, LineKind, plain, apart}

-- 0 for t ≤ 0, 1 for t = 0.
unfoldable pub kind_of : ℕ → Kind
kind_of b = elim (eqb b 0) [ true ↦ ≤0 | false ↦ =0 ]

-- What a constraint says: 2 for t ≠ 0, else as above.
unfoldable pub constraint_kind_of : ℕ → ConstraintKind
unfolding kind_of
constraint_kind_of b = elim (eqb b 2) [ true ↦ ≠0 | false ↦ says (kind_of b) ]

-- The kind of a line: 0 and 1 as above, 2 for t ≠ 0 of A, and 3 for t ≠ 0 of B.
unfoldable pub line_kind_of : ℕ → LineKind
unfolding kind_of
line_kind_of b = elim (eqb b 2) [ true ↦ apart A | false ↦ elim (leb b 1) [ true ↦ plain (kind_of b) | false ↦ apart B ] ]

-- The form whose K + 1 numbers stand at a place.
abbrev pub form_in : (K : ℕ) → List ℤ → (at : ℕ) → Form
form_in K buf at = record { coeffs = take K (drop at buf); d = get_or buf (at + K) (pos 0) }
