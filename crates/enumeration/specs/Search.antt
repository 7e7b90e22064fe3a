-- The search through the sequence, as the code goes. docs/FORMAT.md, "Short proofs". Assumes nothing.
use Rattle.std.specs.Prelude.{true, false, List, [], ◌∷◌, map, ℕ, zero, suc, ◌-◌, length}
use Rattle.forms.specs.Forms.{Line}
use Rattle.calculus.specs.Rules.{◌▷◌, Row, Derive}
use Rattle.answers.specs.Answers.{answer, file_lent, Result, refused, accepted}
use Rattle.number_bytes.specs.Same.{same_bytes}
use Rattle.fields.specs.Fields.{file_of}
use Rattle.enumeration.specs.ShortProofs.{row_item, proof_file}
use Rattle.enumeration.specs.Sequence.{concat_map, up_from, new_line, close_formula, if_accepted, proofs_of}
use Rattle.enumeration.specs.Numbering.{inference_count, close_count, inference_at, close_at}

-- What is found: the table is none of them, none is left, or these rows.
pub data Found : Type 0 where
  not_among none_left : Found
  at : List Row → Found

-- The first of a list, and the one after the rows of these bytes.
unfoldable pub first_found : List (List Row) → Found
first_found [] = none_left
first_found (rs ∷ rss) = at rs

unfoldable pub rows_bytes : List Row → List ℕ
rows_bytes rs = file_of (map row_item rs)

unfoldable pub next_found : (given : List ℕ) → List (List Row) → Found
next_found given [] = not_among
next_found given (rs ∷ rss) = elim (same_bytes (rows_bytes rs) given) [ true ↦ first_found rss | false ↦ next_found given rss ]

-- What comes next where nothing is left, and where the table is none of them.
unfoldable pub if_none_left : Found → Found → Found
if_none_left not_among f = not_among
if_none_left none_left f = f
if_none_left (at rs) f = at rs

unfoldable pub if_not_among : Found → Found → Found
if_not_among not_among f = f
if_not_among none_left f = none_left
if_not_among (at rs) f = at rs

-- A row before those found.
unfoldable pub with_row : Row → Found → Found
with_row r not_among = not_among
with_row r none_left = none_left
with_row r (at rs) = at (r ∷ rs)

-- How many rows may stand first in a proof of k inferences and a close, behind n lines.
unfoldable pub first_row_count : (k n : ℕ) → ℕ
first_row_count zero n = close_count n
first_row_count (suc k) n = inference_count n

-- The proofs of k inferences and a close whose first row has a given number, and those whose first row has a number from f on.
unfoldable pub proofs_beginning : (k : ℕ) → List Line → ℕ → List (List Row)
proofs_beginning zero ls c = if_accepted (close_formula ls (close_at (length ls) c)) (λ I. (close_at (length ls) c ∷ []) ∷ [])
proofs_beginning (suc k) ls j = if_accepted (new_line ls (inference_at (length ls) j)) (λ l. map (λ rs. Derive (inference_at (length ls) j) ∷ rs) (proofs_of k (ls ▷ l)))

unfoldable pub proofs_from : (k : ℕ) → List Line → (f : ℕ) → List (List Row)
proofs_from k ls f = concat_map (proofs_beginning k ls) (up_from f (first_row_count k (length ls) - f))

-- The first proof of d inferences or more, up to d + m - 1.
unfoldable pub first_of_depths : (m d : ℕ) → List Line → Found
first_of_depths zero d ls = none_left
first_of_depths (suc m) d ls = if_none_left (first_found (proofs_of d ls)) (first_of_depths m (suc d) ls)

-- The proof after the rows of these bytes, of d inferences or more, up to d + m - 1.
unfoldable pub next_of_depths : (m d : ℕ) (given : List ℕ) → List Line → Found
next_of_depths zero d given ls = not_among
next_of_depths (suc m) d given ls = if_not_among (if_none_left (next_found given (proofs_of d ls)) (first_of_depths m (suc d) ls)) (next_of_depths m (suc d) given ls)

-- The rows found, as the call tells them. 32, 33.
unfoldable pub found_file : (K : ℕ) → Found → Result (List ℕ)
found_file K not_among = refused (answer 32 file_lent 0)
found_file K none_left = refused (answer 33 file_lent 0)
found_file K (at rs) = accepted (proof_file K rs)
