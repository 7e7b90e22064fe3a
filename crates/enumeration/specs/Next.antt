-- The short proof after a given one. docs/FORMAT.md, "Short proofs". Assumes nothing.
use Rattle.std.specs.Prelude.{◌≡◌, ◌⊎◌, true, false, List, [], ◌∷◌, ℕ}
use Rattle.calculus.specs.Rules.{Row}
use Rattle.answers.specs.Answers.{answer, file_lent, Result, refused, accepted, ◌>>=◌, Written, written}
use Rattle.number_bytes.specs.Same.{same_bytes}
use Rattle.enumeration.specs.ShortProofs.{proof_file, ShortProof}
use Rattle.enumeration.specs.Sequence.{short_proofs}
use Rattle.enumeration.specs.Order.{Precedes}

-- 33, after the last or if there is none.
unfoldable pub first_rows : List (List Row) → Result (List Row)
first_rows [] = refused (answer 33 file_lent 0)
first_rows (rs ∷ rss) = accepted rs

-- The one after the given. 32, a table that is not among them; 33.
unfoldable pub following : (K : ℕ) (given : List ℕ) → List (List Row) → Result (List Row)
following K given [] = refused (answer 32 file_lent 0)
following K given (rs ∷ rss) = elim (same_bytes (proof_file K rs) given) [ true ↦ first_rows rss | false ↦ following K given rss ]

-- The header alone stands before the first.
unfoldable pub next_rows : (K : ℕ) (given : List ℕ) → List (List Row) → Result (List Row)
next_rows K given rss = elim (same_bytes (proof_file K []) given) [ true ↦ first_rows rss | false ↦ following K given rss ]

unfoldable pub next_file : (A B given : List ℕ) → Result (List ℕ)
next_file A B given = do
  (K, rss) ← short_proofs A B
  rs ← next_rows K given rss
  accepted (proof_file K rs)

-- Last 21.
unfoldable pub next_proof : (A B given output : List ℕ) → Written
next_proof A B given output = written (next_file A B given) output

-- ---- what it promises
-- The table given is that of rs: the header alone, or a short proof.
pub record StandsAt (A B given : List ℕ) (K : ℕ) (rs : List Row) : Type 0 where
  pub is : given ≡ proof_file K rs
  pub started : (rs ≡ []) ⊎ ShortProof A B given

-- What is answered to a table, K being that of A and B: the least short proof after it; 33 where none is after it; 32 where it is neither the header alone nor a short proof.
pub data NextIs (A B given : List ℕ) (K : ℕ) : Result (List ℕ) → Type 0 where
  follows : (rs qs : List Row) → StandsAt A B given K rs → ShortProof A B (proof_file K qs) → Precedes K rs qs
      → ((file : List ℕ) (s : ShortProof A B file) → Precedes K rs s.rows → (s.rows ≡ qs) ⊎ Precedes K qs s.rows)
      → NextIs A B given K (accepted (proof_file K qs))
  none_left : (rs : List Row) → StandsAt A B given K rs → ((file : List ℕ) (s : ShortProof A B file) → ¬ (Precedes K rs s.rows)) → NextIs A B given K (refused (answer 33 file_lent 0))
  not_among : ¬ (given ≡ proof_file K []) → ¬ (ShortProof A B given) → NextIs A B given K (refused (answer 32 file_lent 0))
