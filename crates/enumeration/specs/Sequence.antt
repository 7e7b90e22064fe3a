-- The short proofs of two bundles, as a sequence. docs/FORMAT.md, "Short proofs". Assumes nothing.
use Rattle.std.specs.Prelude.{List, [], ◌∷◌, ◌++◌, map, ℕ, zero, suc, ◌+◌, leb, length}
use Rattle.forms.specs.Edition.{edition1, newest_edition}
use Rattle.forms.specs.Forms.{Line, lines, Formula}
use Rattle.calculus.specs.Rules.{◌▷◌, Inference, Combine, Reduce, Scale, Row, Derive, Strengthen, Split, CloseNumber, CloseStride, Round}
use Rattle.answers.specs.declared.Answer.{Answer}
use Rattle.answers.specs.Answers.{answer, root, refusal_at, file_lent, Result, refused, accepted, ◌>>◌, ◌>>=◌, need}
use Rattle.bundle.specs.Bundle.{both_read}
use Rattle.proof.specs.Rows.{derived, fitting, by_number, by_stride}
use Rattle.enumeration.specs.ShortProofs.{multipliers, signed_multipliers, strides}

-- What f gives of each element, one after the other.
unfoldable pub concat_map : {X Y : Type 0} → (X → List Y) → List X → List Y
concat_map f [] = []
concat_map f (x ∷ xs) = f x ++ concat_map f xs

-- The n numbers from i on.
unfoldable pub up_from : (i n : ℕ) → List ℕ
up_from i zero = []
up_from i (suc n) = i ∷ up_from (suc i) n

-- The permitted rows that make a line of n lines, and those that close one, in the order of their bytes.
unfoldable pub combines : (n : ℕ) → List Inference
combines n = concat_map (λ i. concat_map (λ j. concat_map (λ α. map (λ β. Combine i j α β) multipliers) multipliers) (up_from 0 n)) (up_from 0 n)

unfoldable pub reduces : (n : ℕ) → List Inference
reduces n = concat_map (λ i. concat_map (λ j. map (λ α. Reduce i j α) signed_multipliers) (up_from 0 n)) (up_from 0 n)

unfoldable pub scales : (n : ℕ) → List Inference
scales n = concat_map (λ i. map (λ α. Scale i α) multipliers) (up_from 0 n)

unfoldable pub inferences : (n : ℕ) → List Inference
inferences n = combines n ++ (reduces n ++ scales n)

unfoldable pub number_closes : (n : ℕ) → List Row
number_closes n = map (λ i. CloseNumber i) (up_from 0 n)

unfoldable pub stride_closes : (n : ℕ) → List Row
stride_closes n = concat_map (λ i. map (λ g. CloseStride i g) strides) (up_from 0 n)

unfoldable pub close_rows : (n : ℕ) → List Row
close_rows n = number_closes n ++ stride_closes n

-- The refusal by a number. (Which row and place it tells does not matter here: a refused row is only left out.)
abbrev pub any_refusal : ℕ → Answer
any_refusal = refusal_at root 0 0

-- The line that an inference makes in a proof of edition 1; the formula of a closing row.
unfoldable pub new_line : List Line → Inference → Result Line
new_line ls s = do
  l ← derived any_refusal ls s
  fitting any_refusal ls edition1 l
  accepted l

unfoldable pub close_formula : List Line → Row → Result Formula
close_formula ls (CloseNumber i) = by_number any_refusal ls i
close_formula ls (CloseStride i g) = by_stride any_refusal ls i g
close_formula ls (Derive s) = refused (any_refusal 20)
close_formula ls (Strengthen i) = refused (any_refusal 20)
close_formula ls (Split i) = refused (any_refusal 20)
close_formula ls (Round i g k) = refused (any_refusal 20)

-- What follows an accepted inference; nothing follows a refused one.
unfoldable pub if_accepted : {X Y : Type 0} → Result X → (X → List Y) → List Y
if_accepted (refused a) f = []
if_accepted (accepted x) f = f x

-- The rows of the proofs of k inferences and a close.
unfoldable pub proofs_of : (k : ℕ) → List Line → List (List Row)
proofs_of zero ls = concat_map (λ r. if_accepted (close_formula ls r) (λ I. (r ∷ []) ∷ [])) (close_rows (length ls))
proofs_of (suc k) ls = concat_map (λ s. if_accepted (new_line ls s) (λ l. map (λ rs. Derive s ∷ rs) (proofs_of k (ls ▷ l)))) (inferences (length ls))

unfoldable pub short_proofs_of : List Line → List (List Row)
short_proofs_of ls = proofs_of 0 ls ++ (proofs_of 1 ls ++ proofs_of 2 ls)

-- A and B are read as check reads them, each by its own edition; they may hold t ≠ 0. Then 8 for a fifth constraint in both together. K, and the rows of each short proof.
unfoldable pub short_proofs : (A B : List ℕ) → Result (ℕ × List (List Row))
short_proofs A B = do
  (a, b) ← both_read newest_edition A B
  need (answer 8 file_lent 0) (leb (length a.constraints + length b.constraints) 4)
  accepted (a.K, short_proofs_of (lines a.constraints b.constraints))
