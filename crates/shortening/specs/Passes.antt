-- The report, and what becomes of each entry, computed of the table alone: line counts on the way there, marks on the way back, new numbers on a second way.
-- This is what the function ensures; laws tie it to the derivation (`Promised`). docs/FORMAT.md, "Rows that nothing rests on". Assumes nothing.
use Rattle.std.specs.Prelude.{List, [], ◌∷◌, Bool, true, false, not, ◌&&◌, ◌||◌, ℕ, zero, suc, eqb}
use Rattle.calculus.specs.Rules.{Inference, Derive, Strengthen, Round, Split, CloseNumber, CloseStride, Entry, row, claim}
use Rattle.shortening.specs.Needed.{named, mark_of, renew, kept_lines}

-- ---- the report
-- What the rows behind leave: one mark for each line, and their part of the report.
pub record Backward : Type 0 where
  pub marks : ℕ → Bool
  pub reported : List ℕ

-- The mark of line n is cleared at the row that makes it.
abbrev pub cleared : ℕ → (ℕ → Bool) → ℕ → Bool
cleared n m j = not (eqb j n) && m j

-- A row 0x10 to 0x12 with the new line n, marked or not; a branching row on line i with the new line n; a close of line i.
abbrev pub making : Inference → ℕ → Backward → Backward
making s n b = record { marks = λ j. (named s j && b.marks n) || cleared n b.marks j; reported = mark_of (b.marks n) ∷ b.reported }

abbrev pub branching : (i n : ℕ) → Backward → Backward
branching i n b = record { marks = λ j. eqb j i || cleared n b.marks j; reported = 2 ∷ b.reported }

abbrev pub closing : (i : ℕ) → Backward → Backward
closing i b = record { marks = λ j. eqb j i || b.marks j; reported = 2 ∷ b.reported }

-- The first of a stack, and the others; k times the same and then the others.
abbrev pub top : {X : Type 0} → X → List X → X
top x [] = x
top x (y ∷ _) = y

abbrev pub pop : {X : Type 0} → List X → List X
pop [] = []
pop (_ ∷ ys) = ys

abbrev pub pushed : {X : Type 0} → ℕ → X → List X → List X
pushed zero x ys = ys
pushed (suc k) x ys = x ∷ pushed k x ys

-- n lines stand on the branch; behind its close come branches that start with the line counts `opened`.
abbrev pub backward : List Entry → (n : ℕ) (opened : List ℕ) → Backward
backward [] n opened = record { marks = λ j. false; reported = [] }
backward (claim _ _ ∷ es) n opened = backward es n opened
backward (row (Derive s) ∷ es) n opened = making s n (backward es (suc n) opened)
backward (row (Strengthen i) ∷ es) n opened = branching i n (backward es (suc n) (pushed 2 (suc n) opened))
backward (row (Round i _ k) ∷ es) n opened = branching i n (backward es (suc n) (pushed k (suc n) opened))
backward (row (Split i) ∷ es) n opened = branching i n (backward es (suc n) (pushed 1 (suc n) opened))
backward (row (CloseNumber i) ∷ es) n opened = closing i (backward es (top 0 opened) (pop opened))
backward (row (CloseStride i _) ∷ es) n opened = closing i (backward es (top 0 opened) (pop opened))

-- The report on a table over n constraints.
abbrev pub report_on : (n : ℕ) → List Entry → List ℕ
report_on n es = (backward es n []).reported

-- ---- the shorter table
-- What becomes of an entry: it goes, or it stays with these new line numbers.
pub data Retention : Type 0 where
  goes : Retention
  stays : (new : ℕ → ℕ) → Retention

abbrev pub retention : Bool → (ℕ → ℕ) → Retention
retention true f = stays f
retention false f = goes

abbrev pub is_kept : ℕ → Bool
is_kept zero = false
is_kept (suc _) = true

-- How many lines a branch to come starts with, and how many of them are kept.
pub record Start : Type 0 where
  pub lines : ℕ
  pub kept : ℕ

abbrev pub no_start : Start
no_start = record { lines = 0; kept = 0 }

abbrev pub branch_start : (n m : ℕ) → Start
branch_start n m = record { lines = n; kept = m }

-- n lines stand on the branch, m of them are kept, and f has their new numbers: a line's is how many kept lines stand before it. `reported` is the report on the rows
-- to come, and `b` tells whether the row before is kept, and so its claim. (One f serves for all branches: what a branch leaves in it stands at lines that its
-- sibling makes anew.)
abbrev pub retentions : List Entry → (reported : List ℕ) (b : Bool) (f : ℕ → ℕ) (n m : ℕ) → (opened : List Start) → List Retention
retentions [] reported b f n m opened = []
retentions (claim _ _ ∷ es) reported b f n m opened = retention b f ∷ retentions es reported b f n m opened
retentions (row (Derive _) ∷ es) reported b f n m opened =
    retention (is_kept (top 0 reported)) f ∷ retentions es (pop reported) (is_kept (top 0 reported)) (renew f n m) (suc n) (kept_lines (is_kept (top 0 reported)) m) opened
retentions (row (Strengthen _) ∷ es) reported b f n m opened = stays f ∷ retentions es (pop reported) true (renew f n m) (suc n) (suc m) (pushed 2 (branch_start (suc n) (suc m)) opened)
retentions (row (Round _ _ k) ∷ es) reported b f n m opened = stays f ∷ retentions es (pop reported) true (renew f n m) (suc n) (suc m) (pushed k (branch_start (suc n) (suc m)) opened)
retentions (row (Split _) ∷ es) reported b f n m opened = stays f ∷ retentions es (pop reported) true (renew f n m) (suc n) (suc m) (pushed 1 (branch_start (suc n) (suc m)) opened)
retentions (row (CloseNumber _) ∷ es) reported b f n m opened = stays f ∷ retentions es (pop reported) true f (top no_start opened).lines (top no_start opened).kept (pop opened)
retentions (row (CloseStride _ _) ∷ es) reported b f n m opened = stays f ∷ retentions es (pop reported) true f (top no_start opened).lines (top no_start opened).kept (pop opened)

-- What becomes of the entries of a table over n constraints, which all stay.
abbrev pub retentions_on : (n : ℕ) → List Entry → List Retention
retentions_on n es = retentions es (report_on n es) true (λ j. j) n n []

-- What is left of a list, by what becomes of each; `put` gives it new line numbers.
abbrev pub remaining : {X : Type 0} → ((ℕ → ℕ) → X → X) → List Retention → List X → List X
remaining put [] xs = []
remaining put (d ∷ ds) [] = []
remaining put (goes ∷ ds) (x ∷ xs) = remaining put ds xs
remaining put (stays f ∷ ds) (x ∷ xs) = put f x ∷ remaining put ds xs
