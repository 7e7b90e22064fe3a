-- The order of the short proofs: by number of rows and then by bytes. docs/FORMAT.md, "Short proofs". Assumes nothing.
use Rattle.std.specs.Prelude.{◌≡◌, ◌⊎◌, List, [], ◌∷◌, ℕ, ◌<◌, length}
use Rattle.forms.specs.Forms.{All}
use Rattle.calculus.specs.Rules.{Row}
use Rattle.enumeration.specs.ShortProofs.{proof_file}

-- xs is before ys by bytes.
pub data Lexicographic : List ℕ → List ℕ → Type 0 where
  ended : {y : ℕ} {ys : List ℕ} → Lexicographic [] (y ∷ ys)
  less : {x y : ℕ} {xs ys : List ℕ} → x < y → Lexicographic (x ∷ xs) (y ∷ ys)
  same : {x : ℕ} {xs ys : List ℕ} → Lexicographic xs ys → Lexicographic (x ∷ xs) (x ∷ ys)

-- The table of rs is before that of qs.
abbrev pub Precedes : (K : ℕ) → List Row → List Row → Type 0
Precedes K rs qs = (length rs < length qs) ⊎ ((length rs ≡ length qs) × Lexicographic (proof_file K rs) (proof_file K qs))

-- Each element is before all that follow it.
abbrev pub Increasing : {X : Type 0} → (X → X → Type 0) → List X → Type 0
Increasing R [] = Unit {0}
Increasing R (x ∷ xs) = All (R x) xs × Increasing R xs
