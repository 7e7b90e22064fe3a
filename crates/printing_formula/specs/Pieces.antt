-- The texts of the parts of a form as they are written, and where its first coefficient stands that is not 0. Assumes nothing.
use Rattle.std.specs.Prelude.{◌≡◌, Bool, true, false, cond, not, ◌&&◌, Option, Some, None, List, [], ◌∷◌, ◌++◌, ℕ, suc, ◌≤◌, ◌<◌, ℤ, pos, length, get_or, drop}
use Rattle.forms.specs.Forms.{nonzero}
use Rattle.printing.specs.Smt.{times, register}
use Rattle.printing.specs.Text.{ascii, term_text}
use Rattle.printing.specs.Translation.{integer}
use Rattle.printing.specs.Words.{scaled, plain, summands_of}
use Rattle.printing.specs.WordsText.{summand_text}

-- (* c ri) behind a space; nothing for 0.
unfoldable pub product_text : (i : ℕ) → ℤ → List ℕ
product_text i c = cond (nonzero c) (ascii " " ++ term_text (times (integer c) (register i))) []

-- The pieces of the coefficients of r_i, r_(i+1), .., one after the other.
unfoldable pub pieces : (ℕ → ℤ → List ℕ) → (i : ℕ) → List ℤ → List ℕ
pieces piece i [] = []
pieces piece i (c ∷ cs) = piece i c ++ pieces piece (suc i) cs

-- Every coefficient is 0.
unfoldable pub zeros : List ℤ → Bool
zeros [] = true
zeros (c ∷ cs) = not (nonzero c) && zeros cs

-- Every coefficient before the i-th is 0, and it is not, if there is one.
pub record Skipped (cs : List ℤ) (i : ℕ) : Type 0 where
  pub upto : i ≤ length cs
  pub zero : zeros cs ≡ zeros (drop i cs)
  pub same : (d : ℤ) → summands_of 0 cs d ≡ summands_of i (drop i cs) d

pub record FirstNonzero (cs : List ℤ) (i : ℕ) : Type 0 where
  pub skipped : Skipped cs i
  pub here : i < length cs → nonzero (get_or cs i (pos 0)) ≡ true

-- The first coefficient that is not 0, if there is one.
abbrev pub FirstOf : List ℤ → Option ℕ → Type 0
FirstOf cs None = FirstNonzero cs (length cs)
FirstOf cs (Some i) = (i < length cs) × FirstNonzero cs i

-- In words: a coefficient with its register, and the constant term, both behind others, and nothing for 0.
unfoldable pub word_text : (i : ℕ) → ℤ → List ℕ
word_text i c = cond (nonzero c) (summand_text false (scaled c i)) []

unfoldable pub constant_text : ℤ → List ℕ
constant_text d = cond (nonzero d) (summand_text false (plain d)) []
