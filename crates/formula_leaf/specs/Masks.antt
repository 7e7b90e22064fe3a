-- The truths of some vectors as the bits of one number. Assumes nothing.
use Rattle.std.specs.Prelude.{◌≡◌, ℕ, zero, suc, ◌+◌, ◌*◌, ◌/◌, ◌%◌, Bool, ◌&&◌, List, [], ◌∷◌, length, ℤ}
use Rattle.forms.specs.Forms.{Formula}
use Rattle.formula.specs.Test.{judge, registers}
use Rattle.formula.specs.TestList.{vectors, byte}

-- The lowest bit is the first.
unfoldable pub mask : List Bool → ℕ
mask [] = 0
mask (b ∷ bs) = byte b + 2 * mask bs

-- The other way: n bits of a number.
unfoldable pub bits_of : (n : ℕ) → ℕ → List ℕ
bits_of zero m = []
bits_of (suc n) m = m % 2 ∷ bits_of n (m / 2)

-- Of the vectors that are asked for, those of which I is true.
unfoldable pub among : Formula → List Bool → List (List ℤ) → List Bool
among I [] vs = []
among I (b ∷ bs) [] = []
among I (b ∷ bs) (v ∷ vs) = (b && judge I (registers v)) ∷ among I bs vs

-- r is the mask of these: of n vectors, those of `active` of which I is true.
pub record Marks (I : Formula) (values : List ℤ) (K n active r : ℕ) : Type 0 where
  pub is : (bs : List Bool) → length bs ≡ n → active ≡ mask bs → r ≡ mask (among I bs (vectors K n values))
