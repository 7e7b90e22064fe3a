-- The quick way for strides that are powers of two: the sum in 32-bit words that wrap. docs/FORMAT.md, "The order of tests". Assumes nothing.
use Rattle.std.specs.Prelude.{◌≡◌, ℕ, zero, suc, ◌+◌, ◌*◌, ◌%◌, ◌^◌, ◌≤◌, Bool, false, cond, ◌&&◌, ◌||◌, List, [], ◌∷◌, ℤ, pos, ◌==◌}
use Rattle.integers.specs.Divides.{divb}
use Rattle.integers.specs.Remainder.{remainder}
use Rattle.forms.specs.Forms.{rest, value, Form, Assignment, Formula, literal, ◌divides◌, ◌and◌, ◌or◌}
use Rattle.formula.specs.Test.{holds}

-- ---- words
-- 2^32: a word is a number below it.
abbrev pub word_size : ℕ
word_size = 4_294_967_296

-- The word of a number: from 0 to 2^32 - 1, and the same modulo 2^32. Of four bytes it is what they say unsigned.
abbrev pub word : ℤ → ℕ
word z = remainder word_size z

-- A sum and a product that wrap.
infixl 6 ◌⊕◌
infixl 7 ◌⊗◌
abbrev pub ◌⊕◌ : ℕ → ℕ → ℕ
x ⊕ y = (x + y) % word_size

abbrev pub ◌⊗◌ : ℕ → ℕ → ℕ
x ⊗ y = x * y % word_size

-- The value of a form (`sum`, `value`), all of it in words.
unfoldable pub word_sum : List ℤ → Assignment → ℕ
word_sum [] v = 0
word_sum (c ∷ cs) v = word c ⊗ word (v 0) ⊕ word_sum cs (rest v)

unfoldable pub word_value : Form → Assignment → ℕ
word_value t v = word_sum t.coeffs v ⊕ word t.d

-- ---- powers of two
-- g is 2^e for an e from 1 to n.
pub record PowerUpto (n g : ℕ) : Type 0 where
  pub e : ℕ
  pub some : 1 ≤ e
  pub upto : e ≤ n
  pub is : g ≡ 2 ^ e

-- The same as a test.
unfoldable pub power_upto : (n g : ℕ) → Bool
power_upto zero g = false
power_upto (suc n) g = g == 2 ^ suc n || power_upto n g

-- 2 to 2^30: four signed bytes hold no larger one.
abbrev pub Power : ℕ → Type 0
Power g = PowerUpto 30 g

abbrev pub power : ℕ → Bool
power g = power_upto 30 g

-- ---- the quick way
-- Whether g divides the form's value: where g is a power of two the word is tested in its place.
unfoldable pub quick_divides : ℕ → Form → Assignment → Bool
quick_divides g t v = cond (power g) (divb (pos g) (pos (word_value t v))) (divb (pos g) (value t v))

-- The truth of a formula (`judge`) so.
unfoldable pub quick_judge : Formula → Assignment → Bool
quick_judge (literal k t) v = holds k (value t v)
quick_judge (g divides t) v = quick_divides g t v
quick_judge (I and J) v = quick_judge I v && quick_judge J v
quick_judge (I or J) v = quick_judge I v || quick_judge J v
