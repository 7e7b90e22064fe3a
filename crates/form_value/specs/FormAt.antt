-- A form by its place in a file: K+1 numbers of four bytes each. Assumes nothing.
use Rattle.std.specs.Prelude.{ℕ, ◌+◌, ◌/◌, ◌≤◌, List, length, take, drop, ℤ}
use Rattle.forms.specs.Edition.{edition1}
use Rattle.forms.specs.Forms.{Form}
use Rattle.number_bytes.specs.Numbers.{signeds, form_from, form_width}

unfoldable pub form_at : List ℕ → (at K : ℕ) → Form
form_at s at K = form_from edition1.term_width K (take (form_width edition1.term_width K) (drop at s))

pub record Whole (s : List ℕ) (at K : ℕ) : Type 0 where
  pub upto : at + form_width edition1.term_width K ≤ length s

-- all whole numbers of some bytes
unfoldable pub numbers_of : List ℕ → List ℤ
numbers_of bs = signeds edition1.term_width (length bs / edition1.term_width) bs
