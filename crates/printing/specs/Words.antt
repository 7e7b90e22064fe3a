-- A second dialect, for a technician: 2*r0 - 3*r1 - 1 <= 0 or (5 divides 4*r1 + 3 and 2*r0 <= 0). What it says, what that means, and a formula so worded. Assumes nothing.
use Rattle.std.specs.Prelude.{◌≡◌, ◌⊎◌, Bool, true, false, List, [], ◌∷◌, ℕ, suc, ℤ, pos, ◌+ℤ◌, ◌*ℤ◌, ◌≤ℤ◌}
use Rattle.integers.specs.Divides.{◌∣ℤ◌}
use Rattle.forms.specs.Forms.{Form, Assignment, nonzero, ≤0, =0, Formula, literal, ◌divides◌, ◌and◌, ◌or◌}

-- A coefficient and its register, or a number alone.
pub data Summand : Type 0 where
  scaled : ℤ → ℕ → Summand
  plain : ℤ → Summand

-- A sum of one summand or more.
pub record Sum : Type 0 where
  pub first : Summand
  pub more : List Summand

pub data Wording : Type 0 where
  at_most0 : Sum → Wording
  equal0 : Sum → Wording
  multiple : ℕ → Sum → Wording
  both_of : Wording → Wording → Wording
  either_of : Wording → Wording → Wording

abbrev pub summand_value : Summand → Assignment → ℤ
summand_value (scaled c i) v = c *ℤ v i
summand_value (plain d) v = d

unfoldable pub summands_value : List Summand → Assignment → ℤ
summands_value [] v = pos 0
summands_value (x ∷ xs) v = summand_value x v +ℤ summands_value xs v

unfoldable pub sum_value : Sum → Assignment → ℤ
unfolding summands_value
sum_value l v = summand_value l.first v +ℤ summands_value l.more v

abbrev pub WordingTrue : Wording → Assignment → Type 0
WordingTrue (at_most0 l) v = sum_value l v ≤ℤ pos 0
WordingTrue (equal0 l) v = sum_value l v ≡ pos 0
WordingTrue (multiple g l) v = pos g ∣ℤ sum_value l v
WordingTrue (both_of p q) v = WordingTrue p v × WordingTrue q v
WordingTrue (either_of p q) v = WordingTrue p v ⊎ WordingTrue q v

-- Register c stands in a wording.
abbrev pub InSummand : Summand → ℕ → Type 0
InSummand (scaled z i) c = i ≡ c
InSummand (plain d) c = ⊥

abbrev pub InSummands : List Summand → ℕ → Type 0
InSummands [] c = ⊥
InSummands (x ∷ xs) c = InSummand x c ⊎ InSummands xs c

abbrev pub InSum : Sum → ℕ → Type 0
InSum l c = InSummand l.first c ⊎ InSummands l.more c

abbrev pub WordingNames : Wording → ℕ → Type 0
WordingNames (at_most0 l) c = InSum l c
WordingNames (equal0 l) c = InSum l c
WordingNames (multiple g l) c = InSum l c
WordingNames (both_of p q) c = WordingNames p c ⊎ WordingNames q c
WordingNames (either_of p q) c = WordingNames p c ⊎ WordingNames q c

-- A formula so worded: what is 0 is left out, unless it is all.
unfoldable pub unless_none : (nonzero : Bool) → Summand → List Summand → List Summand
unless_none true x xs = x ∷ xs
unless_none false x xs = xs

unfoldable pub summands_of : (i : ℕ) → List ℤ → (d : ℤ) → List Summand
unfolding unless_none
summands_of i [] d = unless_none (nonzero d) (plain d) []
summands_of i (c ∷ cs) d = unless_none (nonzero c) (scaled c i) (summands_of (suc i) cs d)

abbrev pub as_sum : List Summand → Sum
as_sum [] = record { first = plain (pos 0); more = [] }
as_sum (x ∷ xs) = record { first = x; more = xs }

unfoldable pub sum_of : Form → Sum
unfolding summands_of
sum_of t = as_sum (summands_of 0 t.coeffs t.d)

unfoldable pub worded : Formula → Wording
unfolding sum_of
worded (literal ≤0 t) = at_most0 (sum_of t)
worded (literal =0 t) = equal0 (sum_of t)
worded (g divides t) = multiple g (sum_of t)
worded (I and J) = both_of (worded I) (worded J)
worded (I or J) = either_of (worded I) (worded J)
