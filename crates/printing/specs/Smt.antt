-- The fragment of SMT-LIB 2 (theory Ints) in which formulas are printed, and what it means at an assignment of the constants r0, r1, .. Assumes nothing.
use Rattle.std.specs.Prelude.{◌≡◌, ◌⊎◌, ℕ, ℤ, pos, neg_ℤ, ◌+ℤ◌, ◌*ℤ◌, ◌≤ℤ◌}
use Rattle.integers.specs.Remainder.{remainder}
use Rattle.forms.specs.Forms.{Assignment}

mutual
  pub data Term : Type 0 where
    -- 5
    numeral : ℕ → Term
    -- r5
    register : ℕ → Term
    -- (- t)
    minus : Term → Term
    -- (* s t)
    times : Term → Term → Term
    -- (mod t n)
    modulo : Term → ℕ → Term
    -- (+ t u ..)
    plus : Terms → Term

  -- one term, or more
  pub data Terms : Type 0 where
    final : Term → Terms
    also : Term → Terms → Terms

pub data Prop : Type 0 where
  -- (<= s t), (= s t)
  at_most : Term → Term → Prop
  equals : Term → Term → Prop
  -- (and p q), (or p q)
  conj : Prop → Prop → Prop
  disj : Prop → Prop → Prop

-- The value of a term. `mod` is the remainder from 0 to n-1 (SMT-LIB leaves it open for n = 0, which is never printed).
unfoldable mutual
  pub value_of : Term → Assignment → ℤ
  value_of (numeral n) v = pos n
  value_of (register i) v = v i
  value_of (minus t) v = neg_ℤ (value_of t v)
  value_of (times s t) v = value_of s v *ℤ value_of t v
  value_of (modulo t n) v = pos (remainder n (value_of t v))
  value_of (plus ts) v = total_of ts v

  pub total_of : Terms → Assignment → ℤ
  total_of (final t) v = value_of t v
  total_of (also t ts) v = value_of t v +ℤ total_of ts v

abbrev pub PropTrue : Prop → Assignment → Type 0
PropTrue (at_most s t) v = value_of s v ≤ℤ value_of t v
PropTrue (equals s t) v = value_of s v ≡ value_of t v
PropTrue (conj p q) v = PropTrue p v × PropTrue q v
PropTrue (disj p q) v = PropTrue p v ⊎ PropTrue q v

-- Register c stands in a term, and in a proposition.
abbrev mutual
  pub InTerm : Term → ℕ → Type 0
  InTerm (numeral n) c = ⊥
  InTerm (register i) c = i ≡ c
  InTerm (minus t) c = InTerm t c
  InTerm (times s t) c = InTerm s c ⊎ InTerm t c
  InTerm (modulo t n) c = InTerm t c
  InTerm (plus ts) c = InTerms ts c

  pub InTerms : Terms → ℕ → Type 0
  InTerms (final t) c = InTerm t c
  InTerms (also t ts) c = InTerm t c ⊎ InTerms ts c

abbrev pub PropNames : Prop → ℕ → Type 0
PropNames (at_most s t) c = InTerm s c ⊎ InTerm t c
PropNames (equals s t) c = InTerm s c ⊎ InTerm t c
PropNames (conj p q) c = PropNames p c ⊎ PropNames q c
PropNames (disj p q) c = PropNames p c ⊎ PropNames q c
