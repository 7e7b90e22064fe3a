-- A text names just the constants that its formula names. Assumes nothing.
use mathlib.Core.Path.{◌≡◌, refl}
use mathlib.Core.Logic.{◌↔◌, ◌⊎◌, inl, inr}
use mathlib.Core.Bool.{Bool, true, false, ◌||◌}
use mathlib.Core.List.{List, [], ◌∷◌}
use Prim.Native.Nat.{ℕ, zero, suc, ◌+◌}
use native.Mathlib.Omega.{arith}
use lib.Dec.{T}
use lib.IntN.{ℤ, pos, negsuc}
use lib.ListN.{get_or}
use Rattle.forms.specs.Forms.{Form, nonzero, coeff, ≤0, =0, Formula, literal, ◌divides◌, ◌and◌, ◌or◌, names}
use Rattle.printing.specs.Smt.{Terms, register, times, final, also, InTerm, InTerms, PropNames}
use Rattle.printing.specs.Translation.{integer, unless_zero, terms_of, summed, term_of, smt}
use Rattle.printing.specs.Words.{Summand, scaled, plain, InSummands, InSum, WordingNames, unless_none, summands_of, as_sum, sum_of, worded}

-- Constant c is i or one behind it, and its coefficient is not 0.
record Given (i : ℕ) (cs : List ℤ) (c : ℕ) : Type 0 where
  k : ℕ
  place : c ≡ i + k
  given : T (nonzero (get_or cs k (pos 0)))

here : (i : ℕ) (z : ℤ) (cs : List ℤ) (c : ℕ) → nonzero z ≡ true → i ≡ c → Given i (z ∷ cs) c
here i z cs c e p = record { k = 0; place = omega (arith, p); given = rw e tt }

further : (i : ℕ) (z : ℤ) (cs : List ℤ) (c : ℕ) → Given (suc i) cs c → Given i (z ∷ cs) c
further i z cs c g = record { k = suc g.k; place = omega (arith, g.place); given = g.given }

of-form : (t : Form) (c : ℕ) → Given 0 t.coeffs c → T (nonzero (coeff t c))
unfolding coeff
of-form t c g = let e : c ≡ g.k = omega (arith, g.place) in rw e g.given

either_left : (a b : Bool) → T a → T (a || b)
either_left true b h = tt
either_left false b h = absurd h

either-right : (a b : Bool) → T b → T (a || b)
either-right true b h = tt
either-right false b h = h

either-of : (a b : Bool) → T (a || b) → T a ⊎ T b
either-of true b h = inl tt
either-of false b h = inr h

in_either : {A B C D : Type 0} → (A → C) → (B → D) → A ⊎ B → C ⊎ D
in_either f g (inl x) = inl (f x)
in_either f g (inr x) = inr (g x)

-- no coefficient is given behind the last
none-given : (k : ℕ) → ¬ (T (nonzero (get_or [] k (pos 0))))
unfolding nonzero
none-given zero h = h
none-given (suc k) h = h

-- ---- as terms
no_register : (z : ℤ) (c : ℕ) → ¬ (InTerm (integer z) c)
unfolding integer
no_register (pos n) c h = h
no_register (negsuc n) c h = h

terms-names : (i : ℕ) (cs : List ℤ) (d : ℤ) (c : ℕ) → InTerms (terms_of i cs d) c → Given i cs c
unfolding terms_of unless_zero
terms-names i [] d c h = absurd (no_register d c h)
terms-names i (z ∷ cs) d c h = go (nonzero z) refl h (terms-names (suc i) cs d c)
  where
    go : (b : Bool) → nonzero z ≡ b → InTerms (unless_zero b (times (integer z) (register i)) (terms_of (suc i) cs d)) c → (InTerms (terms_of (suc i) cs d) c → Given (suc i) cs c) → Given i (z ∷ cs) c
    go true e (inl (inl x)) ih = absurd (no_register z c x)
    go true e (inl (inr x)) ih = here i z cs c e x
    go true e (inr x) ih = further i z cs c (ih x)
    go false e x ih = further i z cs c (ih x)

summed-names : (ts : Terms) (c : ℕ) → InTerm (summed ts) c → InTerms ts c
unfolding summed
summed-names (final t) c h = h
summed-names (also t ts) c h = h

form-names : (t : Form) (c : ℕ) → InTerm (term_of t) c → T (nonzero (coeff t c))
unfolding term_of
form-names t c h = of-form t c (terms-names 0 t.coeffs t.d c (summed-names (terms_of 0 t.coeffs t.d) c h))

prop-names : (I : Formula) (c : ℕ) → PropNames (smt I) c → T (names I c)
unfolding smt names
prop-names (literal ≤0 t) c (inl h) = form-names t c h
prop-names (literal ≤0 t) c (inr h) = absurd h
prop-names (literal =0 t) c (inl h) = form-names t c h
prop-names (literal =0 t) c (inr h) = absurd h
prop-names (g divides t) c (inl h) = form-names t c h
prop-names (g divides t) c (inr h) = absurd h
prop-names (I and J) c (inl h) = either_left (names I c) (names J c) (prop-names I c h)
prop-names (I and J) c (inr h) = either-right (names I c) (names J c) (prop-names J c h)
prop-names (I or J) c (inl h) = either_left (names I c) (names J c) (prop-names I c h)
prop-names (I or J) c (inr h) = either-right (names I c) (names J c) (prop-names J c h)

in-terms : (i : ℕ) (cs : List ℤ) (d : ℤ) (c k : ℕ) → c ≡ i + k → T (nonzero (get_or cs k (pos 0))) → InTerms (terms_of i cs d) c
unfolding terms_of unless_zero
in-terms i [] d c k e h = absurd (none-given k h)
in-terms i (z ∷ cs) d c zero e h = go (nonzero z) h
  where
    go : (b : Bool) → T b → InTerms (unless_zero b (times (integer z) (register i)) (terms_of (suc i) cs d)) c
    go true t = inl (inr (omega (arith, e)))
    go false t = absurd t
in-terms i (z ∷ cs) d c (suc k) e h = go (nonzero z) (in-terms (suc i) cs d c k (omega (arith, e)) h)
  where
    go : (b : Bool) → InTerms (terms_of (suc i) cs d) c → InTerms (unless_zero b (times (integer z) (register i)) (terms_of (suc i) cs d)) c
    go true x = inr x
    go false x = x

in-summed : (ts : Terms) (c : ℕ) → InTerms ts c → InTerm (summed ts) c
unfolding summed
in-summed (final t) c h = h
in-summed (also t ts) c h = h

in-term : (t : Form) (c : ℕ) → T (nonzero (coeff t c)) → InTerm (term_of t) c
unfolding term_of coeff
in-term t c h = in-summed (terms_of 0 t.coeffs t.d) c (in-terms 0 t.coeffs t.d c c (omega arith) h)

in-prop : (I : Formula) (c : ℕ) → T (names I c) → PropNames (smt I) c
unfolding smt names
in-prop (literal ≤0 t) c h = inl (in-term t c h)
in-prop (literal =0 t) c h = inl (in-term t c h)
in-prop (g divides t) c h = inl (in-term t c h)
in-prop (I and J) c h = in_either (in-prop I c) (in-prop J c) (either-of (names I c) (names J c) h)
in-prop (I or J) c h = in_either (in-prop I c) (in-prop J c) (either-of (names I c) (names J c) h)

pub names_only : (I : Formula) (c : ℕ) → PropNames (smt I) c ↔ T (names I c)
names_only I c = (prop-names I c, in-prop I c)

-- ---- in words
constant-names : (b : Bool) (d : ℤ) (c : ℕ) → ¬ (InSummands (unless_none b (plain d) []) c)
unfolding unless_none
constant-names true d c (inl h) = h
constant-names true d c (inr h) = h
constant-names false d c h = h

summands-names : (i : ℕ) (cs : List ℤ) (d : ℤ) (c : ℕ) → InSummands (summands_of i cs d) c → Given i cs c
unfolding summands_of unless_none
summands-names i [] d c h = absurd (constant-names (nonzero d) d c h)
summands-names i (z ∷ cs) d c h = go (nonzero z) refl h (summands-names (suc i) cs d c)
  where
    go : (b : Bool) → nonzero z ≡ b → InSummands (unless_none b (scaled z i) (summands_of (suc i) cs d)) c → (InSummands (summands_of (suc i) cs d) c → Given (suc i) cs c) → Given i (z ∷ cs) c
    go true e (inl x) ih = here i z cs c e x
    go true e (inr x) ih = further i z cs c (ih x)
    go false e x ih = further i z cs c (ih x)

sum-names : (xs : List Summand) (c : ℕ) → InSum (as_sum xs) c → InSummands xs c
sum-names [] c (inl h) = h
sum-names [] c (inr h) = h
sum-names (x ∷ xs) c h = h

line-names : (t : Form) (c : ℕ) → InSum (sum_of t) c → T (nonzero (coeff t c))
unfolding sum_of
line-names t c h = of-form t c (summands-names 0 t.coeffs t.d c (sum-names (summands_of 0 t.coeffs t.d) c h))

wording-names : (I : Formula) (c : ℕ) → WordingNames (worded I) c → T (names I c)
unfolding worded names
wording-names (literal ≤0 t) c h = line-names t c h
wording-names (literal =0 t) c h = line-names t c h
wording-names (g divides t) c h = line-names t c h
wording-names (I and J) c (inl h) = either_left (names I c) (names J c) (wording-names I c h)
wording-names (I and J) c (inr h) = either-right (names I c) (names J c) (wording-names J c h)
wording-names (I or J) c (inl h) = either_left (names I c) (names J c) (wording-names I c h)
wording-names (I or J) c (inr h) = either-right (names I c) (names J c) (wording-names J c h)

in-summands : (i : ℕ) (cs : List ℤ) (d : ℤ) (c k : ℕ) → c ≡ i + k → T (nonzero (get_or cs k (pos 0))) → InSummands (summands_of i cs d) c
unfolding summands_of unless_none
in-summands i [] d c k e h = absurd (none-given k h)
in-summands i (z ∷ cs) d c zero e h = go (nonzero z) h
  where
    go : (b : Bool) → T b → InSummands (unless_none b (scaled z i) (summands_of (suc i) cs d)) c
    go true t = inl (omega (arith, e))
    go false t = absurd t
in-summands i (z ∷ cs) d c (suc k) e h = go (nonzero z) (in-summands (suc i) cs d c k (omega (arith, e)) h)
  where
    go : (b : Bool) → InSummands (summands_of (suc i) cs d) c → InSummands (unless_none b (scaled z i) (summands_of (suc i) cs d)) c
    go true x = inr x
    go false x = x

in_sum : (xs : List Summand) (c : ℕ) → InSummands xs c → InSum (as_sum xs) c
in_sum [] c h = absurd h
in_sum (x ∷ xs) c h = h

in-line : (t : Form) (c : ℕ) → T (nonzero (coeff t c)) → InSum (sum_of t) c
unfolding sum_of coeff
in-line t c h = in_sum (summands_of 0 t.coeffs t.d) c (in-summands 0 t.coeffs t.d c c (omega arith) h)

in-wording : (I : Formula) (c : ℕ) → T (names I c) → WordingNames (worded I) c
unfolding worded names
in-wording (literal ≤0 t) c h = in-line t c h
in-wording (literal =0 t) c h = in-line t c h
in-wording (g divides t) c h = in-line t c h
in-wording (I and J) c h = in_either (in-wording I c) (in-wording J c) (either-of (names I c) (names J c) h)
in-wording (I or J) c h = in_either (in-wording I c) (in-wording J c) (either-of (names I c) (names J c) h)

pub words_names_only : (I : Formula) (c : ℕ) → WordingNames (worded I) c ↔ T (names I c)
words_names_only I c = (wording-names I c, in-wording I c)
