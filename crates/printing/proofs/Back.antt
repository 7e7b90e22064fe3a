-- A formula back from its proposition, where the number of constants is known. Assumes nothing.
use mathlib.Core.Path.{◌≡◌, refl, sym, ap, ap₂, ◌∙◌}
use mathlib.Core.Bool.{Bool, true, false, cond}
use mathlib.Core.List.{List, [], ◌∷◌}
use mathlib.Core.Option.{some}
use Prim.Native.Nat.{ℕ, zero, suc, ◌<◌}
use native.Mathlib.Omega.{arith}
use lib.Dec.{eqb}
use lib.IntN.{ℤ, pos, negsuc}
use lib.ListN.{length}
use borrow.Author.Tests.{eq-eqb, ne_eqb}
use Rattle.forms.specs.Forms.{Form, nonzero, ≤0, =0, Formula, literal, ◌divides◌, ◌and◌, ◌or◌}
use Rattle.printing.specs.Smt.{Term, Terms, Prop, numeral, register, minus, times, modulo, plus, final, also, at_most, equals, conj, disj}
use Rattle.printing.specs.Text.{prop_text}
use Rattle.printing.specs.Reading.{parse_prop}
use Rattle.printing.specs.Translation.{integer, terms_of, summed, term_of, smt, unless_zero}
use Rattle.printing.specs.OneReading.{OverConstants}
use Rattle.printing.proofs.Meaning.{zero_or}
use Rattle.printing.proofs.Unique.{unique}

pub zero-first : (i : ℕ) (c : ℤ) (cs : List ℤ) (d : ℤ) → nonzero c ≡ false → terms_of i (c ∷ cs) d ≡ terms_of (suc i) cs d
unfolding terms_of unless_zero
zero-first i c cs d e = rw e

pub some_first : (i : ℕ) (c : ℤ) (cs : List ℤ) (d : ℤ) → nonzero c ≡ true → terms_of i (c ∷ cs) d ≡ also (times (integer c) (register i)) (terms_of (suc i) cs d)
unfolding terms_of unless_zero
some_first i c cs d e = rw e

-- ---- numbers
abbrev negative : Term → ℤ
negative (numeral zero) = pos 0
negative (numeral (suc n)) = negsuc n
negative (register i) = pos 0
negative (minus t) = pos 0
negative (times s t) = pos 0
negative (modulo t n) = pos 0
negative (plus ts) = pos 0

abbrev to_number : Term → ℤ
to_number (numeral n) = pos n
to_number (register i) = pos 0
to_number (minus t) = negative t
to_number (times s t) = pos 0
to_number (modulo t n) = pos 0
to_number (plus ts) = pos 0

number_is : (z : ℤ) → to_number (integer z) ≡ z
unfolding integer
number_is (pos n) = refl
number_is (negsuc n) = refl

-- ---- forms
abbrev indexed : Term → ℕ → Bool
indexed (numeral n) i = false
indexed (register j) i = eqb j i
indexed (minus t) i = false
indexed (times s t) i = false
indexed (modulo t n) i = false
indexed (plus ts) i = false

-- whether a term is a product with r_i, and its coefficient
abbrev is_product : Term → ℕ → Bool
is_product (numeral n) i = false
is_product (register j) i = false
is_product (minus t) i = false
is_product (times s t) i = indexed t i
is_product (modulo t n) i = false
is_product (plus ts) i = false

abbrev factor : Term → ℤ
factor (numeral n) = pos 0
factor (register j) = pos 0
factor (minus t) = pos 0
factor (times s t) = to_number s
factor (modulo t n) = pos 0
factor (plus ts) = pos 0

abbrev starts : Terms → ℕ → Bool
starts (final t) i = false
starts (also t ts) i = is_product t i

abbrev first : Terms → ℤ
first (final t) = pos 0
first (also t ts) = factor t

abbrev others : Terms → Terms
others (final t) = final t
others (also t ts) = ts

abbrev ending : Terms → ℤ
ending (final t) = to_number t
ending (also t ts) = ending ts

-- n coefficients, of r_i and those after it
abbrev coefficients : (n i : ℕ) → Terms → List ℤ
coefficients zero i ts = []
coefficients (suc n) i ts = cond (starts ts i) (first ts) (pos 0) ∷ coefficients n (suc i) (cond (starts ts i) (others ts) ts)

-- no product of a constant before them
not-before : (i j : ℕ) (cs : List ℤ) (d : ℤ) → i < j → starts (terms_of j cs d) i ≡ false
unfolding terms_of
not-before i j [] d h = refl
not-before i j (c ∷ cs) d h = go (nonzero c) refl (not-before i (suc j) cs d (omega arith))
  where
    go : (b : Bool) → nonzero c ≡ b → starts (terms_of (suc j) cs d) i ≡ false → starts (terms_of j (c ∷ cs) d) i ≡ false
    go true e ih = rw (some_first j c cs d e) (ne_eqb j i (λ k. omega arith))
    go false e ih = rw (zero-first j c cs d e) ih

module _ (i : ℕ) (c : ℤ) (cs : List ℤ) (d : ℤ) where
  coefficients-more : coefficients (length cs) (suc i) (terms_of (suc i) cs d) ≡ cs → (b : Bool) → nonzero c ≡ b → coefficients (suc (length cs)) i (terms_of i (c ∷ cs) d) ≡ c ∷ cs
  coefficients-more ih true e = rw (some_first i c cs d e, eq-eqb i i refl) (ap₂ (λ (x : ℤ) (xs : List ℤ). x ∷ xs) (number_is c) ih)
  coefficients-more ih false e =
      rw (zero-first i c cs d e, not-before i (suc i) cs d (omega arith)) (ap₂ (λ (x : ℤ) (xs : List ℤ). x ∷ xs) (sym (zero_or c e)) ih)

coefficients-back : (i : ℕ) (cs : List ℤ) (d : ℤ) → coefficients (length cs) i (terms_of i cs d) ≡ cs
coefficients-back i [] d = refl
coefficients-back i (c ∷ cs) d = coefficients-more i c cs d (coefficients-back (suc i) cs d) (nonzero c) refl

ending-back : (i : ℕ) (cs : List ℤ) (d : ℤ) → ending (terms_of i cs d) ≡ d
unfolding terms_of
ending-back i [] d = number_is d
ending-back i (c ∷ cs) d = go (nonzero c) refl (ending-back (suc i) cs d)
  where
    go : (b : Bool) → nonzero c ≡ b → ending (terms_of (suc i) cs d) ≡ d → ending (terms_of i (c ∷ cs) d) ≡ d
    go true e ih = rw (some_first i c cs d e) ih
    go false e ih = rw (zero-first i c cs d e) ih

-- a term as a sum, and whether it is a remainder
abbrev to_terms : Term → Terms
to_terms (numeral n) = final (numeral n)
to_terms (register i) = final (register i)
to_terms (minus t) = final (minus t)
to_terms (times s t) = final (times s t)
to_terms (modulo t n) = final (modulo t n)
to_terms (plus ts) = ts

abbrev is_modulo : Term → Bool
is_modulo (numeral n) = false
is_modulo (register i) = false
is_modulo (minus t) = false
is_modulo (times s t) = false
is_modulo (modulo t n) = true
is_modulo (plus ts) = false

record Sum (ts : Terms) : Type 0 where
  sum_of : to_terms (summed ts) ≡ ts
  no-modulo : is_modulo (summed ts) ≡ false

sum_number : (d : ℤ) → Sum (final (integer d))
unfolding integer summed
sum_number (pos n) = record { sum_of = refl; no-modulo = refl }
sum_number (negsuc n) = record { sum_of = refl; no-modulo = refl }

sum-also : (t : Term) (ts : Terms) → Sum (also t ts)
unfolding summed
sum-also t ts = record { sum_of = refl; no-modulo = refl }

summands-sum : (i : ℕ) (cs : List ℤ) (d : ℤ) → Sum (terms_of i cs d)
unfolding terms_of
summands-sum i [] d = sum_number d
summands-sum i (c ∷ cs) d = go (nonzero c) refl (summands-sum (suc i) cs d)
  where
    go : (b : Bool) → nonzero c ≡ b → Sum (terms_of (suc i) cs d) → Sum (terms_of i (c ∷ cs) d)
    go true e ih = rw (some_first i c cs d e) (sum-also (times (integer c) (register i)) (terms_of (suc i) cs d))
    go false e ih = rw (zero-first i c cs d e) ih

abbrev to_form : ℕ → Term → Form
to_form K t = record { coeffs = coefficients K 0 (to_terms t); d = ending (to_terms t) }

form-back : (K : ℕ) (t : Form) → length t.coeffs ≡ K → to_form K (term_of t) ≡ t
unfolding term_of
form-back K t l =
    let cs : coefficients K 0 (terms_of 0 t.coeffs t.d) ≡ t.coeffs = ap (λ (n : ℕ). coefficients n 0 (terms_of 0 t.coeffs t.d)) (sym l) ∙ coefficients-back 0 t.coeffs t.d in
    let as-form : Terms → Form = λ ts. record { coeffs = coefficients K 0 ts; d = ending ts } in
    ap as-form (summands-sum 0 t.coeffs t.d).sum_of
    ∙ ap₂ (λ (xs : List ℤ) (x : ℤ). let f : Form = record { coeffs = xs; d = x } in f) cs (ending-back 0 t.coeffs t.d)

-- ---- formulas
abbrev stride : Term → ℕ
stride (numeral n) = 0
stride (register i) = 0
stride (minus t) = 0
stride (times s t) = 0
stride (modulo t n) = n
stride (plus ts) = 0

abbrev divided : Term → Term
divided (numeral n) = numeral n
divided (register i) = register i
divided (minus t) = minus t
divided (times s t) = times s t
divided (modulo t n) = t
divided (plus ts) = plus ts

abbrev to_formula : ℕ → Prop → Formula
to_formula K (at_most s t) = literal ≤0 (to_form K s)
to_formula K (equals s t) = cond (is_modulo s) (stride s divides to_form K (divided s)) (literal =0 (to_form K s))
to_formula K (conj p q) = to_formula K p and to_formula K q
to_formula K (disj p q) = to_formula K p or to_formula K q

term-no-modulo : (t : Form) → is_modulo (term_of t) ≡ false
unfolding term_of
term-no-modulo t = (summands-sum 0 t.coeffs t.d).no-modulo

formula-back : (K : ℕ) (I : Formula) → OverConstants K I → to_formula K (smt I) ≡ I
unfolding smt
formula-back K (literal ≤0 t) h = ap (literal ≤0) (form-back K t h)
formula-back K (literal =0 t) h = rw (term-no-modulo t) (ap (literal =0) (form-back K t h))
formula-back K (g divides t) h = ap (λ (u : Form). g divides u) (form-back K t h.1)
formula-back K (I and J) h = ap₂ ◌and◌ (formula-back K I h.0) (formula-back K J h.1)
formula-back K (I or J) h = ap₂ ◌or◌ (formula-back K I h.0) (formula-back K J h.1)

pub kept : (K : ℕ) (I J : Formula) → OverConstants K I → OverConstants K J → prop_text (smt I) ≡ prop_text (smt J) → I ≡ J
kept K I J h k e =
    let p : some (smt I) ≡ some (smt J) = sym (unique (smt I)) ∙ ap parse_prop e ∙ unique (smt J) in
    let q : smt I ≡ smt J = cc in
    sym (formula-back K I h) ∙ ap (to_formula K) q ∙ formula-back K J k
