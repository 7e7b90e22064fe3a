-- A formula back from its wording, where the number of constants is known. Assumes nothing.
use mathlib.Core.Path.{◌≡◌, refl, sym, ap, ap₂, ◌∙◌}
use mathlib.Core.Bool.{Bool, true, false, cond}
use mathlib.Core.List.{List, [], ◌∷◌}
use mathlib.Core.Option.{some}
use Prim.Native.Nat.{ℕ, zero, suc, ◌<◌}
use native.Mathlib.Omega.{arith}
use lib.Dec.{eqb}
use lib.IntN.{ℤ, pos}
use lib.ListN.{length}
use borrow.Author.Tests.{eq-eqb, ne_eqb}
use Rattle.forms.specs.Forms.{Form, nonzero, ≤0, =0, Formula, literal, ◌divides◌, ◌and◌, ◌or◌}
use Rattle.printing.specs.Words.{Summand, scaled, plain, Sum, Wording, at_most0, equal0, multiple, both_of, either_of, unless_none, summands_of, as_sum, sum_of, worded}
use Rattle.printing.specs.WordsText.{wording_text}
use Rattle.printing.specs.WordsReading.{parse_wording}
use Rattle.printing.specs.OneReading.{OverConstants}
use Rattle.printing.proofs.Meaning.{zero_or}
use Rattle.printing.proofs.WordsUnique.{words_unique}

-- ---- forms
abbrev starts : List Summand → ℕ → Bool
starts [] i = false
starts (scaled c j ∷ xs) i = eqb j i
starts (plain d ∷ xs) i = false

abbrev first : List Summand → ℤ
first [] = pos 0
first (scaled c j ∷ xs) = c
first (plain d ∷ xs) = pos 0

abbrev others : List Summand → List Summand
others [] = []
others (x ∷ xs) = xs

-- n coefficients, of r_i and those after it, and the constant term
abbrev coefficients : (n i : ℕ) → List Summand → List ℤ
coefficients zero i xs = []
coefficients (suc n) i xs = cond (starts xs i) (first xs) (pos 0) ∷ coefficients n (suc i) (cond (starts xs i) (others xs) xs)

abbrev constant : List Summand → ℤ
constant [] = pos 0
constant (scaled c j ∷ xs) = constant xs
constant (plain d ∷ xs) = d

zero-item : (i : ℕ) (c : ℤ) (cs : List ℤ) (d : ℤ) → nonzero c ≡ false → summands_of i (c ∷ cs) d ≡ summands_of (suc i) cs d
unfolding summands_of unless_none
zero-item i c cs d e = rw e

some_item : (i : ℕ) (c : ℤ) (cs : List ℤ) (d : ℤ) → nonzero c ≡ true → summands_of i (c ∷ cs) d ≡ scaled c i ∷ summands_of (suc i) cs d
unfolding summands_of unless_none
some_item i c cs d e = rw e

end-starts : (d : ℤ) (i : ℕ) (b : Bool) → starts (unless_none b (plain d) []) i ≡ false
unfolding unless_none
end-starts d i true = refl
end-starts d i false = refl

end-constant : (d : ℤ) (b : Bool) → nonzero d ≡ b → constant (unless_none b (plain d) []) ≡ d
unfolding unless_none
end-constant d true e = refl
end-constant d false e = sym (zero_or d e)

not-before : (i j : ℕ) (cs : List ℤ) (d : ℤ) → i < j → starts (summands_of j cs d) i ≡ false
unfolding summands_of
not-before i j [] d h = end-starts d i (nonzero d)
not-before i j (c ∷ cs) d h = go (nonzero c) refl (not-before i (suc j) cs d (omega arith))
  where
    go : (b : Bool) → nonzero c ≡ b → starts (summands_of (suc j) cs d) i ≡ false → starts (summands_of j (c ∷ cs) d) i ≡ false
    go true e ih = rw (some_item j c cs d e) (ne_eqb j i (λ k. omega arith))
    go false e ih = rw (zero-item j c cs d e) ih

module _ (i : ℕ) (c : ℤ) (cs : List ℤ) (d : ℤ) where
  coefficients-more : coefficients (length cs) (suc i) (summands_of (suc i) cs d) ≡ cs → (b : Bool) → nonzero c ≡ b → coefficients (suc (length cs)) i (summands_of i (c ∷ cs) d) ≡ c ∷ cs
  coefficients-more ih true e = rw (some_item i c cs d e, eq-eqb i i refl) (ap (λ (xs : List ℤ). c ∷ xs) ih)
  coefficients-more ih false e =
      rw (zero-item i c cs d e, not-before i (suc i) cs d (omega arith)) (ap₂ (λ (x : ℤ) (xs : List ℤ). x ∷ xs) (sym (zero_or c e)) ih)

coefficients-back : (i : ℕ) (cs : List ℤ) (d : ℤ) → coefficients (length cs) i (summands_of i cs d) ≡ cs
coefficients-back i [] d = refl
coefficients-back i (c ∷ cs) d = coefficients-more i c cs d (coefficients-back (suc i) cs d) (nonzero c) refl

constant-back : (i : ℕ) (cs : List ℤ) (d : ℤ) → constant (summands_of i cs d) ≡ d
unfolding summands_of
constant-back i [] d = end-constant d (nonzero d) refl
constant-back i (c ∷ cs) d = go (nonzero c) refl (constant-back (suc i) cs d)
  where
    go : (b : Bool) → nonzero c ≡ b → constant (summands_of (suc i) cs d) ≡ d → constant (summands_of i (c ∷ cs) d) ≡ d
    go true e ih = rw (some_item i c cs d e) ih
    go false e ih = rw (zero-item i c cs d e) ih

-- a line's items; the number 0 alone is none
abbrev to_items : Sum → List Summand
to_items l = l.first ∷ l.more

zero-alone : (n i : ℕ) → coefficients n i (plain (pos 0) ∷ []) ≡ coefficients n i []
zero-alone zero i = refl
zero-alone (suc n) i = ap (λ (xs : List ℤ). pos 0 ∷ xs) (zero-alone n (suc i))

line-coefficients : (n i : ℕ) (xs : List Summand) → coefficients n i (to_items (as_sum xs)) ≡ coefficients n i xs
line-coefficients n i [] = zero-alone n i
line-coefficients n i (x ∷ xs) = refl

line-constant : (xs : List Summand) → constant (to_items (as_sum xs)) ≡ constant xs
line-constant [] = refl
line-constant (x ∷ xs) = refl

abbrev to_form : ℕ → Sum → Form
to_form K l = record { coeffs = coefficients K 0 (to_items l); d = constant (to_items l) }

form-back : (K : ℕ) (t : Form) → length t.coeffs ≡ K → to_form K (sum_of t) ≡ t
unfolding sum_of
form-back K t l =
    let xs = summands_of 0 t.coeffs t.d in
    let cs : coefficients K 0 (to_items (as_sum xs)) ≡ t.coeffs
    = line-coefficients K 0 xs ∙ ap (λ (n : ℕ). coefficients n 0 xs) (sym l) ∙ coefficients-back 0 t.coeffs t.d in
    ap₂ (λ (ys : List ℤ) (y : ℤ). let f : Form = record { coeffs = ys; d = y } in f) cs (line-constant xs ∙ constant-back 0 t.coeffs t.d)

-- ---- formulas
abbrev to_formula : ℕ → Wording → Formula
to_formula K (at_most0 l) = literal ≤0 (to_form K l)
to_formula K (equal0 l) = literal =0 (to_form K l)
to_formula K (multiple g l) = g divides to_form K l
to_formula K (both_of p q) = to_formula K p and to_formula K q
to_formula K (either_of p q) = to_formula K p or to_formula K q

formula-back : (K : ℕ) (I : Formula) → OverConstants K I → to_formula K (worded I) ≡ I
unfolding worded
formula-back K (literal ≤0 t) h = ap (literal ≤0) (form-back K t h)
formula-back K (literal =0 t) h = ap (literal =0) (form-back K t h)
formula-back K (g divides t) h = ap (λ (u : Form). g divides u) (form-back K t h.1)
formula-back K (I and J) h = ap₂ ◌and◌ (formula-back K I h.0) (formula-back K J h.1)
formula-back K (I or J) h = ap₂ ◌or◌ (formula-back K I h.0) (formula-back K J h.1)

pub words_kept : (K : ℕ) (I J : Formula) → OverConstants K I → OverConstants K J → wording_text (worded I) ≡ wording_text (worded J) → I ≡ J
words_kept K I J h k e =
    let p : some (worded I) ≡ some (worded J) = sym (words_unique (worded I)) ∙ ap parse_wording e ∙ words_unique (worded J) in
    let q : worded I ≡ worded J = cc in
    sym (formula-back K I h) ∙ ap (to_formula K) q ∙ formula-back K J k
