-- A text reads back as the proposition that it is the text of. Assumes nothing.
use mathlib.Core.Path.{◌≡◌, refl, sym, ap, ◌∙◌}
use mathlib.Core.Bool.{false}
use mathlib.Core.List.{List, [], ◌∷◌, ◌++◌, append_assoc, append-nil}
use mathlib.Core.Option.{some}
use Prim.Native.Nat.{ℕ, zero, suc, ◌+◌, ◌≤◌, ◌<◌}
use native.Mathlib.Omega.{arith}
use lib.ListN.{length, length-append}
use borrow.Author.Tests.{ne_eqb}
use Rattle.printing.specs.Smt.{Term, Terms, Prop, numeral, register, minus, times, modulo, plus, final, also, at_most, equals, conj, disj}
use Rattle.printing.specs.Text.{ascii, decimal, term_text, terms_text, prop_text}
use Rattle.printing.specs.Reading.{expect, digit, read_number, TextReader, read_one, read_two, mapped, read_term, read_terms, read_prop, to_end, parse_prop}
use Rattle.printing.proofs.Decimal.{Digits, starts, number-back}

-- how deep a term or a proposition is
abbrev mutual
  depth : Term → ℕ
  depth (numeral n) = 1
  depth (register i) = 1
  depth (minus t) = suc (depth t)
  depth (times s t) = suc (depth s + depth t)
  depth (modulo t n) = suc (depth t)
  depth (plus ts) = suc (depths ts)

  depths : Terms → ℕ
  depths (final t) = suc (depth t)
  depths (also t ts) = suc (depth t + depths ts)

abbrev height : Prop → ℕ
height (at_most s t) = suc (depth s + depth t)
height (equals s t) = suc (depth s + depth t)
height (conj p q) = suc (height p + height q)
height (disj p q) = suc (height p + height q)

-- ---- what stands where
pub one-laid : (a s e rest : List ℕ) → ((a ++ s) ++ e) ++ rest ≡ a ++ (s ++ (e ++ rest))
one-laid a s e rest = simp append_assoc

pub two-laid : (a s b t e rest : List ℕ) → ((((a ++ s) ++ b) ++ t) ++ e) ++ rest ≡ a ++ (s ++ (b ++ (t ++ (e ++ rest))))
two-laid a s b t e rest = simp append_assoc

one-back : {X Z : Type 0} (f : X → Z) (part : TextReader X) {x : X} {s rest : List ℕ} → part s ≡ some (x, 41 ∷ rest) → read_one f part s ≡ some (f x, rest)
unfolding read_one expect
one-back f part p = rw p

two_back : {X Y Z : Type 0} (f : X → Y → Z) (first : TextReader X) (second : TextReader Y) {x : X} {y : Y} {s t rest : List ℕ} → first s ≡ some (x, 32 ∷ t) → second t ≡ some (y, 41 ∷ rest)
    → read_two f first second s ≡ some (f x y, rest)
unfolding read_two expect
two_back f first second p q = rw (p, q)

mapped-back : {X Z : Type 0} {s : List ℕ} (f : X → Z) (read : TextReader X) {x : X} {rest : List ℕ} → read s ≡ some (x, rest) → mapped f read s ≡ some (f x, rest)
unfolding mapped
mapped-back f read p = rw p

-- ---- each kind of term, where its parts read back
digit-term : (f b : ℕ) (bs : List ℕ) → 48 ≤ b → b < 58 → read_term (suc f) (b ∷ bs) ≡ mapped numeral read_number (b ∷ bs)
unfolding read_term expect
digit-term f b bs h k = rw (ne_eqb 40 b (λ e. omega arith), ne_eqb 114 b (λ e. omega arith))

module _ (f c : ℕ) (rest : List ℕ) where
  numeral-back : (n : ℕ) → digit c ≡ false → read_term (suc f) (term_text (numeral n) ++ (c ∷ rest)) ≡ some (numeral n, c ∷ rest)
  unfolding term_text
  numeral-back n e =
      let d : Digits (decimal n) = starts n in
      let l : decimal n ++ (c ∷ rest) ≡ d.first ∷ (d.more ++ (c ∷ rest)) = rw d.is in
      ap (read_term (suc f)) l ∙ digit-term f d.first (d.more ++ (c ∷ rest)) d.low d.high
      ∙ ap (mapped numeral read_number) (sym l) ∙ mapped-back numeral read_number (number-back n c rest e)

  register-back : (i : ℕ) → digit c ≡ false → read_term (suc f) (term_text (register i) ++ (c ∷ rest)) ≡ some (register i, c ∷ rest)
  unfolding term_text read_term expect
  register-back i e = mapped-back {s = decimal i ++ (c ∷ rest)} register read_number (number-back i c rest e)

  minus-back : (t : Term) → read_term f (term_text t ++ (41 ∷ c ∷ rest)) ≡ some (t, 41 ∷ c ∷ rest) → read_term (suc f) (term_text (minus t) ++ (c ∷ rest)) ≡ some (minus t, c ∷ rest)
  unfolding term_text read_term expect
  minus-back t p = ap (read_term (suc f)) (one-laid (ascii "(- ") (term_text t) (ascii ")") (c ∷ rest)) ∙ one-back minus (read_term f) p

  times-back : (s t : Term) → read_term f (term_text s ++ (32 ∷ (term_text t ++ (41 ∷ c ∷ rest)))) ≡ some (s, 32 ∷ (term_text t ++ (41 ∷ c ∷ rest)))
      → read_term f (term_text t ++ (41 ∷ c ∷ rest)) ≡ some (t, 41 ∷ c ∷ rest) → read_term (suc f) (term_text (times s t) ++ (c ∷ rest)) ≡ some (times s t, c ∷ rest)
  unfolding term_text read_term expect
  times-back s t p q = ap (read_term (suc f)) (two-laid (ascii "(* ") (term_text s) (ascii " ") (term_text t) (ascii ")") (c ∷ rest)) ∙ two_back times (read_term f) (read_term f) p q

  modulo-back : (t : Term) (n : ℕ) → read_term f (term_text t ++ (32 ∷ (decimal n ++ (41 ∷ c ∷ rest)))) ≡ some (t, 32 ∷ (decimal n ++ (41 ∷ c ∷ rest)))
      → read_term (suc f) (term_text (modulo t n) ++ (c ∷ rest)) ≡ some (modulo t n, c ∷ rest)
  unfolding term_text read_term expect digit
  modulo-back t n p =
      ap (read_term (suc f)) (two-laid (ascii "(mod ") (term_text t) (ascii " ") (decimal n) (ascii ")") (c ∷ rest)) ∙ two_back modulo (read_term f) read_number p (number-back n 41 (c ∷ rest) refl)

  plus-back : (ts : Terms) → read_terms f (terms_text ts ++ (41 ∷ c ∷ rest)) ≡ some (ts, c ∷ rest) → read_term (suc f) (term_text (plus ts) ++ (c ∷ rest)) ≡ some (plus ts, c ∷ rest)
  unfolding term_text read_term expect
  plus-back ts p = ap (read_term (suc f)) (one-laid (ascii "(+") (terms_text ts) (ascii ")") (c ∷ rest)) ∙ mapped-back plus (read_terms f) p

-- what stands behind a term that is not the last
more-starts : (ts : Terms) (rest : List ℕ) → (l : List ℕ) × (terms_text ts ++ rest ≡ 32 ∷ l)
unfolding term_text
more-starts (final t) rest = (term_text t ++ rest, refl)
more-starts (also t ts) rest = ((term_text t ++ terms_text ts) ++ rest, refl)

module _ (f : ℕ) (rest : List ℕ) where
  last-back : (t : Term) → read_term f (term_text t ++ (41 ∷ rest)) ≡ some (t, 41 ∷ rest) → read_terms (suc f) (terms_text (final t) ++ (41 ∷ rest)) ≡ some (final t, rest)
  unfolding term_text read_term expect
  last-back t p = rw p

  also-read : (t : Term) (ts : Terms) (s l : List ℕ) → read_term f s ≡ some (t, 32 ∷ l) → read_terms f (32 ∷ l) ≡ some (ts, rest) → read_terms (suc f) (32 ∷ s) ≡ some (also t ts, rest)
  unfolding read_term expect
  also-read t ts s l p q = rw p (mapped-back (also t) (read_terms f) q)

  also-back : (t : Term) (ts : Terms) → ((l : List ℕ) → read_term f (term_text t ++ (32 ∷ l)) ≡ some (t, 32 ∷ l)) → read_terms f (terms_text ts ++ (41 ∷ rest)) ≡ some (ts, rest)
      → read_terms (suc f) (terms_text (also t ts) ++ (41 ∷ rest)) ≡ some (also t ts, rest)
  unfolding term_text
  also-back t ts p q =
      let m = more-starts ts (41 ∷ rest) in
      let l : (term_text t ++ terms_text ts) ++ (41 ∷ rest) ≡ term_text t ++ (32 ∷ m.0) = append_assoc (term_text t) (terms_text ts) (41 ∷ rest) ∙ ap (λ (x : List ℕ). term_text t ++ x) m.1 in
      ap (λ (x : List ℕ). read_terms (suc f) (32 ∷ x)) l ∙ also-read t ts (term_text t ++ (32 ∷ m.0)) m.0 (p m.0) (ap (read_terms f) (sym m.1) ∙ q)

mutual
  unfolding digit

  term-back : (t : Term) (f c : ℕ) (rest : List ℕ) → depth t ≤ f → digit c ≡ false → read_term f (term_text t ++ (c ∷ rest)) ≡ some (t, c ∷ rest)
  term-back (numeral n) zero c rest h e = absurd (omega arith)
  term-back (numeral n) (suc f) c rest h e = numeral-back f c rest n e
  term-back (register i) zero c rest h e = absurd (omega arith)
  term-back (register i) (suc f) c rest h e = register-back f c rest i e
  term-back (minus t) zero c rest h e = absurd (omega arith)
  term-back (minus t) (suc f) c rest h e = minus-back f c rest t (term-back t f 41 (c ∷ rest) (omega arith) refl)
  term-back (times s t) zero c rest h e = absurd (omega arith)
  term-back (times s t) (suc f) c rest h e =
      times-back f c rest s t (term-back s f 32 (term_text t ++ (41 ∷ c ∷ rest)) (omega arith) refl) (term-back t f 41 (c ∷ rest) (omega arith) refl)
  term-back (modulo t n) zero c rest h e = absurd (omega arith)
  term-back (modulo t n) (suc f) c rest h e = modulo-back f c rest t n (term-back t f 32 (decimal n ++ (41 ∷ c ∷ rest)) (omega arith) refl)
  term-back (plus ts) zero c rest h e = absurd (omega arith)
  term-back (plus ts) (suc f) c rest h e = plus-back f c rest ts (terms-back ts f (c ∷ rest) (omega arith))

  terms-back : (ts : Terms) (f : ℕ) (rest : List ℕ) → depths ts ≤ f → read_terms f (terms_text ts ++ (41 ∷ rest)) ≡ some (ts, rest)
  terms-back (final t) zero rest h = absurd (omega arith)
  terms-back (final t) (suc f) rest h = last-back f rest t (term-back t f 41 rest (omega arith) refl)
  terms-back (also t ts) zero rest h = absurd (omega arith)
  terms-back (also t ts) (suc f) rest h = also-back f rest t ts (λ l. term-back t f 32 l (omega arith) refl) (terms-back ts f rest (omega arith))

-- ---- propositions
prop-back : (p : Prop) (f : ℕ) (rest : List ℕ) → height p ≤ f → read_prop f (prop_text p ++ rest) ≡ some (p, rest)
unfolding read_prop prop_text expect digit
prop-back (at_most s t) zero rest h = absurd (omega arith)
prop-back (at_most s t) (suc f) rest h =
    ap (read_prop (suc f)) (two-laid (ascii "(<= ") (term_text s) (ascii " ") (term_text t) (ascii ")") rest)
    ∙ two_back at_most (read_term f) (read_term f) (term-back s f 32 (term_text t ++ (41 ∷ rest)) (omega arith) refl) (term-back t f 41 rest (omega arith) refl)
prop-back (equals s t) zero rest h = absurd (omega arith)
prop-back (equals s t) (suc f) rest h =
    ap (read_prop (suc f)) (two-laid (ascii "(= ") (term_text s) (ascii " ") (term_text t) (ascii ")") rest)
    ∙ two_back equals (read_term f) (read_term f) (term-back s f 32 (term_text t ++ (41 ∷ rest)) (omega arith) refl) (term-back t f 41 rest (omega arith) refl)
prop-back (conj p q) zero rest h = absurd (omega arith)
prop-back (conj p q) (suc f) rest h =
    ap (read_prop (suc f)) (two-laid (ascii "(and ") (prop_text p) (ascii " ") (prop_text q) (ascii ")") rest)
    ∙ two_back conj (read_prop f) (read_prop f) (prop-back p f (32 ∷ (prop_text q ++ (41 ∷ rest))) (omega arith)) (prop-back q f (41 ∷ rest) (omega arith))
prop-back (disj p q) zero rest h = absurd (omega arith)
prop-back (disj p q) (suc f) rest h =
    ap (read_prop (suc f)) (two-laid (ascii "(or ") (prop_text p) (ascii " ") (prop_text q) (ascii ")") rest)
    ∙ two_back disj (read_prop f) (read_prop f) (prop-back p f (32 ∷ (prop_text q ++ (41 ∷ rest))) (omega arith)) (prop-back q f (41 ∷ rest) (omega arith))

-- ---- the text is long enough
one-long : (a s e : List ℕ) → length ((a ++ s) ++ e) ≡ length a + length s + length e
one-long a s e = simp length-append

two-long : (a s b t e : List ℕ) → length ((((a ++ s) ++ b) ++ t) ++ e) ≡ length a + length s + length b + length t + length e
two-long a s b t e = simp length-append

decimal-some : (n : ℕ) → 1 ≤ length (decimal n)
decimal-some n = let d : Digits (decimal n) = starts n in rw d.is (omega arith)

mutual
  unfolding term_text

  term-deep : (t : Term) → depth t ≤ length (term_text t)
  term-deep (numeral n) = decimal-some n
  term-deep (register i) = omega arith
  term-deep (minus t) = omega (arith, one-long (ascii "(- ") (term_text t) (ascii ")"), term-deep t)
  term-deep (times s t) = omega (arith, two-long (ascii "(* ") (term_text s) (ascii " ") (term_text t) (ascii ")"), term-deep s, term-deep t)
  term-deep (modulo t n) = omega (arith, two-long (ascii "(mod ") (term_text t) (ascii " ") (decimal n) (ascii ")"), term-deep t)
  term-deep (plus ts) = omega (arith, one-long (ascii "(+") (terms_text ts) (ascii ")"), terms-deep ts)

  terms-deep : (ts : Terms) → depths ts ≤ length (terms_text ts)
  terms-deep (final t) = omega (arith, length-append (ascii " ") (term_text t), term-deep t)
  terms-deep (also t ts) = omega (arith, length-append (ascii " ") (term_text t), length-append (ascii " " ++ term_text t) (terms_text ts), term-deep t, terms-deep ts)

prop-deep : (p : Prop) → height p ≤ length (prop_text p)
unfolding prop_text
prop-deep (at_most s t) = omega (arith, two-long (ascii "(<= ") (term_text s) (ascii " ") (term_text t) (ascii ")"), term-deep s, term-deep t)
prop-deep (equals s t) = omega (arith, two-long (ascii "(= ") (term_text s) (ascii " ") (term_text t) (ascii ")"), term-deep s, term-deep t)
prop-deep (conj p q) = omega (arith, two-long (ascii "(and ") (prop_text p) (ascii " ") (prop_text q) (ascii ")"), prop-deep p, prop-deep q)
prop-deep (disj p q) = omega (arith, two-long (ascii "(or ") (prop_text p) (ascii " ") (prop_text q) (ascii ")"), prop-deep p, prop-deep q)

pub unique : (p : Prop) → parse_prop (prop_text p) ≡ some p
unfolding parse_prop to_end
unique p = rw (ap (read_prop (length (prop_text p))) (sym (append-nil (prop_text p))) ∙ prop-back p (length (prop_text p)) [] (prop-deep p))
