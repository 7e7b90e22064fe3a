-- How a text is read as a proposition. Assumes nothing.
use Rattle.std.specs.Prelude.{ℕ, zero, suc, ◌+◌, ◌*◌, ◌-◌, Bool, cond, ◌&&◌, List, [], ◌∷◌, eqb, leb, length}
use Rattle.std.proofs.Math.Option.{Option, none, some}
use Rattle.printing.specs.Smt.{Term, Terms, Prop, numeral, register, minus, times, modulo, plus, final, also, at_most, equals, conj, disj}
use Rattle.printing.specs.Text.{ascii, whether}

infixl 1 ◌>>=◌
abbrev pub ◌>>=◌ : {X Y : Type 0} → Option X → (X → Option Y) → Option Y
none >>= f = none
some x >>= f = f x

-- The one where there is something, the other where not.
abbrev pub if_some : {X Y : Type 0} → Option X → (X → Y) → (Unit {0} → Y) → Y
if_some (some x) f g = f x
if_some none f g = g tt

-- What stands behind a text that must come first.
unfoldable pub expect : List ℕ → List ℕ → Option (List ℕ)
expect [] bs = some bs
expect (p ∷ ps) [] = none
expect (p ∷ ps) (b ∷ bs) = cond (eqb p b) (expect ps bs) none

-- Digits, one at least, and what stands behind them; n is the number of those before.
unfoldable pub digit : ℕ → Bool
digit b = leb 48 b && leb b 57

unfoldable pub digits_from : (n : ℕ) → List ℕ → ℕ × List ℕ
unfolding digit
digits_from n [] = (n, [])
digits_from n (b ∷ bs) = whether (digit b) (λ _. digits_from (n * 10 + (b - 48)) bs) (λ _. (n, b ∷ bs))

-- (No zero stands in front: 07 is no numeral of SMT-LIB, and r07 another constant than r7.)
unfoldable pub read_number : List ℕ → Option (ℕ × List ℕ)
unfolding digits_from digit
read_number [] = none
read_number (b ∷ bs) = whether (eqb b 48) (λ _. some (0, bs)) (λ _. cond (digit b) (some (digits_from 0 (b ∷ bs))) none)

-- A reader gives what stands at the front of a text, and the text behind it.
abbrev pub TextReader : Type 0 → Type 0
TextReader X = List ℕ → Option (X × List ℕ)

-- One thing and the end, two with a space between them and the end, after their operator.
unfoldable pub read_one : {X Z : Type 0} → (X → Z) → TextReader X → TextReader Z
unfolding expect
read_one f part bs = do
  (x, bs1) ← part bs
  bs2 ← expect (ascii ")") bs1
  some (f x, bs2)

unfoldable pub read_two : {X Y Z : Type 0} → (X → Y → Z) → TextReader X → TextReader Y → TextReader Z
unfolding expect
read_two f first second bs = do
  (x, bs1) ← first bs
  bs2 ← expect (ascii " ") bs1
  (y, bs3) ← second bs2
  bs4 ← expect (ascii ")") bs3
  some (f x y, bs4)

-- What is read, made into something else.
unfoldable pub mapped : {X Z : Type 0} → (X → Z) → TextReader X → TextReader Z
mapped f read bs = do
  (x, bs1) ← read bs
  some (f x, bs1)

-- (`fuel` bounds the levels; a text has no more than one for each byte.)
unfoldable mutual
  unfolding expect read_number read_one read_two mapped

  pub read_term : (fuel : ℕ) → TextReader Term
  read_term zero bs = none
  read_term (suc fuel) bs =
      if_some (expect (ascii "(+") bs) (λ rest. mapped plus (λ bs. read_terms fuel bs) rest) λ _.
      if_some (expect (ascii "(- ") bs) (λ rest. read_one minus (λ bs. read_term fuel bs) rest) λ _.
      if_some (expect (ascii "(* ") bs) (λ rest. read_two times (λ bs. read_term fuel bs) (λ bs. read_term fuel bs) rest) λ _.
      if_some (expect (ascii "(mod ") bs) (λ rest. read_two modulo (λ bs. read_term fuel bs) read_number rest) λ _.
      if_some (expect (ascii "r") bs) (λ rest. mapped register read_number rest) λ _.
      mapped numeral read_number bs

  -- terms, each behind a space, and the end
  pub read_terms : (fuel : ℕ) → TextReader Terms
  read_terms zero bs = none
  read_terms (suc fuel) bs = do
    bs1 ← expect (ascii " ") bs
    (t, bs2) ← read_term fuel bs1
    if_some (expect (ascii ")") bs2) (λ rest. some (final t, rest)) λ _. mapped (also t) (λ bs. read_terms fuel bs) bs2

unfoldable pub read_prop : (fuel : ℕ) → TextReader Prop
unfolding expect read_two read_term
read_prop zero bs = none
read_prop (suc fuel) bs =
    if_some (expect (ascii "(<= ") bs) (λ rest. read_two at_most (read_term fuel) (read_term fuel) rest) λ _.
    if_some (expect (ascii "(= ") bs) (λ rest. read_two equals (read_term fuel) (read_term fuel) rest) λ _.
    if_some (expect (ascii "(and ") bs) (λ rest. read_two conj (read_prop fuel) (read_prop fuel) rest) λ _.
    if_some (expect (ascii "(or ") bs) (λ rest. read_two disj (read_prop fuel) (read_prop fuel) rest) λ _.
    none

-- The whole text is one proposition.
unfoldable pub to_end : Option (Prop × List ℕ) → Option Prop
to_end none = none
to_end (some (p, [])) = some p
to_end (some (p, b ∷ bs)) = none

unfoldable pub parse_prop : List ℕ → Option Prop
unfolding to_end read_prop
parse_prop bs = to_end (read_prop (length bs) bs)
