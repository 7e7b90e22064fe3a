-- A text in words reads back as the wording that it is the text of. Assumes nothing.
use mathlib.Core.Path.{◌≡◌, refl, sym, ap, ◌∙◌}
use mathlib.Core.Bool.{Bool, true, false}
use mathlib.Core.List.{List, [], ◌∷◌, ◌++◌, append_assoc, append-nil}
use mathlib.Core.Option.{none, some}
use Prim.Native.Nat.{ℕ, zero, suc, ◌+◌, ◌≤◌, ◌<◌}
use native.Mathlib.Omega.{arith}
use lib.IntN.{ℤ, pos, negsuc}
use lib.ListN.{length, length-append}
use borrow.Author.Tests.{ne_eqb}
use Rattle.printing.specs.Text.{ascii, decimal}
use Rattle.printing.specs.Reading.{if_some, expect, digit, read_number, TextReader}
use Rattle.printing.specs.Words.{Summand, scaled, plain, Sum, Wording, at_most0, equal0, multiple, both_of, either_of}
use Rattle.printing.specs.WordsText.{sign_text, size_text, summand_text, summands_text, sum_text, wording_text, part_text}
use Rattle.printing.specs.WordsReading.{minus_of, read_summand, read_summands, read_sum, read_said, read_stride, read_atom, read_pair, read_part, wording_to_end, parse_wording}
use Rattle.printing.proofs.Decimal.{Digits, starts, starts_digit, number-ends}

-- What may stand behind an item, and behind a line.
record Behind (rest : List ℕ) : Type 0 where
  no_digit : starts_digit rest ≡ false
  no-star : expect (ascii "*r") rest ≡ none

record Stops (rest : List ℕ) : Type 0 where
  behind : Behind rest
  no_plus : expect (ascii " + ") rest ≡ none
  no_minus : expect (ascii " - ") rest ≡ none

-- ---- one item
laid : (a b c d : List ℕ) → ((a ++ b) ++ c) ++ d ≡ a ++ (b ++ (c ++ d))
laid a b c d = simp append_assoc

read-scaled : (sign : ℕ → ℤ) (n i : ℕ) (rest : List ℕ) → Behind rest → read_summand sign (decimal n ++ (42 ∷ 114 ∷ (decimal i ++ rest))) ≡ some (scaled (sign n) i, rest)
unfolding read_summand expect digit
read-scaled sign n i rest h = rw (number-ends n (42 ∷ 114 ∷ (decimal i ++ rest)) refl, number-ends i rest h.no_digit)

read-alone : (sign : ℕ → ℤ) (n : ℕ) (rest : List ℕ) → Behind rest → read_summand sign (decimal n ++ rest) ≡ some (plain (sign n), rest)
unfolding read_summand
read-alone sign n rest h = rw (number-ends n rest h.no_digit, h.no-star)

-- an item's text behind its sign
abbrev body : Summand → List ℕ
body (scaled c i) = size_text c ++ ascii "*r" ++ decimal i
body (plain d) = size_text d

abbrev sign_of : ℤ → ℕ → ℤ
sign_of (pos n) = pos
sign_of (negsuc n) = minus_of

abbrev number : Summand → ℤ
number (scaled c i) = c
number (plain d) = d

read-body : (x : Summand) (rest : List ℕ) → Behind rest → read_summand (sign_of (number x)) (body x ++ rest) ≡ some (x, rest)
read-body (scaled (pos n) i) rest h = rw (laid (decimal n) (ascii "*r") (decimal i) rest) (read-scaled pos n i rest h)
read-body (scaled (negsuc n) i) rest h = rw (laid (decimal (suc n)) (ascii "*r") (decimal i) rest) (read-scaled minus_of (suc n) i rest h)
read-body (plain (pos n)) rest h = read-alone pos n rest h
read-body (plain (negsuc n)) rest h = read-alone minus_of (suc n) rest h

regroup : (a b c d : List ℕ) → ((a ++ b) ++ c) ++ d ≡ a ++ ((b ++ c) ++ d)
regroup a b c d = simp append_assoc

text-body : (front : Bool) (x : Summand) → summand_text front x ≡ sign_text front (number x) ++ body x
unfolding summand_text
text-body front (scaled c i) = regroup (sign_text front c) (size_text c) (ascii "*r") (decimal i)
text-body front (plain d) = refl

-- ---- items
-- an item that is not the first starts with its sign
item-laid : (x : Summand) (rest : List ℕ) → summand_text false x ++ rest ≡ sign_text false (number x) ++ (body x ++ rest)
item-laid x rest = ap (λ (l : List ℕ). l ++ rest) (text-body false x) ∙ append_assoc (sign_text false (number x)) (body x) rest

sign-behind : (z : ℤ) (l : List ℕ) → Behind (sign_text false z ++ l)
unfolding expect digit
sign-behind (pos n) l = record { no_digit = refl; no-star = refl }
sign-behind (negsuc n) l = record { no_digit = refl; no-star = refl }

items-laid : (x : Summand) (xs : List Summand) (rest : List ℕ) → summands_text (x ∷ xs) ++ rest ≡ sign_text false (number x) ++ (body x ++ (summands_text xs ++ rest))
unfolding summands_text
items-laid x xs rest = append_assoc (summand_text false x) (summands_text xs) rest ∙ item-laid x (summands_text xs ++ rest)

items-behind : (xs : List Summand) (rest : List ℕ) → Behind rest → Behind (summands_text xs ++ rest)
unfolding summands_text
items-behind [] rest h = h
items-behind (x ∷ xs) rest h = rw (items-laid x xs rest) (sign-behind (number x) (body x ++ (summands_text xs ++ rest)))

-- one more item, by its sign
read_more : (f : ℕ) (z : ℤ) (x : Summand) (xs : List Summand) (l m rest : List ℕ) → read_summand (sign_of z) l ≡ some (x, m) → read_summands f m ≡ some (xs, rest)
    → read_summands (suc f) (sign_text false z ++ l) ≡ some (x ∷ xs, rest)
unfolding read_summands expect
read_more f (pos n) x xs l m rest p q = rw (p, q)
read_more f (negsuc n) x xs l m rest p q = rw (p, q)

items_back : (xs : List Summand) (f : ℕ) (rest : List ℕ) → length xs ≤ f → Stops rest → read_summands f (summands_text xs ++ rest) ≡ some (xs, rest)
unfolding read_summands summands_text
items_back [] zero rest h s = refl
items_back [] (suc f) rest h s = rw (s.no_plus, s.no_minus)
items_back (x ∷ xs) zero rest h s = absurd (omega arith)
items_back (x ∷ xs) (suc f) rest h s =
    ap (read_summands (suc f)) (items-laid x xs rest)
    ∙ read_more f (number x) x xs (body x ++ (summands_text xs ++ rest)) (summands_text xs ++ rest) rest (read-body x (summands_text xs ++ rest) (items-behind xs rest s.behind))
    (items_back xs f rest (omega arith) s)

-- ---- lines
sign-some : (z : ℤ) → 1 ≤ length (sign_text false z)
sign-some (pos n) = omega arith
sign-some (negsuc n) = omega arith

items-long : (xs : List Summand) → length xs ≤ length (summands_text xs)
unfolding summands_text
items-long [] = omega arith
items-long (x ∷ xs) =
    omega (arith, length-append (summand_text false x) (summands_text xs), items-long xs, ap length (text-body false x), length-append (sign_text false (number x)) (body x), sign-some (number x))

-- behind its sign an item starts with a digit
digits-front : (n : ℕ) (l : List ℕ) → Digits (decimal n ++ l)
digits-front n l = let d : Digits (decimal n) = starts n in record { first = d.first; more = d.more ++ l; is = rw d.is; low = d.low; high = d.high }

body-digit : (x : Summand) (l : List ℕ) → Digits (body x ++ l)
body-digit (scaled (pos n) i) l = rw (laid (decimal n) (ascii "*r") (decimal i) l) (digits-front n (ascii "*r" ++ (decimal i ++ l)))
body-digit (scaled (negsuc n) i) l = rw (laid (decimal (suc n)) (ascii "*r") (decimal i) l) (digits-front (suc n) (ascii "*r" ++ (decimal i ++ l)))
body-digit (plain (pos n)) l = digits-front n l
body-digit (plain (negsuc n)) l = digits-front (suc n) l

not_first : (c : ℕ) (l : List ℕ) → c < 48 → Digits l → expect (c ∷ []) l ≡ none
unfolding expect
not_first c l h d = rw (d.is, ne_eqb c d.first (λ e. omega (arith, d.low)))

front-back : (z : ℤ) (x : Summand) (l m : List ℕ) → Digits l → read_summand (sign_of z) l ≡ some (x, m)
    → if_some (expect (ascii "-") (sign_text true z ++ l)) (λ rest. read_summand minus_of rest) (λ _. read_summand pos (sign_text true z ++ l)) ≡ some (x, m)
unfolding expect
front-back (pos n) x l m d p = rw (not_first 45 l (omega arith) d) p
front-back (negsuc n) x l m d p = p

line-laid : (l : Sum) (rest : List ℕ) → sum_text l ++ rest ≡ sign_text true (number l.first) ++ (body l.first ++ (summands_text l.more ++ rest))
unfolding sum_text
line-laid l rest = ap (λ (t : List ℕ). (t ++ summands_text l.more) ++ rest) (text-body true l.first) ∙ laid (sign_text true (number l.first)) (body l.first) (summands_text l.more) rest

line-back : (l : Sum) (rest : List ℕ) → Stops rest → read_sum (sum_text l ++ rest) ≡ some (l, rest)
unfolding read_sum
line-back l rest s =
    let m = summands_text l.more ++ rest in
    let p = front-back (number l.first) l.first (body l.first ++ m) m (body-digit l.first m) (read-body l.first m (items-behind l.more rest s.behind)) in
    let q = items_back l.more (length m) rest (omega (arith, length-append (summands_text l.more) rest, items-long l.more)) s in
    ap read_sum (line-laid l rest) ∙ rw (p, q)

-- ---- atoms
stops-at_most : (rest : List ℕ) → Stops (ascii " <= 0" ++ rest)
unfolding expect digit
stops-at_most rest = record { behind = record { no_digit = refl; no-star = refl }; no_plus = refl; no_minus = refl }

stops-equal : (rest : List ℕ) → Stops (ascii " = 0" ++ rest)
unfolding expect digit
stops-equal rest = record { behind = record { no_digit = refl; no-star = refl }; no_plus = refl; no_minus = refl }

said-at_most : (l : Sum) (rest : List ℕ) → read_said (sum_text l ++ (ascii " <= 0" ++ rest)) ≡ some (at_most0 l, rest)
unfolding read_said expect
said-at_most l rest = rw (line-back l (ascii " <= 0" ++ rest) (stops-at_most rest))

said-equal : (l : Sum) (rest : List ℕ) → read_said (sum_text l ++ (ascii " = 0" ++ rest)) ≡ some (equal0 l, rest)
unfolding read_said expect
said-equal l rest = rw (line-back l (ascii " = 0" ++ rest) (stops-equal rest))

-- a line is no stride part
sign-divides : (z : ℤ) (l : List ℕ) → expect (ascii " divides ") (sign_text false z ++ l) ≡ none
unfolding expect
sign-divides (pos n) l = refl
sign-divides (negsuc n) l = refl

items-divides : (xs : List Summand) (rest : List ℕ) → expect (ascii " divides ") rest ≡ none → expect (ascii " divides ") (summands_text xs ++ rest) ≡ none
unfolding summands_text
items-divides [] rest h = h
items-divides (x ∷ xs) rest h = rw (items-laid x xs rest) (sign-divides (number x) (body x ++ (summands_text xs ++ rest)))

by_number : (bs : List ℕ) (n : ℕ) (m : List ℕ) → read_number bs ≡ some (n, m) → expect (ascii " divides ") m ≡ none → read_atom bs ≡ read_said bs
unfolding read_atom read_stride
by_number bs n m p q = rw (p, q)

by-dash : (l : List ℕ) → read_atom (45 ∷ l) ≡ read_said (45 ∷ l)
unfolding read_atom read_number digit
by-dash l = refl

front-said : (x : Summand) (m : List ℕ) → Behind m → expect (ascii " divides ") m ≡ none → read_atom (sign_text true (number x) ++ (body x ++ m)) ≡ read_said (sign_text true (number x) ++ (body x ++ m))
unfolding expect digit
front-said (scaled (pos n) i) m h k =
    let e = laid (decimal n) (ascii "*r") (decimal i) m in
    by_number _ n (42 ∷ 114 ∷ (decimal i ++ m)) (ap read_number e ∙ number-ends n (42 ∷ 114 ∷ (decimal i ++ m)) refl) refl
front-said (scaled (negsuc n) i) m h k = by-dash _
front-said (plain (pos n)) m h k = by_number _ n m (number-ends n m h.no_digit) k
front-said (plain (negsuc n)) m h k = by-dash _

atom-said : (l : Sum) (rest : List ℕ) → Behind rest → expect (ascii " divides ") rest ≡ none → read_atom (sum_text l ++ rest) ≡ read_said (sum_text l ++ rest)
atom-said l rest h k =
    let m = summands_text l.more ++ rest in
    ap read_atom (line-laid l rest) ∙ front-said l.first m (items-behind l.more rest h) (items-divides l.more rest k) ∙ ap read_said (sym (line-laid l rest))

multiple-back : (g : ℕ) (l : Sum) (rest : List ℕ) → Stops rest → read_atom (decimal g ++ (ascii " divides " ++ (sum_text l ++ rest))) ≡ some (multiple g l, rest)
unfolding read_atom read_stride expect digit
multiple-back g l rest s = rw (number-ends g (ascii " divides " ++ (sum_text l ++ rest)) refl, line-back l rest s)

-- ---- parts
abbrev depth : Wording → ℕ
depth (at_most0 l) = 1
depth (equal0 l) = 1
depth (multiple g l) = 1
depth (both_of p q) = suc (depth p + depth q)
depth (either_of p q) = suc (depth p + depth q)

sign-no-paren : (z : ℤ) (l : List ℕ) → Digits l → expect (ascii "(") (sign_text true z ++ l) ≡ none
unfolding expect
sign-no-paren (pos n) l d = not_first 40 l (omega arith) d
sign-no-paren (negsuc n) l d = refl

line-no-paren : (l : Sum) (rest : List ℕ) → expect (ascii "(") (sum_text l ++ rest) ≡ none
line-no-paren l rest = rw (line-laid l rest) (sign-no-paren (number l.first) (body l.first ++ (summands_text l.more ++ rest)) (body-digit l.first (summands_text l.more ++ rest)))

by-atom : (f : ℕ) (bs : List ℕ) → expect (ascii "(") bs ≡ none → read_part (suc f) bs ≡ read_atom bs
unfolding read_part
by-atom f bs h = rw h

by-pair : (f : ℕ) (s rest : List ℕ) (w : Wording) → read_pair (read_part f) s ≡ some (w, 41 ∷ rest) → read_part (suc f) (40 ∷ s) ≡ some (w, rest)
unfolding read_part expect
by-pair f s rest w p = rw p

module _ (part : TextReader Wording) (p q : Wording) (s t rest : List ℕ) where
  pair-and : part s ≡ some (p, ascii " and " ++ t) → part t ≡ some (q, rest) → read_pair part s ≡ some (both_of p q, rest)
  unfolding read_pair expect
  pair-and h k = rw (h, k)

  pair_or : part s ≡ some (p, ascii " or " ++ t) → part t ≡ some (q, rest) → read_pair part s ≡ some (either_of p q, rest)
  unfolding read_pair expect
  pair_or h k = rw (h, k)

stops-and : (l : List ℕ) → Stops (ascii " and " ++ l)
unfolding expect digit
stops-and l = record { behind = record { no_digit = refl; no-star = refl }; no_plus = refl; no_minus = refl }

stops-or : (l : List ℕ) → Stops (ascii " or " ++ l)
unfolding expect digit
stops-or l = record { behind = record { no_digit = refl; no-star = refl }; no_plus = refl; no_minus = refl }

stops-close : (l : List ℕ) → Stops (41 ∷ l)
unfolding expect digit
stops-close l = record { behind = record { no_digit = refl; no-star = refl }; no_plus = refl; no_minus = refl }

stops_end : Stops []
unfolding expect
stops_end = record { behind = record { no_digit = refl; no-star = refl }; no_plus = refl; no_minus = refl }

module _ (f : ℕ) (rest : List ℕ) where
  at_most-back : (l : Sum) → read_part (suc f) ((sum_text l ++ ascii " <= 0") ++ rest) ≡ some (at_most0 l, rest)
  unfolding expect
  at_most-back l =
      ap (read_part (suc f)) (append_assoc (sum_text l) (ascii " <= 0") rest)
      ∙ by-atom f _ (line-no-paren l (ascii " <= 0" ++ rest))
      ∙ atom-said l (ascii " <= 0" ++ rest) (stops-at_most rest).behind refl
      ∙ said-at_most l rest

  equal-back : (l : Sum) → read_part (suc f) ((sum_text l ++ ascii " = 0") ++ rest) ≡ some (equal0 l, rest)
  unfolding expect
  equal-back l =
      ap (read_part (suc f)) (append_assoc (sum_text l) (ascii " = 0") rest)
      ∙ by-atom f _ (line-no-paren l (ascii " = 0" ++ rest))
      ∙ atom-said l (ascii " = 0" ++ rest) (stops-equal rest).behind refl
      ∙ said-equal l rest

  stride_back : (g : ℕ) (l : Sum) → Stops rest → read_part (suc f) (((decimal g ++ ascii " divides ") ++ sum_text l) ++ rest) ≡ some (multiple g l, rest)
  stride_back g l s =
      ap (read_part (suc f)) (laid (decimal g) (ascii " divides ") (sum_text l) rest)
      ∙ by-atom f _ (not_first 40 _ (omega arith) (digits-front g (ascii " divides " ++ (sum_text l ++ rest))))
      ∙ multiple-back g l rest s

-- a pair in its parentheses
closed : (a s b t e rest : List ℕ) → ((a ++ ((s ++ b) ++ t)) ++ e) ++ rest ≡ a ++ (s ++ (b ++ (t ++ (e ++ rest))))
closed a s b t e rest = simp append_assoc

part-back : (w : Wording) (f : ℕ) (rest : List ℕ) → depth w ≤ f → Stops rest → read_part f (part_text w ++ rest) ≡ some (w, rest)
unfolding part_text
part-back (at_most0 l) zero rest h s = absurd (omega arith)
part-back (at_most0 l) (suc f) rest h s = at_most-back f rest l
part-back (equal0 l) zero rest h s = absurd (omega arith)
part-back (equal0 l) (suc f) rest h s = equal-back f rest l
part-back (multiple g l) zero rest h s = absurd (omega arith)
part-back (multiple g l) (suc f) rest h s = stride_back f rest g l s
part-back (both_of p q) zero rest h s = absurd (omega arith)
part-back (both_of p q) (suc f) rest h s =
    ap (read_part (suc f)) (closed (ascii "(") (part_text p) (ascii " and ") (part_text q) (ascii ")") rest)
    ∙ by-pair f (part_text p ++ (ascii " and " ++ (part_text q ++ (41 ∷ rest)))) rest (both_of p q)
    (pair-and (read_part f) p q (part_text p ++ (ascii " and " ++ (part_text q ++ (41 ∷ rest)))) (part_text q ++ (41 ∷ rest)) (41 ∷ rest)
    (part-back p f (ascii " and " ++ (part_text q ++ (41 ∷ rest))) (omega arith) (stops-and (part_text q ++ (41 ∷ rest))))
    (part-back q f (41 ∷ rest) (omega arith) (stops-close rest)))
part-back (either_of p q) zero rest h s = absurd (omega arith)
part-back (either_of p q) (suc f) rest h s =
    ap (read_part (suc f)) (closed (ascii "(") (part_text p) (ascii " or ") (part_text q) (ascii ")") rest)
    ∙ by-pair f (part_text p ++ (ascii " or " ++ (part_text q ++ (41 ∷ rest)))) rest (either_of p q)
    (pair_or (read_part f) p q (part_text p ++ (ascii " or " ++ (part_text q ++ (41 ∷ rest)))) (part_text q ++ (41 ∷ rest)) (41 ∷ rest)
    (part-back p f (ascii " or " ++ (part_text q ++ (41 ∷ rest))) (omega arith) (stops-or (part_text q ++ (41 ∷ rest))))
    (part-back q f (41 ∷ rest) (omega arith) (stops-close rest)))

-- ---- the whole
part-ends : (w : Wording) (f : ℕ) → depth w ≤ f → read_part f (part_text w) ≡ some (w, [])
part-ends w f h = ap (read_part f) (sym (append-nil (part_text w))) ∙ part-back w f [] h stops_end

pair-alone : (part : TextReader Wording) (p : Wording) (s : List ℕ) → part s ≡ some (p, []) → read_pair part s ≡ some (p, [])
unfolding read_pair expect
pair-alone part p s h = rw h

words_back : (w : Wording) (f : ℕ) → depth w ≤ f → read_pair (read_part f) (wording_text w) ≡ some (w, [])
unfolding wording_text
words_back (at_most0 l) f h = pair-alone (read_part f) (at_most0 l) _ (part-ends (at_most0 l) f h)
words_back (equal0 l) f h = pair-alone (read_part f) (equal0 l) _ (part-ends (equal0 l) f h)
words_back (multiple g l) f h = pair-alone (read_part f) (multiple g l) _ (part-ends (multiple g l) f h)
words_back (both_of p q) f h =
    ap (read_pair (read_part f)) (append_assoc (part_text p) (ascii " and ") (part_text q))
    ∙ pair-and (read_part f) p q (part_text p ++ (ascii " and " ++ part_text q)) (part_text q) [] (part-back p f (ascii " and " ++ part_text q) (omega arith) (stops-and (part_text q)))
    (part-ends q f (omega arith))
words_back (either_of p q) f h =
    ap (read_pair (read_part f)) (append_assoc (part_text p) (ascii " or ") (part_text q))
    ∙ pair_or (read_part f) p q (part_text p ++ (ascii " or " ++ part_text q)) (part_text q) [] (part-back p f (ascii " or " ++ part_text q) (omega arith) (stops-or (part_text q)))
    (part-ends q f (omega arith))

-- the text is long enough
pair-long : (s b t : List ℕ) → length ((s ++ b) ++ t) ≡ length s + length b + length t
pair-long s b t = simp length-append

closed-long : (a s b t e : List ℕ) → length ((a ++ ((s ++ b) ++ t)) ++ e) ≡ length a + length s + length b + length t + length e
closed-long a s b t e = simp length-append (omega arith)

part-deep : (w : Wording) → depth w ≤ length (part_text w)
unfolding part_text
part-deep (at_most0 l) = omega (arith, length-append (sum_text l) (ascii " <= 0"))
part-deep (equal0 l) = omega (arith, length-append (sum_text l) (ascii " = 0"))
part-deep (multiple g l) = omega (arith, pair-long (decimal g) (ascii " divides ") (sum_text l))
part-deep (both_of p q) = omega (arith, closed-long (ascii "(") (part_text p) (ascii " and ") (part_text q) (ascii ")"), part-deep p, part-deep q)
part-deep (either_of p q) = omega (arith, closed-long (ascii "(") (part_text p) (ascii " or ") (part_text q) (ascii ")"), part-deep p, part-deep q)

words-deep : (w : Wording) → depth w ≤ length (wording_text w)
unfolding wording_text
words-deep (at_most0 l) = part-deep (at_most0 l)
words-deep (equal0 l) = part-deep (equal0 l)
words-deep (multiple g l) = part-deep (multiple g l)
words-deep (both_of p q) = omega (arith, pair-long (part_text p) (ascii " and ") (part_text q), part-deep p, part-deep q)
words-deep (either_of p q) = omega (arith, pair-long (part_text p) (ascii " or ") (part_text q), part-deep p, part-deep q)

pub words_unique : (w : Wording) → parse_wording (wording_text w) ≡ some w
unfolding parse_wording wording_to_end
words_unique w = rw (words_back w (length (wording_text w)) (words-deep w))
