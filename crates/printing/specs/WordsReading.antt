-- How a text in words is read. It is generous: parentheses that are not needed and -0 are taken too. But not in which of and/or
-- binds stronger: a and b or c is read as nothing. Assumes nothing.
use Rattle.std.specs.Prelude.{List, [], ◌∷◌, ℕ, zero, suc, ℤ, pos, negsuc, length}
use Rattle.std.proofs.Math.Option.{Option, none, some}
use Rattle.printing.specs.Text.{ascii}
use Rattle.printing.specs.Reading.{◌>>=◌, if_some, expect, read_number, TextReader}
use Rattle.printing.specs.Words.{Summand, scaled, plain, Sum, Wording, at_most0, equal0, multiple, both_of, either_of}

abbrev pub minus_of : ℕ → ℤ
minus_of zero = pos 0
minus_of (suc n) = negsuc n

-- A number without sign, and the register behind it if there is one; `sign` gives the number its sign.
unfoldable pub read_summand : (sign : ℕ → ℤ) → TextReader Summand
unfolding expect read_number
read_summand sign bs = do
  (n, bs1) ← read_number bs
  if_some (expect (ascii "*r") bs1) (λ rest. read_number rest >>= λ (i, bs2). some (scaled (sign n) i, bs2)) λ _. some (plain (sign n), bs1)

-- (`fuel` bounds the summands; a text has no more than one for each byte.)
unfoldable pub read_summands : (fuel : ℕ) → TextReader (List Summand)
unfolding read_summand expect
read_summands zero bs = some ([], bs)
read_summands (suc fuel) bs =
    if_some (expect (ascii " + ") bs) (λ rest. read_summand pos rest >>= λ (x, bs1). read_summands fuel bs1 >>= λ (xs, bs2). some (x ∷ xs, bs2)) λ _.
    if_some (expect (ascii " - ") bs) (λ rest. read_summand minus_of rest >>= λ (x, bs1). read_summands fuel bs1 >>= λ (xs, bs2). some (x ∷ xs, bs2)) λ _.
    some ([], bs)

unfoldable pub read_sum : TextReader Sum
unfolding read_summands
read_sum bs = do
  (x, bs1) ← if_some (expect (ascii "-") bs) (λ rest. read_summand minus_of rest) λ _. read_summand pos bs
  (xs, bs2) ← read_summands (length bs1) bs1
  some (record { first = x; more = xs }, bs2)

-- g divides a sum; or a sum, and what is said of it
unfoldable pub read_said : TextReader Wording
unfolding read_sum
read_said bs = do
  (l, bs1) ← read_sum bs
  if_some (expect (ascii " <= 0") bs1) (λ rest. some (at_most0 l, rest)) λ _. expect (ascii " = 0") bs1 >>= λ bs2. some (equal0 l, bs2)

unfoldable pub read_stride : ℕ × List ℕ → List ℕ → Option (Wording × List ℕ)
unfolding read_said
read_stride x bs = if_some (expect (ascii " divides ") x.1) (λ rest. read_sum rest >>= λ (l, bs1). some (multiple x.0 l, bs1)) λ _. read_said bs

unfoldable pub read_atom : TextReader Wording
unfolding read_stride
read_atom bs = if_some (read_number bs) (λ x. read_stride x bs) λ _. read_said bs

-- a pair, or its first part alone
unfoldable pub read_pair : TextReader Wording → TextReader Wording
read_pair part bs = do
  (p, bs1) ← part bs
  if_some (expect (ascii " and ") bs1) (λ rest. part rest >>= λ (q, bs2). some (both_of p q, bs2)) λ _.
      if_some (expect (ascii " or ") bs1) (λ rest. part rest >>= λ (q, bs2). some (either_of p q, bs2)) λ _. some (p, bs1)

unfoldable pub read_part : (fuel : ℕ) → TextReader Wording
unfolding read_pair read_atom
read_part zero bs = none
read_part (suc fuel) bs = if_some (expect (ascii "(") bs) (λ rest. read_pair (λ x. read_part fuel x) rest >>= λ (p, bs1). expect (ascii ")") bs1 >>= λ bs2. some (p, bs2)) λ _. read_atom bs

unfoldable pub wording_to_end : Option (Wording × List ℕ) → Option Wording
wording_to_end none = none
wording_to_end (some (p, [])) = some p
wording_to_end (some (p, b ∷ bs)) = none

unfoldable pub parse_wording : List ℕ → Option Wording
unfolding wording_to_end read_part read_pair
parse_wording bs = wording_to_end (read_pair (read_part (length bs)) bs)
