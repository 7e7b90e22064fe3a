-- The text of a formula in words, in ASCII. Assumes nothing.
use Rattle.std.specs.Prelude.{Bool, true, false, List, [], ◌∷◌, ◌++◌, ℕ, suc, ℤ, pos, negsuc}
use Rattle.printing.specs.Text.{ascii, decimal}
use Rattle.printing.specs.Words.{Summand, scaled, plain, Sum, Wording, at_most0, equal0, multiple, both_of, either_of}

-- The sign before a number: at the front of a sum, and between summands.
abbrev pub sign_text : (front : Bool) → ℤ → List ℕ
sign_text true (pos n) = []
sign_text true (negsuc n) = ascii "-"
sign_text false (pos n) = ascii " + "
sign_text false (negsuc n) = ascii " - "

abbrev pub size_text : ℤ → List ℕ
size_text (pos n) = decimal n
size_text (negsuc n) = decimal (suc n)

unfoldable pub summand_text : (front : Bool) → Summand → List ℕ
summand_text b (scaled c i) = sign_text b c ++ size_text c ++ ascii "*r" ++ decimal i
summand_text b (plain d) = sign_text b d ++ size_text d

unfoldable pub summands_text : List Summand → List ℕ
unfolding summand_text
summands_text [] = []
summands_text (x ∷ xs) = summand_text false x ++ summands_text xs

unfoldable pub sum_text : Sum → List ℕ
unfolding summands_text
sum_text l = summand_text true l.first ++ summands_text l.more

-- A part of an and/or that is one itself stands in parentheses.
unfoldable mutual
  unfolding sum_text

  pub wording_text : Wording → List ℕ
  wording_text (at_most0 l) = sum_text l ++ ascii " <= 0"
  wording_text (equal0 l) = sum_text l ++ ascii " = 0"
  wording_text (multiple g l) = decimal g ++ ascii " divides " ++ sum_text l
  wording_text (both_of p q) = part_text p ++ ascii " and " ++ part_text q
  wording_text (either_of p q) = part_text p ++ ascii " or " ++ part_text q

  pub part_text : Wording → List ℕ
  part_text (at_most0 l) = sum_text l ++ ascii " <= 0"
  part_text (equal0 l) = sum_text l ++ ascii " = 0"
  part_text (multiple g l) = decimal g ++ ascii " divides " ++ sum_text l
  part_text (both_of p q) = ascii "(" ++ (part_text p ++ ascii " and " ++ part_text q) ++ ascii ")"
  part_text (either_of p q) = ascii "(" ++ (part_text p ++ ascii " or " ++ part_text q) ++ ascii ")"
