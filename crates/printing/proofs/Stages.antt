-- The formulas of the worked stages as text, by the definitions alone: computed. Assumes nothing.
use mathlib.Core.Path.{◌≡◌, refl}
use mathlib.Core.List.{List, [], ◌∷◌}
use mathlib.Core.Option.{some}
use Prim.Native.Nat.{ℕ}
use lib.IntN.{ℤ, pos, negsuc}
use Rattle.forms.specs.Forms.{Form, nonzero, ≤0, Formula, literal, ◌divides◌, ◌and◌, ◌or◌}
use Rattle.printing.specs.Text.{ascii, decimal_by, decimal, term_text, prop_text}
use Rattle.printing.specs.Reading.{expect, digit, digits_from, read_number, read_one, read_two, mapped, read_term, read_prop, to_end, parse_prop}
use Rattle.printing.specs.Translation.{integer, unless_zero, terms_of, summed, term_of, smt}
use Rattle.printing.specs.Words.{unless_none, summands_of, sum_of, worded}
use Rattle.printing.specs.WordsText.{summand_text, summands_text, sum_text, wording_text}
use Rattle.printing.specs.WordsReading.{read_summand, read_summands, read_sum, read_said, read_stride, read_atom, read_pair, read_part, wording_to_end, parse_wording}

abbrev form : List ℤ → ℤ → Form
form cs d = record { coeffs = cs; d = d }

-- stage 1: 2 divides y, over x, y and z
stage_1 : prop_text (smt (2 divides form (pos 0 ∷ pos 1 ∷ pos 0 ∷ []) (pos 0))) ≡ ascii "(= (mod (+ (* 1 r1) 0) 2) 0)"
unfolding prop_text smt term_of terms_of summed unless_zero integer term_text decimal decimal_by nonzero
stage_1 = refl

-- stage 3: x ≤ 0
stage-3 : prop_text (smt (literal ≤0 (form (pos 1 ∷ []) (pos 0)))) ≡ ascii "(<= (+ (* 1 r0) 0) 0)"
unfolding prop_text smt term_of terms_of summed unless_zero integer term_text decimal decimal_by nonzero
stage-3 = refl

abbrev two-y : ℤ → Formula
two-y d = literal ≤0 (form (pos 2 ∷ []) d)

-- stage 5
stage-5 : prop_text (smt (two-y (pos 0) or 2 divides form (pos 0 ∷ []) (pos 1) and two-y (negsuc 0)))
    ≡ ascii "(or (<= (+ (* 2 r0) 0) 0) (and (= (mod 1 2) 0) (<= (+ (* 2 r0) (- 1)) 0)))"
unfolding prop_text smt term_of terms_of summed unless_zero integer term_text decimal decimal_by nonzero
stage-5 = refl

-- stage 9: large numbers
stage-9 : prop_text (smt (literal ≤0 (form (negsuc 2_147_450_879 ∷ []) (pos 65_535)))) ≡ ascii "(<= (+ (* (- 2147450880) r0) 65535) 0)"
unfolding prop_text smt term_of terms_of summed unless_zero integer term_text decimal decimal_by nonzero
stage-9 = refl

-- the third stage of roundings
abbrev four-y : ℕ → Formula
four-y d = 5 divides form (pos 0 ∷ pos 4 ∷ pos 0 ∷ []) (pos d)

abbrev plain : ℤ → Formula
plain d = literal ≤0 (form (pos 0 ∷ pos 0 ∷ pos 0 ∷ []) d)

rounding-3 : prop_text (smt (plain (pos 2) or four-y 4 and plain (negsuc 0) or four-y 0 and plain (pos 0) or four-y 1 and plain (pos 1)))
    ≡ ascii "(or (<= 2 0) (or (and (= (mod (+ (* 4 r1) 4) 5) 0) (<= (- 1) 0)) (or (and (= (mod (+ (* 4 r1) 0) 5) 0) (<= 0 0)) (and (= (mod (+ (* 4 r1) 1) 5) 0) (<= 1 0)))))"
unfolding prop_text smt term_of terms_of summed unless_zero integer term_text decimal decimal_by nonzero
rounding-3 = refl

-- the fifth read back
read-5 : parse_prop (ascii "(or (<= (+ (* 2 r0) 0) 0) (and (= (mod 1 2) 0) (<= (+ (* 2 r0) (- 1)) 0)))")
    ≡ some (smt (two-y (pos 0) or 2 divides form (pos 0 ∷ []) (pos 1) and two-y (negsuc 0)))
unfolding smt term_of terms_of summed unless_zero integer parse_prop to_end read_prop read_term read_two read_one mapped read_number digits_from digit expect nonzero
read-5 = refl

-- in words, and read back
words-5 : wording_text (worded (two-y (pos 0) or 2 divides form (pos 0 ∷ []) (pos 1) and two-y (negsuc 0))) ≡ ascii "2*r0 <= 0 or (2 divides 1 and 2*r0 - 1 <= 0)"
unfolding wording_text worded sum_of sum_text summands_of unless_none summand_text summands_text decimal decimal_by nonzero
words-5 = refl

words-rounding-3 : wording_text (worded (plain (pos 2) or four-y 4 and plain (negsuc 0) or four-y 0 and plain (pos 0) or four-y 1 and plain (pos 1)))
    ≡ ascii "2 <= 0 or ((5 divides 4*r1 + 4 and -1 <= 0) or ((5 divides 4*r1 and 0 <= 0) or (5 divides 4*r1 + 1 and 1 <= 0)))"
unfolding wording_text worded sum_of sum_text summands_of unless_none summand_text summands_text decimal decimal_by nonzero
words-rounding-3 = refl

read-words-5 : parse_wording (ascii "2*r0 <= 0 or (2 divides 1 and 2*r0 - 1 <= 0)") ≡ some (worded (two-y (pos 0) or 2 divides form (pos 0 ∷ []) (pos 1) and two-y (negsuc 0)))
unfolding worded sum_of summands_of unless_none nonzero parse_wording wording_to_end read_part read_pair read_atom read_stride read_said read_sum read_summands read_summand read_number digits_from digit expect
read-words-5 = refl
