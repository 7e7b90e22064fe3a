-- A formula as a proposition of SMT-LIB: constant i is r_i, and coefficients of 0 are left out. Assumes nothing.
use Rattle.std.specs.Prelude.{Bool, true, false, List, [], ◌∷◌, ℕ, suc, ℤ, pos, negsuc}
use Rattle.forms.specs.Forms.{Form, nonzero, ≤0, =0, Formula, literal, ◌divides◌, ◌and◌, ◌or◌}
use Rattle.printing.specs.Smt.{Term, Terms, Prop, numeral, register, minus, times, modulo, plus, final, also, at_most, equals, conj, disj}

-- 5, (- 5)
unfoldable pub integer : ℤ → Term
integer (pos n) = numeral n
integer (negsuc n) = minus (numeral (suc n))

-- (* c ri) before others, if c is not 0
unfoldable pub unless_zero : (nonzero : Bool) → Term → Terms → Terms
unless_zero true t ts = also t ts
unless_zero false t ts = ts

-- The products of the coefficients with r_i, r_(i+1), .., and then d.
unfoldable pub terms_of : (i : ℕ) → List ℤ → (d : ℤ) → Terms
unfolding integer unless_zero
terms_of i [] d = final (integer d)
terms_of i (c ∷ cs) d = unless_zero (nonzero c) (times (integer c) (register i)) (terms_of (suc i) cs d)

-- One term is no sum.
unfoldable pub summed : Terms → Term
summed (final t) = t
summed (also t ts) = plus (also t ts)

unfoldable pub term_of : Form → Term
unfolding terms_of summed
term_of t = summed (terms_of 0 t.coeffs t.d)

-- (<= t 0), (= t 0), (= (mod t g) 0), (and p q), (or p q)
unfoldable pub smt : Formula → Prop
unfolding term_of
smt (literal ≤0 t) = at_most (term_of t) (numeral 0)
smt (literal =0 t) = equals (term_of t) (numeral 0)
smt (g divides t) = equals (modulo (term_of t) g) (numeral 0)
smt (I and J) = conj (smt I) (smt J)
smt (I or J) = disj (smt I) (smt J)
