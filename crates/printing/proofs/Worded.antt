-- A formula in words means what the formula says. Assumes nothing.
use mathlib.Core.Path.{◌≡◌, refl, sym, ap, ◌∙◌}
use mathlib.Core.Logic.{◌↔◌}
use mathlib.Core.Bool.{Bool, true, false}
use mathlib.Core.List.{List, [], ◌∷◌}
use Prim.Native.Nat.{ℕ, suc, ◌+◌}
use native.Mathlib.Omega.{arith}
use lib.IntN.{ℤ, pos, ◌+ℤ◌, ◌*ℤ◌, +ℤ_assoc, +ℤ_idl, +ℤ_idr, zero-*ℤ}
use lib.Signed.{◌≤ℤ◌}
use Rattle.integers.specs.Divides.{◌∣ℤ◌}
use Rattle.forms.specs.Forms.{Form, Assignment, rest, sum, value, nonzero, ≤0, =0, Formula, literal, ◌divides◌, ◌and◌, ◌or◌, True}
use Rattle.printing.specs.Words.{Summand, scaled, plain, summands_value, sum_value, WordingTrue, unless_none, summands_of, as_sum, sum_of, worded}
use Rattle.printing.proofs.Meaning.{zero_or, from, from-rest, from_zero, along, and_alike, or-alike}

last-value : (d : ℤ) (v : Assignment) (b : Bool) → nonzero d ≡ b → summands_value (unless_none b (plain d) []) v ≡ pos 0 +ℤ d
unfolding unless_none summands_value
last-value d v true e = +ℤ_idr d ∙ sym (+ℤ_idl d)
last-value d v false e = rw (zero_or d e)

one_more : (i : ℕ) (c : ℤ) (xs : List Summand) (v : Assignment) (b : Bool) → nonzero c ≡ b → summands_value (unless_none b (scaled c i) xs) v ≡ c *ℤ v (i + 0) +ℤ summands_value xs v
unfolding unless_none summands_value
one_more i c xs v true e = let z : i ≡ i + 0 = omega arith in ap (λ (n : ℕ). c *ℤ v n +ℤ summands_value xs v) z
one_more i c xs v false e = sym (rw (zero_or c e, zero-*ℤ) (+ℤ_idl (summands_value xs v)))

items-value : (i : ℕ) (cs : List ℤ) (d : ℤ) (v : Assignment) → summands_value (summands_of i cs d) v ≡ sum cs (from i v) +ℤ d
unfolding summands_of sum
items-value i [] d v = last-value d v (nonzero d) refl
items-value i (c ∷ cs) d v =
    one_more i c (summands_of (suc i) cs d) v (nonzero c) refl
    ∙ ap (λ (x : ℤ). c *ℤ v (i + 0) +ℤ x) (items-value (suc i) cs d v ∙ ap (λ (w : Assignment). sum cs w +ℤ d) (from-rest i v))
    ∙ sym (+ℤ_assoc (c *ℤ v (i + 0)) (sum cs (rest (from i v))) d)

line_as : (xs : List Summand) (v : Assignment) → sum_value (as_sum xs) v ≡ summands_value xs v
unfolding sum_value summands_value
line_as [] v = refl
line_as (x ∷ xs) v = refl

line-value : (t : Form) (v : Assignment) → sum_value (sum_of t) v ≡ value t v
unfolding sum_of value
line-value t v =
    line_as (summands_of 0 t.coeffs t.d) v
    ∙ items-value 0 t.coeffs t.d v
    ∙ ap (λ (w : Assignment). sum t.coeffs w +ℤ t.d) (from_zero v)

pub says_same : (I : Formula) (v : Assignment) → WordingTrue (worded I) v ↔ True I v
unfolding worded
says_same (literal ≤0 t) v = along (ap (λ (z : ℤ). z ≤ℤ pos 0) (line-value t v))
says_same (literal =0 t) v = along (ap (λ (z : ℤ). z ≡ pos 0) (line-value t v))
says_same (g divides t) v = along (ap (λ (z : ℤ). pos g ∣ℤ z) (line-value t v))
says_same (I and J) v = and_alike (says_same I v) (says_same J v)
says_same (I or J) v = or-alike (says_same I v) (says_same J v)
