-- A formula's proposition means what the formula says. Assumes nothing.
use mathlib.Core.Path.{◌≡◌, refl, sym, ap, ap₂, ◌∙◌, subst}
use mathlib.Core.Logic.{◌↔◌, ◌⊎◌, inl, inr, ⊎_elim}
use mathlib.Core.Bool.{Bool, true, false}
use mathlib.Core.List.{List, [], ◌∷◌}
use Prim.Native.Nat.{ℕ, suc, ◌+◌, ◌≤◌}
use native.Mathlib.Omega.{arith}
use lib.Dec.{eqb}
use lib.IntN.{ℤ, pos, negsuc, ◌-ℤ◌, ◌+ℤ◌, ◌*ℤ◌, +ℤ_assoc, +ℤ_idl, zero-*ℤ}
use lib.Signed.{◌≤ℤ◌, ◌<ℤ◌}
use borrow.Author.Tests.{eqb-true}
use Rattle.integers.specs.Divides.{◌∣ℤ◌}
use Rattle.integers.specs.Remainder.{remainder}
use Rattle.integers.proofs.Differences.{ints}
use Rattle.integers.proofs.Remainders.{remainder-zero, remainder-below, remainder-congruent}
use Rattle.forms.specs.Forms.{Form, Assignment, rest, sum, value, nonzero, ≤0, =0, Formula, literal, ◌divides◌, ◌and◌, ◌or◌, True}
use Rattle.forms.specs.Reduced.{Strides}
use Rattle.printing.specs.Smt.{Term, Terms, register, times, modulo, final, also, value_of, total_of, PropTrue}
use Rattle.printing.specs.Translation.{integer, unless_zero, terms_of, summed, term_of, smt}

pub mod_standard : (t : Term) (n : ℕ) → 1 ≤ n → (v : Assignment)
    → (pos n ∣ℤ value_of t v -ℤ value_of (modulo t n) v) × (pos 0 ≤ℤ value_of (modulo t n) v) × (value_of (modulo t n) v <ℤ pos n)
unfolding value_of
mod_standard t n h v = (remainder-congruent h (value_of t v), omega ints, omega (ints, remainder-below h (value_of t v)))

number-value : (z : ℤ) (v : Assignment) → value_of (integer z) v ≡ z
unfolding integer value_of
number-value (pos n) v = refl
number-value (negsuc n) v = refl

summed-value : (ts : Terms) (v : Assignment) → value_of (summed ts) v ≡ total_of ts v
unfolding summed value_of
summed-value (final t) v = refl
summed-value (also t ts) v = refl

-- the assignment of the constants from i on
abbrev pub from : ℕ → Assignment → Assignment
from i v k = v (i + k)

pub zero_or : (c : ℤ) → nonzero c ≡ false → c ≡ pos 0
unfolding nonzero
zero_or (pos n) h = go (eqb n 0) refl h
  where
    go : (b : Bool) → eqb n 0 ≡ b → mathlib.Core.Bool.not b ≡ false → pos n ≡ pos 0
    go true e k = ap pos (eqb-true n 0 e)
    go false e k = absurd (let z : ◌≡◌ {A = ℕ} 0 1 = cc in omega arith)
zero_or (negsuc n) h = absurd (let z : ◌≡◌ {A = ℕ} 0 1 = cc in omega arith)

pub from-rest : (i : ℕ) (v : Assignment) → from (suc i) v ≡ rest (from i v)
from-rest i v = λ j k. v (let e : suc i + k ≡ i + suc k = omega arith in e j)

one_more : (i : ℕ) (c : ℤ) (ts : Terms) (v : Assignment) (b : Bool) → nonzero c ≡ b
    → total_of (unless_zero b (times (integer c) (register i)) ts) v ≡ c *ℤ v (i + 0) +ℤ total_of ts v
unfolding unless_zero value_of
one_more i c ts v true e = let z : i ≡ i + 0 = omega arith in ap₂ (λ (a x : ℤ). a *ℤ x +ℤ total_of ts v) (number-value c v) (ap v z)
one_more i c ts v false e = sym (rw (zero_or c e, zero-*ℤ) (+ℤ_idl (total_of ts v)))

summands-value : (i : ℕ) (cs : List ℤ) (d : ℤ) (v : Assignment) → total_of (terms_of i cs d) v ≡ sum cs (from i v) +ℤ d
unfolding terms_of total_of sum
summands-value i [] d v = number-value d v ∙ sym (+ℤ_idl d)
summands-value i (c ∷ cs) d v =
    one_more i c (terms_of (suc i) cs d) v (nonzero c) refl
    ∙ ap (λ (x : ℤ). c *ℤ v (i + 0) +ℤ x) (summands-value (suc i) cs d v ∙ ap (λ (w : Assignment). sum cs w +ℤ d) (from-rest i v))
    ∙ sym (+ℤ_assoc (c *ℤ v (i + 0)) (sum cs (rest (from i v))) d)

pub from_zero : (v : Assignment) → from 0 v ≡ v
from_zero v = λ j k. v (let e : 0 + k ≡ k = omega arith in e j)

pub form-value : (t : Form) (v : Assignment) → value_of (term_of t) v ≡ value t v
unfolding term_of value
form-value t v =
    summed-value (terms_of 0 t.coeffs t.d) v
    ∙ summands-value 0 t.coeffs t.d v
    ∙ ap (λ (w : Assignment). sum t.coeffs w +ℤ t.d) (from_zero v)

-- ---- a formula
pub along : {A B : Type 0} → A ≡ B → A ↔ B
along e = (subst (λ X. X) e, subst (λ X. X) (sym e))

pub and_alike : {A B P Q : Type 0} → A ↔ P → B ↔ Q → (A × B) ↔ (P × Q)
and_alike p q = ((λ h. (p.0 h.0, q.0 h.1)), (λ h. (p.1 h.0, q.1 h.1)))

pub or-alike : {A B P Q : Type 0} → A ↔ P → B ↔ Q → (A ⊎ B) ↔ (P ⊎ Q)
or-alike p q = (⊎_elim (λ a. inl (p.0 a)) (λ b. inr (q.0 b)), ⊎_elim (λ a. inl (p.1 a)) (λ b. inr (q.1 b)))

divided : (g : ℕ) → 2 ≤ g → (z : ℤ) → pos (remainder g z) ≡ pos 0 ↔ pos g ∣ℤ z
divided g h z = ((λ e. (remainder-zero {g = g} (omega arith) z).0 (let n : remainder g z ≡ 0 = cc in n)), (λ d. ap pos ((remainder-zero {g = g} (omega arith) z).1 d)))

pub means_same : (I : Formula) → Strides I → (v : Assignment) → PropTrue (smt I) v ↔ True I v
unfolding smt value_of
means_same (literal ≤0 t) s v = along (ap (λ (z : ℤ). z ≤ℤ pos 0) (form-value t v))
means_same (literal =0 t) s v = along (ap (λ (z : ℤ). z ≡ pos 0) (form-value t v))
means_same (g divides t) s v =
    subst (λ (z : ℤ). (pos (remainder g (value_of (term_of t) v)) ≡ pos 0) ↔ (pos g ∣ℤ z)) (form-value t v) (divided g s (value_of (term_of t) v))
means_same (I and J) s v = and_alike (means_same I s.0 v) (means_same J s.1 v)
means_same (I or J) s v = or-alike (means_same I s.0 v) (means_same J s.1 v)
