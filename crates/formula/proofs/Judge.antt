-- The test of a formula's truth tells of its truth. Assumes nothing.
use mathlib.Core.Path.{sym, ap, subst}
use mathlib.Core.Logic.{◌↔◌, ◌⊎◌, inl, inr, ⊎_elim}
use mathlib.Core.Bool.{Bool, true, false, ◌&&◌, ◌||◌}
use lib.Dec.{T, eqb→eq, eqb_refl}
use lib.IntN.{ℤ, pos, negsuc}
use Rattle.integers.specs.Linear.{eq_z}
use Rattle.integers.proofs.Divisibility.{divb→∣, ∣→divb}
use Rattle.forms.specs.Forms.{Kind, ≤0, =0, Holds, value, Assignment, Formula, literal, ◌divides◌, ◌and◌, ◌or◌, True}
use Rattle.formula.specs.Test.{holds, judge}

holds-true : (k : Kind) (z : ℤ) → T (holds k z) ↔ Holds k z
unfolding holds
holds-true ≤0 z = ((λ t. record { le = t }), (λ h. h.le))
holds-true =0 (pos n) = ((λ t. ap pos (eqb→eq n 0 t)), (λ h. subst (λ (z : ℤ). T (eq_z z (pos 0))) (sym h) (eqb_refl 0)))
holds-true =0 (negsuc n) = ((λ t. absurd t), (λ h. subst (λ (z : ℤ). T (eq_z z (pos 0))) (sym h) (eqb_refl 0)))

both_true : (a b : Bool) {P Q : Type 0} → T a ↔ P → T b ↔ Q → T (a && b) ↔ (P × Q)
both_true true true p q = ((λ t. (p.0 tt, q.0 tt)), (λ h. tt))
both_true true false p q = ((λ t. absurd t), (λ h. q.1 h.1))
both_true false b p q = ((λ t. absurd t), (λ h. p.1 h.0))

one-true : (a b : Bool) {P Q : Type 0} → T a ↔ P → T b ↔ Q → T (a || b) ↔ (P ⊎ Q)
one-true true b p q = ((λ t. inl (p.0 tt)), (λ h. tt))
one-true false b p q = ((λ t. inr (q.0 t)), (λ h. ⊎_elim (λ l. absurd (p.1 l)) (λ r. q.1 r) h))

pub judge-true : (I : Formula) (v : Assignment) → T (judge I v) ↔ True I v
unfolding judge
judge-true (literal k t) v = holds-true k (value t v)
judge-true (g divides t) v = (divb→∣, ∣→divb)
judge-true (I and J) v = both_true (judge I v) (judge J v) (judge-true I v) (judge-true J v)
judge-true (I or J) v = one-true (judge I v) (judge J v) (judge-true I v) (judge-true J v)
