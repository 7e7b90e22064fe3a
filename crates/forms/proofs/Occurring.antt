-- A constant occurs in a bundle if any constraint there gives it a non-zero coefficient, a t ≠ 0 too. Assumes nothing.
use mathlib.Core.Path.{◌≡◌}
use mathlib.Core.Option.{some}
use mathlib.Core.Bool.{Bool, true, false, ◌||◌}
use mathlib.Core.List.{List, [], ◌∷◌}
use Prim.Native.Nat.{ℕ, zero, suc}
use native.Mathlib.Omega.{arith}
use lib.Dec.{T}
use lib.ListN.{get_elem?}
use Rattle.forms.specs.Forms.{Constraint, coeff, nonzero, occurs}

left : (a b : Bool) → T a → T (a || b)
left true b h = tt
left false b h = elim h [ ]

right : (a b : Bool) → T b → T (a || b)
right true b h = tt
right false b h = h

pub occurs-given : (cs : List Constraint) {c : Constraint} (i k : ℕ) → get_elem? cs i ≡ some c → T (nonzero (coeff c.form k)) → T (occurs cs k)
unfolding occurs
occurs-given [] i k e h = absurd (let z : ◌≡◌ {A = ℕ} 0 1 = cc in omega arith)
occurs-given (x ∷ cs) {c} zero k e h = left (nonzero (coeff x.form k)) (occurs cs k) (let same : x ≡ c = cc in rw same h)
occurs-given (x ∷ cs) (suc i) k e h = right (nonzero (coeff x.form k)) (occurs cs k) (occurs-given cs i k e h)
