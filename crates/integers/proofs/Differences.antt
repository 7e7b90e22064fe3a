-- Ring and linear reasoning over ℤ by differences of naturals. Assumes nothing.
use mathlib.Core.Path.{◌≡◌, refl, sym, ◌∙◌, ap}
use mathlib.Core.Bool.{Bool, true, false, not, cond}
use Prim.Native.Nat.{ℕ, zero, suc, ◌+◌, ◌*◌, ◌-◌, ◌<◌, ◌≤◌}
use native.Mathlib.Omega.{arith}
use lib.Dec.{T, ltb, leb→le, le→leb, ltb→lt, lt→ltb, nltb→le}
use lib.IntN.{ℤ, pos, negsuc, neg_ℤ, sub_ℕ, ◌+ℤ◌, ◌*ℤ◌}
use lib.Signed.{◌≤ℤ◌, ◌<ℤ◌}
use Rattle.integers.specs.Linear.{pp, np}

-- ---- each operation, as an equation of naturals
pub cond_ind : (c : Bool) (x y : ℤ) (P : ℤ → Type 0) → (T c → P x) → (T (not c) → P y) → P (cond c x y)
cond_ind true x y P f g = f tt
cond_ind false x y P f g = g tt

pub sub-pn : (a b : ℕ) → pp (sub_ℕ a b) + b ≡ np (sub_ℕ a b) + a
sub-pn a b = cond_ind (ltb a b) (negsuc (b - suc a)) (pos (a - b)) (λ z. pp z + b ≡ np z + a)
    (λ t. let h = ltb→lt a b t in omega arith) (λ t. let h = nltb→le a b t in omega arith)

pub neg-pn : (a : ℤ) → pp (neg_ℤ a) + pp a ≡ np (neg_ℤ a) + np a
neg-pn (pos zero) = refl
neg-pn (pos (suc n)) = omega arith
neg-pn (negsuc n) = omega arith

pub add-pn : (a b : ℤ) → pp (a +ℤ b) + (np a + np b) ≡ np (a +ℤ b) + (pp a + pp b)
add-pn (pos a) (pos b) = omega arith
add-pn (pos a) (negsuc b) = omega (arith, sub-pn a (suc b))
add-pn (negsuc a) (pos b) = omega (arith, sub-pn b (suc a))
add-pn (negsuc a) (negsuc b) = omega arith

pub mul-pn : (a b : ℤ) → pp (a *ℤ b) + (pp a * np b + np a * pp b) ≡ np (a *ℤ b) + (pp a * pp b + np a * np b)
mul-pn (pos a) (pos b) = omega arith
mul-pn (pos a) (negsuc b) = omega (arith, neg-pn (pos (a * suc b)))
mul-pn (negsuc a) (pos b) = omega (arith, neg-pn (pos (suc a * b)))
mul-pn (negsuc a) (negsuc b) = omega arith

-- ---- an equation and the orders, to and from the naturals
pub eq-pn : (a b : ℤ) → pp a + np b ≡ pp b + np a → a ≡ b
eq-pn (pos a) (pos b) h = ap pos (omega arith)
eq-pn (pos a) (negsuc b) h = absurd (omega arith)
eq-pn (negsuc a) (pos b) h = absurd (omega arith)
eq-pn (negsuc a) (negsuc b) h = ap negsuc (omega arith)

pub pn-eq : {a b : ℤ} → a ≡ b → pp a + np b ≡ pp b + np a
pn-eq {a} {b} e = ap (λ (z : ℤ). pp a + np z) (sym e) ∙ ap (λ (z : ℤ). pp z + np a) e

pub le-pn : (a b : ℤ) → pp a + np b ≤ pp b + np a → a ≤ℤ b
le-pn (pos a) (pos b) h = record { le = le→leb a b (omega arith) }
le-pn (pos a) (negsuc b) h = absurd (omega arith)
le-pn (negsuc a) (pos b) h = record { le = tt }
le-pn (negsuc a) (negsuc b) h = record { le = le→leb b a (omega arith) }

pub pn-le : {a b : ℤ} → a ≤ℤ b → pp a + np b ≤ pp b + np a
pn-le {a = pos a} {b = pos b} h = let k = leb→le a b h.le in omega arith
pn-le {a = pos a} {b = negsuc b} h = absurd h.le
pn-le {a = negsuc a} {b = pos b} h = omega arith
pn-le {a = negsuc a} {b = negsuc b} h = let k = leb→le b a h.le in omega arith

pub lt-pn : (a b : ℤ) → pp a + np b < pp b + np a → a <ℤ b
lt-pn (pos a) (pos b) h = record { lt = lt→ltb a b (omega arith) }
lt-pn (pos a) (negsuc b) h = absurd (omega arith)
lt-pn (negsuc a) (pos b) h = record { lt = tt }
lt-pn (negsuc a) (negsuc b) h = record { lt = lt→ltb b a (omega arith) }

pub pn-lt : {a b : ℤ} → a <ℤ b → pp a + np b < pp b + np a
pn-lt {a = pos a} {b = pos b} h = let k = ltb→lt a b h.lt in omega arith
pn-lt {a = pos a} {b = negsuc b} h = absurd h.lt
pn-lt {a = negsuc a} {b = pos b} h = omega arith
pn-lt {a = negsuc a} {b = negsuc b} h = let k = ltb→lt b a h.lt in omega arith

-- `omega` with the integers' orders and equations: `omega (ints, add-pn a b, ..)`, one fact for each compound term
pub ruleset ints = (arith, eq-pn, pn-eq, le-pn, pn-le, lt-pn, pn-lt)
