-- Ring equations over ℤ by `omega`: an integer as a difference of two naturals, built along its sums, products and negations. Assumes nothing.
use mathlib.Core.Path.{◌≡◌, ap}
use Prim.Native.Nat.{ℕ, suc, ◌+◌, ◌*◌}
use native.Mathlib.Omega.{arith}
use lib.IntN.{ℤ, pos, negsuc, neg_ℤ, sub_ℕ, ◌+ℤ◌, ◌*ℤ◌}
use Rattle.integers.specs.Linear.{pp, np}
use Rattle.integers.proofs.Differences.{add-pn, neg-pn, mul-pn, eq-pn, sub-pn}

-- z is `up − dn`
pub record Rep (z : ℤ) : Type 0 where
  pub up : ℕ
  pub dn : ℕ
  pub fact : pp z + dn ≡ np z + up

pub mul-fact : (a b : ℤ) (u d v e : ℕ) → pp a + d ≡ np a + u → pp b + e ≡ np b + v → pp (a *ℤ b) + (u * e + d * v) ≡ np (a *ℤ b) + (u * v + d * e)
mul-fact a b u d v e h k = omega (arith, mul-pn a b, ap (λ (t : ℕ). pp a * t) k, ap (λ (t : ℕ). np a * t) k, ap (λ (t : ℕ). t * v) h, ap (λ (t : ℕ). t * e) h)

infixl 6 ◌⊕◌
infixl 7 ◌⊗◌
unfoldable pub var : (a : ℤ) → Rep a
var a = record { up = pp a; dn = np a; fact = omega arith }

abbrev pub lit : (n : ℕ) → Rep (pos n)
lit n = record { up = n; dn = 0; fact = omega arith }

abbrev pub lit- : (n : ℕ) → Rep (negsuc n)
lit- n = record { up = 0; dn = suc n; fact = omega arith }

abbrev pub ◌⊕◌ : {a b : ℤ} → Rep a → Rep b → Rep (a +ℤ b)
◌⊕◌ {a} {b} p q = record { up = p.up + q.up; dn = p.dn + q.dn; fact = omega (arith, add-pn a b) }

abbrev pub neg : {a : ℤ} → Rep a → Rep (neg_ℤ a)
neg {a} p = record { up = p.dn; dn = p.up; fact = omega (arith, neg-pn a) }

abbrev pub ◌⊗◌ : {a b : ℤ} → Rep a → Rep b → Rep (a *ℤ b)
◌⊗◌ {a} {b} p q = record { up = p.up * q.up + p.dn * q.dn; dn = p.up * q.dn + p.dn * q.up; fact = mul-fact a b p.up p.dn q.up q.dn p.fact q.fact }

pub ring : {a b : ℤ} (p : Rep a) (q : Rep b) → p.up + q.dn ≡ q.up + p.dn → a ≡ b
ring {a} {b} p q h = eq-pn a b (omega (arith, p.fact, q.fact))

abbrev pub diff : (a b : ℕ) → Rep (sub_ℕ a b)
diff a b = record { up = a; dn = b; fact = omega (arith, sub-pn a b) }

-- what builds a `Rep` along a term: bind each variable first, `let x = var a in`, and `search poly` finds it (a list such as `(poly, var a)` does not)
pub ruleset poly = (◌⊕◌, ◌⊗◌, neg, lit, lit-, diff)
