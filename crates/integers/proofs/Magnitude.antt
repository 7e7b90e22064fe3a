-- What keeps a result within a machine word. Assumes nothing.
use Prim.Native.Nat.{ℕ, ◌+◌, ◌*◌, ◌≤◌}
use native.Mathlib.Nat.{mul-le-mul}
use native.Mathlib.Omega.{arith}
use mathlib.Core.Path.{◌≡◌}
use lib.Dec.{T, leb, leb→le}
use lib.IntN.{ℤ, pos, negsuc, nat_abs, ◌+ℤ◌, ◌*ℤ◌}
use lib.Signed.{mag}
use mir.Syntax.{w64}
use mir.Val.{SFits}
use Rattle.integers.specs.Magnitude.{Within, Factors}
use Rattle.integers.specs.Linear.{pp, np}
use Rattle.integers.proofs.Differences.{add-pn}
use Rattle.integers.proofs.Divisibility.{abs-mul}

abs-pn : (z : ℤ) → nat_abs z ≡ pp z + np z
abs-pn (pos n) = omega arith
abs-pn (negsuc n) = omega arith

one_side : (z : ℤ) (p n : ℕ) → pp z + n ≡ np z + p → nat_abs z ≤ p + n
one_side (pos m) p n h = omega arith
one_side (negsuc m) p n h = omega arith

mag-abs : (z : ℤ) → mag z ≤ nat_abs z
mag-abs (pos n) = omega arith
mag-abs (negsuc n) = omega arith

pub within-add : {a b : ℤ} {m n : ℕ} → Within m a → Within n b → Within (m + n) (a +ℤ b)
within-add {a} {b} h k = record { abs = omega (arith, one_side (a +ℤ b) (pp a + pp b) (np a + np b) (add-pn a b), abs-pn a, abs-pn b) }

pub within-mul : {a b : ℤ} {m n : ℕ} → Within m a → Within n b → Within (m * n) (a *ℤ b)
within-mul {a} {b} h k = record { abs = omega (arith, abs-mul a b, mul-le-mul h.abs k.abs) }

-- What a number is raised by on the way to z + k keeps it within the same bound.
between : (z w u : ℤ) (j k r : ℕ) → pp w + (np z + 0) ≡ np w + (pp z + j) → pp u + (np z + 0) ≡ np u + (pp z + k) → j ≤ k → nat_abs z ≤ r → nat_abs u ≤ r → nat_abs w ≤ r
between (pos z) (pos w) (pos u) j k r a b h p q = omega arith
between (pos z) (pos w) (negsuc u) j k r a b h p q = absurd (omega arith)
between (pos z) (negsuc w) u j k r a b h p q = absurd (omega arith)
between (negsuc z) (pos w) (pos u) j k r a b h p q = omega arith
between (negsuc z) (pos w) (negsuc u) j k r a b h p q = omega arith
between (negsuc z) (negsuc w) u j k r a b h p q = omega arith

pub within-between : {z : ℤ} {j k r : ℕ} → j ≤ k → Within r z → Within r (z +ℤ pos k) → Within r (z +ℤ pos j)
within-between {z} {j} {k} {r} h p q = record { abs = between z (z +ℤ pos j) (z +ℤ pos k) j k r (add-pn z (pos j)) (add-pn z (pos k)) h p.abs q.abs }

pub within-le : {z : ℤ} {m n : ℕ} → m ≤ n → Within m z → Within n z
within-le h w = record { abs = omega (arith, w.abs) }

-- A closed bound below 2^63 fits a machine word; the test is `tt`.
pub within-fits : {z : ℤ} {k : ℕ} → Within k z → T (leb k 9223372036854775807) → SFits w64 z
within-fits {z} {k} h t = record { sfits = omega (arith, mag-abs z, leb→le k 9223372036854775807 t) }

-- The two products, and their sum.
module _ {a x b y : ℤ} (f : Factors a x b y) where
  pub first_fits : SFits w64 (a *ℤ x)
  first_fits = within-fits (within-mul f.a_in f.x_in) tt

  pub second_fits : SFits w64 (b *ℤ y)
  second_fits = within-fits (within-mul f.b_in f.y_in) tt

  pub sum_fits : SFits w64 (a *ℤ x +ℤ b *ℤ y)
  sum_fits = within-fits (within-add (within-mul f.a_in f.x_in) (within-mul f.b_in f.y_in)) tt
