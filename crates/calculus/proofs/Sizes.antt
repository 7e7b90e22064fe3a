-- How high a derived formula can be. Assumes nothing.
use mathlib.Core.Path.{◌≡◌, ap}
use mathlib.Core.List.{List}
use mathlib.Core.Bool.{Bool}
use Prim.Native.Nat.{ℕ, ◌+◌, ◌*◌, ◌≤◌}
use native.Mathlib.Omega.{arith}
use Rattle.forms.specs.Edition.{Edition}
use Rattle.forms.specs.Forms.{Form, Line, Formula, height}
use Rattle.calculus.specs.Rules.{StrideOf, Closed, derive, strengthen, round, split_eq, split_neq, number, stride, Rounded, last, more, depth, depth_rounded}

module _ {in_b : ℕ → Bool} {g : ℕ} {t_A : Form} {E : Formula} (is : StrideOf in_b g t_A E) where
  stride-height : height E ≡ 0
  stride-height = ap height is.is

module _ {e : Edition} {in_b : ℕ → Bool} where
  -- a rounding by 16 adds 17 levels to those of a branch; the branches j to k-1 add k-j
  mutual
    pub closed-height : {ls : List Line} {I : Formula} (p : Closed e in_b ls I) → e.rounding ≤ 16 → height I ≤ 17 * depth p
    closed-height (derive _ _ _ p) m = closed-height p m
    closed-height (strengthen _ _ _ p1 pE p0) m = omega (arith, closed-height p1 m, closed-height pE m, closed-height p0 m)
    closed-height (round _ _ _ r p ps) m = omega (arith, r.most, closed-height p m, rounded-height ps m)
    closed-height (split_eq _ _ _ _ p q) m = omega (arith, closed-height p m, closed-height q m)
    closed-height (split_neq _ _ _ _ p q) m = omega (arith, closed-height p m, closed-height q m)
    closed-height (number _ _ _ _) m = omega arith
    closed-height (stride _ _ _ _ _ _ is) m = omega (arith, stride-height is)

    rounded-height : {ls : List Line} {t t_A : Form} {g k j : ℕ} {J : Formula} (p : Rounded e in_b ls t t_A g k j J) → e.rounding ≤ 16 → j + height J ≤ k + 17 * depth_rounded p
    rounded-height (last b is p) m = omega (arith, stride-height is, closed-height p m)
    rounded-height (more b is p ps) m = omega (arith, stride-height is, closed-height p m, rounded-height ps m)
