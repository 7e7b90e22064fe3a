-- Without `Uniform` guards need not follow one another. Stages x ≤ 0; y ≤ 0; -x+1 ≤ 0 and -y+1 = 0; a strengthen of y ≤ 0 whose first branch is closed by x and whose third by y. Assumes nothing.
use mathlib.Core.Path.{◌≡◌, refl}
use mathlib.Core.Logic.{◌⊎◌, inl, inr}
use mathlib.Core.List.{List, [], ◌∷◌, ◌++◌}
use mathlib.Core.Bool.{false}
use Prim.Native.Nat.{ℕ, zero, suc}
use lib.Dec.{lit<, lit≤}
use lib.ListN.{get_or}
use lib.IntN.{ℤ, pos, negsuc}
use lib.Signed.{◌≤ℤ◌}
use Rattle.integers.proofs.Differences.{ints}
use Rattle.forms.specs.Edition.{edition1}
use Rattle.forms.specs.Forms.{Kind, ≤0, =0, says, Constraint, small, every, lines, occurs, All, nil, cons, Meets, Assignment, value, sum, coeff, sums, ◌⊞◌, ◌·◌, ◌plus◌, Formula, ◌or◌, True}
use Rattle.calculus.specs.Rules.{Closed, derive, strengthen, number, combine, reduce, in_range, entries}

abbrev pub stated : Kind → ℤ → ℤ → ℤ → Constraint
stated k a b d = record { kind = says k; form = record { coeffs = a ∷ b ∷ []; d = d } }

abbrev pub first : List Constraint
first = stated ≤0 (pos 1) (pos 0) (pos 0) ∷ []

abbrev pub second : List Constraint
second = stated ≤0 (pos 0) (pos 1) (pos 0) ∷ []

abbrev pub third : List Constraint
third = stated ≤0 (negsuc 0) (pos 0) (pos 1) ∷ stated =0 (pos 0) (negsuc 0) (pos 1) ∷ []

-- x = 1, y = -1
abbrev pub v : Assignment
v zero = pos 1
v (suc k) = negsuc 0

-- One table, closed before and after the second stage passes to A; v meets that stage, the first guard holds there and the second does not.
pub record Broken : Type 0 where
  pub I : Formula
  pub J : Formula
  pub before : Closed edition1 (occurs (second ++ third)) (lines first (second ++ third)) I
  pub after : Closed edition1 (occurs third) (lines (first ++ second) third) J
  pub same : entries before [] ≡ entries after []
  pub met : All (Meets v) second
  pub holds : True I v
  pub fails : ¬ (True J v)

nothing : (c : ℕ) → get_or (pos 0 ∷ pos 0 ∷ []) c (pos 0) ≡ pos 0
nothing zero = refl
nothing (suc zero) = refl
nothing (suc (suc c)) = refl

one : ¬ (pos 1 ≡ pos 0)
one h = omega ints

refute : (pos 1 ≤ℤ pos 0) ⊎ ((negsuc 0 ≡ pos 0) × (negsuc 0 ≤ℤ pos 0)) → ⊥
refute (inl h) = omega ints
refute (inr p) = let h = p.0 in omega ints

pub unlike-breaks : Broken
unfolding value sum coeff sums ◌⊞◌ ◌·◌ ◌plus◌ small every in_range
unlike-breaks = record {
  I = _;
  J = _;
  before = strengthen 1 refl (record { below = lit< tt; range = tt })
      (derive false (combine 0 2 1 1 refl refl (lit≤ tt) (lit≤ tt)) (record { below = lit< tt; range = tt }) (number {k = ≤0} 5 refl nothing (record { lt = tt })))
      (derive false (reduce 4 3 (pos 1) refl refl one) (record { below = lit< tt; range = tt }) (number {k = =0} 5 refl nothing one))
      (derive false (reduce 4 3 (pos 1) refl refl one) (record { below = lit< tt; range = tt }) (number {k = ≤0} 5 refl nothing (record { lt = tt })));
  after = strengthen 1 refl (record { below = lit< tt; range = tt })
      (derive false (combine 0 2 1 1 refl refl (lit≤ tt) (lit≤ tt)) (record { below = lit< tt; range = tt }) (number {k = ≤0} 5 refl nothing (record { lt = tt })))
      (derive false (reduce 4 3 (pos 1) refl refl one) (record { below = lit< tt; range = tt }) (number {k = =0} 5 refl nothing one))
      (derive false (reduce 4 3 (pos 1) refl refl one) (record { below = lit< tt; range = tt }) (number {k = ≤0} 5 refl nothing (record { lt = tt })));
  same = refl;
  met = cons {x = stated ≤0 (pos 0) (pos 1) (pos 0)} (record { le = tt }) nil;
  holds = inr (refl, record { le = tt });
  fails = refute;
}
