-- A line t ≠ 0 is always a constraint's: its place tells whose it is, and the rules of a split read as they are worded, as A's has tA = t and B's has tA = 0. Assumes nothing.
use mathlib.Core.Path.{◌≡◌, refl, ◌∙◌, ap, ap₂, subst}
use mathlib.Core.List.{List, [], ◌∷◌, map}
use Prim.Native.Nat.{ℕ, zero, suc, ◌≤◌, ◌<◌}
use native.Mathlib.Omega.{arith}
use lib.ListN.{length}
use lib.IntN.{ℤ, pos, negsuc, ◌*ℤ◌}
use Rattle.integers.proofs.RingLaws.{ring-laws}
use Rattle.forms.specs.Forms.{Form, Kind, ≤0, Side, A, B, ConstraintKind, says, ≠0, LineKind, plain, apart, kind_on, Line, line_apart, line_a, line_b, lines, Constraint, All, neg, ◌·◌}
use Rattle.calculus.specs.Rules.{Nth, ◌▷◌, New, combine, reduce, scale}
use Rattle.calculus.specs.Reached.{Reached, root, derived, branched, split, split_negated}
use Rattle.calculus.proofs.Sides.{all-nth, all-and, all_append, all_made}

-- what a line t ≠ 0 has for tA
abbrev Own : LineKind → (t t_A : Form) → Type 0
Own (plain k) t t_A = Unit
Own (apart A) t t_A = t_A ≡ t
Own (apart B) t t_A = t_A ≡ pos 0 · t

abbrev Owns : Line → Type 0
Owns l = Own l.kind l.t l.t_A

own-A : (k : ConstraintKind) (t : Form) → Own (kind_on A k) t t
own-A (says k) t = tt
own-A ≠0 t = refl

own-B : (k : ConstraintKind) (t : Form) → Own (kind_on B k) t (pos 0 · t)
own-B (says k) t = tt
own-B ≠0 t = refl

own_new : {ls : List Line} {l : Line} → New ls l → Owns l
own_new (combine _ _ _ _ _ _ _ _) = tt
own_new (reduce _ _ _ _ _ _) = tt
own_new (scale _ _ _ _) = tt

owns : {a b : List Constraint} {ls : List Line} → Reached a b ls → All Owns ls
owns {a} {b} root = all_append (all_made line_a a (λ c. own-A c.kind c.form)) (all_made line_b b (λ c. own-B c.kind c.form))
owns (derived r n) = all-and (owns r) (own_new n)
owns (branched i kind k j r p) = all-and (owns r) tt
owns (split i j r p) = all-and (owns r) tt
owns (split_negated i j r p) = all-and (owns r) tt

-- ---- no row makes one, so it stands among the lines of the bundles
new-plain : {ls : List Line} {l : Line} → New ls l → (k : Kind) × (l.kind ≡ plain k)
new-plain (combine _ _ _ _ _ _ _ _) = (≤0, refl)
new-plain (reduce {k = k} _ _ _ _ _ _) = (k, refl)
new-plain (scale {k = k} _ _ _ _) = (k, refl)

module _ {σ : Side} {t t_A : Form} where
  earlier : (ls : List Line) (l : Line) {k : Kind} → l.kind ≡ plain k → (i : ℕ) → Nth (ls ▷ l) i (line_apart σ t t_A) → Nth ls i (line_apart σ t t_A)
  earlier [] l q zero e = absurd (let z : ◌≡◌ {A = ℕ} 0 1 = cc in omega arith)
  earlier [] l q (suc i) e = absurd (let z : ◌≡◌ {A = ℕ} 0 1 = cc in omega arith)
  earlier (x ∷ ls) l q zero e = e
  earlier (x ∷ ls) l q (suc i) e = earlier ls l q i e

  pub given : {a b : List Constraint} {ls : List Line} → Reached a b ls → (i : ℕ) → Nth ls i (line_apart σ t t_A) → Nth (lines a b) i (line_apart σ t t_A)
  given root i e = e
  given (derived {ls = ls} {l = l} r n) i e = given r i (earlier ls l (new-plain n).1 i e)
  given (branched {ls = ls} _ kind k j r p) i e = given r i (earlier ls _ refl i e)
  given (split {ls = ls} _ j r p) i e = given r i (earlier ls _ refl i e)
  given (split_negated {ls = ls} _ j r p) i e = given r i (earlier ls _ refl i e)

-- ---- below A's count it is A's, else B's
abbrev Not : Side → LineKind → Type 0
Not σ (plain k) = Unit
Not A (apart A) = ⊥
Not A (apart B) = Unit
Not B (apart A) = Unit
Not B (apart B) = ⊥

not-A : (k : ConstraintKind) → Not A (kind_on B k)
not-A (says k) = tt
not-A ≠0 = tt

not-B : (k : ConstraintKind) → Not B (kind_on A k)
not-B (says k) = tt
not-B ≠0 = tt

module _ (b : List Constraint) {t t_A : Form} where
  below : (a : List Constraint) (i : ℕ) → Nth (lines a b) i (line_apart A t t_A) → i < length a
  below [] i e = absurd (all-nth {P = λ (l : Line). Not A l.kind} i (all_made line_b b (λ c. not-A c.kind)) e)
  below (c ∷ a) zero e = omega arith
  below (c ∷ a) (suc i) e = omega (arith, below a i e)

  from : (a : List Constraint) (i : ℕ) → Nth (lines a b) i (line_apart B t t_A) → length a ≤ i
  from [] i e = omega arith
  from (c ∷ a) zero e = absurd (subst (λ (l : Line). Not B l.kind) (let same : line_a c ≡ line_apart B t t_A = cc in same) (not-B c.kind))
  from (c ∷ a) (suc i) e = omega (arith, from a i e)

neg-zero : (t : Form) → neg (pos 0 · t) ≡ pos 0 · t
unfolding ◌·◌
neg-zero t = ap₂ (λ (l : List ℤ) (z : ℤ). record { coeffs = l; d = z }) (go t.coeffs) (zero t.d)
  where
    zero : (z : ℤ) → negsuc 0 *ℤ (pos 0 *ℤ z) ≡ pos 0 *ℤ z
    zero z = simp ring-laws

    go : (l : List ℤ) → map (λ (c : ℤ). negsuc 0 *ℤ c) (map (λ (c : ℤ). pos 0 *ℤ c) l) ≡ map (λ (c : ℤ). pos 0 *ℤ c) l
    go [] = refl
    go (c ∷ l) = ap₂ ◌∷◌ (zero c) (go l)

module _ {a b : List Constraint} {ls : List Line} {t t_A : Form} (r : Reached a b ls) (i : ℕ) where
  -- whose it is goes by its place
  pub place-A : Nth ls i (line_apart A t t_A) → i < length a
  place-A p = below b a i (given r i p)

  pub place-B : Nth ls i (line_apart B t t_A) → length a ≤ i
  place-B p = from b a i (given r i p)

  -- for a line of A the new partial interpolants are the forms themselves
  pub apart-A : Nth ls i (line_apart A t t_A) → t_A ≡ t
  apart-A p = all-nth i (owns r) p

  -- for a line of B they are 0
  pub apart-B : Nth ls i (line_apart B t t_A) → t_A ≡ pos 0 · t
  apart-B p = all-nth i (owns r) p

  pub apart-B-negated : Nth ls i (line_apart B t t_A) → neg t_A ≡ pos 0 · t
  apart-B-negated p = ap neg (apart-B p) ∙ neg-zero t
