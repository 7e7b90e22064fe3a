-- What is computed of a closed branch decides which lines it rests on. Assumes nothing.
use mathlib.Core.Path.{◌≡◌, subst}
use mathlib.Core.Logic.{◌⊎◌, inl, inr, ◌↔◌}
use mathlib.Core.List.{List}
use mathlib.Core.Bool.{Bool, true, false, ◌&&◌, ◌||◌}
use Prim.Native.Nat.{ℕ}
use lib.ListN.{length}
use lib.Dec.{T, eqb, eqb→eq, eqb_refl}
use Rattle.forms.specs.Edition.{Edition}
use Rattle.forms.specs.Forms.{Form, Line, Formula}
use Rattle.calculus.specs.Rules.{Inference, Combine, Reduce, Scale, inference, Closed, derive, strengthen, round, split_eq, split_neq, number, stride, Rounded, last, more}
use Rattle.shortening.specs.Needed.{NamesLine, DependsOn, DependsOnRounded, named, depends_on, depends_on_rounded}

-- ---- tests
pub either : (a b : Bool) → T (a || b) → T a ⊎ T b
either true b h = inl h
either false b h = inr h

pub left : (a b : Bool) → T a → T (a || b)
left true b h = tt
left false b h = absurd h

pub right : (a b : Bool) → T b → T (a || b)
right true b h = tt
right false b h = h

both : (a b : Bool) → T a → T b → T (a && b)
both true b h k = k
both false b h k = h

first : (a b : Bool) → T (a && b) → T a
first true b h = tt
first false b h = h

second : (a b : Bool) → T (a && b) → T b
second true b h = h
second false b h = absurd h

pub same : (j i : ℕ) → j ≡ i → T (eqb j i)
same j i e = subst (λ (n : ℕ). T (eqb j n)) e (eqb_refl j)

or-true : (a b : Bool) {P Q : Type 0} → (P → T a) → (Q → T b) → P ⊎ Q → T (a || b)
or-true a b f g (inl p) = left a b (f p)
or-true a b f g (inr q) = right a b (g q)

true-or : (a b : Bool) {P Q : Type 0} → (T a → P) → (T b → Q) → T (a || b) → P ⊎ Q
true-or true b f g h = inl (f h)
true-or false b f g h = inr (g h)

pub named-names : (s : Inference) (j : ℕ) → T (named s j) → NamesLine s j
named-names (Combine s t _ _) j = true-or (eqb j s) (eqb j t) (eqb→eq j s) (eqb→eq j t)
named-names (Reduce s t _) j = true-or (eqb j s) (eqb j t) (eqb→eq j s) (eqb→eq j t)
named-names (Scale t _) j = eqb→eq j t

pub names-named : (s : Inference) (j : ℕ) → NamesLine s j → T (named s j)
names-named (Combine s t _ _) j = or-true (eqb j s) (eqb j t) (same j s) (same j t)
names-named (Reduce s t _) j = or-true (eqb j s) (eqb j t) (same j s) (same j t)
names-named (Scale t _) j = same j t

-- ---- the lines rested on
module _ {e : Edition} {in_b : ℕ → Bool} where
  mutual
    pub depends_on-true : {ls : List Line} {I : Formula} (p : Closed e in_b ls I) → (j : ℕ) → T (depends_on p j) → DependsOn p j
    depends_on-true (derive {ls = ls} _ n _ p) j = true-or (depends_on p j) (named (inference n) j && depends_on p (length ls)) (λ h. depends_on-true p j h)
        (λ h. (named-names (inference n) j (first (named (inference n) j) (depends_on p (length ls)) h), depends_on-true p (length ls) (second (named (inference n) j) (depends_on p (length ls)) h)))
    depends_on-true (strengthen i _ _ p1 pE p0) j = true-or (eqb j i) (depends_on p1 j || (depends_on pE j || depends_on p0 j)) (eqb→eq j i)
        (true-or (depends_on p1 j) (depends_on pE j || depends_on p0 j) (λ h. depends_on-true p1 j h) (true-or (depends_on pE j) (depends_on p0 j) (λ h. depends_on-true pE j h) (λ h. depends_on-true p0 j h)))
    depends_on-true (round i _ _ _ p ps) j = true-or (eqb j i) (depends_on p j || depends_on_rounded ps j) (eqb→eq j i) (true-or (depends_on p j) (depends_on_rounded ps j) (λ h. depends_on-true p j h) (λ h. depends_on-true-rounded ps j h))
    depends_on-true (split_eq i _ _ _ p q) j = true-or (eqb j i) (depends_on p j || depends_on q j) (eqb→eq j i) (true-or (depends_on p j) (depends_on q j) (λ h. depends_on-true p j h) (λ h. depends_on-true q j h))
    depends_on-true (split_neq i _ _ _ p q) j = true-or (eqb j i) (depends_on p j || depends_on q j) (eqb→eq j i) (true-or (depends_on p j) (depends_on q j) (λ h. depends_on-true p j h) (λ h. depends_on-true q j h))
    depends_on-true (number i _ _ _) j = eqb→eq j i
    depends_on-true (stride i _ _ _ _ _ _) j = eqb→eq j i

    depends_on-true-rounded : {ls : List Line} {t t_A : Form} {g k m : ℕ} {I : Formula} (p : Rounded e in_b ls t t_A g k m I) → (j : ℕ) → T (depends_on_rounded p j) → DependsOnRounded p j
    depends_on-true-rounded (last _ _ p) j = λ h. depends_on-true p j h
    depends_on-true-rounded (more _ _ p ps) j = true-or (depends_on p j) (depends_on_rounded ps j) (λ h. depends_on-true p j h) (λ h. depends_on-true-rounded ps j h)

  mutual
    pub true-depends_on : {ls : List Line} {I : Formula} (p : Closed e in_b ls I) → (j : ℕ) → DependsOn p j → T (depends_on p j)
    true-depends_on (derive {ls = ls} _ n _ p) j = or-true (depends_on p j) (named (inference n) j && depends_on p (length ls)) (λ h. true-depends_on p j h)
        (λ h. both (named (inference n) j) (depends_on p (length ls)) (names-named (inference n) j h.0) (true-depends_on p (length ls) h.1))
    true-depends_on (strengthen i _ _ p1 pE p0) j = or-true (eqb j i) (depends_on p1 j || (depends_on pE j || depends_on p0 j)) (same j i)
        (or-true (depends_on p1 j) (depends_on pE j || depends_on p0 j) (λ h. true-depends_on p1 j h) (or-true (depends_on pE j) (depends_on p0 j) (λ h. true-depends_on pE j h) (λ h. true-depends_on p0 j h)))
    true-depends_on (round i _ _ _ p ps) j = or-true (eqb j i) (depends_on p j || depends_on_rounded ps j) (same j i) (or-true (depends_on p j) (depends_on_rounded ps j) (λ h. true-depends_on p j h) (λ h. true-depends_on-rounded ps j h))
    true-depends_on (split_eq i _ _ _ p q) j = or-true (eqb j i) (depends_on p j || depends_on q j) (same j i) (or-true (depends_on p j) (depends_on q j) (λ h. true-depends_on p j h) (λ h. true-depends_on q j h))
    true-depends_on (split_neq i _ _ _ p q) j = or-true (eqb j i) (depends_on p j || depends_on q j) (same j i) (or-true (depends_on p j) (depends_on q j) (λ h. true-depends_on p j h) (λ h. true-depends_on q j h))
    true-depends_on (number i _ _ _) j = same j i
    true-depends_on (stride i _ _ _ _ _ _) j = same j i

    true-depends_on-rounded : {ls : List Line} {t t_A : Form} {g k m : ℕ} {I : Formula} (p : Rounded e in_b ls t t_A g k m I) → (j : ℕ) → DependsOnRounded p j → T (depends_on_rounded p j)
    true-depends_on-rounded (last _ _ p) j = λ h. true-depends_on p j h
    true-depends_on-rounded (more _ _ p ps) j = or-true (depends_on p j) (depends_on_rounded ps j) (λ h. true-depends_on p j h) (λ h. true-depends_on-rounded ps j h)

  -- what is computed decides the relation
  pub depends-iff : {ls : List Line} {I : Formula} (p : Closed e in_b ls I) (j : ℕ) → T (depends_on p j) ↔ DependsOn p j
  depends-iff p j = (depends_on-true p j, true-depends_on p j)
