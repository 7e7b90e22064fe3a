-- A run of stages, its cuts, a uniform proof, and what the guards of a run promise. docs/FORMAT.md, "Guards of a run of stages". Assumes nothing.
use Rattle.std.specs.Prelude.{◌≡◌, List, [], ◌∷◌, ◌++◌, Bool, false, ℕ, suc, ◌≤◌, length, take, drop}
use Rattle.std.proofs.Math.Option.{some}
use Rattle.std.proofs.Math.ListN.{get_elem?}
use Rattle.forms.specs.Edition.{Edition}
use Rattle.forms.specs.Forms.{Form, Line, Formula, Constraint, All, Meets, Assignment, True}
use Rattle.calculus.specs.Rules.{Entry, Closed, derive, strengthen, round, split_eq, split_neq, number, stride, Rounded, last, more, entries, Proves, Interpolant}

-- ---- a uniform proof: the branches of a strengthen that start with t+1 ≤ 0 are the same rows, and all branches of one rounding; at every such step, and no claims
-- Each of the branches from j on has these entries.
abbrev pub Alike : {e : Edition} {in_b : ℕ → Bool} {ls : List Line} {t t_A : Form} {g k j : ℕ} {J : Formula} → List Entry → Rounded e in_b ls t t_A g k j J → Type 0
Alike es (last _ _ p) = es ≡ entries p []
Alike es (more _ _ p ps) = (es ≡ entries p []) × Alike es ps

abbrev mutual
  pub Uniform : {e : Edition} {in_b : ℕ → Bool} {ls : List Line} {I : Formula} → Closed e in_b ls I → Type 0
  Uniform (derive claimed _ _ p) = (claimed ≡ false) × Uniform p
  Uniform (strengthen _ _ _ p1 pE p0) = (entries p1 [] ≡ entries p0 []) × Uniform p1 × Uniform pE × Uniform p0
  Uniform (round _ _ _ _ p ps) = Alike (entries p []) ps × Uniform p × UniformRounded ps
  Uniform (split_eq _ _ _ _ p q) = Uniform p × Uniform q
  Uniform (split_neq _ _ _ _ p q) = Uniform p × Uniform q
  Uniform (number _ _ _ _) = Unit
  Uniform (stride _ _ _ _ _ _ _) = Unit

  pub UniformRounded : {e : Edition} {in_b : ℕ → Bool} {ls : List Line} {t t_A : Form} {g k j : ℕ} {J : Formula} → Rounded e in_b ls t t_A g k j J → Type 0
  UniformRounded (last _ _ p) = Uniform p
  UniformRounded (more _ _ p ps) = Uniform p × UniformRounded ps

-- ---- a run: stages T1 to Tn, each some constraints (here counted from 0: element i is T(i+1))
abbrev pub Run : Type 0
Run = List (List Constraint)

-- Lists end to end: all constraints of some stages, in order.
abbrev pub joined : {X : Type 0} → List (List X) → List X
joined [] = []
joined (T ∷ Ts) = T ++ joined Ts

-- Cut i: the stages up to i are A and the others B.
abbrev pub up_to : Run → ℕ → List Constraint
up_to Ts i = joined (take i Ts)

abbrev pub beyond : Run → ℕ → List Constraint
beyond Ts i = joined (drop i Ts)

-- One table is a closed proof of every cut, guard i what it derives from cut i, and it is uniform.
pub record Guards (e : Edition) (Ts : Run) (es : List Entry) (I : ℕ → Formula) : Type 0 where
  pub proves : (i : ℕ) → i ≤ length Ts → Proves e (up_to Ts i) (beyond Ts i) es (I i)
  pub uniform : (i : ℕ) (h : i ≤ length Ts) → Uniform (proves i h).proof

-- What the guards promise: a sequence of interpolants.
pub record Chain (Ts : Run) (I : ℕ → Formula) : Type 0 where
  -- I0 is true under every assignment, In under none
  pub first : (v : Assignment) → True (I 0) v
  pub last : (v : Assignment) → ¬ (True (I (length Ts)) v)
  -- wherever I(i-1) and Ti hold, Ii holds
  pub next : (v : Assignment) (i : ℕ) (T : List Constraint) → get_elem? Ts i ≡ some T → All (Meets v) T → True (I i) v → True (I (suc i)) v
  -- each Ii is an interpolant of the stages up to i and the others
  pub each : (i : ℕ) → i ≤ length Ts → Interpolant (up_to Ts i) (beyond Ts i) (I i)
