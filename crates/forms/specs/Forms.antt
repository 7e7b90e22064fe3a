-- Forms, constraints, lines and formulas, and what they say at an assignment. docs/FORMAT.md, "Bundle" and "Formula". Assumes nothing.
use Rattle.std.specs.Prelude.{◌≡◌, ◌⊎◌, List, [], ◌∷◌, ◌++◌, map, Bool, true, false, not, cond, ◌&&◌, ◌||◌, ℕ, suc, max, leb, get_or, ℤ, pos, negsuc, nat_abs, ◌+ℤ◌, ◌*ℤ◌, ◌≤ℤ◌}
use Rattle.integers.specs.Linear.{eq_z}
use Rattle.integers.specs.Divides.{◌∣ℤ◌}

-- A form has one coefficient for each constant 0 .. K-1 and a constant term d.
pub record Form : Type 0 where
  pub coeffs : List ℤ
  pub d : ℤ

-- The coefficient of constant k.
unfoldable pub coeff : Form → ℕ → ℤ
coeff t k = get_or t.coeffs k (pos 0)

-- An integer assignment gives each constant a whole number of any size.
abbrev pub Assignment : Type 0
Assignment = ℕ → ℤ

-- The same for the constants 1, 2, ..
abbrev pub rest : {X : Type 0} → (ℕ → X) → ℕ → X
rest f k = f (suc k)

-- The value of a form is its coefficients times these, summed, plus d.
unfoldable pub sum : List ℤ → Assignment → ℤ
sum [] v = pos 0
sum (c ∷ cs) v = c *ℤ v 0 +ℤ sum cs (rest v)

unfoldable pub value : Form → Assignment → ℤ
unfolding sum
value t v = sum t.coeffs v +ℤ t.d

-- s + t, α·t and t + n. (Of lists of unequal length the longer one's end is kept, so that no law asks for lengths.)
unfoldable pub sums : List ℤ → List ℤ → List ℤ
sums [] m = m
sums (a ∷ l) [] = a ∷ l
sums (a ∷ l) (b ∷ m) = (a +ℤ b) ∷ sums l m

infixl 6 ◌⊞◌
infixl 7 ◌·◌
infixl 6 ◌plus◌
unfoldable pub ◌⊞◌ : Form → Form → Form
unfolding sums
s ⊞ t = record { coeffs = sums s.coeffs t.coeffs; d = s.d +ℤ t.d }

unfoldable pub ◌·◌ : ℤ → Form → Form
α · t = record { coeffs = map (λ (c : ℤ). α *ℤ c) t.coeffs; d = α *ℤ t.d }

unfoldable pub ◌plus◌ : Form → ℕ → Form
t plus n = record { coeffs = t.coeffs; d = t.d +ℤ pos n }

-- -t
abbrev pub neg : Form → Form
neg t = negsuc 0 · t

-- t with the coefficients of the constants outside p set to 0, and all else as it stands.
unfoldable pub only : (ℕ → Bool) → List ℤ → List ℤ
only p [] = []
only p (c ∷ cs) = cond (p 0) c (pos 0) ∷ only (rest p) cs

unfoldable pub within : (ℕ → Bool) → Form → Form
unfolding only
within p t = record { coeffs = only p t.coeffs; d = t.d }

-- What a literal, or a line that a row makes, says of its form: "t ≤ 0" or "t = 0".
pub data Kind : Type 0 where
  ≤0 =0 : Kind

abbrev pub Holds : Kind → ℤ → Type 0
Holds ≤0 z = z ≤ℤ pos 0
Holds =0 z = z ≡ pos 0

-- What a constraint says of its form: "t ≤ 0", "t = 0", or "t ≠ 0".
pub data ConstraintKind : Type 0 where
  says : Kind → ConstraintKind
  ≠0 : ConstraintKind

-- An assignment meets a constraint if what that says holds of t's value.
pub record Constraint : Type 0 where
  pub kind : ConstraintKind
  pub form : Form

abbrev pub ConstraintHolds : ConstraintKind → ℤ → Type 0
ConstraintHolds (says k) z = Holds k z
ConstraintHolds ≠0 z = ¬ (z ≡ pos 0)

abbrev pub Meets : Assignment → Constraint → Type 0
Meets v c = ConstraintHolds c.kind (value c.form v)

-- P holds of each element.
pub data All {X : Type 0} (P : X → Type 0) : List X → Type 0 where
  nil : All P []
  cons : {x : X} {xs : List X} → P x → All P xs → All P (x ∷ xs)

-- z lies within ± the range, and each element of a list passes a test.
unfoldable pub small : ℕ → ℤ → Bool
small range z = leb (nat_abs z) range

unfoldable pub every : {X : Type 0} → (X → Bool) → List X → Bool
every p [] = true
every p (x ∷ xs) = p x && every p xs

-- A constant occurs in a bundle if some constraint there gives it a non-zero coefficient.
unfoldable pub nonzero : ℤ → Bool
nonzero z = not (eq_z z (pos 0))

unfoldable pub occurs : List Constraint → ℕ → Bool
unfolding nonzero coeff
occurs [] k = false
occurs (c ∷ cs) k = nonzero (coeff c.form k) || occurs cs k

-- A line is a form t with "t = 0" or "t ≤ 0", together with a second form tA, its partial interpolant; or it is a constraint "t ≠ 0" of A or of B
-- which no row makes.
pub data Side : Type 0 where
  A B : Side

pub data LineKind : Type 0 where
  plain : Kind → LineKind
  apart : Side → LineKind

pub record Line : Type 0 where
  pub kind : LineKind
  pub t : Form
  pub t_A : Form

abbrev pub line : Kind → Form → Form → Line
line k t t_A = record { kind = plain k; t = t; t_A = t_A }

abbrev pub line_apart : Side → Form → Form → Line
line_apart σ t t_A = record { kind = apart σ; t = t; t_A = t_A }

-- The kind of the line of a constraint, by the bundle in which that stands.
abbrev pub kind_on : Side → ConstraintKind → LineKind
kind_on σ (says k) = plain k
kind_on σ ≠0 = apart σ

-- An A line has tA = t; a B line has tA = 0.
abbrev pub line_a : Constraint → Line
line_a c = record { kind = kind_on A c.kind; t = c.form; t_A = c.form }

abbrev pub line_b : Constraint → Line
line_b c = record { kind = kind_on B c.kind; t = c.form; t_A = pos 0 · c.form }

-- Lines 0, 1, .. are A's constraints in file order, then B's.
abbrev pub lines : List Constraint → List Constraint → List Line
lines a b = map line_a a ++ map line_b b

-- Formulas. A literal says "t ≤ 0" or "t = 0"; `g divides t` is a stride part.
infix 5 ◌divides◌
infixr 3 ◌and◌
infixr 2 ◌or◌
pub data Formula : Type 0 where
  literal : Kind → Form → Formula
  ◌divides◌ : ℕ → Form → Formula
  ◌and◌ ◌or◌ : Formula → Formula → Formula

-- A formula is true as it reads, a stride part if g divides the value of its form.
abbrev pub True : Formula → Assignment → Type 0
True (literal k t) v = Holds k (value t v)
True (g divides t) v = pos g ∣ℤ value t v
True (I and J) v = True I v × True J v
True (I or J) v = True I v ⊎ True J v

-- A formula names a constant if some form in it has a non-zero coefficient for it.
unfoldable pub names : Formula → ℕ → Bool
unfolding nonzero coeff
names (literal _ t) k = nonzero (coeff t k)
names (_ divides t) k = nonzero (coeff t k)
names (I and J) k = names I k || names J k
names (I or J) k = names I k || names J k

-- How many levels of and/or a formula has.
abbrev pub height : Formula → ℕ
height (literal k t) = 0
height (g divides t) = 0
height (I and J) = suc (max (height I) (height J))
height (I or J) = suc (max (height I) (height J))
