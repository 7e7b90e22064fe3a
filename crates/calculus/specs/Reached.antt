-- The lists of lines that rows reach, and from which bundle each line draws its constants. Assumes nothing.
use Rattle.std.specs.Prelude.{List, Bool, ℕ, T, ◌-ℤ◌}
use Rattle.forms.specs.Edition.{Edition}
use Rattle.forms.specs.Forms.{All, Form, Kind, ≤0, Side, Line, line, line_apart, neg, Constraint, lines, Formula, coeff, nonzero, names, occurs, ◌plus◌}
use Rattle.calculus.specs.Rules.{Nth, ◌▷◌, New, Closed, derive, strengthen, round, split_eq, split_neq, number, stride, Rounded, last, more}

-- The partial interpolant tA draws its constants from A alone, the rest of the line, t - tA, from B alone.
pub record Drawn (A B : List Constraint) (l : Line) : Type 0 where
  pub from_A : (c : ℕ) → T (nonzero (coeff l.t_A c)) → T (occurs A c)
  pub from_B : (c : ℕ) → T (nonzero (coeff l.t c -ℤ coeff l.t_A c)) → T (occurs B c)

-- The lines of a branch that rows reach from A and B.
pub data Reached (A B : List Constraint) : List Line → Type 0 where
  -- the constraints
  root : Reached A B (lines A B)
  -- and the line of a row 0x10 to 0x12
  derived : {ls : List Line} {l : Line} → Reached A B ls → New ls l → Reached A B (ls ▷ l)
  -- and the line that a branch starts with, of either kind: t+k with tA+j, where t ≤ 0 is line i
  branched : {ls : List Line} {t t_A : Form} (i : ℕ) (kind : Kind) (k j : ℕ) → Reached A B ls → Nth ls i (line ≤0 t t_A)
      → Reached A B (ls ▷ line kind (t plus k) (t_A plus j))
  -- the same where t ≠ 0 is line i: t+1 with tA+j, or -t+1 with -tA+j
  split : {ls : List Line} {σ : Side} {t t_A : Form} (i j : ℕ) → Reached A B ls → Nth ls i (line_apart σ t t_A) → Reached A B (ls ▷ line ≤0 (t plus 1) (t_A plus j))
  split_negated : {ls : List Line} {σ : Side} {t t_A : Form} (i j : ℕ) → Reached A B ls → Nth ls i (line_apart σ t t_A) → Reached A B (ls ▷ line ≤0 (neg t plus 1) (neg t_A plus j))

-- P holds of the lines that each row of a closed branch finds, in the branches that it opens too.
abbrev mutual
  pub Throughout : {e : Edition} {in_b : ℕ → Bool} (P : List Line → Type 0) {ls : List Line} {I : Formula} → Closed e in_b ls I → Type 0
  Throughout P (derive {ls = ls} _ _ _ p) = P ls × Throughout P p
  Throughout P (strengthen {ls = ls} _ _ _ p1 pE p0) = P ls × Throughout P p1 × Throughout P pE × Throughout P p0
  Throughout P (round {ls = ls} _ _ _ _ p ps) = P ls × Throughout P p × ThroughoutRounded P ps
  Throughout P (split_eq {ls = ls} _ _ _ _ p q) = P ls × Throughout P p × Throughout P q
  Throughout P (split_neq {ls = ls} _ _ _ _ p q) = P ls × Throughout P p × Throughout P q
  Throughout P (number {ls = ls} _ _ _ _) = P ls
  Throughout P (stride {ls = ls} _ _ _ _ _ _ _) = P ls

  pub ThroughoutRounded : {e : Edition} {in_b : ℕ → Bool} (P : List Line → Type 0) {ls : List Line} {t t_A : Form} {g k j : ℕ} {I : Formula}
      → Rounded e in_b ls t t_A g k j I → Type 0
  ThroughoutRounded P (last _ _ p) = Throughout P p
  ThroughoutRounded P (more _ _ p ps) = Throughout P p × ThroughoutRounded P ps

-- Point 10: over all rows partial interpolants draw their constants from A alone and the rest of a line from B alone, so a close names common ones only.
pub record DrawnBySide (A B : List Constraint) : Type 0 where
  -- every line of every list that rows reach
  pub of_lines : (ls : List Line) → Reached A B ls → All (Drawn A B) ls
  -- every line that each row of a closed proof from A and B finds
  pub of_rows : (e : Edition) (in_b : ℕ → Bool) (I : Formula) (p : Closed e in_b (lines A B) I) → Throughout (All (Drawn A B)) p
  -- a branch that is closed from a reached list, and be it by a single row
  pub of_closes : (e : Edition) (ls : List Line) (I : Formula) → Reached A B ls → Closed e (occurs B) ls I → (c : ℕ) → T (names I c) → T (occurs A c) × T (occurs B c)
