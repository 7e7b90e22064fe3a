-- What the proofs compute: the report of a closed branch, and the entries that stay. Assumes nothing.
use mathlib.Core.List.{List, ◌∷◌}
use mathlib.Core.Bool.{Bool}
use Prim.Native.Nat.{ℕ}
use lib.ListN.{length}
use Rattle.forms.specs.Edition.{Edition}
use Rattle.forms.specs.Forms.{Form, Line, Formula}
use Rattle.calculus.specs.Rules.{Closed, derive, strengthen, round, split_eq, split_neq, number, stride, Rounded, last, more, Row, Derive, Strengthen, Round, Split, CloseNumber, CloseStride, Entry, row, claim}
use Rattle.shortening.specs.Needed.{DependsOn, depends_on, mark_of, renumber}
use Rattle.shortening.specs.Passes.{retentions_on, remaining}

-- Every row 0x10 to 0x12 is needed: the rest of its branch rests on its line.
abbrev mutual
  pub AllNeeded : {e : Edition} {in_b : ℕ → Bool} {ls : List Line} {I : Formula} → Closed e in_b ls I → Type 0
  AllNeeded (derive {ls = ls} _ _ _ p) = DependsOn p (length ls) × AllNeeded p
  AllNeeded (strengthen _ _ _ p1 pE p0) = AllNeeded p1 × AllNeeded pE × AllNeeded p0
  AllNeeded (round _ _ _ _ p ps) = AllNeeded p × AllNeededRounded ps
  AllNeeded (split_eq _ _ _ _ p q) = AllNeeded p × AllNeeded q
  AllNeeded (split_neq _ _ _ _ p q) = AllNeeded p × AllNeeded q
  AllNeeded (number _ _ _ _) = Unit {0}
  AllNeeded (stride _ _ _ _ _ _ _) = Unit {0}

  pub AllNeededRounded : {e : Edition} {in_b : ℕ → Bool} {ls : List Line} {t t_A : Form} {g k j : ℕ} {I : Formula} → Rounded e in_b ls t t_A g k j I → Type 0
  AllNeededRounded (last _ _ p) = AllNeeded p
  AllNeededRounded (more _ _ p ps) = AllNeeded p × AllNeededRounded ps

-- The report of a closed branch, and then the rest: for each row in the table's order 1 where it is needed, 0 where not, 2 for a close or branching row.
abbrev mutual
  pub report : {e : Edition} {in_b : ℕ → Bool} {ls : List Line} {I : Formula} → Closed e in_b ls I → List ℕ → List ℕ
  report (derive {ls = ls} _ _ _ p) rest = mark_of (depends_on p (length ls)) ∷ report p rest
  report (strengthen _ _ _ p1 pE p0) rest = 2 ∷ report p1 (report pE (report p0 rest))
  report (round _ _ _ _ p ps) rest = 2 ∷ report p (report_rounded ps rest)
  report (split_eq _ _ _ _ p q) rest = 2 ∷ report p (report q rest)
  report (split_neq _ _ _ _ p q) rest = 2 ∷ report p (report q rest)
  report (number _ _ _ _) rest = 2 ∷ rest
  report (stride _ _ _ _ _ _ _) rest = 2 ∷ rest

  pub report_rounded : {e : Edition} {in_b : ℕ → Bool} {ls : List Line} {t t_A : Form} {g k j : ℕ} {I : Formula} → Rounded e in_b ls t t_A g k j I → List ℕ → List ℕ
  report_rounded (last _ _ p) rest = report p rest
  report_rounded (more _ _ p ps) rest = report p (report_rounded ps rest)

-- The entries that are left.
abbrev pub renumber_row : (ℕ → ℕ) → Row → Row
renumber_row f (Derive s) = Derive (renumber f s)
renumber_row f (Strengthen i) = Strengthen (f i)
renumber_row f (Round i g k) = Round (f i) g k
renumber_row f (Split i) = Split (f i)
renumber_row f (CloseNumber i) = CloseNumber (f i)
renumber_row f (CloseStride i g) = CloseStride (f i) g

abbrev pub renumber_entry : (ℕ → ℕ) → Entry → Entry
renumber_entry f (row r) = row (renumber_row f r)
renumber_entry f (claim t t_A) = claim t t_A

abbrev pub shorten_table : (n : ℕ) → List Entry → List Entry
shorten_table n es = remaining renumber_entry (retentions_on n es) es
