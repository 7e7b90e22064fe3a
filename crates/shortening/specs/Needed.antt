-- Rows that nothing rests on, and a closed branch without them. docs/FORMAT.md, "Rows that nothing rests on". Assumes nothing.
use Rattle.std.specs.Prelude.{◌≡◌, ◌⊎◌, List, [], ◌∷◌, Bool, true, false, cond, ◌&&◌, ◌||◌, ℕ, zero, suc, length, eqb}
use Rattle.forms.specs.Edition.{Edition}
use Rattle.forms.specs.Forms.{Form, Line, Formula}
use Rattle.calculus.specs.Rules.{Inference, Combine, Reduce, Scale, inference, Closed, derive, strengthen, round, split_eq, split_neq, number, stride, Rounded, last, more, Derive, Strengthen, Round, Split, CloseNumber, CloseStride, Entry, row, claims}

-- ---- the relation
-- A row 0x10 to 0x12 names line j.
abbrev pub NamesLine : Inference → ℕ → Type 0
NamesLine (Combine s t _ _) j = (j ≡ s) ⊎ (j ≡ t)
NamesLine (Reduce s t _) j = (j ≡ s) ⊎ (j ≡ t)
NamesLine (Scale t _) j = j ≡ t

-- A row 0x10 to 0x12 is needed if a close or branching row names its line, or a needed row 0x10 to 0x12 does. By recursion on the derivation: a closed branch depends on line j,
-- one of those with which it starts, where a close or branching row names it, in the branch or in one that it opens, or where a row 0x10 to 0x12 names it and the rest of
-- the branch depends on that row's own line, number `length ls`. A claim names no line.
abbrev mutual
  pub DependsOn : {e : Edition} {in_b : ℕ → Bool} {ls : List Line} {I : Formula} → Closed e in_b ls I → ℕ → Type 0
  DependsOn (derive {ls = ls} _ n _ p) j = DependsOn p j ⊎ (NamesLine (inference n) j × DependsOn p (length ls))
  DependsOn (strengthen i _ _ p1 pE p0) j = (j ≡ i) ⊎ (DependsOn p1 j ⊎ (DependsOn pE j ⊎ DependsOn p0 j))
  DependsOn (round i _ _ _ p ps) j = (j ≡ i) ⊎ (DependsOn p j ⊎ DependsOnRounded ps j)
  DependsOn (split_eq i _ _ _ p q) j = (j ≡ i) ⊎ (DependsOn p j ⊎ DependsOn q j)
  DependsOn (split_neq i _ _ _ p q) j = (j ≡ i) ⊎ (DependsOn p j ⊎ DependsOn q j)
  DependsOn (number i _ _ _) j = j ≡ i
  DependsOn (stride i _ _ _ _ _ _) j = j ≡ i

  pub DependsOnRounded : {e : Edition} {in_b : ℕ → Bool} {ls : List Line} {t t_A : Form} {g k b : ℕ} {I : Formula} → Rounded e in_b ls t t_A g k b I → ℕ → Type 0
  DependsOnRounded (last _ _ p) j = DependsOn p j
  DependsOnRounded (more _ _ p ps) j = DependsOn p j ⊎ DependsOnRounded ps j

-- ---- the same, computed
abbrev pub named : Inference → ℕ → Bool
named (Combine s t _ _) j = eqb j s || eqb j t
named (Reduce s t _) j = eqb j s || eqb j t
named (Scale t _) j = eqb j t

abbrev mutual
  pub depends_on : {e : Edition} {in_b : ℕ → Bool} {ls : List Line} {I : Formula} → Closed e in_b ls I → ℕ → Bool
  depends_on (derive {ls = ls} _ n _ p) j = depends_on p j || (named (inference n) j && depends_on p (length ls))
  depends_on (strengthen i _ _ p1 pE p0) j = eqb j i || (depends_on p1 j || (depends_on pE j || depends_on p0 j))
  depends_on (round i _ _ _ p ps) j = eqb j i || (depends_on p j || depends_on_rounded ps j)
  depends_on (split_eq i _ _ _ p q) j = eqb j i || (depends_on p j || depends_on q j)
  depends_on (split_neq i _ _ _ p q) j = eqb j i || (depends_on p j || depends_on q j)
  depends_on (number i _ _ _) j = eqb j i
  depends_on (stride i _ _ _ _ _ _) j = eqb j i

  pub depends_on_rounded : {e : Edition} {in_b : ℕ → Bool} {ls : List Line} {t t_A : Form} {g k b : ℕ} {I : Formula} → Rounded e in_b ls t t_A g k b I → ℕ → Bool
  depends_on_rounded (last _ _ p) j = depends_on p j
  depends_on_rounded (more _ _ p ps) j = depends_on p j || depends_on_rounded ps j

-- A byte for a row 0x10 to 0x12: 1 where it is needed, 0 where not.
abbrev pub mark_of : Bool → ℕ
mark_of true = 1
mark_of false = 0

-- What a report says, without computing: ns is the report of a closed branch, and then the rest.
abbrev pub Decides : Type 0 → List ℕ → List ℕ → Type 0
Decides Need ns1 ns = (Need × (ns ≡ 1 ∷ ns1)) ⊎ ((¬ Need) × (ns ≡ 0 ∷ ns1))

abbrev mutual
  pub Reports : {e : Edition} {in_b : ℕ → Bool} {ls : List Line} {I : Formula} → Closed e in_b ls I → (rest ns : List ℕ) → Type 0
  Reports (derive {ls = ls} _ _ _ p) = λ rest ns. (ns1 : List ℕ) × Reports p rest ns1 × Decides (DependsOn p (length ls)) ns1 ns
  Reports (strengthen _ _ _ p1 pE p0) = λ rest ns. (a b c : List ℕ) × Reports p0 rest a × Reports pE a b × Reports p1 b c × (ns ≡ 2 ∷ c)
  Reports (round _ _ _ _ p ps) = λ rest ns. (a b : List ℕ) × ReportsRounded ps rest a × Reports p a b × (ns ≡ 2 ∷ b)
  Reports (split_eq _ _ _ _ p q) = λ rest ns. (a b : List ℕ) × Reports q rest a × Reports p a b × (ns ≡ 2 ∷ b)
  Reports (split_neq _ _ _ _ p q) = λ rest ns. (a b : List ℕ) × Reports q rest a × Reports p a b × (ns ≡ 2 ∷ b)
  Reports (number _ _ _ _) = λ rest ns. ns ≡ 2 ∷ rest
  Reports (stride _ _ _ _ _ _ _) = λ rest ns. ns ≡ 2 ∷ rest

  pub ReportsRounded : {e : Edition} {in_b : ℕ → Bool} {ls : List Line} {t t_A : Form} {g k b : ℕ} {I : Formula} → Rounded e in_b ls t t_A g k b I → (rest ns : List ℕ) → Type 0
  ReportsRounded (last _ _ p) = Reports p
  ReportsRounded (more _ _ p ps) = λ rest ns. (a : List ℕ) × ReportsRounded ps rest a × Reports p a ns

-- A report without its 0s.
abbrev pub without_zeros : List ℕ → List ℕ
without_zeros [] = []
without_zeros (zero ∷ ns) = without_zeros ns
without_zeros (suc n ∷ ns) = suc n ∷ without_zeros ns

-- ---- the shorter table
-- New numbers of lines: line n of the branch has the number m, the others as in f.
abbrev pub renew : (ℕ → ℕ) → (n m : ℕ) → ℕ → ℕ
renew f n m j = cond (eqb j n) m (f j)

abbrev pub renumber : (ℕ → ℕ) → Inference → Inference
renumber f (Combine s t α β) = Combine (f s) (f t) α β
renumber f (Reduce s t α) = Reduce (f s) (f t) α
renumber f (Scale t α) = Scale (f t) α

-- A row with its claim, or neither; how many lines are kept with it.
abbrev pub kept_row : Bool → Inference → (claimed : Bool) → Line → List Entry → List Entry
kept_row true s claimed l es = row (Derive s) ∷ claims claimed l es
kept_row false s claimed l es = es

abbrev pub kept_lines : Bool → ℕ → ℕ
kept_lines true m = suc m
kept_lines false m = m

-- The entries of a closed branch without the rows that are not needed, and then the rest. f has the new numbers of the branch's lines, m of which are kept:
-- the new number of a line is how many kept lines stand before it.
abbrev mutual
  pub shortened : {e : Edition} {in_b : ℕ → Bool} {ls : List Line} {I : Formula} → Closed e in_b ls I → (f : ℕ → ℕ) (m : ℕ) → List Entry → List Entry
  shortened (derive {ls = ls} {l = l} claimed n _ p) f m rest =
      kept_row (depends_on p (length ls)) (renumber f (inference n)) claimed l (shortened p (renew f (length ls) m) (kept_lines (depends_on p (length ls)) m) rest)
  shortened (strengthen {ls = ls} i _ _ p1 pE p0) f m rest =
      row (Strengthen (f i)) ∷ shortened p1 (renew f (length ls) m) (suc m) (shortened pE (renew f (length ls) m) (suc m) (shortened p0 (renew f (length ls) m) (suc m) rest))
  shortened (round {ls = ls} i g k _ p ps) f m rest = row (Round (f i) g k) ∷ shortened p (renew f (length ls) m) (suc m) (shortened_rounded ps f m rest)
  shortened (split_eq {ls = ls} i _ _ _ p q) f m rest = row (Split (f i)) ∷ shortened p (renew f (length ls) m) (suc m) (shortened q (renew f (length ls) m) (suc m) rest)
  shortened (split_neq {ls = ls} i _ _ _ p q) f m rest = row (Split (f i)) ∷ shortened p (renew f (length ls) m) (suc m) (shortened q (renew f (length ls) m) (suc m) rest)
  shortened (number i _ _ _) f m rest = row (CloseNumber (f i)) ∷ rest
  shortened (stride i g _ _ _ _ _) f m rest = row (CloseStride (f i) g) ∷ rest

  pub shortened_rounded : {e : Edition} {in_b : ℕ → Bool} {ls : List Line} {t t_A : Form} {g k b : ℕ} {I : Formula} → Rounded e in_b ls t t_A g k b I → (f : ℕ → ℕ) (m : ℕ) → List Entry → List Entry
  shortened_rounded (last {ls = ls} _ _ p) f m rest = shortened p (renew f (length ls) m) (suc m) rest
  shortened_rounded (more {ls = ls} _ _ p ps) f m rest = shortened p (renew f (length ls) m) (suc m) (shortened_rounded ps f m rest)
