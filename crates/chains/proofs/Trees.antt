-- The rows of a closed branch as a tree. Two tables of the same entries have the same tree, so a uniform proof has a uniform tree. Assumes nothing.
use mathlib.Core.Path.{◌≡◌, refl, sym, ap, ap₂, subst}
use mathlib.Core.List.{List, [], ◌∷◌}
use mathlib.Core.Bool.{Bool, true, false}
use Prim.Native.Nat.{ℕ, suc, ◌<◌}
use native.Mathlib.Omega.{arith}
use Rattle.forms.specs.Edition.{Edition}
use Rattle.forms.specs.Forms.{Form, Line, Formula}
use Rattle.calculus.specs.Rules.{Inference, Derive, Strengthen, CloseNumber, CloseStride, Round, Split, Entry, row, claim, Closed, derive, strengthen, round, split_eq, split_neq, number, stride, Rounded, last, more, inference, entries, entries_rounded}
use Rattle.chains.specs.Runs.{Alike, Uniform}

-- The rows of a closed branch, without its lines: what two cuts of the same constraints share.
mutual
  pub data Tree : Type 0 where
    ByDerive : Inference → Tree → Tree
    ByStrengthen : (i : ℕ) → (first middle third : Tree) → Tree
    ByNumber : (i : ℕ) → Tree
    ByStride : (i g : ℕ) → Tree
    ByRound : (i g k : ℕ) → (first : Tree) → (others : Trees) → Tree
    BySplit : (i : ℕ) → Tree → Tree → Tree

  pub data Trees : Type 0 where
    Final : Tree → Trees
    Further : Tree → Trees → Trees

abbrev mutual
  pub tree : {e : Edition} {in_b : ℕ → Bool} {ls : List Line} {I : Formula} → Closed e in_b ls I → Tree
  tree (derive _ n _ p) = ByDerive (inference n) (tree p)
  tree (strengthen i _ _ p1 pE p0) = ByStrengthen i (tree p1) (tree pE) (tree p0)
  tree (number i _ _ _) = ByNumber i
  tree (stride i g _ _ _ _ _) = ByStride i g
  tree (round i g k _ p ps) = ByRound i g k (tree p) (trees ps)
  tree (split_eq i _ _ _ p q) = BySplit i (tree p) (tree q)
  tree (split_neq i _ _ _ p q) = BySplit i (tree p) (tree q)

  pub trees : {e : Edition} {in_b : ℕ → Bool} {ls : List Line} {t t_A : Form} {g k j : ℕ} {J : Formula} → Rounded e in_b ls t t_A g k j J → Trees
  trees (last _ _ p) = Final (tree p)
  trees (more _ _ p ps) = Further (tree p) (trees ps)

-- Each of these is the tree a.
abbrev pub SameTrees : Tree → Trees → Type 0
SameTrees a (Final b) = a ≡ b
SameTrees a (Further b bs) = (a ≡ b) × SameTrees a bs

-- The branches of a strengthen that start with t+1 ≤ 0 are the same rows, at every strengthen; and all branches of one rounding.
abbrev pub UniformTree : Tree → Type 0
UniformTree (ByDerive _ a) = UniformTree a
UniformTree (ByStrengthen _ a b c) = (a ≡ c) × UniformTree a × UniformTree b
UniformTree (ByNumber _) = Unit
UniformTree (ByStride _ _) = Unit
UniformTree (ByRound _ _ _ a bs) = SameTrees a bs × UniformTree a
UniformTree (BySplit _ a b) = UniformTree a × UniformTree b

-- ---- a table of entries reads as a tree, and leaves the rest
mutual
  data Reads : Tree → List Entry → List Entry → Type 0 where
    derives : {s : Inference} {a : Tree} {es x : List Entry} → Reads a es x → Reads (ByDerive s a) (row (Derive s) ∷ es) x
    claims-it : {s : Inference} {a : Tree} {t t_A : Form} {es x : List Entry} → Reads a es x → Reads (ByDerive s a) (row (Derive s) ∷ claim t t_A ∷ es) x
    strengthens : {i : ℕ} {a b c : Tree} {es y z x : List Entry} → Reads a es y → Reads b y z → Reads c z x → Reads (ByStrengthen i a b c) (row (Strengthen i) ∷ es) x
    numbers : {i : ℕ} {x : List Entry} → Reads (ByNumber i) (row (CloseNumber i) ∷ x) x
    strides : {i g : ℕ} {x : List Entry} → Reads (ByStride i g) (row (CloseStride i g) ∷ x) x
    rounds : {i g k : ℕ} {a : Tree} {bs : Trees} {es y x : List Entry} → Reads a es y → ReadAll k 0 bs y x → Reads (ByRound i g k a bs) (row (Round i g k) ∷ es) x
    splits : {i : ℕ} {a b : Tree} {es y x : List Entry} → Reads a es y → Reads b y x → Reads (BySplit i a b) (row (Split i) ∷ es) x

  -- the trees from j on, up to k
  data ReadAll : (k j : ℕ) → Trees → List Entry → List Entry → Type 0 where
    final : {k j : ℕ} {a : Tree} {es x : List Entry} → suc j ≡ k → Reads a es x → ReadAll k j (Final a) es x
    further : {k j : ℕ} {a : Tree} {bs : Trees} {es y x : List Entry} → Reads a es y → ReadAll k (suc j) bs y x → ReadAll k j (Further a bs) es x

mutual
  reads : {e : Edition} {in_b : ℕ → Bool} {ls : List Line} {I : Formula} (p : Closed e in_b ls I) (es : List Entry) → Reads (tree p) (entries p es) es
  reads (derive false n _ p) es = derives (reads p es)
  reads (derive true n _ p) es = claims-it (reads p es)
  reads (strengthen i _ _ p1 pE p0) es = strengthens (reads p1 (entries pE (entries p0 es))) (reads pE (entries p0 es)) (reads p0 es)
  reads (number i _ _ _) es = numbers
  reads (stride i g _ _ _ _ _) es = strides
  reads (round i g k _ p ps) es = rounds (reads p (entries_rounded ps es)) (read_all ps es)
  reads (split_eq i _ _ _ p q) es = splits (reads p (entries q es)) (reads q es)
  reads (split_neq i _ _ _ p q) es = splits (reads p (entries q es)) (reads q es)

  read_all : {e : Edition} {in_b : ℕ → Bool} {ls : List Line} {t t_A : Form} {g k j : ℕ} {J : Formula} (p : Rounded e in_b ls t t_A g k j J) (es : List Entry) → ReadAll k j (trees p) (entries_rounded p es) es
  read_all (last n _ p) es = final n (reads p es)
  read_all (more _ _ p ps) es = further (reads p (entries_rounded ps es)) (read_all ps es)

-- ---- in one way only
read_below : {k j : ℕ} {bs : Trees} {es x : List Entry} → ReadAll k j bs es x → j < k
read_below (final e _) = omega arith
read_below (further _ r) = let h = read_below r in omega arith

-- a branch starts with a row
abbrev Starts : List Entry → Type 0
Starts [] = ⊥
Starts (row _ ∷ _) = Unit
Starts (claim _ _ ∷ _) = ⊥

starts : {a : Tree} {es x : List Entry} → Reads a es x → Starts es
starts (derives r) = tt
starts (claims-it r) = tt
starts (strengthens r s t) = tt
starts numbers = tt
starts strides = tt
starts (rounds r s) = tt
starts (splits r s) = tt

record Same {X : Type 0} (a b : X) (x y : List Entry) : Type 0 where
  one : a ≡ b
  rest : x ≡ y

from : {b : Tree} {es es' y : List Entry} → es ≡ es' → Reads b es' y → Reads b es y
from {b} {y = y} e r = subst (λ z. Reads b z y) (sym e) r

from_all : {k j : ℕ} {bs : Trees} {es es' y : List Entry} → es ≡ es' → ReadAll k j bs es' y → ReadAll k j bs es y
from_all {k} {j} {bs} {y = y} e r = subst (λ z. ReadAll k j bs z y) (sym e) r

cong3 : (f : Tree → Tree → Tree → Tree) {a a' b b' c c' : Tree} → a ≡ a' → b ≡ b' → c ≡ c' → f a b c ≡ f a' b' c'
cong3 f p q r = cc

mutual
  unique : {a b : Tree} {es x y : List Entry} → Reads a es x → Reads b es y → Same a b x y
  unique (derives {s = s} r) (derives r') = let h = unique r r' in record { one = ap (ByDerive s) h.one; rest = h.rest }
  unique (claims-it {s = s} r) (claims-it r') = let h = unique r r' in record { one = ap (ByDerive s) h.one; rest = h.rest }
  unique (derives r) (claims-it r') = absurd (starts r)
  unique (claims-it r) (derives r') = absurd (starts r')
  unique (strengthens {i = i} r s t) (strengthens r' s' t') =
      let f = unique r r' in
      let g = unique s (from f.rest s') in
      let h = unique t (from g.rest t') in
      record { one = cong3 (ByStrengthen i) f.one g.one h.one; rest = h.rest }
  unique numbers numbers = record { one = refl; rest = refl }
  unique strides strides = record { one = refl; rest = refl }
  unique (rounds {i = i} {g = g} {k = k} r s) (rounds r' s') =
      let f = unique r r' in
      let h = uniques s (from_all f.rest s') in
      record { one = ap₂ (ByRound i g k) f.one h.one; rest = h.rest }
  unique (splits {i = i} r s) (splits r' s') =
      let f = unique r r' in
      let h = unique s (from f.rest s') in
      record { one = ap₂ (BySplit i) f.one h.one; rest = h.rest }

  uniques : {k j : ℕ} {bs cs : Trees} {es x y : List Entry} → ReadAll k j bs es x → ReadAll k j cs es y → Same bs cs x y
  uniques (final e r) (final e' r') = let h = unique r r' in record { one = ap Final h.one; rest = h.rest }
  uniques (further r s) (further r' s') =
      let f = unique r r' in
      let h = uniques s (from_all f.rest s') in
      record { one = ap₂ Further f.one h.one; rest = h.rest }
  uniques (final e r) (further r' s') = absurd (let h = read_below s' in omega arith)
  uniques (further r s) (final e' r') = absurd (let h = read_below s in omega arith)

-- two closed branches with the same entries have the same tree
pub table-unique : {e e' : Edition} {in_b inB' : ℕ → Bool} {ls ls' : List Line} {I I' : Formula} (p : Closed e in_b ls I) (q : Closed e' inB' ls' I')
    → entries p [] ≡ entries q [] → tree p ≡ tree q
table-unique p q h = (unique (reads p []) (from h (reads q []))).one

-- ---- a uniform proof has a uniform tree
same-trees : {e : Edition} {in_b : ℕ → Bool} {ls ms : List Line} {t t_A : Form} {g k j : ℕ} {I J : Formula} (p : Closed e in_b ms I) (ps : Rounded e in_b ls t t_A g k j J)
    → Alike (entries p []) ps → SameTrees (tree p) (trees ps)
same-trees p (last _ _ q) h = table-unique p q h
same-trees p (more _ _ q qs) h = (table-unique p q h.0, same-trees p qs h.1)

pub uniform-tree : {e : Edition} {in_b : ℕ → Bool} {ls : List Line} {I : Formula} (p : Closed e in_b ls I) → Uniform p → UniformTree (tree p)
uniform-tree (derive _ _ _ p) u = uniform-tree p u.1
uniform-tree (strengthen _ _ _ p1 pE p0) u = (table-unique p1 p0 u.0, uniform-tree p1 u.1, uniform-tree pE u.2)
uniform-tree (number _ _ _ _) u = tt
uniform-tree (stride _ _ _ _ _ _ _) u = tt
uniform-tree (round _ _ _ _ p ps) u = (same-trees p ps u.0, uniform-tree p u.1)
uniform-tree (split_eq _ _ _ _ p q) u = (uniform-tree p u.0, uniform-tree q u.1)
uniform-tree (split_neq _ _ _ _ p q) u = (uniform-tree p u.0, uniform-tree q u.1)
