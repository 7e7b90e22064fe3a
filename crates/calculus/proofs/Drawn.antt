-- Every line that rows reach draws tA from A alone and t - tA from B alone, a closed branch has such lines at every row, and so it names common constants only. Assumes nothing.
use mathlib.Core.Path.{◌≡◌, refl, ap, subst}
use mathlib.Core.List.{List, [], ◌∷◌}
use mathlib.Core.Bool.{Bool}
use Prim.Native.Nat.{ℕ, suc}
use lib.Dec.{T}
use lib.IntN.{ℤ, +ℤ_idr}
use Rattle.forms.specs.Edition.{Edition}
use Rattle.forms.specs.Forms.{Form, Kind, ≤0, =0, Line, line, line_apart, neg, Constraint, lines, All, nil, cons, coeff, nonzero, occurs, Formula, names, ◌plus◌}
use Rattle.calculus.specs.Rules.{Nth, ◌▷◌, Closed, derive, strengthen, round, split_eq, split_neq, number, stride, Rounded, last, more}
use Rattle.calculus.specs.Reached.{Drawn, DrawnBySide, Reached, root, derived, branched, split, split_negated, Throughout, ThroughoutRounded}
use Rattle.calculus.proofs.Sides.{Side, A, B, part, all-nth}
use Rattle.calculus.proofs.Vocabulary.{WithinVocabulary, words-new, words-raised, words-neg, vocabulary}
use Rattle.calculus.proofs.Interpolation.{sides, initial-words, occurs-if}

-- which constants occur in A and in B
abbrev pub occurring : (As Bs : List Constraint) → Side → ℕ → Bool
occurring As Bs σ = occurs (sides As Bs σ)

module _ (As Bs : List Constraint) where
  pub reached-words : {ls : List Line} → Reached As Bs ls → WithinVocabulary (occurring As Bs) ls
  reached-words root = initial-words (sides As Bs)
  reached-words (derived r n) = words-new (occurring As Bs) (reached-words r) n
  reached-words (branched i kind k j r p) = words-raised (occurring As Bs) (reached-words r) i p kind k j
  reached-words (split i j r p) = words-raised (occurring As Bs) (reached-words r) i p ≤0 1 j
  reached-words (split_negated i j r p) = words-neg (occurring As Bs) (reached-words r) i p 1 j

  module _ {ls : List Line} (w : WithinVocabulary (occurring As Bs) ls) where
    at_side : (σ : Side) (i : ℕ) {l : Line} → Nth ls i l → (c : ℕ) → T (nonzero (part σ (coeff l.t c) (coeff l.t_A c))) → T (occurring As Bs σ c)
    unfolding nonzero
    at_side σ i {l} p c = occurs-if (occurring As Bs σ c) (nonzero (part σ (coeff l.t c) (coeff l.t_A c))) (λ o. rw (all-nth i (w σ c o) p))

    pub words-drawn : (i : ℕ) {l : Line} → Nth ls i l → Drawn As Bs l
    words-drawn i p = record { from_A = at_side A i p; from_B = at_side B i p }

  all_of : {P : Line → Type 0} (ls : List Line) → ((i : ℕ) (l : Line) → Nth ls i l → P l) → All P ls
  all_of [] h = nil
  all_of (l ∷ ls) h = cons (h 0 l refl) (all_of ls (λ i. h (suc i)))

  -- every line of a reached list is drawn
  pub drawn : {ls : List Line} → Reached As Bs ls → All (Drawn As Bs) ls
  drawn {ls} r = all_of ls (λ i l p. words-drawn (reached-words r) i p)

  -- so a closed branch that starts with a reached list, and be it a single close, names constants of both bundles only
  module _ {ls : List Line} (r : Reached As Bs ls) {e : Edition} {I : Formula} (p : Closed e (occurs Bs) ls I) (c : ℕ) (n : T (names I c)) where
    on : (σ : Side) → T (occurring As Bs σ c)
    on σ = occurs-if (occurring As Bs σ c) (names I c) (λ o. vocabulary (occurring As Bs) σ c o p (reached-words r)) n

    pub names-common : T (occurs As c) × T (occurs Bs c)
    names-common = (on A, on B)

-- ---- the rows of a closed branch
pub plus-0 : (t : Form) → t plus 0 ≡ t
unfolding ◌plus◌
plus-0 t = ap (λ (z : ℤ). record { coeffs = t.coeffs; d = z }) (+ℤ_idr t.d)

module _ {As Bs : List Constraint} {ls : List Line} {t t_A : Form} (i : ℕ) (r : Reached As Bs ls) (p : Nth ls i (line ≤0 t t_A)) where
  -- t+k with tA as it stands, and t with tA as they stand
  raised : (kind : Kind) (k : ℕ) → Reached As Bs (ls ▷ line kind (t plus k) t_A)
  raised kind k = subst (λ (u : Form). Reached As Bs (ls ▷ line kind (t plus k) u)) (plus-0 t_A) (branched i kind k 0 r p)

  standing : (kind : Kind) → Reached As Bs (ls ▷ line kind t t_A)
  standing kind = subst (λ (u : Form). Reached As Bs (ls ▷ line kind u t_A)) (plus-0 t) (raised kind 0)

module _ {As Bs : List Constraint} {ls : List Line} {σ : Side} {t t_A : Form} (i : ℕ) (r : Reached As Bs ls) (p : Nth ls i (line_apart σ t t_A)) where
  split-standing : Reached As Bs (ls ▷ line ≤0 (t plus 1) t_A)
  split-standing = subst (λ (u : Form). Reached As Bs (ls ▷ line ≤0 (t plus 1) u)) (plus-0 t_A) (split i 0 r p)

  split-neg-standing : Reached As Bs (ls ▷ line ≤0 (neg t plus 1) (neg t_A))
  split-neg-standing = subst (λ (u : Form). Reached As Bs (ls ▷ line ≤0 (neg t plus 1) u)) (plus-0 (neg t_A)) (split_negated i 0 r p)

module _ {e : Edition} {in_b : ℕ → Bool} where
  mutual
    -- at every row of a branch that starts with a reached list the lines are a reached list
    pub reached : {As Bs : List Constraint} {ls : List Line} {I : Formula} (p : Closed e in_b ls I) → Reached As Bs ls → Throughout (Reached As Bs) p
    reached (derive _ n _ p) r = (r, reached p (derived r n))
    reached (strengthen i l _ p1 pE p0) r = (r, reached p1 (branched i ≤0 1 1 r l), reached pE (standing i r l =0), reached p0 (raised i r l ≤0 1))
    reached (round i g k l p ps) r = (r, reached p (branched i ≤0 k k r l.at), reached-rounded ps i l.at r)
    reached (split_eq i l _ _ p q) r = (r, reached p (split i 1 r l), reached q (split_negated i 1 r l))
    reached (split_neq i l _ _ p q) r = (r, reached p (split-standing i r l), reached q (split-neg-standing i r l))
    reached (number _ _ _ _) r = r
    reached (stride _ _ _ _ _ _ _) r = r

    reached-rounded : {As Bs : List Constraint} {ls : List Line} {t t_A : Form} {g k j : ℕ} {I : Formula} (p : Rounded e in_b ls t t_A g k j I)
        → (i : ℕ) → Nth ls i (line ≤0 t t_A) → Reached As Bs ls → ThroughoutRounded (Reached As Bs) p
    reached-rounded (last {k = k} {j = j} _ _ p) i l r = reached p (branched i ≤0 k j r l)
    reached-rounded (more {k = k} {j = j} _ _ p ps) i l r = (reached p (branched i ≤0 k j r l), reached-rounded ps i l r)

  -- what follows of such lists holds at every row
  mutual
    throughout : {P Q : List Line → Type 0} {ls : List Line} {I : Formula} (p : Closed e in_b ls I) → ((ls : List Line) → P ls → Q ls) → Throughout P p → Throughout Q p
    throughout (derive {ls = ls} _ n _ p) f h = (f ls h.0, throughout p f h.1)
    throughout (strengthen {ls = ls} i l _ p1 pE p0) f h = (f ls h.0, throughout p1 f h.1, throughout pE f h.2, throughout p0 f h.3)
    throughout (round {ls = ls} _ _ _ _ p ps) f h = (f ls h.0, throughout p f h.1, throughout-rounded ps f h.2)
    throughout (split_eq {ls = ls} _ _ _ _ p q) f h = (f ls h.0, throughout p f h.1, throughout q f h.2)
    throughout (split_neq {ls = ls} _ _ _ _ p q) f h = (f ls h.0, throughout p f h.1, throughout q f h.2)
    throughout (number {ls = ls} _ _ _ _) f h = f ls h
    throughout (stride {ls = ls} _ _ _ _ _ _ _) f h = f ls h

    throughout-rounded : {P Q : List Line → Type 0} {ls : List Line} {t t_A : Form} {g k j : ℕ} {I : Formula} (p : Rounded e in_b ls t t_A g k j I)
        → ((ls : List Line) → P ls → Q ls) → ThroughoutRounded P p → ThroughoutRounded Q p
    throughout-rounded (last _ _ p) f h = throughout p f h
    throughout-rounded (more _ _ p ps) f h = (throughout p f h.0, throughout-rounded ps f h.1)

-- at every row of a proof from A and B every line is drawn
pub drawn-throughout : (As Bs : List Constraint) {e : Edition} {in_b : ℕ → Bool} {I : Formula} (p : Closed e in_b (lines As Bs) I) → Throughout (All (Drawn As Bs)) p
drawn-throughout As Bs p = throughout p (λ ls. drawn As Bs) (reached p root)

-- Point 10.
pub drawn-by-side : (As Bs : List Constraint) → DrawnBySide As Bs
drawn-by-side As Bs = record {
  of_lines = λ ls r. drawn As Bs r;
  of_rows = λ e in_b I p. drawn-throughout As Bs p;
  of_closes = λ e ls I r p c n. names-common As Bs r p c n;
}
