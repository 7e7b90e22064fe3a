-- Whatever the walk refuses, but for 27 and 28, the check has refused at that place or before it. Assumes nothing.
use mathlib.Core.Path.{◌≡◌, refl, sym, subst}
use mathlib.Core.Logic.{◌⊎◌, inl, inr}
use mathlib.Core.Option.{Option, none, some}
use mathlib.Core.Bool.{Bool, true, false}
use mathlib.Core.List.{List, ◌∷◌}
use Prim.Native.Nat.{ℕ, zero, suc, ◌-◌, ◌≤◌}
use native.Mathlib.Omega.{arith}
use lib.Dec.{T}
use Rattle.forms.specs.Edition.{Edition}
use Rattle.forms.specs.Forms.{Form, Side, A, B, Line, Formula}
use Rattle.calculus.specs.Rules.{Row, Derive, Strengthen, CloseNumber, CloseStride, Round, Split, Entry, row, claim}
use Rattle.answers.specs.declared.Answer.{Answer}
use Rattle.answers.specs.declared.Position.{Position}
use Rattle.answers.specs.Answers.{position, refusal_at, Result, refused, accepted, ◌>>=◌, ◌>>◌, need, found}
use Rattle.fields.specs.Fields.{Field, Fields, ends, cut, ◌▸◌, Item, item}
use Rattle.proof.specs.Entries.{entry}
use Rattle.proof.specs.Check.{Closing, Checker, Following, there, check_rounded, check_split, check_row, check_entry, check_entries, check_branch}
use Rattle.proof.specs.Tree.{starts_at}
use Rattle.proof.proofs.Satisfies.{Satisfies, says-refused, says-accepted, bind, test}
use Rattle.proof.proofs.Tree.{amidst, derived-says, fitting-says, inequality-says, roundable-says, disequality-says, by_number-says, by_stride-says, entry-says}
use Rattle.chains.specs.Runs.{joined}
use Rattle.run.specs.Uniform.{with_number, Walked, WalkedBranches, Walker, FollowingWalk, walk_branches, first_and_third, all_alike, walk_opened, walk_closed, walk_row, walk_entry, walk_entries, walk_branch}
use Rattle.run_laws.proofs.Ascending.{Ascending, Later, at_least, behind, From}

-- ---- where a walk ends
pub record End : Type 0 where
  pub rows : ℕ
  pub unlike : Answer
  pub after : Fields

abbrev pub end_of : Walked → End
end_of w = record { rows = w.rows; unlike = w.unlike; after = w.after }

abbrev pub last_of : WalkedBranches → End
last_of ws = record { rows = ws.rows; unlike = ws.unlike; after = ws.after }

pub record Behind (n : ℕ) (x : End) : Type 0 where
  pub later : Later n x.after
  pub place : n ≤ x.unlike.place

-- ---- the walk's refusals stand at n or behind
abbrev WalkOnward : ℕ → Result Walked → Type 0
WalkOnward n r = Satisfies (From n) r (λ w. Behind n (end_of w))

abbrev BranchesOnward : ℕ → Result WalkedBranches → Type 0
BranchesOnward n r = Satisfies (From n) r (λ ws. Behind n (last_of ws))

abbrev WalksOnward : Walker → Type 0
WalksOnward walker = (here : Position) (rows : ℕ) (fs : Fields) (n : ℕ) → Later n fs → WalkOnward n (walker here rows fs)

branches-from : (walker : Walker) → WalksOnward walker → (at b more rows : ℕ) (fs : Fields) (n : ℕ) → Later n fs → BranchesOnward n (walk_branches walker at b more rows fs)
unfolding walk_branches
branches-from walker d at b zero rows fs n l = bind (d _ rows fs n l) λ w i. says-accepted i
branches-from walker d at b (suc more) rows fs n l = bind (d _ rows fs n l) λ w i. bind (branches-from walker d at (suc b) more w.rows w.after n i.later) λ ws j. says-accepted j

data WalksIn : Option Walker → Type 0 where
  walks-shut : WalksIn none
  walks-open : {walker : Walker} → WalksOnward walker → WalksIn (some walker)

found_from : {n : ℕ} (a : Answer) {deeper : Option Walker} → WalksIn deeper → From n a → Satisfies (From n) (found a deeper) WalksOnward
unfolding found
found_from a walks-shut h = says-refused h
found_from a (walks-open d) h = says-accepted d

module _ (here : Position) (deeper : Option Walker) (p : WalksIn deeper) where
  module _ (f : Field) (fs : Fields) (n : ℕ) (l : Later n (f ▸ fs)) (rows : ℕ) where
    opened-from : (m : ℕ) (alike : List (List Item) → Bool) → WalkOnward n (walk_opened deeper (refusal_at here rows f.at) rows f fs m alike)
    unfolding walk_opened
    opened-from m alike = bind (found_from _ p (at_least l)) λ walker d. bind (branches-from walker d rows 0 m (suc rows) fs n (behind l)) λ ws i. test _ _ i.place λ _.
        says-accepted (record { later = i.later; place = i.place })

    closed-from : WalkOnward n (walk_closed (refusal_at here rows f.at) rows f fs)
    unfolding walk_closed with_number
    closed-from = says-accepted (record { later = behind l; place = at_least l })

    module _ (next : FollowingWalk) (q : (rows : ℕ) (made : Bool) → WalkOnward n (next rows made)) where
      walk-row-from : (r : Row) → WalkOnward n (walk_row deeper next (refusal_at here rows f.at) rows f fs r)
      unfolding walk_row
      walk-row-from (Derive s) = bind (q _ _) λ w i. says-accepted (record { later = i.later; place = i.place })
      walk-row-from (Strengthen i) = opened-from 2 first_and_third
      walk-row-from (Round i g k) = opened-from k all_alike
      walk-row-from (Split i) = opened-from 1 (λ owns. true)
      walk-row-from (CloseNumber i) = closed-from
      walk-row-from (CloseStride i g) = closed-from

      walk-entry-from : (x : Entry) → WalkOnward n (walk_entry deeper next (refusal_at here rows f.at) rows f fs x)
      unfolding walk_entry with_number
      walk-entry-from (row r) = walk-row-from r
      walk-entry-from (claim t t_A) = says-refused (at_least l)

  walk_from : (e : Edition) (K : ℕ) (fs : Fields) (n : ℕ) → Later n fs → (rows : ℕ) (made : Bool) → WalkOnward n (walk_entries e K here deeper fs rows made)
  unfolding walk_entries starts_at
  walk_from e K (ends at) n l rows made = says-refused l.from
  walk_from e K (cut at) n l rows made = says-refused l.from
  walk_from e K (f ▸ fs) n l rows made = bind (entry-says e K (refusal_at here rows f.at) made f (λ m _. at_least l)) λ x _. walk-entry-from f fs n l rows _ (walk_from e K fs n (behind l)) x

walks_from : (e : Edition) (K room : ℕ) → WalksOnward (walk_branch e K room)
unfolding walk_branch
walks_from e K zero here rows fs n l = walk_from here none walks-shut e K fs n l rows false
walks_from e K (suc room) here rows fs n l = walk_from here (some (walk_branch e K room)) (walks-open (walks_from e K room)) e K fs n l rows false

-- ---- the check beside the walk
abbrev pub Ours : Answer → Type 0
Ours a = (a.number ≡ 27) ⊎ (a.number ≡ 28)

-- Both close alike; or the walk is refused by 27 or 28; or the check is refused, and the walk not before that place.
pub data Beside {W : Type 0} (π : W → End) : Result Closing → Result W → Type 0 where
  closed : {c : Closing} {w : W} → c.rows ≡ (π w).rows → c.after ≡ (π w).after → Ascending c.after → (π w).unlike.number ≡ 28 → Beside π (accepted c) (accepted w)
  told : (a : Answer) {r : Result Closing} → Ours a → Beside π r (refused a)
  first : (a : Answer) {s : Result W} → Satisfies (From a.place) s (λ w. Behind a.place (π w)) → Beside π (refused a) s

module _ {W Z : Type 0} {π : W → End} {ρ : Z → End} where
  beside-bind : {m : Result Closing} {s : Result W} {f : Closing → Result Closing} {g : W → Result Z} → Beside π m s
      → ((c : Closing) (w : W) → c.rows ≡ (π w).rows → c.after ≡ (π w).after → Ascending c.after → (π w).unlike.number ≡ 28 → Beside ρ (f c) (g w))
      → ((n : ℕ) (w : W) → Behind n (π w) → Satisfies (From n) (g w) (λ v. Behind n (ρ v))) → Beside ρ (m >>= f) (s >>= g)
  unfolding ◌>>=◌
  beside-bind (closed p q a u) h o = h _ _ p q a u
  beside-bind (told a k) h o = told a k
  beside-bind (first a i) h o = first a (bind i λ w j. o _ w j)

  -- a walk that goes on where the check has closed
  beside-on : {m : Result Closing} {s : Result W} {g : W → Result Z} → Beside π m s
      → ((c : Closing) (w : W) → c.rows ≡ (π w).rows → c.after ≡ (π w).after → Ascending c.after → (π w).unlike.number ≡ 28 → Beside ρ (accepted c) (g w))
      → ((n : ℕ) (w : W) → Behind n (π w) → Satisfies (From n) (g w) (λ v. Behind n (ρ v))) → Beside ρ m (s >>= g)
  unfolding ◌>>=◌
  beside-on (closed p q a u) h o = h _ _ p q a u
  beside-on (told a k) h o = told a k
  beside-on (first a i) h o = first a (bind i λ w j. o _ w j)

-- the check's own tests of a row, which stand at its place
module _ {W : Type 0} {π : W → End} {at : ℕ} {s : Result W} (o : Satisfies (From at) s (λ w. Behind at (π w))) where
  before : {X : Type 0} {P : X → Type 0} {m : Result X} {f : X → Result Closing} → Satisfies (λ a. a.place ≡ at) m P → ((x : X) → P x → Beside π (f x) s) → Beside π (m >>= f) s
  unfolding ◌>>=◌
  before {m = refused a} h k = first a (subst (λ (n : ℕ). Satisfies (From n) s (λ w. Behind n (π w))) (sym (h.refusal a refl)) o)
  before {m = accepted x} h k = k x (h.value x refl)

  before-seq : {P : Unit {0} → Type 0} {m : Result (Unit {0})} {r : Result Closing} → Satisfies (λ a. a.place ≡ at) m P → Beside π r s → Beside π (m >> r) s
  unfolding ◌>>◌
  before-seq {m = refused a} h k = first a (subst (λ (n : ℕ). Satisfies (From n) s (λ w. Behind n (π w))) (sym (h.refusal a refl)) o)
  before-seq {m = accepted x} h k = k

-- the check makes a formula of what it has closed
then-accepted : {W : Type 0} {π : W → End} {r : Result Closing} {s : Result W} (F : Closing → Formula) → Beside π r s
    → Beside π (r >>= λ c. accepted (record { formula = F c; rows = c.rows; after = c.after })) s
unfolding ◌>>=◌
then-accepted F (closed p q a u) = closed p q a u
then-accepted F (told a k) = told a k
then-accepted F (first a i) = first a i

-- ---- the branches
abbrev pub AllBeside : Checker → Walker → Type 0
AllBeside checker walker = (here : Position) (rows : ℕ) (ls : List Line) (fs : Fields) → Ascending fs → Beside end_of (checker here rows ls fs) (walker here rows fs)

data Deep : Option Checker → Option Walker → Type 0 where
  shut : Deep none none
  opens : {checker : Checker} {walker : Walker} → AllBeside checker walker → WalksOnward walker → Deep (some checker) (some walker)

walks-in : {deeper : Option Checker} {deeper' : Option Walker} → Deep deeper deeper' → WalksIn deeper'
walks-in shut = walks-shut
walks-in (opens s o) = walks-open o

module _ {checker : Checker} {walker : Walker} (d : AllBeside checker walker) (o : WalksOnward walker) where
  -- one branch, whose rows and fields are those that the other has left
  one : (here : Position) (rows rows' : ℕ) (ls : List Line) (fs fs' : Fields) → rows ≡ rows' → fs ≡ fs' → Ascending fs → Beside end_of (checker here rows ls fs) (walker here rows' fs')
  one here rows rows' ls fs fs' p q a = subst (λ (n : ℕ). Beside end_of (checker here rows ls fs) (walker here n fs')) p (subst (λ (gs : Fields). Beside end_of (checker here rows ls fs) (walker here rows gs)) q (d here rows ls fs a))

  -- the last branch of a step, and then F of what it left
  last_one : (F : Closing → Formula) (at b rows rows' : ℕ) (ls : List Line) (fs fs' : Fields) → rows ≡ rows' → fs ≡ fs' → Ascending fs
      → Beside last_of (checker (position at b) rows ls fs >>= λ c. accepted (record { formula = F c; rows = c.rows; after = c.after })) (walk_branches walker at b 0 rows' fs')
  unfolding walk_branches
  last_one F at b rows rows' ls fs fs' p q a = beside-bind (one (position at b) rows rows' ls fs fs' p q a) (λ c w p q a u. closed p q a u) (λ n w i. says-accepted (record { later = i.later; place = i.place }))

  -- a branch, and then the others
  one_more : (f : Closing → Result Closing) (at b more rows rows' : ℕ) (ls : List Line) (fs fs' : Fields) → rows ≡ rows' → fs ≡ fs' → Ascending fs
      → ((c : Closing) (rows : ℕ) (fs : Fields) → c.rows ≡ rows → c.after ≡ fs → Ascending c.after → Beside last_of (f c) (walk_branches walker at (suc b) more rows fs))
      → Beside last_of (checker (position at b) rows ls fs >>= f) (walk_branches walker at b (suc more) rows' fs')
  unfolding walk_branches
  one_more f at b more rows rows' ls fs fs' p q a h = beside-bind (one (position at b) rows rows' ls fs fs' p q a)
      (λ c w p q a u. beside-on (h c w.rows w.after p q a) (λ c w p q a u. closed p q a u) (λ n w i. says-accepted (record { later = i.later; place = i.place })))
      (λ n w i. bind (branches-from walker o at (suc b) more w.rows w.after n i.later) λ ws j. says-accepted (record { later = j.later; place = j.place }))

  rounded-beside : (ls : List Line) (l : Line) (at g k j more rows rows' : ℕ) (fs fs' : Fields) → rows ≡ rows' → fs ≡ fs' → Ascending fs
      → Beside last_of (check_rounded checker ls l at g k j more rows fs) (walk_branches walker at (suc j) more rows' fs')
  unfolding check_rounded
  rounded-beside ls l at g k j zero rows rows' fs fs' p q a = last_one _ at (suc j) rows rows' _ fs fs' p q a
  rounded-beside ls l at g k j (suc more) rows rows' fs fs' p q a = one_more _ at (suc j) more rows rows' _ fs fs' p q a
      (λ c rows fs p q a. then-accepted _ (rounded-beside ls l at g k (suc j) more c.rows rows c.after fs p q a))

pub refused-both : {W : Type 0} {π : W → End} (a : Answer) → Beside π (refused a) (refused a)
refused-both a = let q : a.place ≤ a.place = omega arith in first a (says-refused q)

needed : {at : ℕ} (a : Answer) (b : Bool) → a.place ≡ at → Satisfies (λ a. a.place ≡ at) (need a b) (λ _. Unit {0})
unfolding need
needed a true q = says-accepted tt
needed a false q = says-refused q

-- ---- the rows
module _ (e : Edition) (K : ℕ) (here : Position) (deeper : Option Checker) (deeper' : Option Walker) (deep : Deep deeper deeper') where
  module _ (f : Field) (fs : Fields) (up : Ascending (f ▸ fs)) (rows : ℕ) where
    here_on : Later f.at (f ▸ fs)
    unfolding starts_at
    here_on = record { from = omega arith; up = up }

    at-it : (m : ℕ) → T (amidst m) → (refusal_at here rows f.at m).place ≡ f.at
    at-it m _ = refl

    -- what a step's branches leave, and the test of them
    abbrev joined_by : WalkedBranches → Walked
    joined_by ws = record { own = item f.tag f.contents ∷ joined ws.owns; rows = ws.rows; unlike = ws.unlike; after = ws.after }

    tested : (b : Bool) {c : Closing} (ws : WalkedBranches) → c.rows ≡ ws.rows → c.after ≡ ws.after → Ascending c.after → ws.unlike.number ≡ 28
        → Beside end_of (accepted c) (need ws.unlike b >> accepted (joined_by ws))
    unfolding need ◌>>◌
    tested true ws p q a u = closed p q a u
    tested false ws p q a u = told ws.unlike (inr u)

    finish : (alike : List (List Item) → Bool) {r : Result Closing} {s : Result WalkedBranches} → Beside last_of r s → Beside end_of r (s >>= λ ws. need ws.unlike (alike ws.owns) >> accepted (joined_by ws))
    finish alike h = beside-on h (λ c ws p q a u. tested (alike ws.owns) ws p q a u) (λ n ws i. test _ _ i.place λ _. says-accepted (record { later = i.later; place = i.place }))

    opened-walk : (n : ℕ) (alike : List (List Item) → Bool) → WalkOnward f.at (walk_opened deeper' (refusal_at here rows f.at) rows f fs n alike)
    opened-walk n alike = opened-from here deeper' (walks-in deep) f fs f.at here_on rows n alike

    opened-beside : {d : Option Checker} {d' : Option Walker} → Deep d d' → (step : Checker → Result Closing) (n : ℕ) (alike : List (List Item) → Bool)
        → WalkOnward f.at (walk_opened d' (refusal_at here rows f.at) rows f fs n alike)
        → ((checker : Checker) (walker : Walker) → AllBeside checker walker → WalksOnward walker → Beside last_of (step checker) (walk_branches walker rows 0 n (suc rows) fs))
        → Beside end_of (found (refusal_at here rows f.at 17) d >>= step) (walk_opened d' (refusal_at here rows f.at) rows f fs n alike)
    unfolding found ◌>>=◌ walk_opened
    opened-beside shut step n alike o h = first _ o
    opened-beside (opens s i) step n alike o h = finish alike (h _ _ s i)

    -- the walk over the branches stands behind the row
    behind-row : (walker : Walker) → WalksOnward walker → (n : ℕ) → BranchesOnward f.at (walk_branches walker rows 0 n (suc rows) fs)
    behind-row walker o n = branches-from walker o rows 0 n (suc rows) fs f.at (behind here_on)

    split-beside : (checker : Checker) (walker : Walker) → AllBeside checker walker → WalksOnward walker → (ls : List Line) (σ : Side) (t t_A : Form)
        → Beside last_of (check_split e (refusal_at here rows f.at) checker σ ls t t_A rows fs) (walk_branches walker rows 0 1 (suc rows) fs)
    unfolding check_split
    split-beside checker walker d o ls A t t_A = before-seq (behind-row walker o 1) (fitting-says _ at-it ls e _) (before-seq (behind-row walker o 1) (fitting-says _ at-it ls e _)
        (one_more d o _ rows 0 0 (suc rows) (suc rows) _ fs fs refl refl up.1 (λ c rows' fs' p q a. last_one d o _ rows 1 c.rows rows' _ c.after fs' p q a)))
    split-beside checker walker d o ls B t t_A = before-seq (behind-row walker o 1) (fitting-says _ at-it ls e _) (before-seq (behind-row walker o 1) (fitting-says _ at-it ls e _)
        (one_more d o _ rows 0 0 (suc rows) (suc rows) _ fs fs refl refl up.1 (λ c rows' fs' p q a. last_one d o _ rows 1 c.rows rows' _ c.after fs' p q a)))

    -- a step of k+1 branches
    counted : {r : Result Closing} (walker : Walker) (k : ℕ) → 1 ≤ k → Beside last_of r (walk_branches walker rows 0 (suc (k - 1)) (suc rows) fs) → Beside last_of r (walk_branches walker rows 0 k (suc rows) fs)
    counted {r} walker k h s = let q : suc (k - 1) ≡ k = omega arith in subst (λ (m : ℕ). Beside last_of r (walk_branches walker rows 0 m (suc rows) fs)) q s

    module _ (next : Following) (next' : FollowingWalk) (near : (rows : ℕ) (made : Option Line) (ls : List Line) → Beside end_of (next rows made ls) (next' rows (there made)))
        (on : (rows : ℕ) (made : Bool) → WalkOnward f.at (next' rows made)) (ls : List Line) where
      row-beside : (r : Row) → Beside end_of (check_row e K deeper next (refusal_at here rows f.at) rows ls fs r) (walk_row deeper' next' (refusal_at here rows f.at) rows f fs r)
      unfolding check_row walk_row walk_closed with_number
      row-beside (Derive s) =
          let o = walk-row-from here deeper' (walks-in deep) f fs f.at here_on rows next' on (Derive s) in
          before o (derived-says _ at-it ls s) λ l _. before-seq o (fitting-says _ at-it ls e l)
          (beside-on (near (suc rows) (some l) _) (λ c w p q a u. closed p q a u) (λ n w i. says-accepted (record { later = i.later; place = i.place })))
      row-beside (Strengthen i) =
          let o = opened-walk 2 first_and_third in
          before o (inequality-says _ at-it ls i) λ l _. opened-beside deep _ 2 first_and_third o λ checker walker d w. before-seq (behind-row walker w 2) (fitting-says _ at-it ls e _)
          (one_more d w _ rows 0 1 (suc rows) (suc rows) _ fs fs refl refl up.1 λ c rows' fs' p q a.
          one_more d w _ rows 1 0 c.rows rows' _ c.after fs' p q a λ c rows' fs' p q a. last_one d w _ rows 2 c.rows rows' _ c.after fs' p q a)
      row-beside (Round i g k) =
          let o = opened-walk k all_alike in
          before o (roundable-says _ at-it ls e i g k) λ l least. opened-beside deep _ k all_alike o λ checker walker d w. before-seq (behind-row walker w k) (fitting-says _ at-it ls e _)
          (counted walker k least (one_more d w _ rows 0 (k - 1) (suc rows) (suc rows) _ fs fs refl refl up.1 λ c rows' fs' p q a.
          then-accepted _ (rounded-beside d w ls l rows g k 0 (k - 1) c.rows rows' c.after fs' p q a)))
      row-beside (Split i) =
          let o = opened-walk 1 (λ owns. true) in
          before o (disequality-says _ at-it ls i) λ (σ, l) _. opened-beside deep _ 1 (λ owns. true) o λ checker walker d w. split-beside checker walker d w ls σ l.t l.t_A
      row-beside (CloseNumber i) = before (closed-from here deeper' (walks-in deep) f fs f.at here_on rows) (by_number-says _ at-it ls i) λ I _. closed refl refl up.1 refl
      row-beside (CloseStride i g) = before (closed-from here deeper' (walks-in deep) f fs f.at here_on rows) (by_stride-says _ at-it ls i g) λ I _. closed refl refl up.1 refl

      entry-beside : (made : Option Line) (x : Entry) → Beside end_of (check_entry e K deeper next (refusal_at here rows f.at) rows made ls fs x) (walk_entry deeper' next' (refusal_at here rows f.at) rows f fs x)
      unfolding check_entry walk_entry with_number
      entry-beside made (row r) = before-seq (walk-row-from here deeper' (walks-in deep) f fs f.at here_on rows next' on r) (needed (refusal_at here rows f.at 18) _ refl) (row-beside r)
      entry-beside made (claim t t_A) = told _ (inl refl)

  self-beside : {X : Type 0} (m : Result X) {k : X → Result Closing} {k' : X → Result Walked} → ((x : X) → Beside end_of (k x) (k' x)) → Beside end_of (m >>= k) (m >>= k')
  unfolding ◌>>=◌
  self-beside (refused a) h = refused-both a
  self-beside (accepted x) h = h x

  entries-beside : (fs : Fields) → Ascending fs → (rows : ℕ) (made : Option Line) (ls : List Line)
      → Beside end_of (check_entries e K here deeper fs rows made ls) (walk_entries e K here deeper' fs rows (there made))
  unfolding check_entries walk_entries
  entries-beside (ends at) up rows made ls = refused-both _
  entries-beside (cut at) up rows made ls = refused-both _
  entries-beside (f ▸ fs) up rows made ls = self-beside (entry e K (refusal_at here rows f.at) (there made) f) λ x. entry-beside f fs up rows _ _ (λ rows made ls. entries-beside fs up.1 rows made ls)
      (λ rows made. walk_from here deeper' (walks-in deep) e K fs f.at (behind (here_on f fs up rows)) rows made) ls made x

pub branch-beside : (e : Edition) (K room : ℕ) → AllBeside (check_branch e K room) (walk_branch e K room)
unfolding check_branch walk_branch
branch-beside e K zero here rows ls fs up = entries-beside e K here none none shut fs up rows none ls
branch-beside e K (suc room) here rows ls fs up = entries-beside e K here (some (check_branch e K room)) (some (walk_branch e K room)) (opens (branch-beside e K room) (walks_from e K room)) fs up rows none ls
