-- A uniform proof is walked through. Assumes nothing.
use mathlib.Core.Path.{◌≡◌, refl, sym, ◌∙◌, ap, subst}
use mathlib.Core.Option.{Option, none, some}
use mathlib.Core.Bool.{Bool, true, false, ◌&&◌, true≢false}
use mathlib.Core.List.{List, [], ◌∷◌, ◌++◌, append_assoc, append-nil}
use Prim.Native.Nat.{ℕ, zero, suc, ◌+◌, ◌≤◌}
use native.Mathlib.Omega.{arith}
use lib.Dec.{T, eqb, eqb_refl}
use lib.ListN.{length}
use mir.Facts.{yes_and}
use Rattle.forms.specs.Edition.{Edition, edition}
use Rattle.forms.specs.Forms.{Form, Line, Formula, every, All, nil, cons}
use Rattle.calculus.specs.Rules.{Closed, derive, strengthen, round, split_eq, split_neq, number, stride, Rounded, last, more, Row, Strengthen, Round, Split, Entry, row, entries, entries_rounded, depth, depth_rounded}
use Rattle.answers.specs.declared.Position.{Position}
use Rattle.answers.specs.Answers.{position, refusal_at, Result, accepted}
use Rattle.answers.proofs.Results.{binds, needs, found_some}
use Rattle.fields.specs.Fields.{Field, Fields, ◌▸◌, Item, item}
use Rattle.bundle.specs.Layout.{Each, nil as nil-each, cons as cons-each}
use Rattle.bundle.proofs.Laid.{Lists, next}
use Rattle.proof.proofs.Entered.{row-accepted}
use Rattle.chains.specs.Runs.{Alike, Uniform, UniformRounded, joined}
use Rattle.number_bytes.specs.Same.{same_bytes}
use Rattle.number_bytes.proofs.Comparing.{same_refl}
use Rattle.run.specs.Uniform.{with_number, same_items, Walked, WalkedBranches, Walker, walk_branches, first_and_third, all_alike, walk_opened, walk_closed, walk_row, walk_entry, walk_entries, walk_branch}
use Rattle.run_laws.proofs.OneField.{IsRow, EntersBytes, one_list}

-- ---- the same fields are told to be the same
items-refl : (is : List Item) → T (same_items is is)
unfolding same_items
items-refl [] = tt
items-refl (i ∷ is) = yes_and (eqb i.tag i.tag && same_bytes i.contents i.contents) (same_items is is) (yes_and (eqb i.tag i.tag) (same_bytes i.contents i.contents) (eqb_refl i.tag) (same_refl i.contents)) (items-refl is)

-- ---- a uniform proof has rows only
module _ {e : Edition} {in_b : ℕ → Bool} where
  mutual
    rows-only : {ls : List Line} {I : Formula} (p : Closed e in_b ls I) → Uniform p → {es : List Entry} → All IsRow es → All IsRow (entries p es)
    rows-only (derive true _ _ p) u h = absurd (true≢false u.0)
    rows-only (derive false _ _ p) u h = cons tt (rows-only p u.1 h)
    rows-only (strengthen _ _ _ p1 pE p0) u h = cons tt (rows-only p1 u.1 (rows-only pE u.2 (rows-only p0 u.3 h)))
    rows-only (round _ _ _ _ p ps) u h = cons tt (rows-only p u.1 (rows-rounded ps u.2 h))
    rows-only (split_eq _ _ _ _ p q) u h = cons tt (rows-only p u.0 (rows-only q u.1 h))
    rows-only (split_neq _ _ _ _ p q) u h = cons tt (rows-only p u.0 (rows-only q u.1 h))
    rows-only (number _ _ _ _) u h = cons tt h
    rows-only (stride _ _ _ _ _ _ _) u h = cons tt h

    rows-rounded : {ls : List Line} {t t_A : Form} {g k j : ℕ} {J : Formula} (ps : Rounded e in_b ls t t_A g k j J) → UniformRounded ps → {es : List Entry} → All IsRow es → All IsRow (entries_rounded ps es)
    rows-rounded (last _ _ p) u h = rows-only p u h
    rows-rounded (more _ _ p ps) u h = rows-only p u.0 (rows-rounded ps u.1 h)

module _ (n K : ℕ) where
  abbrev e : Edition
  e = edition n

  abbrev States : List Item → List Entry → Type 0
  States = Each (EntersBytes n K)

  abbrev Own : {in_b : ℕ → Bool} {ls : List Line} {I : Formula} → List Item → Closed e in_b ls I → Type 0
  Own own p = (is : List Item) (ds : List Entry) → States is ds → States (own ++ is) (entries p ds)

  pub record WalkAccepted {in_b : ℕ → Bool} {ls : List Line} {I : Formula} (p : Closed e in_b ls I) (es : List Entry) (r : Result Walked) : Type 0 where
    pub walked : Walked
    pub is : r ≡ accepted walked
    pub owns : Own walked.own p
    pub after : Lists (EntersBytes n K) walked.after es

  abbrev pub AcceptsWalk : ℕ → Walker → Type 0
  AcceptsWalk room walker = (here : Position) (rows : ℕ) (in_b : ℕ → Bool) (ls : List Line) (I : Formula) (p : Closed e in_b ls I) (es : List Entry) (fs : Fields)
      → Uniform p → depth p ≤ room → Lists (EntersBytes n K) fs (entries p es) → WalkAccepted p es (walker here rows fs)

  record Branch : Type 0 where
    in_b : ℕ → Bool
    ls : List Line
    I : Formula
    p : Closed e in_b ls I

  abbrev branch : {in_b : ℕ → Bool} {ls : List Line} {I : Formula} → Closed e in_b ls I → Branch
  branch {in_b} {ls} {I} p = record { in_b = in_b; ls = ls; I = I; p = p }

  abbrev entries_all : List Branch → List Entry → List Entry
  entries_all [] rest = rest
  entries_all (b ∷ bs) rest = entries b.p (entries_all bs rest)

  -- all are uniform, and no deeper than that
  abbrev Fit : ℕ → List Branch → Type 0
  Fit room [] = Unit
  Fit room (b ∷ bs) = Uniform b.p × (depth b.p ≤ room) × Fit room bs

  data OwnAll : List Branch → List (List Item) → Type 0 where
    no_own : OwnAll [] []
    and-own : {b : Branch} {bs : List Branch} {o : List Item} {os : List (List Item)} → Own o b.p → OwnAll bs os → OwnAll (b ∷ bs) (o ∷ os)

  record BranchesAccepted (bs : List Branch) (es : List Entry) (r : Result WalkedBranches) : Type 0 where
    walked : WalkedBranches
    is : r ≡ accepted walked
    owns : OwnAll bs walked.owns
    after : Lists (EntersBytes n K) walked.after es

  joined-owns : {bs : List Branch} {os : List (List Item)} → OwnAll bs os → (is : List Item) (ds : List Entry) → States is ds → States (joined os ++ is) (entries_all bs ds)
  joined-owns no_own is ds h = h
  joined-owns (and-own {o = o} {os = os} f fs) is ds h = rw (append_assoc o (joined os) is) (f _ _ (joined-owns fs is ds h))

  branches-accepted : {room : ℕ} {walker : Walker} → AcceptsWalk room walker → (b : Branch) (bs : List Branch) (es : List Entry) (at b0 rows : ℕ) (fs : Fields) → Fit room (b ∷ bs)
      → Lists (EntersBytes n K) fs (entries_all (b ∷ bs) es) → BranchesAccepted (b ∷ bs) es (walk_branches walker at b0 (length bs) rows fs)
  unfolding walk_branches
  branches-accepted h b [] es at b0 rows fs (u, d, _) l =
      let x = h (position at b0) rows b.in_b b.ls b.I b.p es fs u d l in
      record { walked = _; is = binds _ x.is; owns = and-own x.owns no_own; after = x.after }
  branches-accepted h b (c ∷ bs) es at b0 rows fs (u, d, k) l =
      let x = h (position at b0) rows b.in_b b.ls b.I b.p (entries_all (c ∷ bs) es) fs u d l in
      let y = branches-accepted h c bs es at (suc b0) x.walked.rows x.walked.after k x.after in
      record { walked = _; is = binds _ x.is ∙ binds _ y.is; owns = and-own x.owns y.owns; after = y.after }

  own_same : {in_b inB' : ℕ → Bool} {ls ls' : List Line} {I J : Formula} (p : Closed e in_b ls I) (q : Closed e inB' ls' J) (o o' : List Item) → Uniform p → Own o p → Own o' q → entries p [] ≡ entries q [] → T (same_items o o')
  own_same p q o o' u f g h =
      let same : o ++ [] ≡ o' ++ [] = one_list n K (rows-only p u nil) (f [] [] nil-each) (subst (States (o' ++ [])) (sym h) (g [] [] nil-each)) in
      let is : o ≡ o' = sym (append-nil o) ∙ same ∙ append-nil o' in
      subst (λ (z : List Item). T (same_items o z)) is (items-refl o)

  -- ---- a row that opens branches
  abbrev from : {in_b : ℕ → Bool} {ls : List Line} {t t_A : Form} {g k j : ℕ} {J : Formula} → Rounded e in_b ls t t_A g k j J → List Branch
  from (last _ _ p) = branch p ∷ []
  from (more _ _ p ps) = branch p ∷ from ps

  from_entries : {in_b : ℕ → Bool} {ls : List Line} {t t_A : Form} {g k j : ℕ} {J : Formula} (ps : Rounded e in_b ls t t_A g k j J) (ds : List Entry) → entries_rounded ps ds ≡ entries_all (from ps) ds
  from_entries (last _ _ p) ds = refl
  from_entries (more _ _ p ps) ds = ap (entries p) (from_entries ps ds)

  from-count : {in_b : ℕ → Bool} {ls : List Line} {t t_A : Form} {g k j : ℕ} {J : Formula} (ps : Rounded e in_b ls t t_A g k j J) → length (from ps) + j ≡ k
  from-count (last q _ p) = omega arith
  from-count (more q _ p ps) = omega (arith, from-count ps)

  from-fit : {in_b : ℕ → Bool} {ls : List Line} {t t_A : Form} {g k j : ℕ} {J : Formula} (ps : Rounded e in_b ls t t_A g k j J) (room : ℕ) → UniformRounded ps → depth_rounded ps ≤ room → Fit room (from ps)
  from-fit (last _ _ p) room u d = (u, d, tt)
  from-fit (more _ _ p ps) room u d = (u.0, omega arith, from-fit ps room u.1 (omega arith))

  from-alike : {in_b inB' : ℕ → Bool} {ls ls' : List Line} {t t_A : Form} {g k j : ℕ} {I J : Formula} (p : Closed e inB' ls' I) (o : List Item) → Uniform p → Own o p → (ps : Rounded e in_b ls t t_A g k j J) (os : List (List Item))
      → OwnAll (from ps) os → Alike (entries p []) ps → T (every (same_items o) os)
  unfolding every
  from-alike p o u f (last _ _ q) _ (and-own {o = o'} g no_own) a = yes_and (same_items o o') true (own_same p q o o' u f g a) tt
  from-alike p o u f (more _ _ q qs) _ (and-own {o = o'} {os = os} g gs) a = yes_and (same_items o o') (every (same_items o) os) (own_same p q o o' u f g a.0) (from-alike p o u f qs os gs a.1)

  strengthen-alike : {in_b : ℕ → Bool} {l1 lE l0 : List Line} {I1 E I0 : Formula} (p1 : Closed e in_b l1 I1) (pE : Closed e in_b lE E) (p0 : Closed e in_b l0 I0) → Uniform p1 → entries p1 [] ≡ entries p0 [] → (os : List (List Item))
      → OwnAll (branch p1 ∷ branch pE ∷ branch p0 ∷ []) os → T (first_and_third os)
  unfolding first_and_third
  strengthen-alike p1 pE p0 u a _ (and-own {o = o1} f1 (and-own fE (and-own {o = o0} f0 no_own))) = own_same p1 p0 o1 o0 u f1 f0 a

  round-alike : {in_b : ℕ → Bool} {ls l1 : List Line} {t t_A : Form} {g k : ℕ} {I J : Formula} (p : Closed e in_b l1 I) (ps : Rounded e in_b ls t t_A g k 0 J) → Uniform p → Alike (entries p []) ps → (os : List (List Item))
      → OwnAll (branch p ∷ from ps) os → T (all_alike os)
  unfolding all_alike
  round-alike p ps u a _ (and-own {o = o} {os = os} f fs) = from-alike p o u f ps os fs a

  data Deep : ℕ → Option Walker → Type 0 where
    shut : Deep 0 none
    opens : {room : ℕ} {walker : Walker} → AcceptsWalk room walker → Deep (suc room) (some walker)

  module _ (here : Position) where
    module _ {in_b : ℕ → Bool} {ls : List Line} {I : Formula} (P : Closed e in_b ls I) (r : Row) (b : Branch) (bs : List Branch) (rows : ℕ) (f : Field) (fs : Fields) (alike : List (List Item) → Bool)
        (are : (ds : List Entry) → entries P ds ≡ row r ∷ entries_all (b ∷ bs) ds) (x : EntersBytes n K (item f.tag f.contents) (row r)) (same : (os : List (List Item)) → OwnAll (b ∷ bs) os → T (alike os)) where
      opened : {room : ℕ} {deeper : Option Walker} → Deep room deeper → ((less : ℕ) → room ≡ suc less → Fit less (b ∷ bs)) → 1 ≤ room → (es : List Entry) → Lists (EntersBytes n K) fs (entries_all (b ∷ bs) es)
          → WalkAccepted P es (walk_opened deeper (refusal_at here rows f.at) rows f fs (length bs) alike)
      unfolding walk_opened
      opened shut k l es t = absurd (omega arith)
      opened (opens {room = less} h) k l es t =
          let y = branches-accepted h b bs es rows 0 (suc rows) fs (k less refl) t in
          record {
            walked = _;
            is = binds _ (found_some _ refl) ∙ binds _ y.is ∙ needs _ _ _ (same y.walked.owns y.owns);
            owns = λ is ds q. rw (are ds) (cons-each x (joined-owns y.owns is ds q));
            after = y.after;
          }

    module _ (room : ℕ) (deeper : Option Walker) (deep : Deep room deeper) where
      -- a field that states a row
      reads : {in_b : ℕ → Bool} {ls : List Line} {I : Formula} {p : Closed e in_b ls I} {es : List Entry} (f : Field) (fs : Fields) (rows : ℕ) (made : Bool) (r : Row) → EntersBytes n K (item f.tag f.contents) (row r)
          → WalkAccepted p es (walk_row deeper (walk_entries e K here deeper fs) (refusal_at here rows f.at) rows f fs r) → WalkAccepted p es (walk_entries e K here deeper (f ▸ fs) rows made)
      unfolding walk_entries walk_entry
      reads f fs rows made r x a = record { walked = a.walked; is = binds _ (row-accepted e K here rows made f x.enters) ∙ a.is; owns = a.owns; after = a.after }

      entries-accepted : {in_b : ℕ → Bool} {ls : List Line} {I : Formula} (p : Closed e in_b ls I) (es : List Entry) (fs : Fields) (rows : ℕ) (made : Bool) → Uniform p → depth p ≤ room
          → Lists (EntersBytes n K) fs (entries p es) → WalkAccepted p es (walk_entries e K here deeper fs rows made)
      unfolding walk_row walk_closed with_number
      entries-accepted (derive true m r p) es fs rows made u d l = absurd (true≢false u.0)
      entries-accepted (derive false m r p) es _ rows made u d (next f {fs = fs} x t) =
          let a = entries-accepted p es fs (suc rows) true u.1 d t in
          reads f fs rows made _ x (record { walked = _; is = binds _ a.is; owns = λ is ds q. cons-each x (a.owns is ds q); after = a.after })
      entries-accepted (strengthen i q r p1 pE p0) es _ rows made u d (next f {fs = fs} x t) = reads f fs rows made _ x
          (opened (strengthen i q r p1 pE p0) (Strengthen i) (branch p1) (branch pE ∷ branch p0 ∷ []) rows f fs first_and_third (λ ds. refl) x (strengthen-alike p1 pE p0 u.1 u.0) deep
          (λ less z. (u.1, omega arith, (u.2, omega arith, (u.3, omega arith, tt)))) (omega arith) es t)
      entries-accepted (round i g k r p ps) es _ rows made u d (next f {fs = fs} x t) = reads f fs rows made _ x
          (subst (λ (m : ℕ). WalkAccepted (round i g k r p ps) es (walk_opened deeper (refusal_at here rows f.at) rows f fs m all_alike)) (let h = from-count ps in omega arith)
          (opened (round i g k r p ps) (Round i g k) (branch p) (from ps) rows f fs all_alike (λ ds. ap (λ es. row (Round i g k) ∷ entries p es) (from_entries ps ds)) x (round-alike p ps u.1 u.0) deep
          (λ less z. (u.1, omega arith, from-fit ps less u.2 (omega arith))) (omega arith) es (subst (λ ds. Lists (EntersBytes n K) fs (entries p ds)) (from_entries ps es) t)))
      entries-accepted (split_eq i q r1 r2 p1 p2) es _ rows made u d (next f {fs = fs} x t) = reads f fs rows made _ x
          (opened (split_eq i q r1 r2 p1 p2) (Split i) (branch p1) (branch p2 ∷ []) rows f fs (λ owns. true) (λ ds. refl) x (λ os o. tt) deep (λ less z. (u.0, omega arith, (u.1, omega arith, tt))) (omega arith) es t)
      entries-accepted (split_neq i q r1 r2 p1 p2) es _ rows made u d (next f {fs = fs} x t) = reads f fs rows made _ x
          (opened (split_neq i q r1 r2 p1 p2) (Split i) (branch p1) (branch p2 ∷ []) rows f fs (λ owns. true) (λ ds. refl) x (λ os o. tt) deep (λ less z. (u.0, omega arith, (u.1, omega arith, tt))) (omega arith) es t)
      entries-accepted (number i q z h) es _ rows made u d (next f {fs = fs} x t) = reads f fs rows made _ x (record { walked = _; is = refl; owns = λ is ds h. cons-each x h; after = t })
      entries-accepted (stride i k q h all m is) es _ rows made u d (next f {fs = fs} x t) = reads f fs rows made _ x (record { walked = _; is = refl; owns = λ is ds h. cons-each x h; after = t })

  pub walk-accepts : (room : ℕ) → AcceptsWalk room (walk_branch e K room)
  unfolding walk_branch
  walk-accepts zero here rows in_b ls I p es fs u d l = entries-accepted here zero none shut p es fs rows false u d l
  walk-accepts (suc room) here rows in_b ls I p es fs u d l = entries-accepted here (suc room) (some (walk_branch e K room)) (opens (walk-accepts room)) p es fs rows false u d l
