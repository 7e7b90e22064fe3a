-- What is walked through to its end is a uniform proof. Assumes nothing.
use mathlib.Core.Path.{◌≡◌, refl, sym, ◌∙◌, ap, ap₂, subst}
use mathlib.Core.Option.{Option, none, some}
use mathlib.Core.Bool.{Bool, true, false, ◌&&◌}
use mathlib.Core.List.{List, [], ◌∷◌, ◌++◌, append_assoc}
use Prim.Native.Nat.{ℕ, zero, suc, ◌+◌}
use native.Mathlib.Omega.{arith}
use lib.Dec.{T, eqb, eqb→eq}
use lib.ListN.{length}
use mir.Facts.{and_yes}
use Rattle.forms.specs.Edition.{Edition}
use Rattle.forms.specs.Forms.{Form, Line, Formula, every}
use Rattle.calculus.specs.Rules.{Closed, derive, strengthen, round, split_eq, split_neq, number, stride, Rounded, last, more, Row, Strengthen, Round, Split, Entry, row, entries, entries_rounded}
use Rattle.answers.specs.declared.Answer.{Answer}
use Rattle.answers.specs.declared.Position.{Position}
use Rattle.answers.specs.Answers.{position, refusal_at, accepted, found}
use Rattle.answers.proofs.Results.{given, Gives, gives-refused, gives-accepted, bind, test, binds}
use Rattle.fields.specs.Fields.{Field, Fields, ◌▸◌, Item, item}
use Rattle.bundle.specs.Layout.{Each, nil, cons}
use Rattle.bundle.proofs.Laid.{Lists, next}
use Rattle.proof.specs.Entries.{entry_from, entry}
use Rattle.proof.specs.Layout.{Enters}
use Rattle.proof.proofs.Entered.{row-accepted, claim-accepted}
use Rattle.chains.specs.Runs.{Alike, Uniform, UniformRounded, joined}
use Rattle.number_bytes.specs.Same.{same_bytes}
use Rattle.number_bytes.proofs.Comparing.{same-is}
use Rattle.run.specs.Uniform.{with_number, same_items, Walked, WalkedBranches, Walker, walk_branches, first_and_third, all_alike, walk_opened, walk_closed, walk_row, walk_entry, walk_entries, walk_branch}

-- ---- the comparison tells of equality
items-same : (is js : List Item) → T (same_items is js) → is ≡ js
unfolding same_items
items-same [] [] t = refl
items-same [] (j ∷ js) t = absurd t
items-same (i ∷ is) [] t = absurd t
items-same (i ∷ is) (j ∷ js) t =
    let (p, q) = and_yes (eqb i.tag j.tag && same_bytes i.contents j.contents) (same_items is js) t in
    let (a, b) = and_yes (eqb i.tag j.tag) (same_bytes i.contents j.contents) p in
    ap₂ ◌∷◌ (ap₂ item (eqb→eq i.tag j.tag a) (same-is i.contents j.contents b)) (items-same is js q)

module _ {e : Edition} {K : ℕ} where
  -- ---- the same fields state the same entries
  enters-one : {i : Item} {x y : Entry} → Enters e K i x → Enters e K i y → x ≡ y
  enters-one {i} h k =
      let t : h.tagged ≡ k.tagged = cc in
      sym h.entry ∙ ap (λ t. entry_from e K t i.contents) t ∙ k.entry

  pub entered-once : {is : List Item} {es ds : List Entry} → Each (Enters e K) is es → Each (Enters e K) is ds → es ≡ ds
  entered-once nil nil = refl
  entered-once (cons h hs) (cons k ks) = ap₂ ◌∷◌ (enters-one h k) (entered-once hs ks)

module _ (e : Edition) (K : ℕ) where
  -- These fields are those of a closed branch.
  abbrev Own : {in_b : ℕ → Bool} {ls : List Line} {I : Formula} → List Item → Closed e in_b ls I → Type 0
  Own own p = (is : List Item) (ds : List Entry) → Each (Enters e K) is ds → Each (Enters e K) (own ++ is) (entries p ds)

  -- What a walk through the closed branch p comes to; es is what the fields after it state.
  pub record WalkedAs {in_b : ℕ → Bool} {ls : List Line} {I : Formula} (p : Closed e in_b ls I) (es : List Entry) (w : Walked) : Type 0 where
    pub uniform : Uniform p
    pub owns : Own w.own p
    pub after : Lists (Enters e K) w.after es
    pub number : w.unlike.number ≡ 28

  abbrev pub Walks : Walker → Type 0
  Walks walker = (here : Position) (rows : ℕ) (in_b : ℕ → Bool) (ls : List Line) (I : Formula) (p : Closed e in_b ls I) (es : List Entry) (fs : Fields)
      → Lists (Enters e K) fs (entries p es) → Gives (walker here rows fs) (WalkedAs p es)

  -- ---- the branches of one step
  record Branch : Type 0 where
    in_b : ℕ → Bool
    ls : List Line
    I : Formula
    p : Closed e in_b ls I

  abbrev branch : {in_b : ℕ → Bool} {ls : List Line} {I : Formula} → Closed e in_b ls I → Branch
  branch {in_b} {ls} {I} p = record { in_b = in_b; ls = ls; I = I; p = p }

  abbrev entries_all : List Branch → List Entry → List Entry
  entries_all [] rest = rest
  entries_all (b ∷ bs) rest = entries b.p (entries_all bs rest)

  data OwnAll : List Branch → List (List Item) → Type 0 where
    no_own : OwnAll [] []
    and-own : {b : Branch} {bs : List Branch} {o : List Item} {os : List (List Item)} → Uniform b.p → Own o b.p → OwnAll bs os → OwnAll (b ∷ bs) (o ∷ os)

  record BranchesAs (bs : List Branch) (es : List Entry) (ws : WalkedBranches) : Type 0 where
    owns : OwnAll bs ws.owns
    after : Lists (Enters e K) ws.after es
    number : ws.unlike.number ≡ 28

  joined-owns : {bs : List Branch} {os : List (List Item)} → OwnAll bs os → (is : List Item) (ds : List Entry) → Each (Enters e K) is ds → Each (Enters e K) (joined os ++ is) (entries_all bs ds)
  joined-owns no_own is ds h = h
  joined-owns (and-own {o = o} {os = os} u f fs) is ds h = rw (append_assoc o (joined os) is) (f _ _ (joined-owns fs is ds h))

  branches-walk : {walker : Walker} → Walks walker → (b : Branch) (bs : List Branch) (es : List Entry) (at b0 rows : ℕ) (fs : Fields)
      → Lists (Enters e K) fs (entries_all (b ∷ bs) es) → Gives (walk_branches walker at b0 (length bs) rows fs) (BranchesAs (b ∷ bs) es)
  unfolding walk_branches
  branches-walk walks b [] es at b0 rows fs l = bind (walks (position at b0) rows b.in_b b.ls b.I b.p es fs l) λ w d.
      gives-accepted (record { owns = and-own d.uniform d.owns no_own; after = d.after; number = d.number })
  branches-walk walks b (c ∷ bs) es at b0 rows fs l = bind (walks (position at b0) rows b.in_b b.ls b.I b.p (entries_all (c ∷ bs) es) fs l) λ w d.
      bind (branches-walk walks c bs es at (suc b0) w.rows w.after d.after) λ ws ds.
      gives-accepted (record { owns = and-own d.uniform d.owns ds.owns; after = ds.after; number = ds.number })

  -- ---- branches with the same fields have the same entries
  same_entries : {in_b inB' : ℕ → Bool} {ls ls' : List Line} {I J : Formula} (p : Closed e in_b ls I) (q : Closed e inB' ls' J) (o o' : List Item) → Own o p → Own o' q → T (same_items o o') → entries p [] ≡ entries q []
  same_entries p q o o' f g t = entered-once (subst (λ (o : List Item). Each (Enters e K) (o ++ []) (entries p [])) (items-same o o' t) (f [] [] nil)) (g [] [] nil)

  -- ---- a row that opens branches
  data Deep : Option Walker → Type 0 where
    shut : Deep none
    opens : {walker : Walker} → Walks walker → Deep (some walker)

  opened : {deeper : Option Walker} (a : Answer) → T (given a.number) → Deep deeper → Gives (found a deeper) Walks
  unfolding found
  opened a t shut = gives-refused a t
  opened a t (opens w) = gives-accepted w

  module _ (here : Position) (deeper : Option Walker) (deep : Deep deeper) where
    module _ {in_b : ℕ → Bool} {ls : List Line} {I : Formula} (P : Closed e in_b ls I) (r : Row) (b : Branch) (bs : List Branch) (rows : ℕ) (f : Field) (fs : Fields) (alike : List (List Item) → Bool)
        (are : (ds : List Entry) → entries P ds ≡ row r ∷ entries_all (b ∷ bs) ds) (x : Enters e K (item f.tag f.contents) (row r))
        (uni : (os : List (List Item)) → OwnAll (b ∷ bs) os → T (alike os) → Uniform P) where
      given-28 : (a : Answer) → a.number ≡ 28 → T (given a.number)
      given-28 a q = rw q tt

      walk-opened : (es : List Entry) → Lists (Enters e K) fs (entries_all (b ∷ bs) es) → Gives (walk_opened deeper (refusal_at here rows f.at) rows f fs (length bs) alike) (WalkedAs P es)
      unfolding walk_opened
      walk-opened es l = bind (opened _ tt deep) λ walker walks. bind (branches-walk walks b bs es rows 0 (suc rows) fs l) λ ws d.
          test ws.unlike (alike ws.owns) (given-28 ws.unlike d.number) λ t.
          gives-accepted (record {
            uniform = uni ws.owns d.owns t;
            owns = λ is ds h. rw (are ds) (cons x (joined-owns d.owns is ds h));
            after = d.after;
            number = d.number;
          })

  -- the branches of a rounding from j on
  abbrev from : {in_b : ℕ → Bool} {ls : List Line} {t t_A : Form} {g k j : ℕ} {J : Formula} → Rounded e in_b ls t t_A g k j J → List Branch
  from (last _ _ p) = branch p ∷ []
  from (more _ _ p ps) = branch p ∷ from ps

  from_entries : {in_b : ℕ → Bool} {ls : List Line} {t t_A : Form} {g k j : ℕ} {J : Formula} (ps : Rounded e in_b ls t t_A g k j J) (ds : List Entry) → entries_rounded ps ds ≡ entries_all (from ps) ds
  from_entries (last _ _ p) ds = refl
  from_entries (more _ _ p ps) ds = ap (entries p) (from_entries ps ds)

  from-count : {in_b : ℕ → Bool} {ls : List Line} {t t_A : Form} {g k j : ℕ} {J : Formula} (ps : Rounded e in_b ls t t_A g k j J) → length (from ps) + j ≡ k
  from-count (last q _ p) = omega arith
  from-count (more q _ p ps) = omega (arith, from-count ps)

  from-alike : {in_b inB' : ℕ → Bool} {ls ls' : List Line} {t t_A : Form} {g k j : ℕ} {I J : Formula} (p : Closed e inB' ls' I) (o : List Item) → Own o p → (ps : Rounded e in_b ls t t_A g k j J) (os : List (List Item))
      → OwnAll (from ps) os → T (every (same_items o) os) → Alike (entries p []) ps × UniformRounded ps
  unfolding every
  from-alike p o f (last _ _ q) _ (and-own {o = o'} u g no_own) t = (same_entries p q o o' f g (and_yes (same_items o o') true t).0, u)
  from-alike p o f (more _ _ q qs) _ (and-own {o = o'} {os = os} u g gs) t =
      let (a, b) = and_yes (same_items o o') (every (same_items o) os) t in
      let h = from-alike p o f qs os gs b in
      ((same_entries p q o o' f g a, h.0), (u, h.1))

  -- ---- the entries of a branch
  strengthen-uniform : {in_b : ℕ → Bool} {l1 lE l0 : List Line} {I1 E I0 : Formula} (p1 : Closed e in_b l1 I1) (pE : Closed e in_b lE E) (p0 : Closed e in_b l0 I0) (os : List (List Item))
      → OwnAll (branch p1 ∷ branch pE ∷ branch p0 ∷ []) os → T (first_and_third os) → (entries p1 [] ≡ entries p0 []) × Uniform p1 × Uniform pE × Uniform p0
  unfolding first_and_third
  strengthen-uniform p1 pE p0 _ (and-own {o = o1} u1 f1 (and-own uE fE (and-own {o = o0} u0 f0 no_own))) t = (same_entries p1 p0 o1 o0 f1 f0 t, u1, uE, u0)

  round-uniform : {in_b : ℕ → Bool} {ls l1 : List Line} {t t_A : Form} {g k : ℕ} {I J : Formula} (p : Closed e in_b l1 I) (ps : Rounded e in_b ls t t_A g k 0 J) (os : List (List Item))
      → OwnAll (branch p ∷ from ps) os → T (all_alike os) → Alike (entries p []) ps × Uniform p × UniformRounded ps
  unfolding all_alike
  round-uniform p ps _ (and-own {o = o} {os = os} u f fs) t = let h = from-alike p o f ps os fs t in (h.0, u, h.1)

  split-uniform : {in_b : ℕ → Bool} {l1 l2 : List Line} {I J : Formula} (p : Closed e in_b l1 I) (q : Closed e in_b l2 J) (os : List (List Item))
      → OwnAll (branch p ∷ branch q ∷ []) os → Uniform p × Uniform q
  split-uniform p q _ (and-own u _ (and-own u' _ no_own)) = (u, u')

  module _ (here : Position) (deeper : Option Walker) (deep : Deep deeper) where
    -- a field that states the entry x
    reads : {Q : Walked → Type 0} (f : Field) (fs : Fields) (rows : ℕ) (made : Bool) (x : Entry) → entry e K (refusal_at here rows f.at) made f ≡ accepted x
        → Gives (walk_entry deeper (walk_entries e K here deeper fs) (refusal_at here rows f.at) rows f fs x) Q → Gives (walk_entries e K here deeper (f ▸ fs) rows made) Q
    unfolding walk_entries
    reads {Q} f fs rows made x q g = subst (λ r. Gives r Q) (sym (binds (λ x. walk_entry deeper (walk_entries e K here deeper fs) (refusal_at here rows f.at) rows f fs x) q)) g

    walk-entries : {in_b : ℕ → Bool} {ls : List Line} {I : Formula} (p : Closed e in_b ls I) (es : List Entry) (fs : Fields) (rows : ℕ) (made : Bool)
        → Lists (Enters e K) fs (entries p es) → Gives (walk_entries e K here deeper fs rows made) (WalkedAs p es)
    unfolding walk_entry walk_row walk_closed with_number
    walk-entries (derive false m r p) es _ rows made (next f {fs = fs} x t) = reads f fs rows made _ (row-accepted e K here rows made f x)
        (bind (walk-entries p es fs (suc rows) true t) λ w d. gives-accepted (record { uniform = (refl, d.uniform); owns = λ is ds h. cons x (d.owns is ds h); after = d.after; number = d.number }))
    walk-entries (derive true m r p) es _ rows made (next f x (next f2 {fs = fs} x2 t)) = reads f (f2 ▸ fs) rows made _ (row-accepted e K here rows made f x)
        (bind {P = λ w. ⊥} (reads f2 fs (suc rows) true _ (claim-accepted e K here (suc rows) f2 x2) (gives-refused _ tt)) λ w d. absurd d)
    walk-entries (strengthen i q r p1 pE p0) es _ rows made (next f {fs = fs} x t) = reads f fs rows made _ (row-accepted e K here rows made f x)
        (walk-opened here deeper deep (strengthen i q r p1 pE p0) (Strengthen i) (branch p1) (branch pE ∷ branch p0 ∷ []) rows f fs first_and_third (λ ds. refl) x (strengthen-uniform p1 pE p0) es t)
    walk-entries (round i g k r p ps) es _ rows made (next f {fs = fs} x t) = reads f fs rows made _ (row-accepted e K here rows made f x)
        (subst (λ (n : ℕ). Gives (walk_opened deeper (refusal_at here rows f.at) rows f fs n all_alike) (WalkedAs (round i g k r p ps) es)) (let h = from-count ps in omega arith)
        (walk-opened here deeper deep (round i g k r p ps) (Round i g k) (branch p) (from ps) rows f fs all_alike (λ ds. ap (λ es. row (Round i g k) ∷ entries p es) (from_entries ps ds)) x (round-uniform p ps) es
        (subst (λ ds. Lists (Enters e K) fs (entries p ds)) (from_entries ps es) t)))
    walk-entries (split_eq i q r1 r2 p1 p2) es _ rows made (next f {fs = fs} x t) = reads f fs rows made _ (row-accepted e K here rows made f x)
        (walk-opened here deeper deep (split_eq i q r1 r2 p1 p2) (Split i) (branch p1) (branch p2 ∷ []) rows f fs (λ owns. true) (λ ds. refl) x (λ os o t. split-uniform p1 p2 os o) es t)
    walk-entries (split_neq i q r1 r2 p1 p2) es _ rows made (next f {fs = fs} x t) = reads f fs rows made _ (row-accepted e K here rows made f x)
        (walk-opened here deeper deep (split_neq i q r1 r2 p1 p2) (Split i) (branch p1) (branch p2 ∷ []) rows f fs (λ owns. true) (λ ds. refl) x (λ os o t. split-uniform p1 p2 os o) es t)
    walk-entries (number i q z h) es _ rows made (next f {fs = fs} x t) = reads f fs rows made _ (row-accepted e K here rows made f x)
        (gives-accepted (record { uniform = tt; owns = λ is ds h. cons x h; after = t; number = refl }))
    walk-entries (stride i k q h all m is) es _ rows made (next f {fs = fs} x t) = reads f fs rows made _ (row-accepted e K here rows made f x)
        (gives-accepted (record { uniform = tt; owns = λ is ds h. cons x h; after = t; number = refl }))

  pub walk-uniform : (room : ℕ) → Walks (walk_branch e K room)
  unfolding walk_branch
  walk-uniform zero here rows in_b ls I p es fs t = walk-entries here none shut p es fs rows false t
  walk-uniform (suc room) here rows in_b ls I p es fs t = walk-entries here (some (walk_branch e K room)) (opens (walk-uniform room)) p es fs rows false t
