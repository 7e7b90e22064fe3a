-- The check maps related files to related results, for any relation of forms that its sums, products and tests respect. Assumes nothing.
use mathlib.Core.Path.{◌≡◌, refl, sym, subst, ap, ap₂}
use mathlib.Core.Option.{Option, none, some}
use mathlib.Core.Bool.{Bool, not, ◌&&◌}
use mathlib.Core.List.{List, map}
use Prim.Native.Nat.{ℕ, zero, suc}
use lib.Dec.{ltb, eqb, eqb→eq}
use lib.ListN.{length}
use lib.IntN.{ℤ, pos}
use Rattle.integers.specs.Linear.{eq_z}
use Rattle.integers.specs.Divides.{divb}
use Rattle.forms.specs.Edition.{Edition}
use Rattle.forms.specs.Reduced.{reduced}
use Rattle.forms.specs.Forms.{Form, Kind, ≤0, =0, Side, LineKind, Line, line, Constraint, kind_on, line_a, line_b, lines, Formula, literal, ◌divides◌, ◌and◌, ◌or◌, ◌⊞◌, ◌·◌, ◌plus◌, every, small}
use Rattle.calculus.specs.Rules.{◌▷◌, in_range, Row, Derive, Strengthen, CloseNumber, CloseStride, Round, Split, Inference, Combine, Reduce, Scale, Entry, row, claim}
use Rattle.answers.specs.declared.Answer.{Answer}
use Rattle.answers.specs.declared.Position.{Position}
use Rattle.answers.specs.Answers.{refusal_at, Result, accepted, ◌>>=◌, found}
use Rattle.fields.specs.Fields.{Field, Fields, ends, cut, ◌▸◌}
use Rattle.bundle.specs.Layout.{Each, nil, cons}
use Rattle.proof.specs.Entries.{EntryTag, entry_tagged, in_place, size_of, entry_from, entry}
use Rattle.proof.specs.Rows.{is, plain_kind, owner, fails, same_form, undivided, line_at, derived, fitting, inequality, roundable, disequality, by_number, by_stride, states}
use Rattle.proof.specs.Check.{Closing, Checker, Following, there, check_rounded, check_split, check_row, check_entry, check_entries, check_branch}
use Rattle.reordering.proofs.MappedContents.{ContentsMap, KeepsLength, map_fields}
use Rattle.reordering.proofs.RelatedResults.{Like, alike, related, Both, neither, both, Passed, test-like, need-same, need-like, found-same, found-equal, found-like, bind-like, then_like, each-nth, each-length, each_append}

-- What the check does with forms, and what it asks of them, does not tell related ones apart.
pub record Laws (R : Form → Form → Type 0) : Type 0 where
  pub d : {s s' : Form} → R s s' → s.d ≡ s'.d
  pub sum : {s s' t t' : Form} → R s s' → R t t' → R (s ⊞ t) (s' ⊞ t')
  pub times : {s s' : Form} (α : ℤ) → R s s' → R (α · s) (α · s')
  pub added : {s s' : Form} (n : ℕ) → R s s' → R (s plus n) (s' plus n)
  pub residues : {s s' : Form} (g : ℕ) → R s s' → R (reduced g s) (reduced g s')
  pub tests : {s s' : Form} (p : ℤ → Bool) → R s s' → every p s.coeffs ≡ every p s'.coeffs
  pub equals : {s s' t t' : Form} → R s s' → R t t' → same_form s t ≡ same_form s' t'

module _ (R : Form → Form → Type 0) where
  pub record ConstraintLike (c c' : Constraint) : Type 0 where
    pub kind : c.kind ≡ c'.kind
    pub form : R c.form c'.form

  pub record LineLike (l l' : Line) : Type 0 where
    pub kind : l.kind ≡ l'.kind
    pub t : R l.t l'.t
    pub t_A : R l.t_A l'.t_A

  pub record SidedLike (x y : Side × Line) : Type 0 where
    pub side : x.0 ≡ y.0
    pub line : LineLike x.1 y.1

  pub data FormulaLike : Formula → Formula → Type 0 where
    literals : {t t' : Form} (k : Kind) → R t t' → FormulaLike (literal k t) (literal k t')
    strides : {t t' : Form} (g : ℕ) → R t t' → FormulaLike (g divides t) (g divides t')
    ands : {I I' J J' : Formula} → FormulaLike I I' → FormulaLike J J' → FormulaLike (I and J) (I' and J')
    ors : {I I' J J' : Formula} → FormulaLike I I' → FormulaLike J J' → FormulaLike (I or J) (I' or J')

  pub data EntryLike : Entry → Entry → Type 0 where
    a_row : (r : Row) → EntryLike (row r) (row r)
    a_claim : {t t' t_A tA' : Form} → R t t' → R t_A tA' → EntryLike (claim t t_A) (claim t' tA')

module _ {R : Form → Form → Type 0} (laws : Laws R) where
  abbrev Lines : List Line → List Line → Type 0
  Lines = Each (LineLike R)

  -- ---- the lines of the root
  pub lines-like : {a a' b b' : List Constraint} → Each (ConstraintLike R) a a' → Each (ConstraintLike R) b b' → Lines (lines a b) (lines a' b')
  lines-like p q = each_append (of_A p) (of_B q)
    where
      of_A : {a a' : List Constraint} → Each (ConstraintLike R) a a' → Lines (map line_a a) (map line_a a')
      of_A nil = nil
      of_A (cons h hs) = cons (record { kind = ap (kind_on Side.A) h.kind; t = h.form; t_A = h.form }) (of_A hs)

      of_B : {b b' : List Constraint} → Each (ConstraintLike R) b b' → Lines (map line_b b) (map line_b b')
      of_B nil = nil
      of_B (cons h hs) = cons (record { kind = ap (kind_on Side.B) h.kind; t = h.form; t_A = laws.times (pos 0) h.form }) (of_B hs)

  -- ---- rows
  abbrev made-line : (k : Kind) {t t' t_A tA' : Form} → R t t' → R t_A tA' → LineLike R (line k t t_A) (line k t' tA')
  made-line k p q = record { kind = refl; t = p; t_A = q }

  in_range-like : (range : ℕ) {l l' : Line} → LineLike R l l' → in_range range l ≡ in_range range l'
  unfolding in_range
  in_range-like range p = rw (laws.tests (small range) p.t, laws.d p.t, laws.tests (small range) p.t_A, laws.d p.t_A)

  states-like : {t t' t_A tA' : Form} {l l' : Line} → R t t' → R t_A tA' → LineLike R l l' → states t t_A l ≡ states t' tA' l'
  unfolding states
  states-like p q h = rw (laws.equals p h.t, laws.equals q h.t_A)

  module _ (refusal : ℕ → Answer) {ls ls' : List Line} (h : Lines ls ls') where
    line_at-like : {X Y : Type 0} {S : X → Y → Type 0} (i : ℕ) {k : Line → Result X} {k' : Line → Result Y} → ((l l' : Line) → LineLike R l l' → Like S (k l) (k' l'))
        → Like S (line_at refusal ls i >>= k) (line_at refusal ls' i >>= k')
    unfolding line_at
    line_at-like i e = found-like _ (each-nth h i) e

    derived-like : (s : Inference) → Like (LineLike R) (derived refusal ls s) (derived refusal ls' s)
    unfolding derived
    derived-like (Combine i j α β) =
        line_at-like i λ s s' p. line_at-like j λ t t' q.
        need-like _ (ap₂ (λ (k l : LineKind). is ≤0 k && is ≤0 l) p.kind q.kind) λ _. need-same _ _ λ _.
        related (made-line ≤0 (laws.sum (laws.times _ p.t) (laws.times _ q.t)) (laws.sum (laws.times _ p.t_A) (laws.times _ q.t_A)))
    derived-like (Reduce i j α) =
        line_at-like i λ s s' p. line_at-like j λ t t' q.
        found-equal _ (ap plain_kind p.kind) λ k. need-like _ (ap (is =0) q.kind) λ _. need-same _ _ λ _.
        related (made-line k (laws.sum p.t (laws.times _ q.t)) (laws.sum p.t_A (laws.times _ q.t_A)))
    derived-like (Scale i α) =
        line_at-like i λ t t' q. found-equal _ (ap plain_kind q.kind) λ k. need-same _ _ λ _.
        related (made-line k (laws.times _ q.t) (laws.times _ q.t_A))

    fitting-like : (e : Edition) {l l' : Line} → LineLike R l l' → Like Passed (fitting refusal ls e l) (fitting refusal ls' e l')
    unfolding fitting
    fitting-like e p = need-like _ (ap (λ (n : ℕ). ltb n e.lines) (each-length h)) λ _. test-like _ (in_range-like e.range p)

    inequality-like : (i : ℕ) → Like (LineLike R) (inequality refusal ls i) (inequality refusal ls' i)
    unfolding inequality
    inequality-like i = line_at-like i λ t t' q. need-like _ (ap (is ≤0) q.kind) λ _. related q

    roundable-like : (e : Edition) (i g k : ℕ) → Like (LineLike R) (roundable refusal ls e i g k) (roundable refusal ls' e i g k)
    unfolding roundable
    roundable-like e i g k =
        bind-like (inequality-like i) λ t t' q. need-same _ _ λ _.
        need-like _ (ap₂ (λ (x : Bool) (d : ℤ). x && undivided g d k) (laws.tests (divb (pos g)) q.t) (laws.d q.t)) λ _. related q

    disequality-like : (i : ℕ) → Like (SidedLike R) (disequality refusal ls i) (disequality refusal ls' i)
    unfolding disequality
    disequality-like i = line_at-like i λ t t' q. found-equal _ (ap owner q.kind) λ σ. related (record { side = refl; line = q })

    by_number-like : (i : ℕ) → Like (FormulaLike R) (by_number refusal ls i) (by_number refusal ls' i)
    unfolding by_number
    by_number-like i =
        line_at-like i λ t t' q. found-equal _ (ap plain_kind q.kind) λ k.
        need-like _ (ap₂ (λ (x : Bool) (d : ℤ). x && fails k d) (laws.tests (λ c. eq_z c (pos 0)) q.t) (laws.d q.t)) λ _. related (literals k q.t_A)

    by_stride-like : (i g : ℕ) → Like (FormulaLike R) (by_stride refusal ls i g) (by_stride refusal ls' i g)
    unfolding by_stride
    by_stride-like i g =
        line_at-like i λ t t' q. need-like _ (ap (is =0) q.kind) λ _. need-same _ _ λ _.
        need-like _ (ap₂ (λ (x : Bool) (d : ℤ). x && not (divb (pos g) d)) (laws.tests (divb (pos g)) q.t) (laws.d q.t)) λ _. related (strides g (laws.residues g q.t_A))

  -- ---- branches
  module _ (m : ContentsMap) where
    -- So many rows up to here, and these fields left.
    pub record Reached (n n' : ℕ) (fs fs' : Fields) : Type 0 where
      pub rows : n ≡ n'
      pub after : map_fields m fs ≡ fs'

    pub record ClosingLike (c c' : Closing) : Type 0 where
      pub formula : FormulaLike R c.formula c'.formula
      pub at : Reached c.rows c'.rows c.after c'.after

    -- A checker that gives related closings on related lines and fields.
    abbrev pub Steady : Checker → Type 0
    Steady c = (p : Position) (rows : ℕ) (ls ls' : List Line) → Lines ls ls' → (fs : Fields) → Like ClosingLike (c p rows ls fs) (c p rows ls' (map_fields m fs))

    branch-like : {c : Checker} → Steady c → (p : Position) {rows rows' : ℕ} {fs fs' : Fields} → Reached rows rows' fs fs' → {ls ls' : List Line} → Lines ls ls' → Like ClosingLike (c p rows ls fs) (c p rows' ls' fs')
    branch-like {c} s p {rows} {rows'} {fs} {fs'} at {ls} {ls'} h =
        subst (λ (n : ℕ). Like ClosingLike (c p rows ls fs) (c p n ls' fs')) at.rows
        (subst (λ (x : Fields). Like ClosingLike (c p rows ls fs) (c p rows ls' x)) at.after (s p rows ls ls' h fs))

    abbrev closed : {I I' : Formula} → FormulaLike R I I' → {rows rows' : ℕ} {fs fs' : Fields} → Reached rows rows' fs fs'
        → Like ClosingLike (accepted (record { formula = I; rows = rows; after = fs })) (accepted (record { formula = I'; rows = rows'; after = fs' }))
    closed p at = related (record { formula = p; at = at })

    abbrev one_more : {ls ls' : List Line} → Lines ls ls' → {l l' : Line} → LineLike R l l' → Lines (ls ▷ l) (ls' ▷ l')
    one_more h p = each_append h (cons p nil)

    check_rounded-like : {branch : Checker} → Steady branch → {ls ls' : List Line} → Lines ls ls' → {l l' : Line} → LineLike R l l' → (step g k j left : ℕ)
        → {rows rows' : ℕ} {fs fs' : Fields} → Reached rows rows' fs fs'
        → Like ClosingLike (check_rounded branch ls l step g k j left rows fs) (check_rounded branch ls' l' step g k j left rows' fs')
    unfolding check_rounded
    check_rounded-like s h p step g k j zero at =
        bind-like (branch-like s _ at (one_more h (made-line ≤0 (laws.added k p.t) (laws.added j p.t_A)))) λ own own' q.
        closed (ands (strides g (laws.residues g (laws.added j p.t_A))) q.formula) q.at
    check_rounded-like s h p step g k j (suc left) at =
        bind-like (branch-like s _ at (one_more h (made-line ≤0 (laws.added k p.t) (laws.added j p.t_A)))) λ own own' q.
        bind-like (check_rounded-like s h p step g k (suc j) left q.at) λ others others' r.
        closed (ors (ands (strides g (laws.residues g (laws.added j p.t_A))) q.formula) r.formula) r.at

    check_split-like : (e : Edition) (refusal : ℕ → Answer) {branch : Checker} → Steady branch → (σ : Side) {ls ls' : List Line} → Lines ls ls' → {t t' t_A tA' : Form} → R t t' → R t_A tA'
        → (rows : ℕ) (fs : Fields) → Like ClosingLike (check_split e refusal branch σ ls t t_A rows fs) (check_split e refusal branch σ ls' t' tA' rows (map_fields m fs))
    unfolding check_split
    check_split-like e refusal s Side.A h p q rows fs =
        let low = made-line ≤0 (laws.added 1 p) (laws.added 1 q) in
        let high = made-line ≤0 (laws.added 1 (laws.times _ p)) (laws.added 1 (laws.times _ q)) in
        then_like (fitting-like refusal h e low) (then_like (fitting-like refusal h e high)
        (bind-like (s _ (suc rows) _ _ (one_more h low) fs) λ first first' x.
        bind-like (branch-like s _ x.at (one_more h high)) λ second second' y. closed (ors x.formula y.formula) y.at))
    check_split-like e refusal s Side.B h p q rows fs =
        let low = made-line ≤0 (laws.added 1 p) q in
        let high = made-line ≤0 (laws.added 1 (laws.times _ p)) (laws.times _ q) in
        then_like (fitting-like refusal h e low) (then_like (fitting-like refusal h e high)
        (bind-like (s _ (suc rows) _ _ (one_more h low) fs) λ first first' x.
        bind-like (branch-like s _ x.at (one_more h high)) λ second second' y. closed (ands x.formula y.formula) y.at))

    abbrev SteadyIn : Option Checker → Type 0
    SteadyIn none = Unit
    SteadyIn (some c) = Steady c

    deeper-like : {X Y : Type 0} {S : X → Y → Type 0} (deeper : Option Checker) → SteadyIn deeper → (a : Answer) {k : Checker → Result X} {k' : Checker → Result Y}
        → ((c : Checker) → Steady c → Like S (k c) (k' c)) → Like S (found a deeper >>= k) (found a deeper >>= k')
    unfolding found ◌>>=◌
    deeper-like none p a e = alike a
    deeper-like (some c) p a e = e c p

    module _ (e : Edition) (K : ℕ) where
      module _ (deeper : Option Checker) (d : SteadyIn deeper) (next next' : Following)
          (n : (rows : ℕ) (made made' : Option Line) → Both (LineLike R) made made' → (ls ls' : List Line) → Lines ls ls' → Like ClosingLike (next rows made ls) (next' rows made' ls')) where
        check_row-like : (refusal : ℕ → Answer) (rows : ℕ) {ls ls' : List Line} → Lines ls ls' → (fs : Fields) (r : Row)
            → Like ClosingLike (check_row e K deeper next refusal rows ls fs r) (check_row e K deeper next' refusal rows ls' (map_fields m fs) r)
        unfolding check_row
        check_row-like refusal rows h fs (Derive s) =
            bind-like (derived-like refusal h s) λ l l' p. then_like (fitting-like refusal h e p) (n _ _ _ (both p) _ _ (one_more h p))
        check_row-like refusal rows h fs (Strengthen i) =
            bind-like (inequality-like refusal h i) λ l l' p.
            deeper-like deeper d _ λ branch s.
            let up = made-line ≤0 (laws.added 1 p.t) (laws.added 1 p.t_A) in
            then_like (fitting-like refusal h e up)
            (bind-like (s _ _ _ _ (one_more h up) fs) λ first first' x.
            bind-like (branch-like s _ x.at (one_more h (made-line =0 p.t p.t_A))) λ second second' y.
            bind-like (branch-like s _ y.at (one_more h (made-line ≤0 (laws.added 1 p.t) p.t_A))) λ third third' z.
            closed (ors x.formula (ands y.formula z.formula)) z.at)
        check_row-like refusal rows h fs (Round i g k) =
            bind-like (roundable-like refusal h e i g k) λ l l' p.
            deeper-like deeper d _ λ branch s.
            let up = made-line ≤0 (laws.added k p.t) (laws.added k p.t_A) in
            then_like (fitting-like refusal h e up)
            (bind-like (s _ _ _ _ (one_more h up) fs) λ first first' x.
            bind-like (check_rounded-like s h p rows g k 0 _ x.at) λ others others' y.
            closed (ors x.formula y.formula) y.at)
        check_row-like refusal rows {ls} {ls'} h fs (Split i) =
            bind-like (disequality-like refusal h i) λ x y p.
            deeper-like deeper d _ λ branch s.
            subst (λ (σ : Side). Like ClosingLike (check_split e refusal branch x.0 ls x.1.t x.1.t_A rows fs) (check_split e refusal branch σ ls' y.1.t y.1.t_A rows (map_fields m fs))) p.side
            (check_split-like e refusal s x.0 h p.line.t p.line.t_A rows fs)
        check_row-like refusal rows h fs (CloseNumber i) = bind-like (by_number-like refusal h i) λ I I' p. closed p (record { rows = refl; after = refl })
        check_row-like refusal rows h fs (CloseStride i g) = bind-like (by_stride-like refusal h i g) λ I I' p. closed p (record { rows = refl; after = refl })

        check_entry-like : (refusal : ℕ → Answer) (rows : ℕ) {made made' : Option Line} → Both (LineLike R) made made' → {ls ls' : List Line} → Lines ls ls' → (fs : Fields) {x x' : Entry} → EntryLike R x x'
            → Like ClosingLike (check_entry e K deeper next refusal rows made ls fs x) (check_entry e K deeper next' refusal rows made' ls' (map_fields m fs) x')
        unfolding check_entry
        check_entry-like refusal rows b h fs (a_row r) = need-same _ _ λ _. check_row-like refusal rows h fs r
        check_entry-like refusal rows b h fs (a_claim p q) = found-like _ b λ l l' r. need-like _ (states-like p q r) λ _. n _ _ _ neither _ _ h

      -- ---- entries
      -- A claim may stand in the one just where it may in the other.
      there-alike : {made made' : Option Line} → Both (LineLike R) made made' → there made ≡ there made'
      there-alike neither = refl
      there-alike (both l) = refl

      -- A field of right length states related entries.
      abbrev pub Entering : Type 0
      Entering = (tag : ℕ) (x : EntryTag) → entry_tagged tag ≡ some x → (c : List ℕ) → length c ≡ size_of e K x → EntryLike R (entry_from e K x c) (entry_from e K x (m tag c))

      module _ (keeping : KeepsLength m) (entering : Entering) where
        entry-like : (refusal : ℕ → Answer) {made made' : Option Line} → Both (LineLike R) made made' → (f : Field)
            → Like (EntryLike R) (entry e K refusal (there made) f) (entry e K refusal (there made') (record { at = f.at; tag = f.tag; contents = m f.tag f.contents }))
        unfolding entry
        entry-like refusal b f =
            need-same _ _ λ _. found-same _ _ λ x t. need-like _ (ap (λ (b : Bool). in_place b x) (there-alike b)) λ _.
            need-like _ (ap (λ (n : ℕ). eqb n (size_of e K x)) (sym (keeping.keeps f.tag f.contents))) λ s.
            related (entering f.tag x t f.contents (eqb→eq _ _ s))

        check_entries-like : (p : Position) (deeper : Option Checker) → SteadyIn deeper → (fs : Fields) (rows : ℕ) {made made' : Option Line} → Both (LineLike R) made made' → {ls ls' : List Line} → Lines ls ls'
            → Like ClosingLike (check_entries e K p deeper fs rows made ls) (check_entries e K p deeper (map_fields m fs) rows made' ls')
        unfolding check_entries
        check_entries-like p deeper d (ends at) rows b h = alike _
        check_entries-like p deeper d (cut at) rows b h = alike _
        check_entries-like p deeper d (f ▸ fs) rows b h =
            bind-like (entry-like (refusal_at p rows f.at) b f) λ x x' q.
            check_entry-like deeper d _ _ (λ rows₁ made₁ made₂ b₁ ls₁ ls₂ h₁. check_entries-like p deeper d fs rows₁ b₁ h₁) (refusal_at p rows f.at) rows b h fs q

        pub check_branch-like : (room : ℕ) → Steady (check_branch e K room)
        unfolding check_branch
        check_branch-like zero p rows ls ls' h fs = check_entries-like p none tt fs rows neither h
        check_branch-like (suc room) p rows ls ls' h fs = check_entries-like p (some (check_branch e K room)) (check_branch-like room) fs rows neither h
