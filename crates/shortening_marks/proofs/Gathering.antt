-- Laws of gathering the rows. Assumes nothing.
use mathlib.Core.Path.{◌≡◌, refl, sym, ◌∙◌, ap, ap₂, subst}
use mathlib.Core.Option.{Option, some}
use mathlib.Core.Bool.{Bool, true, false, not, ◌&&◌, ◌||◌}
use mathlib.Core.List.{List, [], ◌∷◌, map}
use Prim.Native.Nat.{ℕ, zero, suc, ◌+◌, ◌≤◌, ◌<◌}
use native.Mathlib.Omega.{arith}
use lib.Dec.{eqb}
use lib.ListN.{length, get_or, set, length-set, take, drop}
use lib.Seq.{get_or-set_same, get_or-set_other, sets}
use Rattle.forms.specs.Edition.{edition, edition1}
use Rattle.calculus.specs.Rules.{Row, Combine, Reduce, Scale, Derive, Strengthen, Round, Split, CloseNumber, CloseStride, Entry, row, claim}
use Rattle.fields.specs.Fields.{Field, Fields, ends, cut, ◌▸◌, Item, item, items}
use Rattle.std.specs.Prelude.{Ok}
use Rattle.std.specs.declared.result.Result as code
use Rattle.fields.specs.declared.WholeField.{WholeField}
use Rattle.fields.specs.declared.End.{End}
use Rattle.fields.specs.Places.{fields_at, next_of}
use Rattle.fields.proofs.Places.{Starts}
use Rattle.shortening.specs.Shorten as definition
use Rattle.shortening.proofs.Renumbering.{entries-of}
use Rattle.shortening.proofs.Filed.{onward, ended, never-cut}
use borrow.Author.Tests.{eqb-true, eqb-false}
use Rattle.bundle.specs.Layout.{Each}
use Rattle.proof.specs.Layout.{Enters}
use Rattle.shortening.specs.Needed.{mark_of}
use Rattle.shortening.specs.Passes.{Backward, cleared, making, branching, closing, top, pop, pushed, backward, report_on, Start, no_start, branch_start}
use Rattle.shortening_stack.specs.declared.Class.TheVariants.{Claims}
use Rattle.shortening_stack.specs.declared.Outline.{Outline}
use Rattle.shortening_stack.specs.declared.stack.Step.{Step}
use Rattle.shortening_stack.specs.Outline.{outline_of, outline_by, LaidBy}
use Rattle.shortening_stack.specs.Stack.{stack_of, Alive, SameBelow, Bound, lines_after, opened_after, MovedOn}
use Rattle.shortening_stack.proofs.Outlines.{outline-is, laid_by}
use Rattle.shortening_stack.proofs.Stacks.{same_self, same_set}
use Rattle.shortening_marks.specs.declared.GatheredRow.{GatheredRow}
use Rattle.shortening_marks.specs.Marks.{no_row, row_of, Marking, making2, row_back, row_in, back_in, Markable, MarkedFrom}
use Rattle.shortening_marks.specs.Gathered.{rows_of, Stating, SameBack, starts_of, Gathered, Gatherable, GathersAll}

-- ---- one row beside the passes
same-making : (s t n : ℕ) (b c : Backward) → SameBack b c → SameBack (making2 s t n b) (making2 s t n c)
same-making s t n b c h = record {
  marks = λ j. ap₂ (λ (x y : Bool). ((eqb j s || eqb j t) && x) || (not (eqb j n) && y)) (h.marks n) (h.marks j);
  reported = ap₂ (λ (x : Bool) (ns : List ℕ). mark_of x ∷ ns) (h.marks n) h.reported;
}

same-branching : (i n : ℕ) (b c : Backward) → SameBack b c → SameBack (branching i n b) (branching i n c)
same-branching i n b c h = record { marks = λ j. ap (λ (y : Bool). eqb j i || (not (eqb j n) && y)) (h.marks j); reported = ap (λ (ns : List ℕ). 2 ∷ ns) h.reported }

same-closing : (i : ℕ) (b c : Backward) → SameBack b c → SameBack (closing i b) (closing i c)
same-closing i b c h = record { marks = λ j. ap (λ (y : Bool). eqb j i || y) (h.marks j); reported = ap (λ (ns : List ℕ). 2 ∷ ns) h.reported }

or_same : (a : Bool) → (a || a) ≡ a
or_same true = refl
or_same false = refl

scale-making : (t a n : ℕ) (c : Backward) → SameBack (making2 t t n c) (making (Scale t a) n c)
scale-making t a n c = record { marks = λ j. ap (λ (x : Bool). (x && c.marks n) || cleared n c.marks j) (or_same (eqb j t)); reported = refl }

through : {a b c : Backward} → SameBack a b → SameBack b c → SameBack a c
through h k = record { marks = λ j. h.marks j ∙ k.marks j; reported = h.reported ∙ k.reported }

map-pushed : (k : ℕ) (s : Start) (ss : List Start) → map (λ (s : Start). s.lines) (pushed k s ss) ≡ pushed k s.lines (map (λ (s : Start). s.lines) ss)
map-pushed zero s ss = refl
map-pushed (suc k) s ss = ap (λ (xs : List ℕ). s.lines ∷ xs) (map-pushed k s ss)

map-top : (ss : List Start) → (top no_start ss).lines ≡ top 0 (map (λ (s : Start). s.lines) ss)
map-top [] = refl
map-top (s ∷ ss) = refl

map-pop : (ss : List Start) → map (λ (s : Start). s.lines) (pop ss) ≡ pop (map (λ (s : Start). s.lines) ss)
map-pop [] = refl
map-pop (s ∷ ss) = refl

-- what follows a row of the class, and then the row
backward-row : (y : Entry) (es : List Entry) (lines : ℕ) (opened : List Start) (b : Backward) → ¬ ((outline_of y).class ≡ Claims)
    → SameBack b (backward es (lines_after (outline_of y).class lines opened) (map (λ (s : Start). s.lines) (opened_after (outline_of y).class (outline_of y).come lines 0 opened)))
    → SameBack (row_back (outline_of y).class lines (outline_of y).first (outline_of y).second b) (backward (y ∷ es) lines (map (λ (s : Start). s.lines) opened))
backward-row (row (Derive (Combine s t α β))) es lines opened b d h = same-making s t lines b _ h
backward-row (row (Derive (Reduce s t α))) es lines opened b d h = same-making s t lines b _ h
backward-row (row (Derive (Scale t α))) es lines opened b d h = through (same-making t t lines b _ h) (scale-making t α lines (backward es (suc lines) (map (λ (s : Start). s.lines) opened)))
backward-row (row (Strengthen i)) es lines opened b d h = same-branching i lines b _ h
backward-row (row (Round i g k)) es lines opened b d h =
    same-branching i lines b (backward es (suc lines) (pushed k (suc lines) (map (λ (s : Start). s.lines) opened)))
    (subst (λ (xs : List ℕ). SameBack b (backward es (suc lines) xs)) (map-pushed k (branch_start (suc lines) 1) opened) h)
backward-row (row (Split i)) es lines opened b d h = same-branching i lines b _ h
backward-row (row (CloseNumber i)) es lines opened b d h =
    same-closing i b (backward es (top 0 (map (λ (s : Start). s.lines) opened)) (pop (map (λ (s : Start). s.lines) opened)))
    (subst (λ (x : ℕ). SameBack b (backward es x (pop (map (λ (s : Start). s.lines) opened)))) (map-top opened)
    (subst (λ (xs : List ℕ). SameBack b (backward es (top no_start opened).lines xs)) (map-pop opened) h))
backward-row (row (CloseStride i g)) es lines opened b d h =
    same-closing i b (backward es (top 0 (map (λ (s : Start). s.lines) opened)) (pop (map (λ (s : Start). s.lines) opened)))
    (subst (λ (x : ℕ). SameBack b (backward es x (pop (map (λ (s : Start). s.lines) opened)))) (map-top opened)
    (subst (λ (xs : List ℕ). SameBack b (backward es (top no_start opened).lines xs)) (map-pop opened) h))
backward-row (claim t t_A) es lines opened b d h = absurd (d refl)

pub no_claim : (r : Row) → ¬ ((outline_of (row r)).class ≡ Claims)
no_claim (Derive (Combine s t α β)) h = cc
no_claim (Derive (Reduce s t α)) h = cc
no_claim (Derive (Scale t α)) h = cc
no_claim (Strengthen i) h = cc
no_claim (Round i g k) h = cc
no_claim (Split i) h = cc
no_claim (CloseNumber i) h = cc
no_claim (CloseStride i g) h = cc

backward-claim : (y : Entry) (es : List Entry) (lines : ℕ) (opened : List ℕ) → (outline_of y).class ≡ Claims → backward (y ∷ es) lines opened ≡ backward es lines opened
backward-claim (claim t t_A) es lines opened h = refl
backward-claim (row r) es lines opened h = absurd (no_claim r h)

pub rows-claim : (y : Entry) (es : List Entry) → (outline_of y).class ≡ Claims → rows_of (y ∷ es) ≡ rows_of es
rows-claim (claim t t_A) es h = refl
rows-claim (row r) es h = absurd (no_claim r h)

pub rows_row : (y : Entry) (es : List Entry) → ¬ ((outline_of y).class ≡ Claims) → rows_of (y ∷ es) ≡ suc (rows_of es)
rows_row (row r) es h = refl
rows_row (claim t t_A) es h = absurd (h refl)

-- ---- the fields one by one
-- Behind the first field the fields state the other entries.
pub record Head (e K : ℕ) (fs : Fields) (i : Item) (es : List Entry) : Type 0 where
  pub y : Entry
  pub others : List Entry
  pub are : es ≡ y ∷ others
  pub enters : Enters (edition e) K i y
  pub rest : Stating e K fs others

head-by : (e K : ℕ) (fs : Fields) (i : Item) (is : List Item) (es : List Entry) → Each (Enters (edition e) K) (i ∷ is) es → items fs ≡ some is → K ≤ edition1.constants → Head e K fs i es
head-by e K fs i is [] h a k = elim h [ ]
head-by e K fs i is (y ∷ ys) (Each.cons r h) a k = record { y = y; others = ys; are = refl; enters = r; rest = record { list = is; are = a; each = h; few = k } }

pub head_of : (e K : ℕ) (f : Field) (fs : Fields) (es : List Entry) → Stating e K (f ▸ fs) es → Head e K fs (item f.tag f.contents) es
head_of e K f fs es s =
    let x = onward f fs s.list s.are in
    head-by e K fs (item f.tag f.contents) x.others es (subst (λ (is : List Item). Each (Enters (edition e) K) is es) x.are s.each) x.rest s.few

pub nothing_left : (e K at : ℕ) (es : List Entry) → Stating e K (ends at) es → es ≡ []
nothing_left e K at es s = by s.list es (ended at s.list s.are) s.each
  where
    by : (is : List Item) (es : List Entry) → is ≡ [] → Each (Enters (edition e) K) is es → es ≡ []
    by [] [] q h = refl
    by [] (x ∷ es) q h = elim h [ ]
    by (i ∷ is) [] q h = elim h [ ]
    by (i ∷ is) (x ∷ es) q h = absurd (let z : suc (length is) ≡ 0 = ap length q in omega (arith, z))

-- fields state one list of entries
one_list : {o : Option (List Item)} {is js : List Item} → o ≡ some is → o ≡ some js → is ≡ js
one_list h k = cc

one-stating : (e K : ℕ) (fs : Fields) (es es' : List Entry) → Stating e K fs es → Stating e K fs es' → es ≡ es'
one-stating e K fs es es' s s' =
    sym (entries-of (edition e) K s.each) ∙ ap (map (definition.stated_entry (edition e) K)) (one_list s.are s'.are) ∙ entries-of (edition e) K s'.each

-- ---- the invariant
pub record Gathering (p : List ℕ) (at e K n : ℕ) (gathered₀ : List GatheredRow) (steps₀ : List Step) (gathered : List GatheredRow) (steps : List Step) (here lines depth rows : ℕ) : Type 0 where
  pub able : Gatherable e K (fields_at p at) n gathered₀ steps₀
  pub es : List Entry
  pub stating : Stating e K (fields_at p here) es
  pub rows_are : rows + rows_of es ≡ rows_of able.es
  pub alive : Alive steps depth
  pub depth-most : depth ≤ rows
  pub lines-most : lines ≤ n + rows
  pub bounded : Bound steps depth (n + rows)
  pub below : (r : ℕ) → r < rows → (get_or gathered r no_row).lines ≤ n + r
  pub gathered-length : length gathered ≡ length gathered₀
  pub steps_length : length steps ≡ length steps₀
  pub rest : (ws : List GatheredRow) (left : ℕ) → SameBelow no_row rows ws gathered → SameBack (back_in ws left rows) (backward es lines (starts_of steps depth)) → SameBack (back_in ws (rows + left) 0) (backward able.es n [])

pub gathering-start : {p : List ℕ} {at e K n : ℕ} {gathered : List GatheredRow} {steps : List Step} → Gatherable e K (fields_at p at) n gathered steps → Gathering p at e K n gathered steps gathered steps at n 0 0
gathering-start {n = n} a = record {
  able = a;
  es = a.es;
  stating = a.stating;
  rows_are = omega arith;
  alive = record { alive = λ i h. absurd (omega (arith, h)) };
  depth-most = omega arith;
  lines-most = omega arith;
  bounded = record { bound = λ i h. absurd (omega (arith, h)) };
  below = λ r h. absurd (omega (arith, h));
  gathered-length = refl;
  steps_length = refl;
  rest = λ ws left s h. subst (λ (m : ℕ). SameBack (back_in ws m 0) (backward a.es n [])) (let z : left ≡ 0 + left = omega arith in z) h;
}

same-before : (d : ℕ) (xs ys : List GatheredRow) (x : GatheredRow) → SameBelow no_row (d + 1) xs (set ys d x) → SameBelow no_row d xs ys
same-before d xs ys x s = record { same = λ i h. s.same i (omega (arith, h)) ∙ (same_set no_row d ys x).same i h }

at_last : (d : ℕ) (xs ys : List GatheredRow) (x : GatheredRow) → d < length ys → SameBelow no_row (d + 1) xs (set ys d x) → get_or xs d no_row ≡ x
at_last d xs ys x h s = s.same d (omega arith) ∙ get_or-set_same ys d x no_row h

below_set : (gathered : List GatheredRow) (rows : ℕ) (word : GatheredRow) (n : ℕ) → rows < length gathered → word.lines ≤ n + rows → ((r : ℕ) → r < rows → (get_or gathered r no_row).lines ≤ n + r) → (r : ℕ) → r < rows + 1 → (get_or (set gathered rows word) r no_row).lines ≤ n + r
below_set gathered rows word n h l k r m = by (eqb r rows) refl
  where
    by : (b : Bool) → eqb r rows ≡ b → (get_or (set gathered rows word) r no_row).lines ≤ n + r
    by true e =
        let q : r ≡ rows = eqb-true r rows e in
        subst (λ (i : ℕ). (get_or (set gathered rows word) i no_row).lines ≤ n + i) (sym q) (subst (λ (x : GatheredRow). x.lines ≤ n + rows) (sym (get_or-set_same gathered rows word no_row h)) l)
    by false e =
        let other : ¬ (r ≡ rows) = eqb-false r rows e in
        let less : r < rows = omega (arith, m, other) in
        subst (λ (x : GatheredRow). x.lines ≤ n + r) (sym (get_or-set_other gathered rows r word no_row other)) (k r less)

pub bound-more : (steps : List Step) (d b b' : ℕ) → b ≤ b' → Bound steps d b → Bound steps d b'
bound-more steps d b b' h a = record { bound = λ i l. omega (arith, h, a.bound i l) }

module _ {p : List ℕ} {at e K n : ℕ} {gathered₀ : List GatheredRow} {steps₀ : List Step} {gathered : List GatheredRow} {steps : List Step} {here lines depth rows : ℕ} (v : Gathering p at e K n gathered₀ steps₀ gathered steps here lines depth rows) where
  -- bytes that are no whole field state nothing
  gathering-cut : {a : ℕ} → fields_at p here ≡ cut a → ⊥
  gathering-cut {a} q =
      let s = subst (λ (fs : Fields). Stating e K fs v.es) q v.stating in
      never-cut a s.list s.are

  gathering-done : {a : ℕ} → fields_at p here ≡ ends a → GathersAll e K (fields_at p at) n gathered rows
  gathering-done {a} q =
      let none : v.es ≡ [] = nothing_left e K a v.es (subst (λ (fs : Fields). Stating e K fs v.es) q v.stating) in
      let nil : SameBack (back_in gathered 0 rows) (backward v.es lines (starts_of steps depth)) = subst (λ (es : List Entry). SameBack (back_in gathered 0 rows) (backward es lines (starts_of steps depth))) (sym none) (record { marks = λ j. refl; reported = refl }) in
      let back : SameBack (back_in gathered (rows + 0) 0) (backward v.able.es n []) = v.rest gathered 0 (same_self no_row rows gathered) nil in
      let zero_more : rows + 0 ≡ rows = omega arith in
      let none_left : rows_of v.es ≡ 0 = ap rows_of none in
      record {
        all = λ es s.
            let same : v.able.es ≡ es = one-stating e K (fields_at p at) v.able.es es v.able.stating s in
            record {
              rows_are = omega (arith, v.rows_are, none_left, ap rows_of same);
              back = subst (λ (m : ℕ). SameBack (back_in gathered m 0) (backward es n [])) zero_more (subst (λ (xs : List Entry). SameBack (back_in gathered (rows + 0) 0) (backward xs n [])) same back);
              below = v.below;
            };
      }

  -- where no whole field is left
  pub gathering-over : {r : code.Result WholeField End} → r ≡ next_of (fields_at p here) → ((f : WholeField) → ¬ (r ≡ Ok f)) → GathersAll e K (fields_at p at) n gathered rows
  gathering-over {r} q h = go (fields_at p here) refl q
    where
      go : (fs : Fields) → fields_at p here ≡ fs → r ≡ next_of fs → GathersAll e K (fields_at p at) n gathered rows
      go (ends a) e q = gathering-done e
      go (cut a) e q = absurd (gathering-cut e)
      go (f ▸ fs) e q = absurd (h _ q)

  module _ {a tag start len next : ℕ} (k : Starts p here a tag start len next) where
    head : Head e K (fields_at p next) (item tag (take len (drop start p))) v.es
    head = head_of e K (record { at = a; tag = tag; contents = take len (drop start p) }) (fields_at p next) v.es (subst (λ (fs : Fields). Stating e K fs v.es) k.is v.stating)

    inside : start + len ≤ length p
    inside = omega (arith, k.upto, k.next-is)

    pub entry-there : LaidBy p tag start (edition e).line_width
    entry-there = laid_by e K p tag start len head.y inside head.enters

    module _ {x : Outline} (q : x ≡ outline_by (edition e).line_width tag (drop start p)) where
      is-outline : x ≡ outline_of head.y
      is-outline = q ∙ outline-is e K p tag start len head.y inside head.enters

      -- a claim is passed over
      pub gathering-claim : x.class ≡ Claims → Gathering p at e K n gathered₀ steps₀ gathered steps next lines depth rows
      gathering-claim d =
          let c : (outline_of head.y).class ≡ Claims = sym (ap (λ (s : Outline). s.class) is-outline) ∙ d in
          record {
            able = v.able;
            es = head.others;
            stating = head.rest;
            rows_are = omega (arith, v.rows_are, ap rows_of head.are, rows-claim head.y head.others c);
            alive = v.alive;
            depth-most = v.depth-most;
            lines-most = v.lines-most;
            bounded = v.bounded;
            below = v.below;
            gathered-length = v.gathered-length;
            steps_length = v.steps_length;
            rest = λ ws left s b. v.rest ws left s
                (subst (λ (m : Backward). SameBack (back_in ws left rows) m) (sym (ap (λ (es : List Entry). backward es lines (starts_of steps depth)) head.are ∙ backward-claim head.y head.others lines (starts_of steps depth) c)) b);
          }

      module _ (d : ¬ (x.class ≡ Claims)) where
        no-claim : ¬ ((outline_of head.y).class ≡ Claims)
        no-claim c = d (ap (λ (s : Outline). s.class) is-outline ∙ c)

        one_more : rows + suc (rows_of head.others) ≡ rows_of v.able.es
        one_more = omega (arith, v.rows_are, ap rows_of head.are, rows_row head.y head.others no-claim)

        pub rows-room : rows < length gathered
        rows-room = omega (arith, one_more, v.able.gathered_room, v.gathered-length)

        pub stack-room : (lines < 0xFFFF) × (0 < 0xFFFF) × (depth < length steps)
        stack-room = (
          omega (arith, one_more, v.lines-most, v.able.few),
          omega arith,
          omega (arith, one_more, v.depth-most, v.able.steps_room, v.steps_length),
        )

        pub rows_fit : rows + 1 < 0x10000
        rows_fit = omega (arith, one_more, v.able.few)

        module _ {steps' : List Step} {lines' kept' depth' : ℕ} (w : MovedOn x.class x.come lines 0 depth steps steps' lines' kept' depth') where
          -- what follows the row, and then the row
          row_back_lem : (ws : List GatheredRow) (left : ℕ) → SameBelow no_row (rows + 1) ws (set gathered rows (row_of x lines))
              → SameBack (back_in ws left (rows + 1)) (backward head.others lines' (starts_of steps' depth')) → SameBack (back_in ws (suc left) rows) (backward v.es lines (starts_of steps depth))
          row_back_lem ws left s b =
              let y = head.y in
              let opened = stack_of steps depth in
              let B = back_in ws left (suc rows) in
              let b1 : SameBack B (backward head.others lines' (starts_of steps' depth')) = subst (λ (i : ℕ). SameBack (back_in ws left i) (backward head.others lines' (starts_of steps' depth'))) (let z : rows + 1 ≡ suc rows = omega arith in z) b in
              let b2 : SameBack B (backward head.others (lines_after x.class lines opened) (map (λ (s : Start). s.lines) (opened_after x.class x.come lines 0 opened))) =
              subst (λ (m : ℕ). SameBack B (backward head.others m (map (λ (s : Start). s.lines) (opened_after x.class x.come lines 0 opened)))) (w.lines_are v.alive)
              (subst (λ (o : List Start). SameBack B (backward head.others lines' (map (λ (s : Start). s.lines) o))) (w.is v.alive) b1) in
              let b3 : SameBack (row_back (outline_of y).class lines (outline_of y).first (outline_of y).second B) (backward (y ∷ head.others) lines (map (λ (s : Start). s.lines) opened)) =
              backward-row y head.others lines opened B no-claim
              (subst (λ (z : Outline). SameBack B (backward head.others (lines_after z.class lines opened) (map (λ (s : Start). s.lines) (opened_after z.class z.come lines 0 opened)))) is-outline b2) in
              let b4 : SameBack (row_back x.class lines x.first x.second B) (backward v.es lines (map (λ (s : Start). s.lines) opened)) =
              subst (λ (es : List Entry). SameBack (row_back x.class lines x.first x.second B) (backward es lines (map (λ (s : Start). s.lines) opened))) (sym head.are)
              (subst (λ (z : Outline). SameBack (row_back z.class lines z.first z.second B) (backward (y ∷ head.others) lines (map (λ (s : Start). s.lines) opened))) (sym is-outline) b3) in
              subst (λ (m : GatheredRow). SameBack (row_in m B) (backward v.es lines (starts_of steps depth))) (sym (at_last rows ws gathered (row_of x lines) rows-room s)) b4

          pub gathering-row : Gathering p at e K n gathered₀ steps₀ (set gathered rows (row_of x lines)) steps' next lines' depth' (rows + 1)
          gathering-row =
              let grown = w.bounded (n + (rows + 1)) (omega (arith, v.lines-most)) (bound-more steps depth (n + rows) (n + (rows + 1)) (omega arith) v.bounded) in
              record {
                able = v.able;
                es = head.others;
                stating = head.rest;
                rows_are = omega (arith, one_more);
                alive = w.alive v.alive;
                depth-most = omega (arith, w.most, v.depth-most);
                lines-most = grown.1;
                bounded = grown.0;
                below = below_set gathered rows (row_of x lines) n rows-room (omega (arith, v.lines-most)) v.below;
                gathered-length = length-set gathered rows (row_of x lines) ∙ v.gathered-length;
                steps_length = w.steps_length ∙ v.steps_length;
                rest = λ ws left s b.
                    subst (λ (m : ℕ). SameBack (back_in ws m 0) (backward v.able.es n [])) (let z : rows + suc left ≡ rows + 1 + left = omega arith in z)
                    (v.rest ws (suc left) (same-before rows ws gathered (row_of x lines) s) (row_back_lem ws left s b));
              }

-- ---- the report
-- What gathering and marking leave is the report on the entries; behind it the array stays.
pub report_left : {es : List Entry} {n : ℕ} {gathered : List GatheredRow} {rows : ℕ} {marks₀ report₀ marks report : List ℕ} → Gathered es n gathered rows
    → MarkedFrom gathered rows 0 marks₀ report₀ marks report → report ≡ sets report₀ 0 (report_on n es)
report_left {es} {n} {gathered} {rows} {report₀ = report₀} g m =
    m.reported ∙ ap (sets report₀ 0)
    (ap (λ (k : ℕ). (back_in gathered k 0).reported) (let z : m.left ≡ rows = omega (arith, m.left_is) in z) ∙ g.back.reported)

-- The report has a byte a row.
backward-length : (es : List Entry) (n : ℕ) (opened : List ℕ) → length (backward es n opened).reported ≡ rows_of es
backward-length [] n opened = refl
backward-length (claim _ _ ∷ es) n opened = backward-length es n opened
backward-length (row (Derive s) ∷ es) n opened = ap suc (backward-length es (suc n) opened)
backward-length (row (Strengthen i) ∷ es) n opened = ap suc (backward-length es (suc n) (pushed 2 (suc n) opened))
backward-length (row (Round i _ k) ∷ es) n opened = ap suc (backward-length es (suc n) (pushed k (suc n) opened))
backward-length (row (Split i) ∷ es) n opened = ap suc (backward-length es (suc n) (pushed 1 (suc n) opened))
backward-length (row (CloseNumber i) ∷ es) n opened = ap suc (backward-length es (top 0 opened) (pop opened))
backward-length (row (CloseStride i _) ∷ es) n opened = ap suc (backward-length es (top 0 opened) (pop opened))

pub report-length : (n : ℕ) (es : List Entry) → length (report_on n es) ≡ rows_of es
report-length n es = backward-length es n []

pub report-rows : {es : List Entry} {n : ℕ} {gathered : List GatheredRow} {rows : ℕ} → Gathered es n gathered rows → length (report_on n es) ≡ rows
report-rows {es} {n} g = report-length n es ∙ sym g.rows_are

-- Where gathering was able, marking is.
pub markable : {es : List Entry} {n : ℕ} {gathered : List GatheredRow} {rows : ℕ} (marks report : List ℕ) → Gathered es n gathered rows → rows ≤ length gathered → rows ≤ length report → n + rows < length marks
    → Marking marks (λ j. false) → Markable gathered rows marks report
markable marks report g a e f clear = record { gathered_room = a; report-room = e; below = λ r h. omega (arith, g.below r h, h, f); none = clear }
