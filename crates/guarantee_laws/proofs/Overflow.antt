-- A derivation with a branch of more lines than an edition allows is refused by 16 in that edition, at the row that would make the first line too many: all rows before it are accepted. Assumes nothing.
use mathlib.Core.Path.{◌≡◌, refl, sym, ◌∙◌, ap, subst}
use mathlib.Core.Logic.{◌⊎◌, inl, inr}
use mathlib.Core.Option.{Option, none, some}
use mathlib.Core.Bool.{Bool, true, false}
use mathlib.Core.List.{List}
use Prim.Native.Nat.{ℕ, zero, suc, max, ◌+◌, ◌-◌, ◌≤◌, ◌<◌}
use native.Mathlib.Omega.{arith}
use borrow.Author.Tests.{le-ltb, leb-true, leb-false}
use lib.Dec.{leb, lt→ltb}
use lib.ListN.{length}
use Rattle.forms.specs.Edition.{Edition, edition}
use Rattle.forms.specs.Forms.{Form, ≤0, =0, Line, line, line_apart, neg, Formula, ◌plus◌}
use Rattle.calculus.specs.Rules.{Nth, ◌▷◌, Room, Rounds, Closed, derive, strengthen, round, split_eq, split_neq, number, stride, Rounded, last, more, Strengthen, Round, Split, Entry, entries, entries_rounded, row_count, row_count_rounded, depth, depth_rounded}
use Rattle.calculus.proofs.Sides.{Side, A, B}
use Rattle.calculus.proofs.Vocabulary.{WithinVocabulary, words-new, words-raised, words-1, words-E, words-0, words-neg, words-neg-0}
use Rattle.answers.specs.declared.Answer.{Answer}
use Rattle.answers.specs.declared.Position.{Position}
use Rattle.answers.specs.Answers.{refusal_at, file_proof, Result, refused, ◌>>=◌, ◌>>◌}
use Rattle.answers.proofs.Results.{binds, passes, needs, found_some, fail, bind-refused, then-refused}
use Rattle.fields.specs.Fields.{Fields}
use Rattle.bundle.proofs.Laid.{Lists, next}
use Rattle.proof.specs.Rows.{roundable, fitting}
use Rattle.proof.specs.Check.{Closing, Checker, Following, there, check_rounded, check_split, check_row, check_entry, check_entries, check_branch}
use Rattle.proof.specs.Layout.{Enters}
use Rattle.proof.proofs.Entered.{row-accepted, claim-accepted, states-own}
use Rattle.proof.proofs.RowsAgree.{fitting-accepted, inequality-accepted, roundable-accepted, disequality-accepted, derived-accepted}
use Rattle.proof.proofs.Branches.{Passed, branch-accepts}
use Rattle.conversion.specs.Widest.{widest, widest_rounded}
use Rattle.conversion.proofs.Narrow.{one_more, room_for, narrowed}

-- The result is a refusal by 16 in the proof.
pub record Overflows {X : Type 0} (r : Result X) : Type 0 where
  pub answer : Answer
  pub is : r ≡ refused answer
  pub number : answer.number ≡ 16
  pub file : answer.file ≡ file_proof

pub after-steps : {X : Type 0} {r s : Result X} → r ≡ s → Overflows s → Overflows r
after-steps e o = record { answer = o.answer; is = e ∙ o.is; number = o.number; file = o.file }

pub overflow-bind : {X Y : Type 0} {r : Result X} (f : X → Result Y) → Overflows r → Overflows (r >>= f)
overflow-bind f o = record { answer = o.answer; is = bind-refused f o.is; number = o.number; file = o.file }

either_way : (a b : ℕ) → (a ≤ b) ⊎ (b < a)
either_way a b = go (leb a b) refl
  where
    go : (t : Bool) → leb a b ≡ t → (a ≤ b) ⊎ (b < a)
    go true e = inl (leb-true a b e)
    go false e = inr (leb-false a b e)

-- No room: 16, before 13.
full : (here : Position) (rows at : ℕ) (ls : List Line) (e : Edition) (l : Line) → e.lines ≤ length ls → {X : Type 0} (r : Result X) → Overflows (fitting (refusal_at here rows at) ls e l >> r)
unfolding fitting
full here rows at ls e l h r = record { answer = refusal_at here rows at 16; is = then-refused r (fail _ _ (le-ltb (length ls) e.lines h)); number = refl; file = refl }

-- Which rounding is allowed does not depend on the edition.
roundable-alike : (n m : ℕ) (here : Position) (rows at : ℕ) (ls : List Line) (i g k : ℕ) → roundable (refusal_at here rows at) ls (edition m) i g k ≡ roundable (refusal_at here rows at) ls (edition n) i g k
unfolding roundable
roundable-alike n m here rows at ls i g k = refl

module _ (n m K : ℕ) (occ : Side → ℕ → Bool) where
  abbrev most : ℕ
  most = (edition m).lines

  abbrev Stated : Fields → List Entry → Type 0
  Stated = Lists (Enters (edition m) K)

  -- A new line, and then what follows: 16, or that.
  room-then : (here : Position) (rows at : ℕ) (ls : List Line) (l : Line) → Room (edition n) ls l → (r : Result Closing) → (length ls < most → Overflows r)
      → Overflows (fitting (refusal_at here rows at) ls (edition m) l >> r)
  room-then here rows at ls l room r k = go (either_way most (length ls))
    where
      go : (most ≤ length ls) ⊎ (length ls < most) → Overflows (fitting (refusal_at here rows at) ls (edition m) l >> r)
      go (inl f) = full here rows at ls (edition m) l f r
      go (inr f) = after-steps (passes r (fitting-accepted here rows at ls (edition m) l (room_for n m (occ B) f room))) (k f)

  -- A branch without too many lines is checked in the edition m too.
  narrow-passes : (room : ℕ) (here : Position) (rows : ℕ) (ls : List Line) (I : Formula) (p : Closed (edition n) (occ B) ls I) (es : List Entry) (fs : Fields) → WithinVocabulary occ ls
      → depth p ≤ room → (c : ℕ) → c ≡ rows + row_count p → c ≤ 1_024 → Stated fs (entries p es) → widest p ≤ most
      → Passed (edition m) K occ (check_branch (edition m) K room here rows ls fs) I c es
  narrow-passes room here rows ls I p es fs w d c q b t h =
      let x = narrowed n m (occ B) p h in
      branch-accepts (edition m) K occ room here rows ls I x.proof es fs w (rw x.deep d) c (q ∙ ap (λ (k : ℕ). rows + k) (sym x.rows)) b (subst (Stated fs) (sym (x.are es)) t)

  -- A branch with too many is refused by 16.
  abbrev Overflowing : ℕ → Type 0
  Overflowing room = (here : Position) (rows : ℕ) (ls : List Line) (I : Formula) (p : Closed (edition n) (occ B) ls I) (es : List Entry) (fs : Fields) → WithinVocabulary occ ls
      → depth p ≤ room → (c : ℕ) → c ≡ rows + row_count p → c ≤ 1_024 → Stated fs (entries p es) → length ls ≤ most → most < widest p
      → Overflows (check_branch (edition m) K room here rows ls fs)

  data Opens : ℕ → Option Checker → Type 0 where
    shut : Opens 0 none
    opens : {room : ℕ} → Overflowing room → Opens (suc room) (some (check_branch (edition m) K room))

  -- A branch, and then others: it is refused, or one of those behind it.
  branch-then : (room : ℕ) → Overflowing room → (here : Position) (rows : ℕ) (ls : List Line) (I : Formula) (p : Closed (edition n) (occ B) ls I) (es : List Entry) (fs : Fields) → WithinVocabulary occ ls
      → depth p ≤ room → (c : ℕ) → c ≡ rows + row_count p → c ≤ 1_024 → Stated fs (entries p es) → length ls ≤ most → (others : ℕ) → most < max (widest p) others
      → (f : Closing → Result Closing) → ((after : Fields) → Stated after es → most < others → Overflows (f (record { formula = I; rows = c; after = after })))
      → Overflows (check_branch (edition m) K room here rows ls fs >>= f)
  branch-then room o here rows ls I p es fs w d c q b t l others h f k = go (either_way (widest p) most)
    where
      go : (widest p ≤ most) ⊎ (most < widest p) → Overflows (check_branch (edition m) K room here rows ls fs >>= f)
      go (inl narrow) = let x = narrow-passes room here rows ls I p es fs w d c q b t narrow in after-steps (binds f x.is) (k x.after x.lists (omega arith))
      go (inr wide) = overflow-bind f (o here rows ls I p es fs w d c q b t l wide)

  module _ (room : ℕ) (o : Overflowing room) {ls : List Line} (w : WithinVocabulary occ ls) {i g k : ℕ} {t t_A : Form} (r : Rounds (edition n) ls i g k t t_A) (l : length ls < most) where
    rounded-overflows : {j : ℕ} {J : Formula} (ps : Rounded (edition n) (occ B) ls t t_A g k j J) (step left : ℕ) → suc (j + left) ≡ k → (rows : ℕ) (es : List Entry) (fs : Fields) → depth_rounded ps ≤ room
        → (c : ℕ) → c ≡ rows + row_count_rounded ps → c ≤ 1_024 → Stated fs (entries_rounded ps es) → most < widest_rounded ps → Overflows (check_rounded (check_branch (edition m) K room) ls (line ≤0 t t_A) step g k j left rows fs)
    unfolding check_rounded
    rounded-overflows (last {I = I} {j = j} b is p) step zero q rows es fs d c e x u h =
        overflow-bind _ (o _ rows _ I p es fs (words-raised occ w i r.at ≤0 k j) d c e x u (omega (arith, one_more ls (line ≤0 (t plus k) (t_A plus j)))) h)
    rounded-overflows (last b is p) step (suc left) q rows es fs d c e x u h = absurd (omega arith)
    rounded-overflows (more b is p ps) step zero q rows es fs d c e x u h = absurd (omega arith)
    rounded-overflows (more {I = I} {J = J} {j = j} b is p ps) step (suc left) q rows es fs d c e x u h =
        branch-then room o _ rows _ I p (entries_rounded ps es) fs (words-raised occ w i r.at ≤0 k j) (omega arith) (rows + row_count p) refl (omega arith) u
        (omega (arith, one_more ls (line ≤0 (t plus k) (t_A plus j)))) (widest_rounded ps) h _ λ after v y.
        overflow-bind _ (rounded-overflows ps step left (omega arith) (rows + row_count p) es after (omega arith) c (omega arith) x v y)

  module _ (here : Position) (at : ℕ) (fs : Fields) (following : Following) (rows : ℕ) {ls : List Line} (w : WithinVocabulary occ ls) (l : length ls ≤ most) (es : List Entry) {t t_A : Form} where
    strengthen-overflows : (i : ℕ) → Nth ls i (line ≤0 t t_A) → Room (edition n) ls (line ≤0 (t plus 1) (t_A plus 1)) → {I1 E I0 : Formula}
        → (p1 : Closed (edition n) (occ B) (ls ▷ line ≤0 (t plus 1) (t_A plus 1)) I1) (pE : Closed (edition n) (occ B) (ls ▷ line =0 t t_A) E) (p0 : Closed (edition n) (occ B) (ls ▷ line ≤0 (t plus 1) t_A) I0)
        → {room : ℕ} {deeper : Option Checker} → Opens room deeper → suc (max (depth p1) (max (depth pE) (depth p0))) ≤ room
        → (c : ℕ) → c ≡ rows + suc (row_count p1 + row_count pE + row_count p0) → c ≤ 1_024 → Stated fs (entries p1 (entries pE (entries p0 es))) → most < max (widest p1) (max (widest pE) (widest p0))
        → Overflows (check_row (edition m) K deeper following (refusal_at here rows at) rows ls fs (Strengthen i))
    unfolding check_row
    strengthen-overflows i p r p1 pE p0 shut d c q b u h = absurd (omega arith)
    strengthen-overflows i p r {I1} {E} {I0} p1 pE p0 (opens {room} o) d c q b u h =
        after-steps (binds _ (inequality-accepted here rows at ls i p) ∙ binds _ (found_some _ refl))
        (room-then here rows at ls (line ≤0 (t plus 1) (t_A plus 1)) r _ λ f.
        branch-then room o _ (suc rows) _ I1 p1 (entries pE (entries p0 es)) fs (words-1 occ w i p) (omega arith) (suc (rows + row_count p1)) (omega arith) (omega arith) u
        (omega (arith, one_more ls (line ≤0 (t plus 1) (t_A plus 1)))) (max (widest pE) (widest p0)) h _ λ fsE uE hE.
        branch-then room o _ _ _ E pE (entries p0 es) fsE (words-E occ w i p) (omega arith) (suc (rows + row_count p1 + row_count pE)) (omega arith) (omega arith) uE
        (omega (arith, one_more ls (line =0 t t_A))) (widest p0) hE _ λ fs0 u0 h0.
        overflow-bind _ (o _ _ _ I0 p0 es fs0 (words-0 occ w i p) (omega arith) c (omega arith) b u0 (omega (arith, one_more ls (line ≤0 (t plus 1) t_A))) h0))

    round-overflows : {i g k : ℕ} → Rounds (edition n) ls i g k t t_A → {I J : Formula}
        → (p : Closed (edition n) (occ B) (ls ▷ line ≤0 (t plus k) (t_A plus k)) I) (ps : Rounded (edition n) (occ B) ls t t_A g k 0 J)
        → {room : ℕ} {deeper : Option Checker} → Opens room deeper → suc (max (depth p) (depth_rounded ps)) ≤ room
        → (c : ℕ) → c ≡ rows + suc (row_count p + row_count_rounded ps) → c ≤ 1_024 → Stated fs (entries p (entries_rounded ps es)) → most < max (widest p) (widest_rounded ps)
        → Overflows (check_row (edition m) K deeper following (refusal_at here rows at) rows ls fs (Round i g k))
    unfolding check_row
    round-overflows r p ps shut d c q b u h = absurd (omega arith)
    round-overflows {i} {g} {k} r {I} {J} p ps (opens {room} o) d c q b u h =
        after-steps (binds _ (roundable-alike n m here rows at ls i g k ∙ roundable-accepted here rows at ls (edition n) r) ∙ binds _ (found_some _ refl))
        (room-then here rows at ls (line ≤0 (t plus k) (t_A plus k)) r.room _ λ f.
        branch-then room o _ (suc rows) _ I p (entries_rounded ps es) fs (words-raised occ w i r.at ≤0 k k) (omega arith) (suc (rows + row_count p)) (omega arith) (omega arith) u
        (omega (arith, one_more ls (line ≤0 (t plus k) (t_A plus k)))) (widest_rounded ps) h _ λ fs1 u1 h1.
        overflow-bind _ (rounded-overflows room o w r f ps rows (k - 1) (omega (arith, r.least)) (suc (rows + row_count p)) es fs1 (omega arith) c (omega arith) b u1 h1))

    split-eq-overflows : (i : ℕ) → Nth ls i (line_apart A t t_A) → Room (edition n) ls (line ≤0 (t plus 1) (t_A plus 1)) → Room (edition n) ls (line ≤0 (neg t plus 1) (neg t_A plus 1)) → {I J : Formula}
        → (p1 : Closed (edition n) (occ B) (ls ▷ line ≤0 (t plus 1) (t_A plus 1)) I) (p2 : Closed (edition n) (occ B) (ls ▷ line ≤0 (neg t plus 1) (neg t_A plus 1)) J)
        → {room : ℕ} {deeper : Option Checker} → Opens room deeper → suc (max (depth p1) (depth p2)) ≤ room
        → (c : ℕ) → c ≡ rows + suc (row_count p1 + row_count p2) → c ≤ 1_024 → Stated fs (entries p1 (entries p2 es)) → most < max (widest p1) (widest p2)
        → Overflows (check_row (edition m) K deeper following (refusal_at here rows at) rows ls fs (Split i))
    unfolding check_row check_split
    split-eq-overflows i p r1 r2 p1 p2 shut d c q b u h = absurd (omega arith)
    split-eq-overflows i p r1 r2 {I} {J} p1 p2 (opens {room} o) d c q b u h =
        after-steps (binds _ (disequality-accepted here rows at ls i p) ∙ binds _ (found_some _ refl))
        (room-then here rows at ls (line ≤0 (t plus 1) (t_A plus 1)) r1 _ λ f.
        room-then here rows at ls (line ≤0 (neg t plus 1) (neg t_A plus 1)) r2 _ λ _.
        branch-then room o _ (suc rows) _ I p1 (entries p2 es) fs (words-raised occ w i p ≤0 1 1) (omega arith) (suc (rows + row_count p1)) (omega arith) (omega arith) u
        (omega (arith, one_more ls (line ≤0 (t plus 1) (t_A plus 1)))) (widest p2) h _ λ fs1 u1 h1.
        overflow-bind _ (o _ _ _ J p2 es fs1 (words-neg occ w i p 1 1) (omega arith) c (omega arith) b u1 (omega (arith, one_more ls (line ≤0 (neg t plus 1) (neg t_A plus 1)))) h1))

    split-neq-overflows : (i : ℕ) → Nth ls i (line_apart B t t_A) → Room (edition n) ls (line ≤0 (t plus 1) t_A) → Room (edition n) ls (line ≤0 (neg t plus 1) (neg t_A)) → {I J : Formula}
        → (p1 : Closed (edition n) (occ B) (ls ▷ line ≤0 (t plus 1) t_A) I) (p2 : Closed (edition n) (occ B) (ls ▷ line ≤0 (neg t plus 1) (neg t_A)) J)
        → {room : ℕ} {deeper : Option Checker} → Opens room deeper → suc (max (depth p1) (depth p2)) ≤ room
        → (c : ℕ) → c ≡ rows + suc (row_count p1 + row_count p2) → c ≤ 1_024 → Stated fs (entries p1 (entries p2 es)) → most < max (widest p1) (widest p2)
        → Overflows (check_row (edition m) K deeper following (refusal_at here rows at) rows ls fs (Split i))
    unfolding check_row check_split
    split-neq-overflows i p r1 r2 p1 p2 shut d c q b u h = absurd (omega arith)
    split-neq-overflows i p r1 r2 {I} {J} p1 p2 (opens {room} o) d c q b u h =
        after-steps (binds _ (disequality-accepted here rows at ls i p) ∙ binds _ (found_some _ refl))
        (room-then here rows at ls (line ≤0 (t plus 1) t_A) r1 _ λ f.
        room-then here rows at ls (line ≤0 (neg t plus 1) (neg t_A)) r2 _ λ _.
        branch-then room o _ (suc rows) _ I p1 (entries p2 es) fs (words-0 occ w i p) (omega arith) (suc (rows + row_count p1)) (omega arith) (omega arith) u
        (omega (arith, one_more ls (line ≤0 (t plus 1) t_A))) (widest p2) h _ λ fs1 u1 h1.
        overflow-bind _ (o _ _ _ J p2 es fs1 (words-neg-0 occ w i p 1) (omega arith) c (omega arith) b u1 (omega (arith, one_more ls (line ≤0 (neg t plus 1) (neg t_A)))) h1))

  module _ (here : Position) (room : ℕ) (deeper : Option Checker) (g : Opens room deeper) where
    entries-overflow : (made : Option Line) (rows : ℕ) (ls : List Line) (I : Formula) (p : Closed (edition n) (occ B) ls I) (es : List Entry) (fs : Fields) → WithinVocabulary occ ls
        → depth p ≤ room → (c : ℕ) → c ≡ rows + row_count p → c ≤ 1_024 → Stated fs (entries p es) → length ls ≤ most → most < widest p
        → Overflows (check_entries (edition m) K here deeper fs rows made ls)
    unfolding check_entries check_entry check_row
    entries-overflow made rows ls I (derive {l = l} false s r p) es _ w d c q b (next f {fs = fs} x t) k h =
        after-steps (binds _ (row-accepted (edition m) K here rows (there made) f x) ∙ needs _ _ _ (lt→ltb rows 1_024 (omega arith)) ∙ binds _ (derived-accepted here rows f.at ls s))
        (room-then here rows f.at ls l r _ λ y.
        entries-overflow (some l) (suc rows) (ls ▷ l) I p es fs (words-new occ w s) d c (omega arith) b t (omega (arith, one_more ls l)) h)
    entries-overflow made rows ls I (derive {l = l} true s r p) es _ w d c q b (next f x (next f2 {fs = fs} x2 t)) k h =
        after-steps (binds _ (row-accepted (edition m) K here rows (there made) f x) ∙ needs _ _ _ (lt→ltb rows 1_024 (omega arith)) ∙ binds _ (derived-accepted here rows f.at ls s))
        (room-then here rows f.at ls l r _ λ y.
        after-steps (binds _ (claim-accepted (edition m) K here (suc rows) f2 x2) ∙ binds _ (found_some _ refl) ∙ needs _ _ _ (states-own l))
        (entries-overflow none (suc rows) (ls ▷ l) I p es fs (words-new occ w s) d c (omega arith) b t (omega (arith, one_more ls l)) h))
    entries-overflow made rows ls I (strengthen i p r p1 pE p0) es _ w d c q b (next f {fs = fs} x t) k h =
        after-steps (binds _ (row-accepted (edition m) K here rows (there made) f x) ∙ needs _ _ _ (lt→ltb rows 1_024 (omega arith)))
        (strengthen-overflows here f.at fs (check_entries (edition m) K here deeper fs) rows w k es i p r p1 pE p0 g d c q b t h)
    entries-overflow made rows ls I (round i s z r p ps) es _ w d c q b (next f {fs = fs} x t) k h =
        after-steps (binds _ (row-accepted (edition m) K here rows (there made) f x) ∙ needs _ _ _ (lt→ltb rows 1_024 (omega arith)))
        (round-overflows here f.at fs (check_entries (edition m) K here deeper fs) rows w k es r p ps g d c q b t h)
    entries-overflow made rows ls I (split_eq i p r1 r2 p1 p2) es _ w d c q b (next f {fs = fs} x t) k h =
        after-steps (binds _ (row-accepted (edition m) K here rows (there made) f x) ∙ needs _ _ _ (lt→ltb rows 1_024 (omega arith)))
        (split-eq-overflows here f.at fs (check_entries (edition m) K here deeper fs) rows w k es i p r1 r2 p1 p2 g d c q b t h)
    entries-overflow made rows ls I (split_neq i p r1 r2 p1 p2) es _ w d c q b (next f {fs = fs} x t) k h =
        after-steps (binds _ (row-accepted (edition m) K here rows (there made) f x) ∙ needs _ _ _ (lt→ltb rows 1_024 (omega arith)))
        (split-neq-overflows here f.at fs (check_entries (edition m) K here deeper fs) rows w k es i p r1 r2 p1 p2 g d c q b t h)
    entries-overflow made rows ls I (number i p z y) es fs w d c q b t k h = absurd (omega arith)
    entries-overflow made rows ls I (stride i s p y all z is) es fs w d c q b t k h = absurd (omega arith)

  pub branch-overflows : (room : ℕ) → Overflowing room
  unfolding check_branch
  branch-overflows zero here rows ls I p es fs w d c q b t k h = entries-overflow here zero none shut none rows ls I p es fs w d c q b t k h
  branch-overflows (suc room) here rows ls I p es fs w d c q b t k h = entries-overflow here (suc room) _ (opens (branch-overflows room)) none rows ls I p es fs w d c q b t k h
