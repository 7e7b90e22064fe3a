-- Each answer of a run stands where the fields before it lead. Assumes nothing.
use mathlib.Core.Path.{◌≡◌, refl, sym, ◌∙◌, ap, subst}
use mathlib.Core.Logic.{◌⊎◌, inl, inr}
use mathlib.Core.Option.{Option, none, some}
use mathlib.Core.Bool.{Bool, true, false, cond, ◌&&◌}
use mathlib.Core.List.{List, [], ◌∷◌, ◌++◌}
use Prim.Native.Nat.{ℕ, zero, suc, ◌+◌, ◌<◌}
use native.Mathlib.Omega.{arith}
use lib.Dec.{T, leb, eqb, eqb→eq, eqb_refl}
use lib.ListN.{length}
use Rattle.forms.specs.Edition.{Edition, edition, newest_edition}
use mir.Facts.{yes_and}
use Rattle.forms.specs.Forms.{All, nil, cons, every}
use Rattle.calculus.specs.Rules.{Combine, Reduce, Scale, Derive, Strengthen, CloseNumber, CloseStride, Round, Split, Entry, row, claim as claims}
use Rattle.answers.specs.declared.Answer.{Answer}
use Rattle.answers.specs.Answers.{row_told, refusal_at, answer, file_proof, file_lent, Result, refused, accepted, need, found}
use Rattle.fields.specs.Fields.{Field, Fields, ends, cut, ◌▸◌, Item, item, fields}
use Rattle.fields.proofs.HeaderLaid.{by-tag}
use Rattle.number_bytes.specs.Same.{same_bytes}
use Rattle.number_bytes.proofs.Comparing.{same_refl}
use Rattle.bundle.specs.Bundle.{at_most}
use Rattle.proof.proofs.Outside.{In, short-in, bundle-in}
use Rattle.proof.specs.Entries.{EntryTag, combine_tag, reduce_tag, scale_tag, strengthen_tag, number_tag, stride_tag, round_tag, split_tag, claim_tag, entry_tagged, entry_from}
use Rattle.proof.specs.Layout.{Enters}
use Rattle.proof.specs.Tree.{OpenStep, open_step, Tree, tree, after_close, rounding_of, tree_behind, innermost, starts_at, Stands}
use Rattle.proof.proofs.Satisfies.{Satisfies, says-refused, says-accepted, bind, seq, says-need, test, weaken}
use Rattle.proof.proofs.Tree.{amidst, Leads, stays, on, stands_on, at_front, after_last, after-other, entry_behind, field-behind, header-says, entry-says, proof-stands}
use Rattle.chains.specs.Runs.{Run, joined}
use Rattle.run.specs.Uniform.{with_number, same_items, Walked, WalkedBranches, Walker, FollowingWalk, walk_branches, first_and_third, all_alike, walk_opened, walk_closed, walk_row, walk_entry, walk_entries, walk_branch, uniform}
use Rattle.run.specs.Run.{first_stage, parts, stages_short, read_stages, constants_of, run_of, claim_refused, check_cut, both, check_cuts, check_run, guard_files, unwritten, fit_guards, written_guards, guards_by, guards}
use Rattle.guarantee.proofs.ProofNumbers.{Numbered, header-numbered, proof-numbered}
use Rattle.guarantee.proofs.BundleNumbers.{because}
use Rattle.guarantee.specs.RunTree.{BranchFields, closes, goes_on, AllBranchFields, final, further, Unlike, strengthen, round, past, StandsInRun, as_check, claim, unlike, RunStands, outside, amid}

unlike-on : {t t' : Tree} {fs fs' : Fields} {a : Answer} → Leads t fs t' fs' → Unlike t' fs' a → Unlike t fs a
unlike-on stays u = u
unlike-on (on f l) u = past f (unlike-on l u)

ours-on : {t t' : Tree} {fs fs' : Fields} {a : Answer} → Leads t fs t' fs' → StandsInRun t' fs' a → StandsInRun t fs a
ours-on l (as_check n m s) = as_check n m (stands_on l s)
ours-on l (claim n s) = claim n (stands_on l s)
ours-on l (unlike u) = unlike (unlike-on l u)

not-27 : (n : ℕ) → T (amidst n) → ¬ (n ≡ 27)
not-27 n t e = subst (λ (m : ℕ). T (amidst m)) e t

not-28 : (n : ℕ) → T (amidst n) → ¬ (n ≡ 28)
not-28 n t e = subst (λ (m : ℕ). T (amidst m)) e t

-- check's own refusals stand as check's
amidst-check : {t : Tree} {fs : Fields} (a : Answer) → T (amidst a.number) → Stands t fs a → StandsInRun t fs a
amidst-check a n s = as_check (not-27 a.number n) (not-28 a.number n) s

both_say : {t : Tree} {fs : Fields} {X : Type 0} {r : Result X} {P : X → Type 0} → Numbered r → Satisfies (Stands t fs) r P → Satisfies (StandsInRun t fs) r P
both_say n s = record { refusal = λ a e. amidst-check a (n.refusal a e) (s.refusal a e); value = s.value }

-- ---- the tag of a field, by the entry that it states
abbrev pub tag_number : Entry → ℕ
tag_number (row (Derive (Combine i j α β))) = 0x10
tag_number (row (Derive (Reduce i j α))) = 0x11
tag_number (row (Derive (Scale i α))) = 0x12
tag_number (row (Strengthen i)) = 0x13
tag_number (row (CloseNumber i)) = 0x14
tag_number (row (CloseStride i g)) = 0x15
tag_number (row (Round i g k)) = 0x16
tag_number (row (Split i)) = 0x17
tag_number (claims u v) = 0x20

module _ (e : Edition) (K : ℕ) (bs : List ℕ) where
  abbrev told : Option EntryTag → ℕ
  told none = 0
  told (some x) = tag_number (entry_from e K x bs)

  tagged-as : (tag : ℕ) (x : EntryTag) → entry_tagged tag ≡ some x → tag ≡ told (some x)
  unfolding entry_tagged entry_from
  tagged-as tag x h =
      let P : ℕ → Type 0 = λ n. entry_tagged n ≡ some x → n ≡ told (some x) in
      by-tag P tag 0x10 combine_tag (ap told) (by-tag P tag 0x11 reduce_tag (ap told) (by-tag P tag 0x12 scale_tag (ap told) (by-tag P tag 0x13 strengthen_tag (ap told)
      (by-tag P tag 0x14 number_tag (ap told) (by-tag P tag 0x15 stride_tag (ap told) (by-tag P tag 0x16 round_tag (ap told) (by-tag P tag 0x17 split_tag (ap told)
      (by-tag P tag 0x20 claim_tag (ap told) (λ e. absurd (let z : ◌≡◌ {A = ℕ} 0 1 = cc in omega arith)))))))))) h h

pub field-tag : (e : Edition) (K : ℕ) (f : Field) {x : Entry} → Enters e K (item f.tag f.contents) x → f.tag ≡ tag_number x
field-tag e K f n = tagged-as e K f.contents f.tag n.tagged n.tag ∙ ap tag_number n.entry

-- ---- the same fields
items-refl : (is : List Item) → T (same_items is is)
unfolding same_items
items-refl [] = tt
items-refl (i ∷ is) = yes_and (eqb i.tag i.tag && same_bytes i.contents i.contents) (same_items is is) (yes_and (eqb i.tag i.tag) (same_bytes i.contents i.contents) (eqb_refl i.tag) (same_refl i.contents)) (items-refl is)

not_none : true ≡ false → ⊥
not_none e = subst T e tt

differ : {is js : List Item} → same_items is js ≡ false → ¬ (is ≡ js)
differ {is} h e = subst T (subst (λ (js : List Item). same_items is js ≡ false) (sym e) h) (items-refl is)

all_same : (o : List Item) {os : List (List Item)} → All (λ is. is ≡ o) os → T (every (same_items o) os)
unfolding every
all_same o nil = tt
all_same o (cons {x = x} {xs = xs} h hs) = yes_and (same_items o x) (every (same_items o) xs) (subst (λ (js : List Item). T (same_items o js)) (sym h) (items-refl o)) (all_same o hs)

some-other : (o : List Item) {os : List (List Item)} → all_alike (o ∷ os) ≡ false → ¬ (All (λ is. is ≡ o) os)
unfolding all_alike
some-other o h a = subst T h (all_same o a)

abbrev last_of : List OpenStep → ℕ
last_of [] = 0
last_of (s ∷ ss) = s.last

-- a rounding's k, which its field tells
pub rounding-told : (f : Field) (t : Tree) (k : ℕ) → f.tag ≡ 0x16 → tree_behind (entry_tagged f.tag) f.contents t ≡ tree (suc t.rows) (open_step t.rows 0 k ∷ t.steps) → rounding_of f.contents ≡ k
unfolding tree_behind entry_tagged
rounding-told f t k tag q = ap (λ (x : Tree). last_of x.steps) (rw tag at q)

-- ---- branches by their fields
-- the tree behind a close
closed-behind : (tag : ℕ) (bs : List ℕ) (t : Tree) → (tag ≡ 0x14) ⊎ (tag ≡ 0x15) → tree_behind (entry_tagged tag) bs t ≡ tree (suc t.rows) (after_close t.steps)
unfolding tree_behind entry_tagged
closed-behind tag bs t (inl e) = rw e
closed-behind tag bs t (inr e) = rw e

branch_leads : {closed : List OpenStep} {t : Tree} {fs : Fields} {is : List Item} {rows : ℕ} {after : Fields} {a : Answer} → BranchFields closed t fs is rows after a → Leads t fs (tree rows closed) after
branch_leads {closed} {t} (closes f {fs = fs} k e q) =
    on f (subst (λ (x : Tree). Leads (tree_behind (entry_tagged f.tag) f.contents t) fs x fs) (closed-behind f.tag f.contents t k ∙ ap (tree (suc t.rows)) e) stays)
branch_leads (goes_on f b) = on f (branch_leads b)

-- a branch behind fields that lead on
behind-branch : {closed closed' : List OpenStep} {t : Tree} {fs : Fields} {is js : List Item} {rows rows' : ℕ} {after after' : Fields} {a a' : Answer}
    → BranchFields closed t fs is rows after a → BranchFields closed' (tree rows closed) after js rows' after' a' → BranchFields closed' t fs (is ++ js) rows' after' a'
behind-branch {closed} {closed'} {t} {js = js} {rows' = rows'} {after' = after'} {a' = a'} (closes f {fs = fs} k e q) c =
    goes_on f (subst (λ (x : Tree). BranchFields closed' x fs js rows' after' a') (sym (closed-behind f.tag f.contents t k ∙ ap (tree (suc t.rows)) e)) c)
behind-branch (goes_on f b) c = goes_on f (behind-branch b c)

nothing-behind : {X : Type 0} (xs : List X) → xs ++ [] ≡ xs
nothing-behind [] = refl
nothing-behind (x ∷ xs) = ap (λ (l : List _). x ∷ l) (nothing-behind xs)

all-branches : {step last : ℕ} {ps : List OpenStep} {b rows : ℕ} {fs : Fields} {iss : List (List Item)} {rows' : ℕ} {after : Fields} {a : Answer} → AllBranchFields step last ps b rows fs iss rows' after a
    → BranchFields (after_close ps) (tree rows (open_step step b last ∷ ps)) fs (joined iss) rows' after a
all-branches {step} {last} {ps} {b} {rows} {fs} {rows' = rows'} {after} {a} (final {is = is} e c) =
    subst (λ (l : List Item). BranchFields (after_close ps) (tree rows (open_step step b last ∷ ps)) fs l rows' after a) (sym (nothing-behind is)) c
all-branches (further h c cs) = behind-branch c (all-branches cs)

-- What a walk says from fs on, in the tree t: its refusal stands in the fields, and a closed branch is one.
abbrev Through : Tree → (closed : List OpenStep) → Fields → Result Walked → Type 0
Through t closed fs r = Satisfies (StandsInRun t fs) r (λ w. BranchFields closed t fs w.own w.rows w.after w.unlike)

abbrev Walks : Walker → Type 0
Walks walker = (ps : List OpenStep) (rows : ℕ) (fs : Fields) → Through (tree rows ps) (after_close ps) fs (walker (innermost ps) rows fs)

-- branches b to k of a step
module _ (walker : Walker) (d : Walks walker) (at k : ℕ) (ps : List OpenStep) where
  branches-through : (b more rows : ℕ) → b + more ≡ k → (fs : Fields)
      → Satisfies (StandsInRun (tree rows (open_step at b k ∷ ps)) fs) (walk_branches walker at b more rows fs) (λ ws. AllBranchFields at k ps b rows fs ws.owns ws.rows ws.after ws.unlike)
  unfolding walk_branches innermost
  branches-through b zero rows q fs = bind (d (open_step at b k ∷ ps) rows fs) λ w s.
      says-accepted (final (omega arith) (subst (λ (ss : List OpenStep). BranchFields ss (tree rows (open_step at b k ∷ ps)) fs w.own w.rows w.after w.unlike) (after_last at ps (omega arith)) s))
  branches-through b (suc more) rows q fs = bind (d (open_step at b k ∷ ps) rows fs) λ w s.
      let c : BranchFields (open_step at (suc b) k ∷ ps) (tree rows (open_step at b k ∷ ps)) fs w.own w.rows w.after w.unlike
      = subst (λ (ss : List OpenStep). BranchFields ss (tree rows (open_step at b k ∷ ps)) fs w.own w.rows w.after w.unlike) (after-other at ps (omega arith)) s in
      bind (weaken (branches-through (suc b) more w.rows (omega arith) w.after) (λ a o. ours-on (branch_leads c) o) (λ ws i. further (omega arith) c i)) λ ws i. says-accepted i

data Deep : Option Walker → Type 0 where
  shut : Deep none
  opens : {walker : Walker} → Walks walker → Deep (some walker)

found-walks : {Q : Answer → Type 0} (a : Answer) {deeper : Option Walker} → Deep deeper → Q a → Satisfies Q (found a deeper) Walks
unfolding found
found-walks a shut h = says-refused h
found-walks a (opens d) h = says-accepted d

module _ (e : Edition) (two : e.multiplier_width ≡ 2) (K : ℕ) (deeper : Option Walker) (deep : Deep deeper) (ps : List OpenStep) where
  module _ (f : Field) (fs : Fields) (rows : ℕ) where
    abbrev t : Tree
    t = tree rows ps

    here-told : (n : ℕ) → Stands t (f ▸ fs) (refusal_at (innermost ps) rows f.at n)
    unfolding starts_at
    here-told n = at_front ps rows (f ▸ fs) n

    leads-behind : {t' : Tree} → tree_behind (entry_tagged f.tag) f.contents t ≡ t' → Leads t (f ▸ fs) t' fs
    leads-behind q = on f (subst (λ (x : Tree). Leads (tree_behind (entry_tagged f.tag) f.contents t) fs x fs) q stays)

    opened-through : (n : ℕ) (alike : List (List Item) → Bool) → tree_behind (entry_tagged f.tag) f.contents t ≡ tree (suc rows) (open_step rows 0 n ∷ ps)
        → ((ws : WalkedBranches) → AllBranchFields rows n ps 0 (suc rows) fs ws.owns ws.rows ws.after ws.unlike → alike ws.owns ≡ false → Unlike t (f ▸ fs) ws.unlike)
        → Through t (after_close ps) (f ▸ fs) (walk_opened deeper (refusal_at (innermost ps) rows f.at) rows f fs n alike)
    unfolding walk_opened
    opened-through n alike q fails =
        let l = leads-behind q in
        bind (found-walks _ deep (as_check (λ e. omega arith) (λ e. omega arith) (here-told 17))) λ walker d.
        bind (weaken (branches-through walker d rows n ps 0 n (suc rows) (omega arith) fs) (λ a o. ours-on l o) (λ ws i. i)) λ ws i.
        because _ _ (λ e. unlike (fails ws i e)) λ _.
        says-accepted (goes_on f (subst (λ (x : Tree). BranchFields (after_close ps) x fs (joined ws.owns) ws.rows ws.after ws.unlike) (sym q) (all-branches i)))

    closed-through : (f.tag ≡ 0x14) ⊎ (f.tag ≡ 0x15) → Through t (after_close ps) (f ▸ fs) (walk_closed (refusal_at (innermost ps) rows f.at) rows f fs)
    unfolding walk_closed with_number row_told
    closed-through k = says-accepted (closes f k refl refl)

    -- the first and the third
    third-unlike : {owns : List (List Item)} {r : ℕ} {after : Fields} {a : Answer} → f.tag ≡ 0x13 → AllBranchFields rows 2 ps 0 (suc rows) fs owns r after a → first_and_third owns ≡ false → Unlike t (f ▸ fs) a
    unfolding first_and_third
    third-unlike tag (final e c) h = absurd (omega arith)
    third-unlike tag (further l c (final e c2)) h = absurd (omega arith)
    third-unlike tag (further l c (further l2 c2 (final e c3))) h = strengthen f tag (further l c (further l2 c2 (final e c3))) (λ z. differ h (sym z))
    third-unlike tag (further l c (further l2 c2 (further l3 c3 cs))) h = absurd (omega arith)

    -- some branch of a rounding
    some-unlike : {k : ℕ} {owns : List (List Item)} {r : ℕ} {after : Fields} {a : Answer} → f.tag ≡ 0x16 → rounding_of f.contents ≡ k → AllBranchFields rows k ps 0 (suc rows) fs owns r after a → all_alike owns ≡ false → Unlike t (f ▸ fs) a
    unfolding all_alike
    some-unlike {k} {owns} {r} {after} {a} tag q c h = go owns h (subst (λ (n : ℕ). AllBranchFields rows n ps 0 (suc rows) fs owns r after a) (sym q) c)
      where
        go : (os : List (List Item)) → all_alike os ≡ false → AllBranchFields rows (rounding_of f.contents) ps 0 (suc rows) fs os r after a → Unlike t (f ▸ fs) a
        go [] h c = absurd (not_none h)
        go (o ∷ os) h c = round f tag c (λ z. some-other o h z)

    module _ (next : FollowingWalk) (go : (rows : ℕ) (made : Bool) → Through (tree rows ps) (after_close ps) fs (next rows made)) where
      entry-through : (x : Entry) → f.tag ≡ tag_number x → tree_behind (entry_tagged f.tag) f.contents t ≡ entry_behind x t
          → Through t (after_close ps) (f ▸ fs) (walk_entry deeper next (refusal_at (innermost ps) rows f.at) rows f fs x)
      unfolding walk_entry walk_row with_number
      entry-through (row (Derive s)) g q = bind (weaken (go (suc rows) _) (λ a o. ours-on (leads-behind q) o)
          (λ w c. goes_on f (subst (λ (x : Tree). BranchFields (after_close ps) x fs w.own w.rows w.after w.unlike) (sym q) c))) λ w i. says-accepted i
      entry-through (row (Strengthen i)) g q = opened-through 2 first_and_third q (λ ws c h. third-unlike g c h)
      entry-through (row (Round i s k)) g q = opened-through k all_alike q (λ ws c h. some-unlike g (rounding-told f t k g q) c h)
      entry-through (row (Split i)) g q = opened-through 1 (λ owns. true) q (λ ws c h. absurd (not_none h))
      entry-through (row (CloseNumber i)) g q = closed-through (inl g)
      entry-through (row (CloseStride i s)) g q = closed-through (inr g)
      entry-through (claims u v) g q = says-refused (claim refl (here-told 14))

  entries-through : (fs : Fields) (rows : ℕ) (made : Bool) → Through (tree rows ps) (after_close ps) fs (walk_entries e K (innermost ps) deeper fs rows made)
  unfolding walk_entries starts_at
  entries-through (ends at) rows made = says-refused (as_check (λ e. omega arith) (λ e. omega arith) (at_front ps rows (ends at) 20))
  entries-through (cut at) rows made = says-refused (as_check (λ e. omega arith) (λ e. omega arith) (at_front ps rows (cut at) 2))
  entries-through (f ▸ fs) rows made = bind (entry-says e K _ made f (λ n t. amidst-check _ t (here-told f fs rows n))) λ x n.
      entry-through f fs rows _ (entries-through fs) x (field-tag e K f n) (field-behind e two K f n (tree rows ps))

walk_through : (e : Edition) → e.multiplier_width ≡ 2 → (K room : ℕ) → Walks (walk_branch e K room)
unfolding walk_branch
walk_through e two K zero ps rows fs = entries-through e two K none shut ps fs rows false
walk_through e two K (suc room) ps rows fs = entries-through e two K (some (walk_branch e K room)) (opens (walk_through e two K room)) ps fs rows false

pub uniform-stands : (newest K : ℕ) (fs : Fields) → Satisfies (StandsInRun (tree 0 []) fs) (uniform newest K fs) (λ _. Unit {0})
unfolding uniform innermost after_close
uniform-stands newest K fs = bind (both_say (header-numbered newest (some K) fs) (header-says newest (some K) fs)) λ h l.
    weaken (walk_through (edition h.number) refl h.K (edition h.number).branchings [] 0 h.rest) (λ a o. ours-on l o) (λ _ _. tt)

-- ---- the cuts
with_number-14 : (x : Answer) → x.number ≡ 14 → x ≡ with_number 14 (with_number 27 x)
unfolding with_number
with_number-14 x n = ap (λ (m : ℕ). let a : Answer = record { number = m; file = x.file; place = x.place; row = x.row; step = x.step; branch = x.branch } in a) n

number-27 : (x : Answer) → (with_number 27 x).number ≡ 27
unfolding with_number
number-27 x = refl

claimed : {t : Tree} {fs : Fields} (x : Answer) (c : Bool) → eqb x.number 14 ≡ c → T (amidst x.number) → Stands t fs x → StandsInRun t fs (cond c (with_number 27 x) x)
claimed {t} {fs} x true q n s = claim (number-27 x) (subst (Stands t fs) (with_number-14 x (eqb→eq x.number 14 (rw q tt))) s)
claimed x false q n s = amidst-check x n s

claim-stands : {X : Type 0} {t : Tree} {fs : Fields} (r : Result X) → Numbered r → ((a : Answer) → r ≡ refused a → Stands t fs a) → Satisfies (StandsInRun t fs) (claim_refused r) (λ _. Unit {0})
unfolding claim_refused
claim-stands (refused x) n s = says-refused (claimed x (eqb x.number 14) refl (n.refusal x refl) (s x refl))
claim-stands (accepted x) n s = says-accepted tt

either-of : (Q : Answer → Type 0) (c : Bool) (x y : Answer) → Q x → Q y → Q (cond c x y)
either-of Q true x y p q = p
either-of Q false x y p q = q

both-says : {Q : Answer → Type 0} {X Y : Type 0} (r : Result X) (s : Result Y) → Satisfies Q r (λ _. Unit {0}) → Satisfies Q s (λ _. Unit {0}) → Satisfies Q (both r s) (λ _. Unit {0})
unfolding both
both-says {Q} (refused x) (refused y) p q = says-refused (either-of Q (leb x.place y.place) x y (p.refusal x refl) (q.refusal y refl))
both-says (refused x) (accepted y) p q = says-refused (p.refusal x refl)
both-says (accepted x) (refused y) p q = says-refused (q.refusal y refl)
both-says (accepted x) (accepted y) p q = says-accepted tt

module _ (newest K : ℕ) (Ts : Run) (fs : Fields) where
  cut_stands : (i : ℕ) → Satisfies (StandsInRun (tree 0 []) fs) (check_cut newest K Ts fs i) (λ _. Unit {0})
  unfolding check_cut
  cut_stands i = claim-stands _ (proof-numbered newest _ _ fs) (proof-stands newest _ _ fs)

  cuts-stand : (i n : ℕ) → Satisfies (StandsInRun (tree 0 []) fs) (check_cuts newest K Ts fs i n) (λ _. Unit {0})
  unfolding check_cuts
  cuts-stand i zero = bind (cut_stands i) λ I _. says-accepted tt
  cuts-stand i (suc n) = bind (both-says _ _ (cut_stands i) (cuts-stand (suc i) n)) λ x _. says-accepted tt

  run-stands : Satisfies (StandsInRun (tree 0 []) fs) (check_run newest K Ts fs) (λ _. Unit {0})
  unfolding check_run
  run-stands = bind (both-says _ _ (cuts-stand 0 (length Ts)) (uniform-stands newest K fs)) λ x _. says-accepted tt

-- ---- the operation
module _ (proof : List ℕ) where
  abbrev Told : {X : Type 0} → Result X → Type 0
  Told r = Satisfies (RunStands proof) r (λ _. Unit {0})

  elsewhere : {X : Type 0} {r : Result X} (file : ℕ) → 3 < file → Satisfies (In file) r (λ _. Unit {0}) → Told r
  elsewhere file h s = weaken s (λ a q. outside (inl (λ e. omega (arith, q.0))) q.1) (λ _ u. u)

  short-told : (newest file : ℕ) → 3 < file → (Ts : List (List ℕ)) → Told (stages_short newest file Ts)
  unfolding stages_short
  short-told newest file h [] = says-accepted tt
  short-told newest file h (T ∷ Ts) = seq (elsewhere file h (short-in file _ T)) (short-told newest (suc file) (omega arith) Ts)

  proof-told : (limit : ℕ) → Told (at_most limit file_proof proof)
  unfolding at_most
  proof-told limit = needed-told _ _ (outside (inr refl) refl)
    where
      needed-told : (a : Answer) (b : Bool) → RunStands proof a → Told (need a b)
      needed-told a b h = weaken (says-need a b h) (λ a q. q) (λ _ _. tt)

  stages-told : (newest file : ℕ) → 3 < file → (given : Option ℕ) (Ts : List (List ℕ)) → Told (read_stages newest file given Ts)
  unfolding read_stages
  stages-told newest file h given [] = says-accepted tt
  stages-told newest file h given (T ∷ Ts) = bind (elsewhere file h (bundle-in file newest given T)) λ t _. bind (stages-told newest (suc file) (omega arith) (some t.K) Ts) λ ts _. says-accepted tt

  lent-told : (n at : ℕ) → RunStands proof (answer n file_lent at)
  lent-told n at = outside (inl (λ e. omega arith)) refl

  files-told : (newest : ℕ) (buffer lengths : List ℕ) → Told (guard_files newest buffer lengths proof)
  unfolding guard_files
  files-told newest buffer lengths = test _ _ (lent-told 25 0) λ _. seq (short-told newest first_stage (omega arith) (parts lengths buffer)) (seq (proof-told _)
      (bind (stages-told newest first_stage (omega arith) none (parts lengths buffer)) λ ts _. test _ _ (lent-told 26 0) λ _.
      bind (weaken (run-stands newest (constants_of ts) (run_of ts) (fields proof)) (λ a q. amid q) (λ _ u. u)) λ Is _. test _ _ (lent-told 1 _) λ _. says-accepted tt))

  fit-told : (output sizes : List ℕ) (files : List (List ℕ)) (b : Bool) → RunStands proof (fit_guards output sizes b files).answer
  unfolding fit_guards unwritten
  fit-told output sizes files true = outside (inl (λ e. omega arith)) refl
  fit-told output sizes files false = lent-told 21 _

  written-told : (output sizes : List ℕ) (r : Result (List (List ℕ))) → Told r → RunStands proof (written_guards output sizes r).answer
  unfolding written_guards unwritten
  written-told output sizes (refused a) s = s.refusal a refl
  written-told output sizes (accepted files) s = fit-told output sizes files _

  pub guards-told : (buffer lengths output sizes : List ℕ) → RunStands proof (guards buffer lengths proof output sizes).answer
  unfolding guards guards_by
  guards-told buffer lengths output sizes = written-told output sizes _ (files-told newest_edition buffer lengths)
