-- Each refusal amid the proof stands where the tags before it lead. Assumes nothing.
use mathlib.Core.Path.{◌≡◌, refl, sym, ◌∙◌, ap, subst}
use mathlib.Core.Option.{Option, none, some}
use mathlib.Core.Bool.{Bool, true, false, ◌&&◌}
use mathlib.Core.List.{List, [], ◌∷◌}
use Prim.Native.Nat.{ℕ, zero, suc, ◌+◌, ◌*◌, ◌-◌, ◌≤◌, ◌<◌}
use native.Mathlib.Omega.{arith}
use lib.Dec.{T, leb, leb→le, eqb→eq}
use lib.ListN.{length, drop, take, length-drop}
use lib.Seq.{take-length}
use mir.Facts.{and_yes}
use borrow.Author.Tests.{eq-eqb, ne_eqb}
use Rattle.forms.specs.Edition.{Edition, edition}
use Rattle.forms.specs.Forms.{Form, Side, A, B, Line}
use Rattle.calculus.specs.Rules.{Row, Derive, Strengthen, CloseNumber, CloseStride, Round, Split, Inference, Combine, Reduce, Scale, Entry, row, claim}
use Rattle.answers.specs.declared.Answer.{Answer}
use Rattle.answers.specs.Answers.{nowhere, row_told, refusal_at, answer, file_proof, Result, refused, ◌>>=◌, found}
use Rattle.number_bytes.specs.Numbers.{unsigned}
use Rattle.fields.specs.declared.FileKind.{FileKind}
use Rattle.fields.specs.Fields.{Field, Fields, ends, cut, ◌▸◌, item}
use Rattle.fields.specs.Header.{header_field, edition_field, constants_field, header, finished}
use Rattle.bundle.specs.Bundle.{Bundle}
use Rattle.proof.specs.Entries.{EntryTag, combine_tag, reduce_tag, scale_tag, strengthen_tag, number_tag, stride_tag, round_tag, split_tag, claim_tag, entry_tagged, multiplier, size_of, entry_from, entry}
use Rattle.proof.specs.Rows.{line_at, derived, fitting, inequality, roundable, disequality, by_number, by_stride}
use Rattle.proof.specs.Check.{Closing, Checker, Following, there, check_rounded, check_split, check_row, check_entry, check_entries, check_branch, check_proof}
use Rattle.proof.specs.Layout.{Enters}
use Rattle.proof.specs.Tree.{OpenStep, open_step, Tree, tree, after_close, rounding_of, tree_behind, innermost, starts_at, Stands, here, past}
use Rattle.proof.proofs.Satisfies.{Satisfies, says-refused, says-accepted, bind, seq, says-need, test, finds, weaken}

-- ---- the tests of a row: each refusal is one of this row, by a number from 2 to 20
abbrev pub amidst : ℕ → Bool
amidst n = leb 2 n && leb n 20

module _ {Q : Answer → Type 0} (refusal : ℕ → Answer) (h : (n : ℕ) → T (amidst n) → Q (refusal n)) (ls : List Line) where
  pub line-says : (i : ℕ) → Satisfies Q (line_at refusal ls i) (λ _. Unit {0})
  unfolding line_at
  line-says i = weaken (finds (refusal 10) _ (h 10 tt)) (λ a q. q) (λ _ _. tt)

  pub derived-says : (s : Inference) → Satisfies Q (derived refusal ls s) (λ _. Unit {0})
  unfolding derived
  derived-says (Combine i j α β) = bind (line-says i) λ s _. bind (line-says j) λ t _. test _ _ (h 11 tt) λ _. test _ _ (h 12 tt) λ _. says-accepted tt
  derived-says (Reduce i j α) = bind (line-says i) λ s _. bind (line-says j) λ t _. bind (finds _ _ (h 11 tt)) λ k _. test _ _ (h 11 tt) λ _. test _ _ (h 12 tt) λ _. says-accepted tt
  derived-says (Scale i α) = bind (line-says i) λ t _. bind (finds _ _ (h 11 tt)) λ k _. test _ _ (h 12 tt) λ _. says-accepted tt

  pub fitting-says : (e : Edition) (l : Line) → Satisfies Q (fitting refusal ls e l) (λ _. Unit {0})
  unfolding fitting
  fitting-says e l = test _ _ (h 16 tt) λ _. weaken (says-need _ _ (h 13 tt)) (λ a q. q) (λ _ _. tt)

  pub inequality-says : (i : ℕ) → Satisfies Q (inequality refusal ls i) (λ _. Unit {0})
  unfolding inequality
  inequality-says i = bind (line-says i) λ t _. test _ _ (h 11 tt) λ _. says-accepted tt

  -- what passes is rounded by 1 at least
  pub roundable-says : (e : Edition) (i g k : ℕ) → Satisfies Q (roundable refusal ls e i g k) (λ _. 1 ≤ k)
  unfolding roundable
  roundable-says e i g k = bind (inequality-says i) λ t _. test _ _ (h 12 tt) λ n. test _ _ (h 15 tt) λ _.
      says-accepted (leb→le 1 k (and_yes (leb 2 g) (leb 1 k) (and_yes (leb 2 g && leb 1 k) (leb k e.rounding) n).0).1)

  pub disequality-says : (i : ℕ) → Satisfies Q (disequality refusal ls i) (λ _. Unit {0})
  unfolding disequality
  disequality-says i = bind (line-says i) λ t _. bind (finds _ _ (h 11 tt)) λ σ _. says-accepted tt

  pub by_number-says : (i : ℕ) → Satisfies Q (by_number refusal ls i) (λ _. Unit {0})
  unfolding by_number
  by_number-says i = bind (line-says i) λ t _. bind (finds _ _ (h 11 tt)) λ k _. test _ _ (h 15 tt) λ _. says-accepted tt

  pub by_stride-says : (i g : ℕ) → Satisfies Q (by_stride refusal ls i g) (λ _. Unit {0})
  unfolding by_stride
  by_stride-says i g = bind (line-says i) λ t _. test _ _ (h 11 tt) λ _. test _ _ (h 12 tt) λ _. test _ _ (h 15 tt) λ _. says-accepted tt

-- ---- from one tree to another
pub data Leads : Tree → Fields → Tree → Fields → Type 0 where
  stays : {t : Tree} {fs : Fields} → Leads t fs t fs
  on : {t t' : Tree} (f : Field) {fs fs' : Fields} → Leads (tree_behind (entry_tagged f.tag) f.contents t) fs t' fs' → Leads t (f ▸ fs) t' fs'

pub stands_on : {t t' : Tree} {fs fs' : Fields} {a : Answer} → Leads t fs t' fs' → Stands t' fs' a → Stands t fs a
stands_on stays s = s
stands_on (on f l) s = past f (stands_on l s)

pub leads-on : {t t' t'' : Tree} {fs fs' fs'' : Fields} → Leads t fs t' fs' → Leads t' fs' t'' fs'' → Leads t fs t'' fs''
leads-on stays m = m
leads-on (on f l) m = on f (leads-on l m)

-- What a branch says whose fields begin with fs, in the tree t: its refusal stands in it, and a closed branch leads to the tree with that branch closed.
abbrev Through : Tree → Fields → Result Closing → Type 0
Through t fs r = Satisfies (Stands t fs) r (λ c. Leads t fs (tree c.rows (after_close t.steps)) c.after)

through-on : {t t' : Tree} {fs fs' : Fields} {r : Result Closing} → t'.steps ≡ t.steps → Leads t fs t' fs' → Through t' fs' r → Through t fs r
through-on {t} {t'} {fs} {fs'} e l s = weaken s (λ a q. stands_on l q) (λ c m. leads-on l (subst (λ (ps : List OpenStep). Leads t' fs' (tree c.rows (after_close ps)) c.after) e m))

-- ---- the entries of a branch
abbrev Places : Checker → Type 0
Places checker = (ps : List OpenStep) (rows : ℕ) (ls : List Line) (fs : Fields) → Through (tree rows ps) fs (checker (innermost ps) rows ls fs)

abbrev PlacesIn : Option Checker → Type 0
PlacesIn none = Unit
PlacesIn (some checker) = Places checker

-- The checker of deeper branches, and what is done with it.
deeper-says : {Q : Answer → Type 0} {X : Type 0} {R : X → Type 0} (deeper : Option Checker) → PlacesIn deeper → (a : Answer) → Q a → {k : Checker → Result X}
    → ((c : Checker) → Places c → Satisfies Q (k c) R) → Satisfies Q (found a deeper >>= k) R
unfolding found ◌>>=◌
deeper-says none p a h k = says-refused h
deeper-says (some c) p a h k = k c p

-- a refusal at the front of fs
pub at_front : (ps : List OpenStep) (rows : ℕ) (fs : Fields) (n : ℕ) → Stands (tree rows ps) fs (refusal_at (innermost ps) rows (starts_at fs) n)
at_front ps rows fs n = here {t = tree rows ps} {fs = fs} {a = refusal_at (innermost ps) rows (starts_at fs) n} refl

-- what a field is that states an entry
pub entry-says : (e : Edition) (K : ℕ) (refusal : ℕ → Answer) (made : Bool) (f : Field) {Q : Answer → Type 0} → ((n : ℕ) → T (amidst n) → Q (refusal n))
    → Satisfies Q (entry e K refusal made f) (Enters e K (item f.tag f.contents))
unfolding entry
entry-says e K refusal made f h = test _ _ (h 3 tt) λ _. bind (finds _ (entry_tagged f.tag) (h 4 tt)) λ x t. test _ _ (h 4 tt) λ _. test _ _ (h 6 tt) λ n.
    says-accepted (record { tagged = x; tag = t; size = eqb→eq (length f.contents) (size_of e K x) n; entry = refl })

-- ---- a close
-- it goes on to the next branch of a step, and from its last one to the step around it
module _ (step : ℕ) (ps : List OpenStep) where
  pub after_last : {b k : ℕ} → b ≡ k → after_close (open_step step b k ∷ ps) ≡ after_close ps
  unfolding after_close
  after_last {b} {k} q = ap (λ (c : Bool). elim c [ true ↦ after_close ps | false ↦ open_step step (suc b) k ∷ ps ]) (eq-eqb b k q)

  pub after-other : {b k : ℕ} → b < k → after_close (open_step step b k ∷ ps) ≡ open_step step (suc b) k ∷ ps
  unfolding after_close
  after-other {b} {k} h = ap (λ (c : Bool). elim c [ true ↦ after_close ps | false ↦ open_step step (suc b) k ∷ ps ]) (ne_eqb b k (λ q. omega arith))

-- the branches of a rounding from j on: that of j is branch j+1 of k
module _ (checker : Checker) (d : Places checker) (ls : List Line) (l : Line) (step g k : ℕ) (ps : List OpenStep) where
  abbrev Rest : (j rows : ℕ) → Tree
  Rest j rows = tree rows (open_step step (suc j) k ∷ ps)

  rounded-through : (j left rows : ℕ) → suc (j + left) ≡ k → (fs : Fields)
      → Satisfies (Stands (Rest j rows) fs) (check_rounded checker ls l step g k j left rows fs) (λ c. Leads (Rest j rows) fs (tree c.rows (after_close ps)) c.after)
  unfolding check_rounded innermost
  rounded-through j zero rows q fs = bind (d (open_step step (suc j) k ∷ ps) rows _ fs) λ own m.
      says-accepted (subst (λ (ss : List OpenStep). Leads (Rest j rows) fs (tree own.rows ss) own.after) (after_last step ps (omega arith)) m)
  rounded-through j (suc left) rows q fs = bind (d (open_step step (suc j) k ∷ ps) rows _ fs) λ own m.
      let l : Leads (Rest j rows) fs (Rest (suc j) own.rows) own.after
      = subst (λ (ss : List OpenStep). Leads (Rest j rows) fs (tree own.rows ss) own.after) (after-other step ps (omega arith)) m in
      bind (weaken (rounded-through (suc j) left own.rows (omega arith) own.after) (λ a s. stands_on l s) (λ c n. leads-on l n)) λ others n. says-accepted n

-- ---- the tree behind a field, by the entry that it states
abbrev pub entry_behind : Entry → Tree → Tree
entry_behind (row (Derive s)) t = tree (suc t.rows) t.steps
entry_behind (row (Strengthen i)) t = tree (suc t.rows) (open_step t.rows 0 2 ∷ t.steps)
entry_behind (row (CloseNumber i)) t = tree (suc t.rows) (after_close t.steps)
entry_behind (row (CloseStride i g)) t = tree (suc t.rows) (after_close t.steps)
entry_behind (row (Round i g k)) t = tree (suc t.rows) (open_step t.rows 0 k ∷ t.steps)
entry_behind (row (Split i)) t = tree (suc t.rows) (open_step t.rows 0 1 ∷ t.steps)
entry_behind (claim u uA) t = t

-- k is the last of a rounding's numbers, and has two bytes
module _ (e : Edition) (two : e.multiplier_width ≡ 2) where
  rounding-read : (bs : List ℕ) → length bs ≡ e.line_width + 2 * e.multiplier_width → rounding_of bs ≡ unsigned (multiplier e 1 1 bs)
  unfolding rounding_of multiplier
  rounding-read bs size =
      let place : length bs - 2 ≡ 1 * e.line_width + 1 * e.multiplier_width = omega arith in
      let own = drop (1 * e.line_width + 1 * e.multiplier_width) bs in
      let few : length own ≡ e.multiplier_width = length-drop (1 * e.line_width + 1 * e.multiplier_width) bs ∙ omega arith in
      let all : take e.multiplier_width own ≡ own = ap (λ (n : ℕ). take n own) (sym few) ∙ take-length own in
      ap (λ (n : ℕ). unsigned (drop n bs)) place ∙ ap unsigned (sym all)

  tagged-behind : (K : ℕ) (x : EntryTag) (bs : List ℕ) → length bs ≡ size_of e K x → (t : Tree) → tree_behind (some x) bs t ≡ entry_behind (entry_from e K x bs) t
  unfolding tree_behind entry_from size_of
  tagged-behind K combine_tag bs size t = refl
  tagged-behind K reduce_tag bs size t = refl
  tagged-behind K scale_tag bs size t = refl
  tagged-behind K strengthen_tag bs size t = refl
  tagged-behind K number_tag bs size t = refl
  tagged-behind K stride_tag bs size t = refl
  tagged-behind K round_tag bs size t = ap (λ (k : ℕ). tree (suc t.rows) (open_step t.rows 0 k ∷ t.steps)) (rounding-read bs (omega (arith, size)))
  tagged-behind K split_tag bs size t = refl
  tagged-behind K claim_tag bs size t = refl

  pub field-behind : (K : ℕ) (f : Field) {x : Entry} → Enters e K (item f.tag f.contents) x → (t : Tree) → tree_behind (entry_tagged f.tag) f.contents t ≡ entry_behind x t
  field-behind K f n t = ap (λ (o : Option EntryTag). tree_behind o f.contents t) n.tag ∙ tagged-behind K n.tagged f.contents n.size t ∙ ap (λ (x : Entry). entry_behind x t) n.entry

module _ (e : Edition) (two : e.multiplier_width ≡ 2) (K : ℕ) (deeper : Option Checker) (p : PlacesIn deeper) (ps : List OpenStep) where
  module _ (f : Field) (fs : Fields) (next : Following) (q : (rows : ℕ) (made : Option Line) (ls : List Line) → Through (tree rows ps) fs (next rows made ls)) (rows : ℕ) (ls : List Line) where
    -- the tree behind the field
    abbrev Behind : Tree → Type 0
    Behind t = tree_behind (entry_tagged f.tag) f.contents (tree rows ps) ≡ t

    leads-behind : {t : Tree} → Behind t → Leads (tree rows ps) (f ▸ fs) t fs
    leads-behind e = on f (subst (λ (t : Tree). Leads (tree_behind (entry_tagged f.tag) f.contents (tree rows ps)) fs t fs) e stays)

    told : (n : ℕ) → T (amidst n) → Stands (tree rows ps) (f ▸ fs) (refusal_at (innermost ps) rows f.at n)
    unfolding starts_at
    told n _ = at_front ps rows (f ▸ fs) n

    derive-through : (s : Inference) → Behind (tree (suc rows) ps) → Through (tree rows ps) (f ▸ fs) (check_row e K deeper next (refusal_at (innermost ps) rows f.at) rows ls fs (Derive s))
    unfolding check_row
    derive-through s b = bind (derived-says _ told ls s) λ l _. seq (fitting-says _ told ls e l) (through-on refl (leads-behind b) (q _ _ _))

    close-through : {X : Type 0} {r : Result X} {k : X → Result Closing} → Satisfies (Stands (tree rows ps) (f ▸ fs)) r (λ _. Unit {0})
        → ((x : X) → Satisfies (Stands (tree rows ps) (f ▸ fs)) (k x) (λ c. (c.rows ≡ suc rows) × (c.after ≡ fs))) → Behind (tree (suc rows) (after_close ps)) → Through (tree rows ps) (f ▸ fs) (r >>= k)
    close-through s h b = bind s λ x _. weaken (h x) (λ a q. q) (λ c (r, m). rw (r, m) (leads-behind b))

    strengthen-through : (i : ℕ) → Behind (tree (suc rows) (open_step rows 0 2 ∷ ps)) → Through (tree rows ps) (f ▸ fs) (check_row e K deeper next (refusal_at (innermost ps) rows f.at) rows ls fs (Strengthen i))
    unfolding check_row innermost after_close
    strengthen-through i b =
        let l = leads-behind b in
        bind (inequality-says _ told ls i) λ line _.
        deeper-says deeper p _ (told 17 tt) λ branch d.
        seq (fitting-says _ told ls e _)
        (bind (weaken (d (open_step rows 0 2 ∷ ps) _ _ fs) (λ a s. stands_on l s) (λ c m. leads-on l m)) λ first m1.
        bind (weaken (d (open_step rows 1 2 ∷ ps) _ _ first.after) (λ a s. stands_on m1 s) (λ c m. leads-on m1 m)) λ second m2.
        bind (weaken (d (open_step rows 2 2 ∷ ps) _ _ second.after) (λ a s. stands_on m2 s) (λ c m. leads-on m2 m)) λ third m3.
        says-accepted m3)

    round-through : (i g k : ℕ) → Behind (tree (suc rows) (open_step rows 0 k ∷ ps)) → Through (tree rows ps) (f ▸ fs) (check_row e K deeper next (refusal_at (innermost ps) rows f.at) rows ls fs (Round i g k))
    unfolding check_row innermost
    round-through i g k b =
        let l = leads-behind b in
        bind (roundable-says _ told ls e i g k) λ line low.
        deeper-says deeper p _ (told 17 tt) λ branch d.
        seq (fitting-says _ told ls e _)
        (bind (weaken (d (open_step rows 0 k ∷ ps) _ _ fs) (λ a s. stands_on l s)
        (λ c m. leads-on l (subst (λ (ss : List OpenStep). Leads (tree (suc rows) (open_step rows 0 k ∷ ps)) fs (tree c.rows ss) c.after) (after-other rows ps low) m))) λ first m1.
        bind (weaken (rounded-through branch d ls line rows g k ps 0 (k - 1) first.rows (omega arith) first.after) (λ a s. stands_on m1 s) (λ c m. leads-on m1 m)) λ others m2.
        says-accepted m2)

    module _ (branch : Checker) (d : Places branch) where
      split-through : (σ : Side) (t t_A : Form) → Behind (tree (suc rows) (open_step rows 0 1 ∷ ps)) → Through (tree rows ps) (f ▸ fs) (check_split e (refusal_at (innermost ps) rows f.at) branch σ ls t t_A rows fs)
      unfolding check_split innermost after_close
      split-through A t t_A b =
          let l = leads-behind b in
          seq (fitting-says _ told ls e _) (seq (fitting-says _ told ls e _)
          (bind (weaken (d (open_step rows 0 1 ∷ ps) _ _ fs) (λ a s. stands_on l s) (λ c m. leads-on l m)) λ first m1.
          bind (weaken (d (open_step rows 1 1 ∷ ps) _ _ first.after) (λ a s. stands_on m1 s) (λ c m. leads-on m1 m)) λ second m2.
          says-accepted m2))
      split-through B t t_A b =
          let l = leads-behind b in
          seq (fitting-says _ told ls e _) (seq (fitting-says _ told ls e _)
          (bind (weaken (d (open_step rows 0 1 ∷ ps) _ _ fs) (λ a s. stands_on l s) (λ c m. leads-on l m)) λ first m1.
          bind (weaken (d (open_step rows 1 1 ∷ ps) _ _ first.after) (λ a s. stands_on m1 s) (λ c m. leads-on m1 m)) λ second m2.
          says-accepted m2))

    row-through : (r : Row) → Behind (entry_behind (row r) (tree rows ps)) → Through (tree rows ps) (f ▸ fs) (check_row e K deeper next (refusal_at (innermost ps) rows f.at) rows ls fs r)
    unfolding check_row
    row-through (Derive s) b = derive-through s b
    row-through (Strengthen i) b = strengthen-through i b
    row-through (CloseNumber i) b = close-through (by_number-says _ told ls i) (λ I. says-accepted (refl, refl)) b
    row-through (CloseStride i g) b = close-through (by_stride-says _ told ls i g) (λ I. says-accepted (refl, refl)) b
    row-through (Round i g k) b = round-through i g k b
    row-through (Split i) b = bind (disequality-says _ told ls i) λ (σ, l) _. deeper-says deeper p _ (told 17 tt) λ branch d. split-through branch d σ l.t l.t_A b

    entry-through : (made : Option Line) (x : Entry) → Behind (entry_behind x (tree rows ps))
        → Through (tree rows ps) (f ▸ fs) (check_entry e K deeper next (refusal_at (innermost ps) rows f.at) rows made ls fs x)
    unfolding check_entry
    entry-through made (row r) b = test _ _ (told 18 tt) λ _. row-through r b
    entry-through made (claim t t_A) b = bind (finds _ made (told 4 tt)) λ l _. test _ _ (told 14 tt) λ _. through-on refl (leads-behind b) (q _ _ _)

  entries-through : (fs : Fields) (rows : ℕ) (made : Option Line) (ls : List Line) → Through (tree rows ps) fs (check_entries e K (innermost ps) deeper fs rows made ls)
  unfolding check_entries starts_at
  entries-through (ends at) rows made ls = says-refused (at_front ps rows (ends at) 20)
  entries-through (cut at) rows made ls = says-refused (at_front ps rows (cut at) 2)
  entries-through (f ▸ fs) rows made ls = bind (entry-says e K _ (there made) f (λ n. told f fs _ (entries-through fs) rows ls n)) λ x n.
      entry-through f fs _ (entries-through fs) rows ls made x (field-behind e two K f n (tree rows ps))

branch-through : (e : Edition) → e.multiplier_width ≡ 2 → (K : ℕ) (room : ℕ) → Places (check_branch e K room)
unfolding check_branch
branch-through e two K zero ps rows ls fs = entries-through e two K none tt ps fs rows none ls
branch-through e two K (suc room) ps rows ls fs = entries-through e two K (some (check_branch e K room)) (branch-through e two K room) ps fs rows none ls

-- ---- the header, and what follows the root
-- Outside every branch, a refusal by a number that tells no row.
outside : (rows : ℕ) (fs : Fields) (n : ℕ) → row_told n rows ≡ nowhere → Stands (tree rows []) fs (answer n file_proof (starts_at fs))
unfolding innermost
outside rows fs n q = here {t = tree rows []} {fs = fs} {a = answer n file_proof (starts_at fs)} (rw q)

-- A header field changes no tree; the refusals at it tell nothing.
record Passed (fs : Fields) (x : ℕ × ℕ × Fields) : Type 0 where
  leads : Leads (tree 0 []) fs (tree 0 []) x.2
  told : (n : ℕ) → row_told n 0 ≡ nowhere → Stands (tree 0 []) fs (answer n file_proof x.0)

field-says : (tag : ℕ) → entry_tagged tag ≡ none → (fs : Fields) → Satisfies (Stands (tree 0 []) fs) (header_field FileKind.Proof file_proof tag fs) (Passed fs)
unfolding header_field starts_at row_told tree_behind
field-says tag h (ends at) = says-refused (outside 0 (ends at) 2 refl)
field-says tag h (cut at) = says-refused (outside 0 (cut at) 2 refl)
field-says tag h (f ▸ fs) = test _ _ (outside 0 (f ▸ fs) 3 refl) λ _. test _ _ (outside 0 (f ▸ fs) 4 refl) λ t. test _ _ (outside 0 (f ▸ fs) 6 refl) λ _.
    let none_of : entry_tagged f.tag ≡ none = rw (eqb→eq f.tag tag t) h in
    says-accepted (record {
      leads = on f (subst (λ (o : Option EntryTag). Leads (tree_behind o f.contents (tree 0 [])) fs (tree 0 []) fs) (sym none_of) stays);
      told = λ n q. outside 0 (f ▸ fs) n q;
    })

edition-says : (newest : ℕ) (fs : Fields) → Satisfies (Stands (tree 0 []) fs) (edition_field FileKind.Proof file_proof newest fs) (λ x. Leads (tree 0 []) fs (tree 0 []) x.1)
unfolding edition_field entry_tagged row_told
edition-says newest fs = bind (field-says 0x01 refl fs) λ x p. test _ _ (p.told 5 refl) λ _. says-accepted p.leads

constants-says : (given : Option ℕ) (fs : Fields) → Satisfies (Stands (tree 0 []) fs) (constants_field FileKind.Proof file_proof given fs) (λ x. Leads (tree 0 []) fs (tree 0 []) x.1)
unfolding constants_field entry_tagged row_told
constants-says given fs = bind (field-says 0x02 refl fs) λ x p. test _ _ (p.told 7 refl) λ _. test _ _ (p.told 9 refl) λ _. says-accepted p.leads

pub header-says : (newest : ℕ) (given : Option ℕ) (fs : Fields) → Satisfies (Stands (tree 0 []) fs) (header FileKind.Proof file_proof newest given fs) (λ h. Leads (tree 0 []) fs (tree 0 []) h.rest)
unfolding header
header-says newest given fs = bind (edition-says newest fs) λ x l. bind (weaken (constants-says given x.1) (λ a s. stands_on l s) (λ y m. leads-on l m)) λ y m. says-accepted m

finished-says : {rows : ℕ} (fs : Fields) → Satisfies (Stands (tree rows []) fs) (finished FileKind.Proof file_proof fs) (λ _. Unit {0})
unfolding finished starts_at row_told
finished-says {rows} (ends at) = says-accepted tt
finished-says {rows} (cut at) = says-refused (outside rows (cut at) 2 refl)
finished-says {rows} (f ▸ fs) = test _ _ (outside rows (f ▸ fs) 3 refl) λ _. says-refused (outside rows (f ▸ fs) 19 refl)

proof-says : (newest : ℕ) (a b : Bundle) (fs : Fields) → Satisfies (Stands (tree 0 []) fs) (check_proof newest a b fs) (λ _. Unit {0})
unfolding check_proof innermost after_close
proof-says newest a b fs = bind (header-says newest (some a.K) fs) λ h l.
    bind (weaken (branch-through (edition h.number) refl h.K (edition h.number).branchings [] 0 _ h.rest) (λ y s. stands_on l s) (λ c m. leads-on l m)) λ c m.
    seq (weaken (finished-says c.after) (λ y s. stands_on m s) (λ _ u. u)) (says-accepted tt)

-- Every refusal of the proof's fields.
pub proof-stands : (newest : ℕ) (a b : Bundle) (fs : Fields) (x : Answer) → check_proof newest a b fs ≡ refused x → Stands (tree 0 []) fs x
proof-stands newest a b fs x r = (proof-says newest a b fs).refusal x r
