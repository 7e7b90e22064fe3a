-- The loop over a step's branches, and each way through the cycle, over plain values. Assumes nothing.
use mathlib.Core.Path.{◌≡◌, refl, sym, ◌∙◌, ap}
use mathlib.Core.Bool.{Bool, true, false, ◌&&◌}
use mathlib.Core.List.{List, []}
use mathlib.Core.Option.{Option, none, some}
use Prim.Native.Nat.{ℕ, zero, suc, ◌+◌, ◌-◌, ◌≤◌, ◌<◌}
use native.Mathlib.Omega.{arith}
use native.Mathlib.Numerals.{add-one}
use lib.ListN.{length}
use Rattle.forms.specs.Edition.{edition}
use Rattle.forms.specs.declared.RowNumber.{RowNumber}
use Rattle.answers.specs.declared.Answer.{Answer}
use Rattle.answers.specs.declared.Position.{Position}
use Rattle.answers.specs.Answers.{position, refusal_at, Result, refused, accepted, ◌>>=◌, ◌>>◌, need}
use Rattle.fields.specs.Fields.{Fields, Item}
use Rattle.fields.specs.Places.{fields_at, field_count, unread_bytes}
use Rattle.run.specs.Uniform.{Walked, Walker, walk_entries, walk_branch}
use Rattle.run_fields.specs.Spans as spans
use Rattle.run_fields.specs.Spans.{Spans}
use Rattle.run_branches.proofs.OwnFields.{Spanned, walk-spans}
use Rattle.run_fields.specs.declared.kind.Matching.{Matching}
use Rattle.std.specs.Prelude.{Ok, Err}
use Rattle.std.specs.declared.result.Result as code
use Rattle.run_branches.specs.declared.walk.Closed.{Closed}
use Rattle.run_branches.specs.declared.walk.Own.{Own}
use Rattle.run_branches.specs.declared.walk.Stop.{Stop}
use Rattle.run_branches.specs.Branches.{like_first, first_branch_fields, walk_from, Likens}
use Rattle.run_branches.specs.Walks.{Countable, ended, Falls, Walks, Stops, deeper, WalksBranch, WalksBranches}
use Rattle.run_branches.proofs.WalkEnds.{Accepted, ended-refused, ended-accepted}
use Rattle.run_branches.proofs.BranchByBranch.{first-free, opened-from, opened-shut}

-- ---- walk_from, by its first branch
-- What is left once branch b is walked: the test, or the branches after it.
module _ (walker : Walker) (step : ℕ) (alike : Matching) (first : List Item) (like : Bool) (b : ℕ) where
  abbrev after : (left : ℕ) → Walked → Result Walked
  after zero w = need w.unlike like >> accepted w
  after (suc left) w = walk_from walker step alike first like (suc b) left w.rows w.after

  module _ {rows : ℕ} {fs : Fields} where
    from-refused : (left : ℕ) {a : Answer} → walker (position step b) rows fs ≡ refused a → ended (walk_from walker step alike first like b left rows fs) ≡ refused a
    unfolding walk_from ended ◌>>=◌
    from-refused zero e = rw e
    from-refused (suc left) e = rw e

from-walked : (walker : Walker) (step : ℕ) (alike : Matching) (first : List Item) (like : Bool) (b : ℕ) {rows : ℕ} {fs : Fields} {w : Walked} → walker (position step b) rows fs ≡ accepted w
    → (left : ℕ) → walk_from walker step alike first like b left rows fs ≡ after walker step alike (first_branch_fields b first w.own) (like && like_first alike b first w.own) b left w
unfolding walk_from ◌>>=◌
from-walked walker step alike first like b e zero = rw e
from-walked walker step alike first like b e (suc left) = rw e

-- behind a later branch the first one's fields stay
first-kept : (b : ℕ) (first own : List Item) → first_branch_fields (b + 1) first own ≡ first
first-kept b first own = rw add-one

later : (walker : Walker) (step : ℕ) (alike : Matching) (first own : List Item) (b left : ℕ) (w : Walked) {like still : Bool} → like ≡ still
    → after walker step alike (first_branch_fields (b + 1) first own) like (b + 1) left w ≡ after walker step alike first still (b + 1) left w
later walker step alike first own b left w h = rw (first-kept b first own, h)

-- ---- fields that are left
spans-count : {fs gs : Fields} {is : List Item} → Spans fs is gs → field_count fs ≡ length is + field_count gs
unfolding field_count
spans-count spans.none = omega arith
spans-count (spans.one f s) = omega (arith, spans-count s)

-- a closed branch that starts later has fewer bytes left still
falls-on : {R : Result Walked} {p : List ℕ} (at : ℕ) {here : ℕ} {o : code.Result Closed Answer} → Walks R p here o → unread_bytes p here < unread_bytes p at → Falls p at o
falls-on at {o = Err a} w h = tt
falls-on at {o = Ok c} w h = omega (arith, w.falls)

-- what walks the branches that a branch opens, where so many more may be open
abbrev below : (e K room : ℕ) → Option Walker
below e K zero = none
below e K (suc room) = some (walk_branch (edition e) K room)

-- ---- a branch that is closed
module _ (e K opened : ℕ) {p : List ℕ} (here : Position) (rows : ℕ) {at : ℕ} {c : Closed} (w : WalksBranch e K p at here rows opened (Ok c)) where
  by : Accepted (deeper e K opened here rows (fields_at p at)) (record { rows = c.rows.0; unlike = c.unlike; after = fields_at p c.next })
  by = ended-accepted w.is

  own : Spanned (fields_at p at) rows by.walked
  own = (walk-spans (edition e) K (32 - opened) here rows (fields_at p at)).value by.walked by.is

  own-rows : c.rows.0 ≡ rows + length by.walked.own
  own-rows = omega (arith, own.count, by.rows_is)

  own-count : length by.walked.own ≡ c.rows.0 - rows
  own-count = omega (arith, own-rows)

  pub closed-rows : rows ≤ c.rows.0
  closed-rows = omega (arith, own-rows)

  closed-countable : Countable p at rows → Countable p c.next c.rows.0
  closed-countable f =
      let s : Spans (fields_at p at) by.walked.own (fields_at p c.next) = rw by.after_is at own.spans in
      record { few = omega (arith, f.few, spans-count s, own-rows) }

-- ---- the loop
-- Branch b is closed; the first branch's own fields are known, and what is left is what is walked from the start.
pub record Passing (e K : ℕ) (p : List ℕ) (at step last : ℕ) (alike : Matching) (opened : ℕ) (first : Own) (closed : Closed) (like : Bool) (b : ℕ) : Type 0 where
  pub items : List Item
  pub rest : Fields
  pub spans : Spans (fields_at p first.at) items rest
  pub count : length items ≡ first.rows
  pub walked : Walked
  pub rows_is : walked.rows ≡ closed.rows.0
  pub unlike-is : walked.unlike ≡ closed.unlike
  pub after_is : walked.after ≡ fields_at p closed.next
  pub is : ended (walk_from (deeper e K opened) step alike [] true 0 last (suc step) (fields_at p at)) ≡ ended (after (deeper e K opened) step alike items like b (last - b) walked)
  pub countable : Countable p closed.next closed.rows.0
  pub unread : unread_bytes p closed.next < unread_bytes p at

module _ (e K : ℕ) {p : List ℕ} {at : ℕ} (step last : ℕ) (alike : Matching) (opened : ℕ) where
  -- the first branch
  pub first-fault : {a : Answer} → WalksBranch e K p at (position step 0) (step + 1) opened (Err a) → WalksBranches e K p at step last alike opened (Err a)
  first-fault w =
      let z : step + 1 ≡ suc step = omega arith in
      record { is = from-refused (deeper e K opened) step alike [] true 0 last (ended-refused (rw z at w.is)); falls = tt }

  pub first-closed : {c : Closed} → Countable p at (step + 1) → WalksBranch e K p at (position step 0) (step + 1) opened (Ok c) → {o : Own} → o.at ≡ at → o.rows ≡ c.rows.0 - (step + 1)
      → Passing e K p at step last alike opened o c true 0
  first-closed {c} f w {o} h q =
      let z : step + 1 ≡ suc step = omega arith in
      let y : last - 0 ≡ last = omega arith in
      let x = by e K opened (position step 0) (step + 1) w in
      let s = own e K opened (position step 0) (step + 1) w in
      let t : (true && like_first alike 0 [] x.walked.own) ≡ true = first-free alike [] x.walked.own in
      record {
        items = x.walked.own;
        rest = x.walked.after;
        spans = rw h s.spans;
        count = own-count e K opened (position step 0) (step + 1) w ∙ sym q;
        walked = x.walked;
        rows_is = x.rows_is;
        unlike-is = x.unlike-is;
        after_is = x.after_is;
        is = rw (y, ← z) (ap ended (from-walked (deeper e K opened) step alike [] true 0 x.is last ∙ rw t));
        countable = closed-countable e K opened (position step 0) (step + 1) w f;
        unread = w.falls;
      }

module _ {e K : ℕ} {p : List ℕ} {at step last : ℕ} {alike : Matching} {opened : ℕ} where
  module _ {first : Own} {closed : Closed} {like : Bool} {b : ℕ} (g : Passing e K p at step last alike opened first closed like b) where
    -- all are walked
    module _ (l : last ≤ b) where
      left-none : last - b ≡ 0
      left-none = omega arith

      pub passing-last : like ≡ true → WalksBranches e K p at step last alike opened (Ok closed)
      unfolding ended ◌>>=◌ ◌>>◌ need
      passing-last t = record { is = g.is ∙ rw (left-none, t, g.rows_is, g.unlike-is, g.after_is); falls = g.unread }

      pub passing-unlike : like ≡ false → WalksBranches e K p at step last alike opened (Err closed.unlike)
      unfolding ended ◌>>=◌ ◌>>◌ need
      passing-unlike t = record { is = g.is ∙ rw (left-none, t, g.unlike-is); falls = tt }

    -- the next branch
    module _ (l : b < last) where
      on : after (deeper e K opened) step alike g.items like b (last - b) g.walked
          ≡ walk_from (deeper e K opened) step alike g.items like (b + 1) (last - (b + 1)) closed.rows.0 (fields_at p closed.next)
      on = let z : last - b ≡ suc (last - (b + 1)) = omega arith in rw (z, g.rows_is, g.after_is, add-one)

      pub passing-fault : {a : Answer} → WalksBranch e K p closed.next (position step (b + 1)) closed.rows.0 opened (Err a) → WalksBranches e K p at step last alike opened (Err a)
      passing-fault w = record { is = g.is ∙ ap ended on ∙ from-refused (deeper e K opened) step alike g.items like (b + 1) (last - (b + 1)) (ended-refused w.is); falls = tt }

      pub passing-next : {c : Closed} → WalksBranch e K p closed.next (position step (b + 1)) closed.rows.0 opened (Ok c) → {o : Own} → o.at ≡ closed.next → o.rows ≡ c.rows.0 - closed.rows.0
          → {still : Bool} → Likens p like alike (b + 1) first o still → Passing e K p at step last alike opened first c still (b + 1)
      passing-next {c} w {o} h q {still} k =
          let x = by e K opened (position step (b + 1)) closed.rows.0 w in
          let s = own e K opened (position step (b + 1)) closed.rows.0 w in
          let sp : Spans (fields_at p o.at) x.walked.own x.walked.after = rw h s.spans in
          let t : still ≡ (like && like_first alike (b + 1) g.items x.walked.own) = k.is g.spans sp g.count (own-count e K opened (position step (b + 1)) closed.rows.0 w ∙ sym q) in
          record {
            items = g.items;
            rest = g.rest;
            spans = g.spans;
            count = g.count;
            walked = x.walked;
            rows_is = x.rows_is;
            unlike-is = x.unlike-is;
            after_is = x.after_is;
            is = g.is ∙ ap ended (on ∙ from-walked (deeper e K opened) step alike g.items like (b + 1) x.is (last - (b + 1))
                ∙ later (deeper e K opened) step alike g.items x.walked.own b (last - (b + 1)) x.walked (sym t));
            countable = closed-countable e K opened (position step (b + 1)) closed.rows.0 w g.countable;
            unread = omega (arith, g.unread, w.falls);
          }

-- ---- a branch
branch-entries : (e K room : ℕ) (here : Position) (rows : ℕ) (fs : Fields) → walk_branch (edition e) K room here rows fs ≡ walk_entries (edition e) K here (below e K room) fs rows false
unfolding walk_branch
branch-entries e K zero here rows fs = refl
branch-entries e K (suc room) here rows fs = refl

module _ {e K : ℕ} {p : List ℕ} {at : ℕ} {here : Position} {rows : ℕ} where
  pub stop-fault : (opened : ℕ) {a : Answer} → Stops e K p at here rows (Err a) → WalksBranch e K p at here rows opened (Err a)
  stop-fault opened s = rw (branch-entries e K (32 - opened) here rows (fields_at p at)) (s.by (below e K (32 - opened)))

  pub stop-closes : (opened : ℕ) {c : Closed} → Stops e K p at here rows (Ok (Stop.Closes c)) → WalksBranch e K p at here rows opened (Ok c)
  stop-closes opened s = rw (branch-entries e K (32 - opened) here rows (fields_at p at)) (s.by (below e K (32 - opened)))

  module _ {last : ℕ} {alike : Matching} {row : RowNumber} {a next : ℕ} (s : Stops e K p at here rows (Ok (Stop.Opens last alike row a next))) where
    pub stop-countable : Countable p next (row.0 + 1)
    stop-countable = s.by.countable

    pub stop-falls : unread_bytes p next < unread_bytes p at
    stop-falls = s.by.falls

    pub stop-shut : (opened : ℕ) → opened ≡ 32 → {x : Answer} → x ≡ refusal_at here row.0 a 17 → WalksBranch e K p at here rows opened (Err x)
    stop-shut opened q y =
        let z : 32 - opened ≡ 0 = omega arith in
        record {
          is = rw z (ap ended (branch-entries e K 0 here rows (fields_at p at)) ∙ s.by.is none ∙ opened-shut (refusal_at here row.0 a) row.0 s.by.field (fields_at p next) last alike ∙ rw y);
          falls = tt;
        }

    pub stop-opens : (opened : ℕ) → opened ≤ 32 → (opened ≡ 32 → ⊥) → {o : code.Result Closed Answer} → WalksBranches e K p next row.0 last alike (opened + 1) o → WalksBranch e K p at here rows opened o
    stop-opens opened l q w =
        let z : 32 - opened ≡ suc (32 - (opened + 1)) = omega arith in
        record {
          is = rw z (ap ended (branch-entries e K (suc (32 - (opened + 1))) here rows (fields_at p at)) ∙ s.by.is (some (deeper e K (opened + 1)))
              ∙ opened-from (deeper e K (opened + 1)) (refusal_at here row.0 a) row.0 s.by.field (fields_at p next) last alike ∙ w.is);
          falls = falls-on at w stop-falls;
        }
