-- A branch that is walked through is its own fields, a row each, and those that are left. Assumes nothing.
use mathlib.Core.Path.{◌≡◌}
use mathlib.Core.Option.{Option, none as none_of, some}
use mathlib.Core.Bool.{Bool, true, false}
use mathlib.Core.List.{List, [], ◌∷◌, ◌++◌}
use Prim.Native.Nat.{ℕ, zero, suc, ◌+◌}
use native.Mathlib.Omega.{arith}
use lib.ListN.{length, length-append}
use Rattle.forms.specs.Edition.{Edition}
use Rattle.calculus.specs.Rules.{Row, Derive, Strengthen, CloseNumber, CloseStride, Round, Split, Entry, row, claim}
use Rattle.answers.specs.declared.Answer.{Answer}
use Rattle.answers.specs.declared.Position.{Position}
use Rattle.answers.specs.Answers.{refusal_at, found}
use Rattle.fields.specs.Fields.{Field, Fields, ends, cut, ◌▸◌, Item, item}
use Rattle.proof.proofs.Satisfies.{Satisfies, says-refused, says-accepted, bind, test}
use Rattle.proof.proofs.Tree.{entry-says}
use Rattle.chains.specs.Runs.{joined}
use Rattle.run.specs.Uniform.{Walked, WalkedBranches, Walker, FollowingWalk, walk_branches, first_and_third, all_alike, walk_opened, walk_closed, walk_row, walk_entry, walk_entries, walk_branch}
use Rattle.run_fields.specs.Spans.{Spans, none, one}

abbrev pub Any : Answer → Type 0
Any a = Unit

pub spans_on : {a b c : Fields} {is js : List Item} → Spans a is b → Spans b js c → Spans a (is ++ js) c
spans_on none t = t
spans_on (one f s) t = one f (spans_on s t)

-- what a branch at the front of fs, before which there were so many rows, is
pub record Spanned (fs : Fields) (rows : ℕ) (w : Walked) : Type 0 where
  pub spans : Spans fs w.own w.after
  pub count : w.rows ≡ rows + length w.own

record SpannedAll (fs : Fields) (rows : ℕ) (ws : WalkedBranches) : Type 0 where
  spans : Spans fs (joined ws.owns) ws.after
  count : ws.rows ≡ rows + length (joined ws.owns)

abbrev pub SpansBy : Walker → Type 0
SpansBy walker = (here : Position) (rows : ℕ) (fs : Fields) → Satisfies Any (walker here rows fs) (Spanned fs rows)

last-spanned : {fs : Fields} {rows : ℕ} (w : Walked) → Spanned fs rows w → SpannedAll fs rows (record { owns = w.own ∷ []; rows = w.rows; unlike = w.unlike; after = w.after })
last-spanned w s = record { spans = spans_on s.spans none; count = omega (arith, s.count, length-append w.own []) }

more-spanned : {fs : Fields} {rows : ℕ} (w : Walked) (ws : WalkedBranches) → Spanned fs rows w → SpannedAll w.after w.rows ws → SpannedAll fs rows (record { owns = w.own ∷ ws.owns; rows = ws.rows; unlike = ws.unlike; after = ws.after })
more-spanned w ws s t = record { spans = spans_on s.spans t.spans; count = omega (arith, s.count, t.count, length-append w.own (joined ws.owns)) }

branches-span : {walker : Walker} → SpansBy walker → (at b more rows : ℕ) (fs : Fields) → Satisfies Any (walk_branches walker at b more rows fs) (SpannedAll fs rows)
unfolding walk_branches
branches-span d at b zero rows fs = bind (d _ rows fs) λ w s. says-accepted (last-spanned w s)
branches-span d at b (suc more) rows fs = bind (d _ rows fs) λ w s. bind (branches-span d at (suc b) more w.rows w.after) λ ws t. says-accepted (more-spanned w ws s t)

data Deep : Option Walker → Type 0 where
  shut : Deep none_of
  opens : {walker : Walker} → SpansBy walker → Deep (some walker)

found-deep : (a : Answer) {deeper : Option Walker} → Deep deeper → Satisfies Any (found a deeper) SpansBy
unfolding found
found-deep a shut = says-refused tt
found-deep a (opens d) = says-accepted d

module _ (here : Position) (deeper : Option Walker) (deep : Deep deeper) where
  module _ (f : Field) (fs : Fields) (rows : ℕ) where
    -- the row f, and then the rest
    behind : (w : Walked) → Spanned fs (suc rows) w → Spanned (f ▸ fs) rows (record { own = item f.tag f.contents ∷ w.own; rows = w.rows; unlike = w.unlike; after = w.after })
    behind w s = record { spans = one f s.spans; count = omega (arith, s.count) }

    opened-spans : (n : ℕ) (alike : List (List Item) → Bool) → Satisfies Any (walk_opened deeper (refusal_at here rows f.at) rows f fs n alike) (Spanned (f ▸ fs) rows)
    unfolding walk_opened
    opened-spans n alike = bind (found-deep _ deep) λ walker d. bind (branches-span d rows 0 n (suc rows) fs) λ ws s. test _ _ tt λ _.
        says-accepted (record { spans = one f s.spans; count = omega (arith, s.count) })

    closed-spans : Satisfies Any (walk_closed (refusal_at here rows f.at) rows f fs) (Spanned (f ▸ fs) rows)
    unfolding walk_closed
    closed-spans = says-accepted (record { spans = one f none; count = omega arith })

    module _ (next : FollowingWalk) (q : (rows : ℕ) (made : Bool) → Satisfies Any (next rows made) (Spanned fs rows)) where
      row-spans : (r : Row) → Satisfies Any (walk_row deeper next (refusal_at here rows f.at) rows f fs r) (Spanned (f ▸ fs) rows)
      unfolding walk_row
      row-spans (Derive s) = bind (q (suc rows) _) λ w s. says-accepted (behind w s)
      row-spans (Strengthen i) = opened-spans 2 first_and_third
      row-spans (Round i g k) = opened-spans k all_alike
      row-spans (Split i) = opened-spans 1 (λ owns. true)
      row-spans (CloseNumber i) = closed-spans
      row-spans (CloseStride i g) = closed-spans

      entry-spans : (x : Entry) → Satisfies Any (walk_entry deeper next (refusal_at here rows f.at) rows f fs x) (Spanned (f ▸ fs) rows)
      unfolding walk_entry
      entry-spans (row r) = row-spans r
      entry-spans (claim t t_A) = says-refused tt

  entries-span : (e : Edition) (K : ℕ) (fs : Fields) (rows : ℕ) (made : Bool) → Satisfies Any (walk_entries e K here deeper fs rows made) (Spanned fs rows)
  unfolding walk_entries
  entries-span e K (ends at) rows made = says-refused tt
  entries-span e K (cut at) rows made = says-refused tt
  entries-span e K (f ▸ fs) rows made = bind (entry-says e K (refusal_at here rows f.at) made f (λ m _. tt)) λ x _. entry-spans f fs rows _ (λ rows made. entries-span e K fs rows made) x

-- where a branch is closed, its own fields and those after it are the fields it was given, and it has a row for each of its own fields
pub walk-spans : (e : Edition) (K room : ℕ) → SpansBy (walk_branch e K room)
unfolding walk_branch
walk-spans e K zero here rows fs = entries-span here none_of shut e K fs rows false
walk-spans e K (suc room) here rows fs = entries-span here (some (walk_branch e K room)) (opens (walk-spans e K room)) e K fs rows false
