-- The branches of a step as the code goes through them: each is compared to the first when it is closed. Assumes nothing.
use Rattle.std.specs.Prelude.{◌≡◌, Bool, true, cond, ◌&&◌, List, ℕ, zero, suc, length}
use Rattle.answers.specs.Answers.{position, Result, accepted, ◌>>=◌, ◌>>◌, need}
use Rattle.fields.specs.Fields.{Fields, Item}
use Rattle.fields.specs.Places.{fields_at}
use Rattle.run.specs.Uniform.{same_items, Walked, Walker}
use Rattle.run_fields.specs.Spans.{Spans}
use Rattle.run_fields.specs.declared.kind.Matching.{Matching}
use Rattle.run_fields.specs.Kinds.{compared_in}
use Rattle.run_branches.specs.declared.walk.Own.{Own}

-- Branch b may stand beside the first, by their own fields.
abbrev pub like_first : Matching → (b : ℕ) (first own : List Item) → Bool
like_first alike b first own = cond (compared_in alike b) (same_items first own) true

-- The first branch's own fields once branch b is closed.
abbrev pub first_branch_fields : (b : ℕ) (first own : List Item) → List Item
first_branch_fields zero first own = own
first_branch_fields (suc b) first own = first

-- Branch b of a step and the `left` ones after it; so far those are alike that must be, or not. 28 at the last one's closing row.
unfoldable pub walk_from : (walker : Walker) (step : ℕ) → Matching → (first : List Item) (like : Bool) (b left rows : ℕ) → Fields → Result Walked
walk_from walker step alike first like b zero rows fs = do
  w ← walker (position step b) rows fs
  need w.unlike (like && like_first alike b first w.own)
  accepted w
walk_from walker step alike first like b (suc left) rows fs = do
  w ← walker (position step b) rows fs
  walk_from walker step alike (first_branch_fields b first w.own) (like && like_first alike b first w.own) (suc b) left w.rows w.after

-- r tells whether those are alike that must be, with branch b.
pub record Likens (p : List ℕ) (like : Bool) (alike : Matching) (b : ℕ) (first own : Own) (r : Bool) : Type 0 where
  pub is : {firsts owns : List Item} {fs gs : Fields} → Spans (fields_at p first.at) firsts fs → Spans (fields_at p own.at) owns gs → length firsts ≡ first.rows → length owns ≡ own.rows
      → r ≡ (like && like_first alike b firsts owns)
