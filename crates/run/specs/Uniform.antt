-- Whether the branches that must be alike are alike, and no claim: the tree of a proof, walked by its fields alone, without lines: 27 and 28. Assumes nothing.
use Rattle.std.proofs.Math.Option.{Option, none, some}
use Rattle.std.specs.Prelude.{Bool, true, false, ◌&&◌, List, [], ◌∷◌, ℕ, zero, suc, eqb}
use Rattle.forms.specs.Edition.{Edition, edition}
use Rattle.forms.specs.Forms.{every}
use Rattle.calculus.specs.Rules.{Row, Derive, Strengthen, CloseNumber, CloseStride, Round, Split, Entry, row, claim}
use Rattle.answers.specs.declared.Answer.{Answer}
use Rattle.answers.specs.declared.Position.{Position}
use Rattle.answers.specs.Answers.{position, root, refusal_at, file_proof, Result, refused, accepted, ◌>>=◌, ◌>>◌, need, found}
use Rattle.fields.specs.declared.FileKind.{FileKind}
use Rattle.fields.specs.Fields.{Field, Fields, ends, cut, ◌▸◌, Item, item}
use Rattle.fields.specs.Header.{header}
use Rattle.proof.specs.Entries.{entry}
use Rattle.chains.specs.Runs.{joined}
use Rattle.number_bytes.specs.Same.{same_bytes}

-- An answer by another number: file, place, row, step and branch stand.
unfoldable pub with_number : ℕ → Answer → Answer
with_number n a = record { number = n; file = a.file; place = a.place; row = a.row; step = a.step; branch = a.branch }

-- The same fields: tags and contents. (Notes are no fields here, and places do not count.)
unfoldable pub same_items : List Item → List Item → Bool
same_items [] [] = true
same_items [] (j ∷ js) = false
same_items (i ∷ is) [] = false
same_items (i ∷ is) (j ∷ js) = eqb i.tag j.tag && same_bytes i.contents j.contents && same_items is js

-- A closed branch: its own fields, those of the branches that it opens included; how many rows there are up to its close row; 28 at that row; and the fields after it.
pub record Walked : Type 0 where
  pub own : List Item
  pub rows : ℕ
  pub unlike : Answer
  pub after : Fields

-- The branches of one step, in file order, and the same of the last of them.
pub record WalkedBranches : Type 0 where
  pub owns : List (List Item)
  pub rows : ℕ
  pub unlike : Answer
  pub after : Fields

abbrev pub Walker : Type 0
Walker = Position → (rows : ℕ) → Fields → Result Walked

-- Branch b of a step and the `left` ones after it.
unfoldable pub walk_branches : (walker : Walker) (step b left rows : ℕ) → Fields → Result WalkedBranches
walk_branches walker step b zero rows fs = do
  w ← walker (position step b) rows fs
  accepted (record { owns = w.own ∷ []; rows = w.rows; unlike = w.unlike; after = w.after })
walk_branches walker step b (suc left) rows fs = do
  w ← walker (position step b) rows fs
  ws ← walk_branches walker step (suc b) left w.rows w.after
  accepted (record { owns = w.own ∷ ws.owns; rows = ws.rows; unlike = ws.unlike; after = ws.after })

-- Which branches must be the same rows: those of a strengthen that start with t+1 ≤ 0, the first and the third; all of a rounding; none of a split.
unfoldable pub first_and_third : List (List Item) → Bool
first_and_third [] = true
first_and_third (a ∷ []) = true
first_and_third (a ∷ b ∷ []) = true
first_and_third (a ∷ b ∷ c ∷ ds) = same_items a c

unfoldable pub all_alike : List (List Item) → Bool
all_alike [] = true
all_alike (a ∷ bs) = every (same_items a) bs

-- What follows an entry of the same branch: the rows up to there, and whether a claim may stand next.
abbrev pub FollowingWalk : Type 0
FollowingWalk = (rows : ℕ) (made : Bool) → Result Walked

-- The branches of the row f, whose last has this number, must pass the test, or 28 is given at the last one's closing row.
unfoldable pub walk_opened : (deeper : Option Walker) (refusal : ℕ → Answer) (rows : ℕ) → Field → Fields → (lastBranch : ℕ) → (List (List Item) → Bool) → Result Walked
walk_opened deeper refusal rows f fs n alike = do
  walker ← found (refusal 17) deeper
  ws ← walk_branches walker rows 0 n (suc rows) fs
  need ws.unlike (alike ws.owns)
  accepted (record { own = item f.tag f.contents ∷ joined ws.owns; rows = ws.rows; unlike = ws.unlike; after = ws.after })

-- 28 stands where a 15 of the closing row would.
unfoldable pub walk_closed : (refusal : ℕ → Answer) (rows : ℕ) → Field → Fields → Result Walked
walk_closed refusal rows f fs = accepted (record { own = item f.tag f.contents ∷ []; rows = suc rows; unlike = with_number 28 (refusal 15); after = fs })

unfoldable pub walk_row : (deeper : Option Walker) (next : FollowingWalk) (refusal : ℕ → Answer) (rows : ℕ) → Field → Fields → Row → Result Walked
walk_row deeper next refusal rows f fs (Derive s) = do
  w ← next (suc rows) true
  accepted (record { own = item f.tag f.contents ∷ w.own; rows = w.rows; unlike = w.unlike; after = w.after })
walk_row deeper next refusal rows f fs (Strengthen i) = walk_opened deeper refusal rows f fs 2 first_and_third
walk_row deeper next refusal rows f fs (Round i g k) = walk_opened deeper refusal rows f fs k all_alike
walk_row deeper next refusal rows f fs (Split i) = walk_opened deeper refusal rows f fs 1 (λ owns. true)
walk_row deeper next refusal rows f fs (CloseNumber i) = walk_closed refusal rows f fs
walk_row deeper next refusal rows f fs (CloseStride i g) = walk_closed refusal rows f fs

-- 27 stands where a 14 would: a claim that is in place and of the right length, whatever it states.
unfoldable pub walk_entry : (deeper : Option Walker) (next : FollowingWalk) (refusal : ℕ → Answer) (rows : ℕ) → Field → Fields → Entry → Result Walked
walk_entry deeper next refusal rows f fs (row r) = walk_row deeper next refusal rows f fs r
walk_entry deeper next refusal rows f fs (claim t t_A) = refused (with_number 27 (refusal 14))

module _ (e : Edition) (K : ℕ) where
  -- 2, 3, 4, 6, 17, 20 as check; and 27, 28.
  unfoldable pub walk_entries : Position → (deeper : Option Walker) → Fields → FollowingWalk
  walk_entries p deeper (ends at) rows made = refused (refusal_at p rows at 20)
  walk_entries p deeper (cut at) rows made = refused (refusal_at p rows at 2)
  walk_entries p deeper (f ▸ fs) rows made = do
    x ← entry e K (refusal_at p rows f.at) made f
    walk_entry deeper (walk_entries p deeper fs) (refusal_at p rows f.at) rows f fs x

  -- `room` more branching steps may be open at once.
  unfoldable pub walk_branch : (room : ℕ) → Walker
  walk_branch zero p rows fs = walk_entries p none fs rows false
  walk_branch (suc room) p rows fs = walk_entries p (some (walk_branch room)) fs rows false

-- The proof is uniform, or the refusal by 27 or 28 that comes first. (Any other refusal that is met here check has given at that place, or at one before.)
unfoldable pub uniform : (newest K : ℕ) → Fields → Result Walked
uniform newest K fs = do
  h ← header FileKind.Proof file_proof newest (some K) fs
  walk_branch (edition h.number) h.K (edition h.number).branchings root 0 h.rest
