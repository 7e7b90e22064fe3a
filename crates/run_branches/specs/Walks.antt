-- A walk by the code's answers. A closed branch's own fields are not kept: they are those between its start and its end. Assumes nothing.
use Rattle.std.specs.Prelude.{◌≡◌, true, false, List, [], ℕ, suc, ◌+◌, ◌-◌, ◌≤◌, ◌<◌, Ok, Err}
use Rattle.std.specs.declared.result.Result as code
use Rattle.std.proofs.Math.Option.{Option}
use Rattle.forms.specs.Edition.{edition, edition1}
use Rattle.answers.specs.declared.Answer.{Answer}
use Rattle.answers.specs.declared.Position.{Position}
use Rattle.answers.specs.Answers.{refusal_at, Result, refused, accepted, ◌>>=◌}
use Rattle.fields.specs.Fields.{Field, Fields}
use Rattle.fields.specs.Places.{fields_at, fields_left, unread_bytes}
use Rattle.run.specs.Uniform.{Walked, Walker, walk_opened, walk_entries, walk_branch}
use Rattle.run_fields.specs.declared.kind.Matching.{Matching}
use Rattle.run_branches.specs.declared.walk.Closed.{Closed}
use Rattle.run_branches.specs.declared.walk.Stop.{Stop}
use Rattle.run_fields.specs.Kinds.{alike_by}
use Rattle.run_branches.specs.Branches.{walk_from}

-- The rows up to the end can be counted in a u16: there is a field for each.
pub record Countable (p : List ℕ) (at rows : ℕ) : Type 0 where
  pub few : rows + fields_left p at ≤ 65_535

-- ---- how a walk ends
pub record End : Type 0 where
  pub rows : ℕ
  pub unlike : Answer
  pub after : Fields

unfoldable pub ended : Result Walked → Result End
ended r = r >>= λ w. accepted (record { rows = w.rows; unlike = w.unlike; after = w.after })

abbrev pub end_of : (p : List ℕ) → code.Result Closed Answer → Result End
end_of p (Err a) = refused a
end_of p (Ok c) = accepted (record { rows = c.rows.0; unlike = c.unlike; after = fields_at p c.next })

-- A closed branch has fields.
abbrev pub Falls : (p : List ℕ) (at : ℕ) → code.Result Closed Answer → Type 0
Falls p at (Err a) = Unit {0}
Falls p at (Ok c) = unread_bytes p c.next < unread_bytes p at

-- R, which starts at a place, ends as r tells.
pub record Walks (R : Result Walked) (p : List ℕ) (at : ℕ) (r : code.Result Closed Answer) : Type 0 where
  pub is : ended R ≡ end_of p r
  pub falls : Falls p at r

-- ---- a branch's entries
abbrev pub walked_from : (e K : ℕ) (p : List ℕ) (at : ℕ) (here : Position) (rows : ℕ) (deeper : Option Walker) → Result Walked
walked_from e K p at here rows deeper = walk_entries (edition e) K here deeper (fields_at p at) rows false

-- They come to the row of that number at a, which opens branches.
pub record WalkComes (e K : ℕ) (p : List ℕ) (at : ℕ) (here : Position) (rows last : ℕ) (alike : Matching) (row a next : ℕ) : Type 0 where
  pub field : Field
  pub is : (deeper : Option Walker) → ended (walked_from e K p at here rows deeper) ≡ ended (walk_opened deeper (refusal_at here row a) row field (fields_at p next) last (alike_by alike))
  pub falls : unread_bytes p next < unread_bytes p at
  pub countable : Countable p next (row + 1)

abbrev pub StopsBy : (e K : ℕ) (p : List ℕ) (at : ℕ) (here : Position) (rows : ℕ) → code.Result Stop Answer → Type 0
StopsBy e K p at here rows (Err a) = (deeper : Option Walker) → Walks (walked_from e K p at here rows deeper) p at (Err a)
StopsBy e K p at here rows (Ok (Stop.Closes c)) = (deeper : Option Walker) → Walks (walked_from e K p at here rows deeper) p at (Ok c)
StopsBy e K p at here rows (Ok (Stop.Opens last alike row a next)) = WalkComes e K p at here rows last alike row.0 a next

pub record Stops (e K : ℕ) (p : List ℕ) (at : ℕ) (here : Position) (rows : ℕ) (r : code.Result Stop Answer) : Type 0 where
  pub by : StopsBy e K p at here rows r

-- ---- a branch, and the branches of a step
-- What walks the branches behind so many open steps.
abbrev pub deeper : (e K opened : ℕ) → Walker
deeper e K o = walk_branch (edition e) K (edition1.branchings - o)

abbrev pub WalksBranch : (e K : ℕ) (p : List ℕ) (at : ℕ) (here : Position) (rows opened : ℕ) → code.Result Closed Answer → Type 0
WalksBranch e K p at here rows o r = Walks (deeper e K o here rows (fields_at p at)) p at r

abbrev pub WalksBranches : (e K : ℕ) (p : List ℕ) (at step last : ℕ) → Matching → (opened : ℕ) → code.Result Closed Answer → Type 0
WalksBranches e K p at step last alike o r = Walks (walk_from (deeper e K o) step alike [] true 0 last (suc step) (fields_at p at)) p at r
