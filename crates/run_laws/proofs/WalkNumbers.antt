-- Every refusal of the walk has a number that can come. Assumes nothing.
use mathlib.Core.Path.{◌≡◌, refl}
use mathlib.Core.Option.{Option, none, some}
use mathlib.Core.Bool.{Bool, true, false}
use mathlib.Core.List.{List}
use Prim.Native.Nat.{ℕ, zero, suc}
use lib.Dec.{T}
use Rattle.forms.specs.Edition.{Edition, edition}
use Rattle.calculus.specs.Rules.{Row, Derive, Strengthen, CloseNumber, CloseStride, Round, Split, Entry, row, claim}
use Rattle.answers.specs.declared.Answer.{Answer}
use Rattle.answers.specs.declared.Position.{Position}
use Rattle.answers.specs.Answers.{refusal_at, file_proof, accepted, found}
use Rattle.answers.proofs.Results.{given, Gives, gives-refused, gives-accepted, bind, test}
use Rattle.fields.specs.declared.FileKind.{FileKind}
use Rattle.fields.specs.Fields.{Field, Fields, ends, cut, ◌▸◌, Item}
use Rattle.fields.proofs.HeaderLaid.{header-gives}
use Rattle.proof.proofs.Entered.{entry_gives}
use Rattle.run.specs.Uniform.{with_number, Walked, WalkedBranches, Walker, FollowingWalk, walk_branches, first_and_third, all_alike, walk_opened, walk_closed, walk_row, walk_entry, walk_entries, walk_branch, uniform}

-- what a branch's last row would be refused by
abbrev Ends : Walked → Type 0
Ends w = w.unlike.number ≡ 28

abbrev AllEnd : WalkedBranches → Type 0
AllEnd ws = ws.unlike.number ≡ 28

abbrev Ending : Walker → Type 0
Ending walker = (here : Position) (rows : ℕ) (fs : Fields) → Gives (walker here rows fs) Ends

branches-end : {walker : Walker} → Ending walker → (at b left rows : ℕ) (fs : Fields) → Gives (walk_branches walker at b left rows fs) AllEnd
unfolding walk_branches
branches-end h at b zero rows fs = bind (h _ rows fs) λ w n. gives-accepted n
branches-end h at b (suc left) rows fs = bind (h _ rows fs) λ w n. bind (branches-end h at (suc b) left w.rows w.after) λ ws m. gives-accepted m

data Deep : Option Walker → Type 0 where
  shut : Deep none
  opens : {walker : Walker} → Ending walker → Deep (some walker)

opened : {deeper : Option Walker} (a : Answer) → T (given a.number) → Deep deeper → Gives (found a deeper) Ending
unfolding found
opened a t shut = gives-refused a t
opened a t (opens w) = gives-accepted w

given-28 : (a : Answer) → a.number ≡ 28 → T (given a.number)
given-28 a q = rw q tt

module _ (here : Position) (deeper : Option Walker) (deep : Deep deeper) (rows : ℕ) (f : Field) (fs : Fields) where
  opened-end : (n : ℕ) (alike : List (List Item) → Bool) → Gives (walk_opened deeper (refusal_at here rows f.at) rows f fs n alike) Ends
  unfolding walk_opened
  opened-end n alike = bind (opened _ tt deep) λ walker h. bind (branches-end h rows 0 n (suc rows) fs) λ ws m. test ws.unlike (alike ws.owns) (given-28 ws.unlike m) λ t. gives-accepted m

  module _ (next : FollowingWalk) (h : (rows : ℕ) (made : Bool) → Gives (next rows made) Ends) where
    row_ends : (r : Row) → Gives (walk_row deeper next (refusal_at here rows f.at) rows f fs r) Ends
    unfolding walk_row walk_closed with_number
    row_ends (Derive s) = bind (h (suc rows) _) λ w n. gives-accepted n
    row_ends (Strengthen i) = opened-end 2 first_and_third
    row_ends (Round i g k) = opened-end k all_alike
    row_ends (Split i) = opened-end 1 (λ owns. true)
    row_ends (CloseNumber i) = gives-accepted refl
    row_ends (CloseStride i g) = gives-accepted refl

    entry-ends : (x : Entry) → Gives (walk_entry deeper next (refusal_at here rows f.at) rows f fs x) Ends
    unfolding walk_entry with_number
    entry-ends (row r) = row_ends r
    entry-ends (claim t t_A) = gives-refused _ tt

module _ (e : Edition) (K : ℕ) where
  entries-end : (here : Position) (deeper : Option Walker) → Deep deeper → (fs : Fields) (rows : ℕ) (made : Bool) → Gives (walk_entries e K here deeper fs rows made) Ends
  unfolding walk_entries
  entries-end here deeper deep (ends at) rows made = gives-refused _ tt
  entries-end here deeper deep (cut at) rows made = gives-refused _ tt
  entries-end here deeper deep (f ▸ fs) rows made = bind (entry_gives e K here rows made f) λ x _. entry-ends here deeper deep rows f fs _ (entries-end here deeper deep fs) x

  branch-ends : (room : ℕ) → Ending (walk_branch e K room)
  unfolding walk_branch
  branch-ends zero here rows fs = entries-end here none shut fs rows false
  branch-ends (suc room) here rows fs = entries-end here (some (walk_branch e K room)) (opens (branch-ends room)) fs rows false

uniform-ends : (newest K : ℕ) (fs : Fields) → Gives (uniform newest K fs) Ends
unfolding uniform
uniform-ends newest K fs = bind (header-gives FileKind.Proof file_proof newest (some K) fs) λ h _. branch-ends (edition h.number) h.K _ _ 0 h.rest

-- The walk is what it is, and its refusals can come.
pub uniform-gives : (newest K : ℕ) (fs : Fields) → Gives (uniform newest K fs) (λ w. uniform newest K fs ≡ accepted w)
uniform-gives newest K fs = record { gives = λ w q. q; refusal = (uniform-ends newest K fs).refusal }
