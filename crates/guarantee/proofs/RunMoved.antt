-- What a run gives moves with the places of the fields, if they keep their order: so of two refusals that of the lesser place stays so. Assumes nothing.
use mathlib.Core.Path.{◌≡◌, refl, sym, ap, ap₂, ◌∙◌}
use mathlib.Core.Option.{Option, none, some}
use mathlib.Core.Bool.{Bool, true, false, cond}
use mathlib.Core.List.{List}
use Prim.Native.Nat.{ℕ, zero, suc, ◌≤◌, ◌<◌}
use native.Mathlib.Omega.{arith}
use lib.Dec.{leb, eqb}
use lib.ListN.{length}
use borrow.Author.Tests.{le-leb, lt-leb, leb-true, leb-false}
use Rattle.forms.specs.Edition.{Edition, edition}
use Rattle.calculus.specs.Rules.{Row, Derive, Strengthen, CloseNumber, CloseStride, Round, Split, Entry, row, claim}
use Rattle.answers.specs.declared.Answer.{Answer}
use Rattle.answers.specs.declared.Position.{Position}
use Rattle.answers.specs.Answers.{refusal_at, file_proof, Result, refused, accepted}
use Rattle.fields.specs.declared.FileKind.{FileKind}
use Rattle.fields.specs.Fields.{Field, Fields, ends, cut, ◌▸◌, Item}
use Rattle.fields.proofs.Moved.{move_field, move, move_answer, Moved, Known, computed, need-moved, known-moved, bind-moved, header-moved}
use Rattle.proof.proofs.Moved.{entry-moved, check_proof-moved}
use Rattle.chains.specs.Runs.{Run, up_to, beyond}
use Rattle.run.specs.Uniform.{with_number, Walked, WalkedBranches, Walker, FollowingWalk, walk_branches, first_and_third, all_alike, walk_opened, walk_closed, walk_row, walk_entry, walk_entries, walk_branch, uniform}
use Rattle.run.specs.Run.{side, claim_refused, check_cut, both, check_cuts, check_run}

module _ (φ : ℕ → ℕ) where
  -- ---- the walk
  abbrev move_walked : Walked → Walked
  move_walked w = record { own = w.own; rows = w.rows; unlike = move_answer φ w.unlike; after = move φ w.after }

  abbrev move_branches : WalkedBranches → WalkedBranches
  move_branches w = record { owns = w.owns; rows = w.rows; unlike = move_answer φ w.unlike; after = move φ w.after }

  -- A walker that moves with its fields.
  abbrev Moves : Walker → Type 0
  Moves c = (here : Position) (rows : ℕ) (fs : Fields) → Moved φ move_walked (c here rows fs) (c here rows (move φ fs))

  walk_branches-moved : (walker : Walker) → Moves walker → (step b left rows : ℕ) (fs : Fields) → Moved φ move_branches (walk_branches walker step b left rows fs) (walk_branches walker step b left rows (move φ fs))
  unfolding walk_branches
  walk_branches-moved walker d step b zero rows fs = bind-moved _ (d _ _ fs) λ w. computed
  walk_branches-moved walker d step b (suc left) rows fs = bind-moved _ (d _ _ fs) λ w. bind-moved _ (walk_branches-moved walker d step (suc b) left w.rows w.after) λ ws. computed

  module _ (here : Position) (deeper : Option Walker) (p : Known Moves deeper) where
    walk_opened-moved : (rows : ℕ) (f : Field) (fs : Fields) (n : ℕ) (alike : List (List Item) → Bool)
        → Moved φ move_walked (walk_opened deeper (refusal_at here rows f.at) rows f fs n alike) (walk_opened deeper (refusal_at here rows (φ f.at)) rows (move_field φ f) (move φ fs) n alike)
    unfolding walk_opened
    walk_opened-moved rows f fs n alike = known-moved Moves _ deeper p λ walker d. bind-moved _ (walk_branches-moved walker d rows 0 n (suc rows) fs) λ ws. need-moved _ _ computed

    walk_closed-moved : (rows : ℕ) (f : Field) (fs : Fields) → Moved φ move_walked (walk_closed (refusal_at here rows f.at) rows f fs) (walk_closed (refusal_at here rows (φ f.at)) rows (move_field φ f) (move φ fs))
    unfolding walk_closed with_number
    walk_closed-moved rows f fs = record { equal = refl }

    module _ (next next' : FollowingWalk) (q : (rows : ℕ) (made : Bool) → Moved φ move_walked (next rows made) (next' rows made)) where
      walk_row-moved : (rows : ℕ) (f : Field) (fs : Fields) (r : Row)
          → Moved φ move_walked (walk_row deeper next (refusal_at here rows f.at) rows f fs r) (walk_row deeper next' (refusal_at here rows (φ f.at)) rows (move_field φ f) (move φ fs) r)
      unfolding walk_row
      walk_row-moved rows f fs (Derive s) = bind-moved _ (q _ _) λ w. computed
      walk_row-moved rows f fs (Strengthen i) = walk_opened-moved rows f fs 2 first_and_third
      walk_row-moved rows f fs (Round i g k) = walk_opened-moved rows f fs k all_alike
      walk_row-moved rows f fs (Split i) = walk_opened-moved rows f fs 1 (λ owns. true)
      walk_row-moved rows f fs (CloseNumber i) = walk_closed-moved rows f fs
      walk_row-moved rows f fs (CloseStride i g) = walk_closed-moved rows f fs

      walk_entry-moved : (rows : ℕ) (f : Field) (fs : Fields) (x : Entry)
          → Moved φ move_walked (walk_entry deeper next (refusal_at here rows f.at) rows f fs x) (walk_entry deeper next' (refusal_at here rows (φ f.at)) rows (move_field φ f) (move φ fs) x)
      unfolding walk_entry with_number
      walk_entry-moved rows f fs (row r) = walk_row-moved rows f fs r
      walk_entry-moved rows f fs (claim t t_A) = record { equal = refl }

  module _ (e : Edition) (K : ℕ) where
    walk_entries-moved : (here : Position) (deeper : Option Walker) → Known Moves deeper → (fs : Fields) (rows : ℕ) (made : Bool)
        → Moved φ move_walked (walk_entries e K here deeper fs rows made) (walk_entries e K here deeper (move φ fs) rows made)
    unfolding walk_entries
    walk_entries-moved here deeper p (ends at) rows made = computed
    walk_entries-moved here deeper p (cut at) rows made = computed
    walk_entries-moved here deeper p (f ▸ fs) rows made = bind-moved _ (entry-moved φ e K here rows made f) λ x. walk_entry-moved here deeper p _ _ (walk_entries-moved here deeper p fs) rows f fs x

    walk_branch-moved : (room : ℕ) → Moves (walk_branch e K room)
    unfolding walk_branch
    walk_branch-moved zero here rows fs = walk_entries-moved here none tt fs rows false
    walk_branch-moved (suc room) here rows fs = walk_entries-moved here (some (walk_branch e K room)) (walk_branch-moved room) fs rows false

  uniform-moved : (newest K : ℕ) (fs : Fields) → Moved φ move_walked (uniform newest K fs) (uniform newest K (move φ fs))
  unfolding uniform
  uniform-moved newest K fs = bind-moved _ (header-moved FileKind.Proof file_proof newest (some K) fs) λ h. walk_branch-moved (edition h.number) h.K (edition h.number).branchings _ _ h.rest

  -- ---- the cuts
  cond-moved : (b : Bool) (a : Answer) → move_answer φ (cond b (with_number 27 a) a) ≡ cond b (with_number 27 (move_answer φ a)) (move_answer φ a)
  unfolding with_number
  cond-moved true a = refl
  cond-moved false a = refl

  claim-moved : {X : Type 0} (r : Result X) {r' : Result X} → Moved φ (λ x. x) r r' → Moved φ (λ x. x) (claim_refused r) (claim_refused r')
  unfolding claim_refused
  claim-moved (refused a) d = record { equal = ap refused (cond-moved (eqb a.number 14) a) ∙ ap claim_refused d.equal }
  claim-moved (accepted x) d = record { equal = ap claim_refused d.equal }

  check_cut-moved : (newest K : ℕ) (Ts : Run) (fs : Fields) (i : ℕ) → Moved φ (λ x. x) (check_cut newest K Ts fs i) (check_cut newest K Ts (move φ fs) i)
  unfolding check_cut
  check_cut-moved newest K Ts fs i = claim-moved _ (check_proof-moved φ newest (side K (up_to Ts i)) (side K (beyond Ts i)) fs)

  pick : (b : Bool) (a c : Answer) → move_answer φ (cond b a c) ≡ cond b (move_answer φ a) (move_answer φ c)
  pick true a c = refl
  pick false a c = refl

  -- Moved so that they keep their order.
  module _ (up : (p q : ℕ) → p < q → φ p < φ q) where
    at-most : (p q : ℕ) → p ≤ q → φ p ≤ φ q
    at-most p q h = go (leb (suc p) q) refl
      where
        go : (b : Bool) → leb (suc p) q ≡ b → φ p ≤ φ q
        go true e = let l = leb-true (suc p) q e in omega (arith, up p q (omega arith))
        go false e =
            let l = leb-false (suc p) q e in
            let z : p ≡ q = omega arith in
            omega (arith, ap φ z)

    order : (p q : ℕ) → leb (φ p) (φ q) ≡ leb p q
    order p q = go (leb p q) refl
      where
        go : (b : Bool) → leb p q ≡ b → leb (φ p) (φ q) ≡ leb p q
        go true e = le-leb (φ p) (φ q) (at-most p q (leb-true p q e)) ∙ sym e
        go false e = lt-leb (φ p) (φ q) (up q p (leb-false p q e)) ∙ sym e

    both-moved : {X Y Z : Type 0} {g : Y → Z} (r : Result X) (s : Result Y) {r' : Result X} {s' : Result Z} → Moved φ (λ x. x) r r' → Moved φ g s s' → Moved φ (λ z. (z.0, g z.1)) (both r s) (both r' s')
    unfolding both
    both-moved (refused a) (refused b) d e = record {
      equal = ap refused (pick (leb a.place b.place) a b ∙ ap (λ (t : Bool). cond t (move_answer φ a) (move_answer φ b)) (sym (order a.place b.place))) ∙ ap₂ both d.equal e.equal;
    }
    both-moved (refused a) (accepted y) d e = record { equal = ap₂ both d.equal e.equal }
    both-moved (accepted x) (refused b) d e = record { equal = ap₂ both d.equal e.equal }
    both-moved (accepted x) (accepted y) d e = record { equal = ap₂ both d.equal e.equal }

    check_cuts-moved : (newest K : ℕ) (Ts : Run) (fs : Fields) (i n : ℕ) → Moved φ (λ x. x) (check_cuts newest K Ts fs i n) (check_cuts newest K Ts (move φ fs) i n)
    unfolding check_cuts
    check_cuts-moved newest K Ts fs i zero = bind-moved _ (check_cut-moved newest K Ts fs i) λ I. computed
    check_cuts-moved newest K Ts fs i (suc n) = bind-moved _ (both-moved _ _ (check_cut-moved newest K Ts fs i) (check_cuts-moved newest K Ts fs (suc i) n)) λ z. computed

    pub run_moved : (newest K : ℕ) (Ts : Run) (fs : Fields) → Moved φ (λ x. x) (check_run newest K Ts fs) (check_run newest K Ts (move φ fs))
    unfolding check_run
    run_moved newest K Ts fs = bind-moved _ (both-moved _ _ (check_cuts-moved newest K Ts fs 0 (length Ts)) (uniform-moved newest K fs)) λ z. computed
