-- What the check gives moves with the places of the fields, each moved by its own number. Assumes nothing.
use mathlib.Core.Option.{Option, none, some}
use mathlib.Core.Bool.{Bool}
use mathlib.Core.List.{List}
use Prim.Native.Nat.{ℕ, zero, suc}
use Rattle.forms.specs.Edition.{Edition, edition}
use Rattle.forms.specs.Forms.{Form, Side, A, B, Line}
use Rattle.calculus.specs.Rules.{Row, Derive, Strengthen, CloseNumber, CloseStride, Round, Split, Inference, Combine, Reduce, Scale, Entry, row, claim}
use Rattle.answers.specs.declared.Answer.{Answer}
use Rattle.answers.specs.declared.Position.{Position}
use Rattle.answers.specs.Answers.{refusal_at, file_proof, Result, ◌>>=◌}
use Rattle.fields.specs.declared.FileKind.{FileKind}
use Rattle.fields.specs.Fields.{Field, Fields, ends, cut, ◌▸◌}
use Rattle.fields.proofs.Moved.{move_field, move, move_answer, Moved, Known, test-moved, computed, need-moved, found-moved, known-moved, bind-moved, then-moved, header-moved, finished-moved}
use Rattle.bundle.specs.Bundle.{Bundle}
use Rattle.proof.specs.Entries.{entry}
use Rattle.proof.specs.Rows.{line_at, derived, fitting, inequality, roundable, disequality, by_number, by_stride}
use Rattle.proof.specs.Check.{Closing, Checker, Following, there, check_rounded, check_split, check_row, check_entry, check_entries, check_branch, check_proof}

module _ (φ : ℕ → ℕ) where
  -- ---- entries and rows
  pub entry-moved : (e : Edition) (K : ℕ) (here : Position) (rows : ℕ) (made : Bool) (f : Field)
      → Moved φ (λ x. x) (entry e K (refusal_at here rows f.at) made f) (entry e K (refusal_at here rows (φ f.at)) made (move_field φ f))
  unfolding entry
  entry-moved e K here rows made f = need-moved _ _ (found-moved _ _ λ tagged. need-moved _ _ (need-moved _ _ computed))

  -- The refusals of a row, moved.
  module _ (refusal : ℕ → Answer) (ls : List Line) where
    abbrev elsewhere : ℕ → Answer
    elsewhere n = move_answer φ (refusal n)

    -- A line, and what is done with it.
    line_at-moved : {X Y : Type 0} {f : X → Y} (i : ℕ) {k : Line → Result X} {k' : Line → Result Y} → ((l : Line) → Moved φ f (k l) (k' l)) → Moved φ f (line_at refusal ls i >>= k) (line_at elsewhere ls i >>= k')
    unfolding line_at
    line_at-moved i e = found-moved _ _ e

    derived-moved : (s : Inference) → Moved φ (λ x. x) (derived refusal ls s) (derived elsewhere ls s)
    unfolding derived
    derived-moved (Combine i j α β) = line_at-moved i λ s. line_at-moved j λ t. need-moved _ _ (need-moved _ _ computed)
    derived-moved (Reduce i j α) = line_at-moved i λ s. line_at-moved j λ t. found-moved _ _ λ k. need-moved _ _ (need-moved _ _ computed)
    derived-moved (Scale i α) = line_at-moved i λ t. found-moved _ _ λ k. need-moved _ _ computed

    fitting-moved : (e : Edition) (l : Line) → Moved φ (λ x. x) (fitting refusal ls e l) (fitting elsewhere ls e l)
    unfolding fitting
    fitting-moved e l = need-moved _ _ (test-moved _ _)

    inequality-moved : (i : ℕ) → Moved φ (λ x. x) (inequality refusal ls i) (inequality elsewhere ls i)
    unfolding inequality
    inequality-moved i = line_at-moved i λ t. need-moved _ _ computed

    roundable-moved : (e : Edition) (i g k : ℕ) → Moved φ (λ x. x) (roundable refusal ls e i g k) (roundable elsewhere ls e i g k)
    unfolding roundable
    roundable-moved e i g k = bind-moved _ (inequality-moved i) λ t. need-moved _ _ (need-moved _ _ computed)

    disequality-moved : (i : ℕ) → Moved φ (λ x. x) (disequality refusal ls i) (disequality elsewhere ls i)
    unfolding disequality
    disequality-moved i = line_at-moved i λ t. found-moved _ _ λ σ. computed

    by_number-moved : (i : ℕ) → Moved φ (λ x. x) (by_number refusal ls i) (by_number elsewhere ls i)
    unfolding by_number
    by_number-moved i = line_at-moved i λ t. found-moved _ _ λ k. need-moved _ _ computed

    by_stride-moved : (i g : ℕ) → Moved φ (λ x. x) (by_stride refusal ls i g) (by_stride elsewhere ls i g)
    unfolding by_stride
    by_stride-moved i g = line_at-moved i λ t. need-moved _ _ (need-moved _ _ (need-moved _ _ computed))

  -- ---- branches
  abbrev move_closing : Closing → Closing
  move_closing c = record { formula = c.formula; rows = c.rows; after = move φ c.after }

  -- A checker that moves with its fields.
  abbrev Moves : Checker → Type 0
  Moves c = (here : Position) (rows : ℕ) (ls : List Line) (fs : Fields) → Moved φ move_closing (c here rows ls fs) (c here rows ls (move φ fs))

  check_rounded-moved : (branch : Checker) → Moves branch → (ls : List Line) (l : Line) (step g k j left rows : ℕ) (fs : Fields)
      → Moved φ move_closing (check_rounded branch ls l step g k j left rows fs) (check_rounded branch ls l step g k j left rows (move φ fs))
  unfolding check_rounded
  check_rounded-moved branch d ls l step g k j zero rows fs = bind-moved _ (d _ _ _ fs) λ own. computed
  check_rounded-moved branch d ls l step g k j (suc left) rows fs =
      bind-moved _ (d _ _ _ fs) λ own.
      bind-moved _ (check_rounded-moved branch d ls l step g k (suc j) left own.rows own.after) λ others. computed

  check_split-moved : (e : Edition) (refusal : ℕ → Answer) (branch : Checker) → Moves branch → (σ : Side) (ls : List Line) (t t_A : Form) (rows : ℕ) (fs : Fields)
      → Moved φ move_closing (check_split e refusal branch σ ls t t_A rows fs) (check_split e (λ n. move_answer φ (refusal n)) branch σ ls t t_A rows (move φ fs))
  unfolding check_split
  check_split-moved e refusal branch d A ls t t_A rows fs =
      then-moved (fitting-moved refusal ls e _) (then-moved (fitting-moved refusal ls e _) (bind-moved _ (d _ _ _ fs) λ first. bind-moved _ (d _ _ _ first.after) λ second. computed))
  check_split-moved e refusal branch d B ls t t_A rows fs =
      then-moved (fitting-moved refusal ls e _) (then-moved (fitting-moved refusal ls e _) (bind-moved _ (d _ _ _ fs) λ first. bind-moved _ (d _ _ _ first.after) λ second. computed))

  module _ (e : Edition) (K : ℕ) where
    module _ (here : Position) (deeper : Option Checker) (p : Known Moves deeper) (next next' : Following) (q : (rows : ℕ) (made : Option Line) (ls : List Line) → Moved φ move_closing (next rows made ls) (next' rows made ls)) where
      check_row-moved : (at rows : ℕ) (ls : List Line) (fs : Fields) (r : Row)
          → Moved φ move_closing (check_row e K deeper next (refusal_at here rows at) rows ls fs r) (check_row e K deeper next' (refusal_at here rows (φ at)) rows ls (move φ fs) r)
      unfolding check_row
      check_row-moved at rows ls fs (Derive s) =
          bind-moved _ (derived-moved (refusal_at here rows at) ls s) λ l.
          then-moved (fitting-moved (refusal_at here rows at) ls e l) (q _ _ _)
      check_row-moved at rows ls fs (Strengthen i) =
          bind-moved _ (inequality-moved (refusal_at here rows at) ls i) λ l.
          known-moved Moves _ deeper p λ branch d.
          then-moved (fitting-moved (refusal_at here rows at) ls e _)
          (bind-moved _ (d _ _ _ fs) λ first.
          bind-moved _ (d _ _ _ first.after) λ second.
          bind-moved _ (d _ _ _ second.after) λ third. computed)
      check_row-moved at rows ls fs (Round i g k) =
          bind-moved _ (roundable-moved (refusal_at here rows at) ls e i g k) λ l.
          known-moved Moves _ deeper p λ branch d.
          then-moved (fitting-moved (refusal_at here rows at) ls e _)
          (bind-moved _ (d _ _ _ fs) λ first.
          bind-moved _ (check_rounded-moved branch d ls l rows g k 0 _ first.rows first.after) λ others. computed)
      check_row-moved at rows ls fs (Split i) =
          bind-moved _ (disequality-moved (refusal_at here rows at) ls i) λ (σ, l).
          known-moved Moves _ deeper p λ branch d. check_split-moved e (refusal_at here rows at) branch d σ ls l.t l.t_A rows fs
      check_row-moved at rows ls fs (CloseNumber i) = bind-moved _ (by_number-moved (refusal_at here rows at) ls i) λ I. computed
      check_row-moved at rows ls fs (CloseStride i g) = bind-moved _ (by_stride-moved (refusal_at here rows at) ls i g) λ I. computed

      check_entry-moved : (at rows : ℕ) (made : Option Line) (ls : List Line) (fs : Fields) (x : Entry)
          → Moved φ move_closing (check_entry e K deeper next (refusal_at here rows at) rows made ls fs x) (check_entry e K deeper next' (refusal_at here rows (φ at)) rows made ls (move φ fs) x)
      unfolding check_entry
      check_entry-moved at rows made ls fs (row r) = need-moved _ _ (check_row-moved at rows ls fs r)
      check_entry-moved at rows made ls fs (claim t t_A) = found-moved _ made λ l. need-moved _ _ (q _ _ _)

    check_entries-moved : (here : Position) (deeper : Option Checker) → Known Moves deeper → (fs : Fields) (rows : ℕ) (made : Option Line) (ls : List Line)
        → Moved φ move_closing (check_entries e K here deeper fs rows made ls) (check_entries e K here deeper (move φ fs) rows made ls)
    unfolding check_entries
    check_entries-moved here deeper p (ends at) rows made ls = computed
    check_entries-moved here deeper p (cut at) rows made ls = computed
    check_entries-moved here deeper p (f ▸ fs) rows made ls =
        bind-moved _ (entry-moved e K here rows (there made) f) λ x.
        check_entry-moved here deeper p _ _ (check_entries-moved here deeper p fs) f.at rows made ls fs x

    check_branch-moved : (room : ℕ) → Moves (check_branch e K room)
    unfolding check_branch
    check_branch-moved zero here rows ls fs = check_entries-moved here none tt fs rows none ls
    check_branch-moved (suc room) here rows ls fs = check_entries-moved here (some (check_branch e K room)) (check_branch-moved room) fs rows none ls

  -- ---- the proof
  pub check_proof-moved : (newest : ℕ) (a b : Bundle) (fs : Fields) → Moved φ (λ x. x) (check_proof newest a b fs) (check_proof newest a b (move φ fs))
  unfolding check_proof
  check_proof-moved newest a b fs =
      bind-moved _ (header-moved FileKind.Proof file_proof newest (some a.K) fs) λ h.
      bind-moved _ (check_branch-moved (edition h.number) h.K (edition h.number).branchings _ _ _ h.rest) λ root.
      then-moved (finished-moved FileKind.Proof file_proof root.after) computed
