-- The rows of a branch, counted and applied, and its claims: each way through a function. Assumes nothing.
use mathlib.Core.Path.{◌≡◌, refl, ◌∙◌}
use mathlib.Core.Bool.{Bool, true, false, cond}
use mathlib.Core.List.{List}
use mathlib.Core.Option.{some}
use Prim.Native.Nat.{ℕ, suc, ◌-◌, ◌≤◌}
use native.Mathlib.Numerals.{add-one}
use lib.ListN.{length}
use lib.IntN.{ℤ}
use borrow.Author.Tests.{lt-ltb, le-ltb}
use Rattle.std.specs.Prelude.{Some, None, Ok, Err}
use Rattle.std.specs.declared.result.Result as code
use Rattle.std.specs.Result.{IsErrAnd}
use Rattle.std.proofs.lemmas.Result.{err_from_is_err_and}
use Rattle.calculus.specs.Rules as rules
use Rattle.calculus.specs.Rules.{◌▷◌}
use Rattle.answers.specs.declared.refusals.Refusal.{Refusal}
use Rattle.answers.specs.declared.refusals.Refusal.TheVariants.{TooManyRows, WrongClaim}
use Rattle.answers.specs.Answers.{◌>>=◌, ◌>>◌, need, found}
use Rattle.proof.specs.Check.{there, check_row, check_entry}
use Rattle.lines.proofs.Parts.{agree-sym}
use Rattle.lines.specs.Buffer.{lines_in}
use Rattle.lines.proofs.Lines.{lines_more}
use Rattle.lines.proofs.Keeping.{kept_refl}
use Rattle.tally.specs.Tally.{row_counted}
use Rattle.tally.specs.declared.Tally.{Tally}
use Rattle.tally.proofs.Counted.{counted-row, full-row}
use Rattle.entries.specs.Entries.{stated, Entered}
use Rattle.entries.specs.declared.Entry.{Entry}
use Rattle.rows.specs.Rows.{Derives}
use Rattle.rows.specs.Claims.{Claimed}
use Rattle.steps.specs.Steps.{EntryChecked, SameChecked, last_made, field_checked, row_checked, row_left, Steps, Advances}
use Rattle.steps.specs.declared.Stepped.{Stepped}
use Rattle.steps.specs.declared.Stepped.TheVariants.{Made, Strengthens, ClosesNumber, ClosesStride, Rounds, Splits}
use Rattle.forms.specs.Edition.{edition}

pub there-made : (made : Bool) (K : ℕ) (kinds : List ℕ) (buf : List ℤ) (n : ℕ) → there (last_made made K kinds buf n) ≡ made
there-made true K kinds buf n = refl
there-made false K kinds buf n = refl

same-trans : {f g h : EntryChecked} → SameChecked f g → SameChecked g h → SameChecked f h
same-trans a b = record { is = λ deeper next refusal fs. a.is deeper next refusal fs ∙ b.is deeper next refusal fs }

-- ---- a row, counted and applied
module _ (K : ℕ) (kinds : List ℕ) (buf : List ℤ) (t : Tally) (row : rules.Row) where
  pub row-full : None ≡ row_counted t → Steps (row_checked K kinds buf t row) K kinds buf t kinds buf (Err TooManyRows)
  unfolding ◌>>◌ need
  row-full h = record { kept = kept_refl; by = record { is = λ deeper next refusal fs. rw (le-ltb t.rows.0 1024 (full-row t h)) } }

  pub row-counted : {u : Tally} → Some u ≡ row_counted t → SameChecked (row_checked K kinds buf t row) (row_left K kinds buf t row)
  unfolding ◌>>◌ need
  row-counted h = record { is = λ deeper next refusal fs. rw (lt-ltb t.rows.0 1024 (counted-row h).0) }

-- a row that makes a line, by what `combine`, `reduce` or `scale` answers
module _ {K : ℕ} {kinds : List ℕ} {buf : List ℤ} (t : Tally) {s : rules.Inference} {u : Tally} (h : Some u ≡ row_counted t) {kinds' : List ℕ} {buf' : List ℤ} where
  pub row-refused : {y : Refusal} → Derives K kinds buf u s kinds' buf' (Err y) → Steps (row_checked K kinds buf t (rules.Derive s)) K kinds buf t kinds' buf' (Err y)
  unfolding check_row
  row-refused d =
      let a = rw (counted-row h).1 at d in
      record {
        kept = a.kept;
        by = same-trans (row-counted K kinds buf t (rules.Derive s) h) (record { is = λ deeper next refusal fs. a.by refusal (λ l. next (suc t.rows.0) (some l) (lines_in K kinds buf t.lines.0 ▷ l)) });
      }

  pub row-made : {t' : Tally} → Derives K kinds buf u s kinds' buf' (Ok t') → Steps (row_checked K kinds buf t (rules.Derive s)) K kinds buf t kinds' buf' (Ok (Stepped.Made t'))
  unfolding check_row
  row-made d =
      let a = rw (counted-row h).1 at d in
      record {
        kept = a.kept;
        by = (
          same-trans (row-counted K kinds buf t (rules.Derive s) h)
              (record {
                is = λ deeper next refusal fs.
                    a.by.0 refusal (λ l. next (suc t.rows.0) (some l) (lines_in K kinds buf t.lines.0 ▷ l))
                    ∙ rw (add-one, add-one, lines_more K t.lines.0 (agree-sym a.kept.lines_same) (agree-sym a.kept.kinds_same));
              }),
          a.by.1,
          a.by.2,
        );
      }

-- ---- the field of a branch, by its entry
pub steps-same : {f g : EntryChecked} {K : ℕ} {kinds : List ℕ} {buf : List ℤ} {t : Tally} {kinds' : List ℕ} {buf' : List ℤ} (r : code.Result Stepped Refusal)
    → SameChecked f g → Steps g K kinds buf t kinds' buf' r → Steps f K kinds buf t kinds' buf' r
steps-same (Err x) a s = record { kept = s.kept; by = same-trans a s.by }
steps-same (Ok (Made u)) a s = record { kept = s.kept; by = (same-trans a s.by.0, s.by.1, s.by.2) }
steps-same (Ok Stepped.Claimed) a s = record { kept = s.kept; by = same-trans a s.by }
steps-same (Ok (Strengthens u i)) a s = record { kept = s.kept; by = (same-trans a s.by.0, s.by.1) }
steps-same (Ok (ClosesNumber u i)) a s = record { kept = s.kept; by = (same-trans a s.by.0, s.by.1) }
steps-same (Ok (ClosesStride u i g)) a s = record { kept = s.kept; by = (same-trans a s.by.0, s.by.1) }
steps-same (Ok (Rounds u i g by)) a s = record { kept = s.kept; by = (same-trans a s.by.0, s.by.1) }
steps-same (Ok (Splits u i)) a s = record { kept = s.kept; by = (same-trans a s.by.0, s.by.1) }

advances : (e : ℕ) {len : ℕ} → (edition e).line_width ≤ len → (r : code.Result Stepped Refusal) → Advances e len r
advances e h (Err x) = tt
advances e h (Ok s) = h

module _ {K : ℕ} {kinds : List ℕ} {buf : List ℤ} (t : Tally) {bs : List ℕ} {tag : ℕ} {made : Bool} where
  pub step-refused : {x : Refusal} → Entered t.edition K bs tag made (Err x) → Steps (field_checked K kinds buf t made tag bs) K kinds buf t kinds buf (Err x)
  unfolding ◌>>=◌
  step-refused e = record { kept = kept_refl; by = record { is = λ deeper next refusal fs. rw (e.is refusal 0) } }

  -- a row is checked as the row that its field states
  pub step_row : {x : Entry} → Entered t.edition K bs tag made (Ok x) → {row : rules.Row} → stated K bs x ≡ rules.row row → {kinds' : List ℕ} {buf' : List ℤ} {r : code.Result Stepped Refusal}
      → Steps (row_checked K kinds buf t row) K kinds buf t kinds' buf' r → Steps (field_checked K kinds buf t made tag bs) K kinds buf t kinds' buf' r × Advances t.edition (length bs) r
  unfolding ◌>>=◌ check_entry
  step_row e q {r = r} s = (steps-same r (record { is = λ deeper next refusal fs. rw (e.is refusal 0, q) }) s, advances t.edition e.filled r)

  -- a row that is not counted, and one that makes no line, by what `?` returns
  pub uncounted : {x : Entry} → Entered t.edition K bs tag made (Ok x) → {row : rules.Row} → stated K bs x ≡ rules.row row → {u : Tally} {y : Refusal} → (y ≡ TooManyRows) × (None ≡ row_counted t) × (u ≡ t)
      → {r : code.Result Stepped Refusal} → IsErrAnd r (λ z. z ≡ y) → Steps (field_checked K kinds buf t made tag bs) K kinds buf t kinds buf r
  uncounted e {row} q h {r} is =
      let p = err_from_is_err_and r is in
      rw (p.1, p.2, h.0) (step_row e q (row-full K kinds buf t row h.1)).0

  pub underived : {x : Entry} → Entered t.edition K bs tag made (Ok x) → {s : rules.Inference} → stated K bs x ≡ rules.row (rules.Derive s) → {u : Tally} → Some u ≡ row_counted t
      → {kinds' : List ℕ} {buf' : List ℤ} {y : Refusal} → Derives K kinds buf u s kinds' buf' (Err y) → {r : code.Result Stepped Refusal} → IsErrAnd r (λ z. z ≡ y)
      → Steps (field_checked K kinds buf t made tag bs) K kinds buf t kinds' buf' r
  underived e q h d {r} is =
      let p = err_from_is_err_and r is in
      rw (p.1, p.2) (step_row e q (row-refused t h d)).0

  -- a claim, of the line made last, stands or is refused by whether it states that line
  pub step-claim : Entered t.edition K bs tag made (Ok Entry.Claim) → {n : ℕ} → n ≡ t.lines.0 - 1 → {b : Bool} → Claimed K bs buf n b → {r : code.Result Stepped Refusal} → r ≡ cond b (Ok Stepped.Claimed) (Err WrongClaim)
      → Steps (field_checked K kinds buf t made tag bs) K kinds buf t kinds buf r × Advances t.edition (length bs) r
  unfolding check_entry ◌>>=◌ ◌>>◌ need found
  step-claim e en {b = true} c er = rw er (record { kept = kept_refl; by = record { is = λ deeper next refusal fs. rw (e.is refusal 0, e.ranged.0, ← en, c.is kinds) } }, e.filled)
  step-claim e en {b = false} c er = rw er (record { kept = kept_refl; by = record { is = λ deeper next refusal fs. rw (e.is refusal 0, e.ranged.0, ← en, c.is kinds) } }, tt)
