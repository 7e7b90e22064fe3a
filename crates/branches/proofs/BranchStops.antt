-- What `check_branch` makes of where its entries stop: each way as a lemma over plain values. Assumes nothing.
use mathlib.Core.Path.{◌≡◌, refl, sym, ap, ◌∙◌}
use mathlib.Core.List.{List}
use mathlib.Core.Option.{Option, none}
use Prim.Native.Nat.{ℕ, zero, suc, ◌-◌, ◌≤◌}
use native.Mathlib.Omega.{arith}
use lib.IntN.{ℤ}
use Rattle.forms.specs.Edition.{edition}
use Rattle.forms.specs.Forms.{Line, Formula}
use Rattle.forms.specs.declared.RowNumber.{RowNumber}
use Rattle.calculus.specs.Rules as rules
use Rattle.answers.specs.declared.Answer.{Answer}
use Rattle.answers.specs.declared.Position.{Position}
use Rattle.answers.specs.Answers.{refusal_at, Result, accepted, refused, ◌>>=◌}
use Rattle.fields.specs.Fields.{Fields}
use Rattle.fields.specs.Places.{fields_at}
use Rattle.formula_write.specs.Writing.{scratch_limit}
use Rattle.proof.specs.Rows.{by_number, by_stride}
use Rattle.proof.specs.Check.{Checker, check_row, check_entries, check_branch}
use Rattle.lines.specs.Buffer.{lines_in}
use Rattle.lines.specs.Ready.{Ready, LinesKept}
use Rattle.lines.proofs.Keeping.{kept_trans}
use Rattle.tally.specs.Tally.{returned_to}
use Rattle.tally.specs.declared.Tally.{Tally}
use Rattle.std.specs.Prelude.{Ok, Err}
use Rattle.std.specs.declared.result.Result as code
use Rattle.std.specs.Result.{MatchResult, IsErrAnd}
use Rattle.answers.specs.declared.refusals.Refusal.{Refusal}
use Rattle.answers.specs.Refusals.{fault, number_of}
use Rattle.closes.specs.Ends.{End, EndedBy}
use Rattle.openings.specs.Opening.{Opening, below, Branching, row_opened, RowOpens}
use Rattle.branches.specs.Branches.{entries_from, Comes, row_of, Stopped}
use Rattle.branches.specs.Branching.{refused_row, closed_by, Started, ChecksBranch}
use Rattle.branches.specs.declared.branch.BranchFault.{BranchFault}
use Rattle.branches.specs.declared.branch.Ending.{Ending}
use Rattle.branches.specs.declared.branch.Stop.{Stop}

-- What another function refuses, as the branch tells it.
abbrev pub Told : {T E : Type 0} → (of : E → BranchFault) → code.Result T E → code.Result T BranchFault → Type 0
Told of r s = MatchResult r (λ x. s ≡ Ok x) (λ e. IsErrAnd s (λ f. f ≡ of e))

pub told-ok : {T E : Type 0} (of : E → BranchFault) (r : code.Result T E) {s : code.Result T BranchFault} → Told of r s → {x : T} → s ≡ Ok x → r ≡ Ok x
told-ok of (Ok y) h {x} e =
    let z = sym h ∙ e in
    let q : y ≡ x = cc in
    ap Ok q
told-ok of (Err w) h e = absurd (rw e at h)

pub told-err : {T E : Type 0} (of : E → BranchFault) (r : code.Result T E) {s : code.Result T BranchFault} → Told of r s → {f : BranchFault} → s ≡ Err f → (w : E) × (r ≡ Err w) × (f ≡ of w)
told-err of (Ok y) h e = absurd (let z = sym h ∙ e in cc)
told-err of (Err w) h e = (w, refl, rw e at h)

pub started-room : {K : ℕ} {kinds : List ℕ} {buf : List ℤ} {t : Tally} {p : List ℕ} {at o : ℕ} → Started K kinds buf t p at o → o ≤ scratch_limit
started-room s = omega (arith, s.room)

-- A branch is its entries.
pub branch-entries : (e K : ℕ) (room : ℕ) (here : Position) (rows : ℕ) (ls : List Line) (fs : Fields)
    → check_branch (edition e) K room here rows ls fs ≡ check_entries (edition e) K here (below e K room) fs rows none ls
unfolding check_branch
branch-entries e K zero here rows ls fs = refl
branch-entries e K (suc room) here rows ls fs = refl

module _ {K : ℕ} {p : List ℕ} {at : ℕ} {kinds : List ℕ} {buf : List ℤ} {t : Tally} {kinds' : List ℕ} {buf' : List ℤ} where
  -- Entries that are refused at the branch's own position, whatever they are at another.
  pub refused-here : (here : Position) {f : BranchFault} (scratch : List ℕ) (o : ℕ) → LinesKept K t.lines.0 kinds buf kinds' buf'
      → ((deeper : Option Checker) → entries_from K p at kinds buf t here deeper ≡ refused (refusal_at f.position f.rows.0 f.fault.place (number_of f.fault.refusal)))
      → ChecksBranch K p at here kinds buf t scratch o kinds' buf' scratch (Err f)
  refused-here here scratch o kept by = record {
    kept = kept;
    long = refl;
    by = branch-entries t.edition K (32 - t.«open») here _ _ _ ∙ by (below t.edition K (32 - t.«open»));
  }

  module _ {here : Position} where
    pub stopped-fault : {f : BranchFault} (scratch : List ℕ) (o : ℕ) → Stopped K p at here kinds buf t kinds' buf' (Err f) → ChecksBranch K p at here kinds buf t scratch o kinds' buf' scratch (Err f)
    stopped-fault scratch o s = refused-here here scratch o s.kept (λ deeper. rw s.by.0 (s.by.1 here deeper))

    -- The row that the entries come to.
    module _ {s : Stop} (stop : Stopped K p at here kinds buf t kinds' buf' (Ok s)) {d : Ending} (e : s.ending ≡ d) where
      pub stop-comes : Comes K p at kinds buf t kinds' buf' (row_of d s.t.0) s.row.0 s.at s.next s.tally
      stop-comes = rw e at stop.by

  module _ {row : rules.Row} {number a next : ℕ} {u : Tally} (m : Comes K p at kinds buf t kinds' buf' row number a next u) where
    -- The row that the entries come to.
    pub comes-row : (here : Position) → check_branch (edition t.edition) K (32 - t.«open») here t.rows.0 (lines_in K kinds buf t.lines.0) (fields_at p at)
        ≡ check_row (edition t.edition) K (below t.edition K (32 - t.«open»)) (check_entries (edition t.edition) K here (below t.edition K (32 - t.«open»)) (fields_at p next)) (refusal_at here number a) number (lines_in K kinds' buf' u.lines.0) (fields_at p next) row
    comes-row here = branch-entries t.edition K (32 - t.«open») here t.rows.0 (lines_in K kinds buf t.lines.0) (fields_at p at) ∙ m.is here (below t.edition K (32 - t.«open»))

    pub comes-ready : Ready u.edition K kinds' buf' u.lines.0
    comes-ready = rw m.edition_is m.ready

  -- ---- a row that closes the branch
  -- `row` gives the formula that f gives.
  module _ (here : Position) {row : rules.Row} (number : RowNumber) {a next : ℕ} {u : Tally} (m : Comes K p at kinds buf t kinds' buf' row number.0 a next u) (k : LinesKept K t.lines.0 kinds buf kinds' buf')
      (f : (ℕ → Answer) → Result Formula)
      (row_is : check_row (edition t.edition) K (below t.edition K (32 - t.«open»)) (check_entries (edition t.edition) K here (below t.edition K (32 - t.«open»)) (fields_at p next)) (refusal_at here number.0 a) number.0 (lines_in K kinds' buf' u.lines.0) (fields_at p next) row
      ≡ (f (refusal_at here number.0 a) >>= λ I. accepted (record { formula = I; rows = suc number.0; after = fields_at p next }))) where
    row-refused : (scratch : List ℕ) (o : ℕ) (scratch' : List ℕ) {w : Refusal} → EndedBy f scratch o scratch' (Err w)
        → ChecksBranch K p at here kinds buf t scratch o kinds' buf' scratch' (Err (record { fault = fault w a; rows = number; position = here }))
    unfolding ◌>>=◌
    row-refused scratch o scratch' w = record { kept = k; long = w.1; by = comes-row m here ∙ row_is ∙ rw (w.0 (refusal_at here number.0 a)) }

    row-closed : (scratch : List ℕ) (o : ℕ) (scratch' : List ℕ) {o' : ℕ} → EndedBy f scratch o scratch' (Ok o')
        → ChecksBranch K p at here kinds buf t scratch o kinds' buf' scratch' (Ok (record { at = next; o = o'; tally = returned_to u t }))
    unfolding ◌>>=◌
    row-closed scratch o scratch' w =
        let q : suc number.0 ≡ u.rows.0 = omega (arith, m.rows_is) in
        record {
          kept = k;
          long = w.puts.long;
          by = record {
            formula = w.formula;
            is = comes-row m here ∙ row_is ∙ rw (w.is (refusal_at here number.0 a), q);
            o_is = w.puts.o_is;
            stored = w.puts.stored;
            within = omega (arith, w.short, m.unread);
            unread = omega (arith, m.unread);
            lines_is = refl;
            open_is = refl;
            edition_is = refl;
          };
        }

  module _ {here : Position} {s : Stop} (stop : Stopped K p at here kinds buf t kinds' buf' (Ok s)) {scratch : List ℕ} {o : ℕ} {scratch' : List ℕ} {e : End} where
    module _ (q : s.ending ≡ Ending.ClosesNumber) (w : EndedBy (λ refusal. by_number refusal (lines_in K kinds' buf' s.tally.lines.0) s.t.0) scratch o scratch' e) where
      pub number-refused : {f : BranchFault} → (x : Refusal) × (e ≡ Err x) × (f ≡ refused_row s here x) → ChecksBranch K p at here kinds buf t scratch o kinds' buf' scratch' (Err f)
      unfolding check_row
      number-refused (x, y, z) = rw z (row-refused here s.row (stop-comes stop q) stop.kept (λ refusal. by_number refusal (lines_in K kinds' buf' s.tally.lines.0) s.t.0) refl scratch o scratch' (rw y at w))

      pub number-closed : {o' : ℕ} → e ≡ Ok o' → ChecksBranch K p at here kinds buf t scratch o kinds' buf' scratch' (Ok (closed_by s o' t))
      unfolding check_row
      number-closed y = row-closed here s.row (stop-comes stop q) stop.kept (λ refusal. by_number refusal (lines_in K kinds' buf' s.tally.lines.0) s.t.0) refl scratch o scratch' (rw y at w)

    module _ {g : ℕ} (q : s.ending ≡ Ending.ClosesStride g) (w : EndedBy (λ refusal. by_stride refusal (lines_in K kinds' buf' s.tally.lines.0) s.t.0 g) scratch o scratch' e) where
      pub stride-refused : {f : BranchFault} → (x : Refusal) × (e ≡ Err x) × (f ≡ refused_row s here x) → ChecksBranch K p at here kinds buf t scratch o kinds' buf' scratch' (Err f)
      unfolding check_row
      stride-refused (x, y, z) = rw z (row-refused here s.row (stop-comes stop q) stop.kept (λ refusal. by_stride refusal (lines_in K kinds' buf' s.tally.lines.0) s.t.0 g) refl scratch o scratch' (rw y at w))

      pub stride-closed : {o' : ℕ} → e ≡ Ok o' → ChecksBranch K p at here kinds buf t scratch o kinds' buf' scratch' (Ok (closed_by s o' t))
      unfolding check_row
      stride-closed y = row-closed here s.row (stop-comes stop q) stop.kept (λ refusal. by_stride refusal (lines_in K kinds' buf' s.tally.lines.0) s.t.0 g) refl scratch o scratch' (rw y at w)

  -- ---- a row that opens branches
  module _ (here : Position) {row : rules.Row} {number a next : ℕ} {u : Tally} (m : Comes K p at kinds buf t kinds' buf' row number a next u) (k : LinesKept K t.lines.0 kinds buf kinds' buf') where
    pub comes-opened : check_branch (edition t.edition) K (32 - t.«open») here t.rows.0 (lines_in K kinds buf t.lines.0) (fields_at p at)
        ≡ row_opened K kinds' buf' u row (check_entries (edition t.edition) K here (below t.edition K (32 - t.«open»)) (fields_at p next)) (refusal_at here number a) number (fields_at p next)
    comes-opened = comes-row m here ∙ rw (← m.open_is, ← m.edition_is)

    pub opens-refused : {branching : Branching} {i x y : ℕ} {r : Opening} {f : BranchFault} {row_number : RowNumber} {kinds'' : List ℕ} {buf'' : List ℤ} (scratch : List ℕ) (o : ℕ) → RowOpens row branching K kinds' buf' u i x y kinds'' buf'' r
        → (w : Refusal) × (r ≡ Err w) × (f ≡ record { fault = fault w a; rows = row_number; position = here }) → row_number.0 ≡ number → ChecksBranch K p at here kinds buf t scratch o kinds'' buf'' scratch (Err f)
    opens-refused scratch o s (w, e, ef) ey = rw ef (record {
      kept = kept_trans m.from k s.kept;
      long = refl;
      by = rw ey (comes-opened ∙ (rw e at s).by _ (refusal_at here number a) number (fields_at p next));
    })
