-- The loop of `entries`, its invariant `Going` and its turns: what is left gives the same result. Assumes nothing.
use mathlib.Core.Path.{◌≡◌, refl, subst, ◌∙◌}
use mathlib.Core.Bool.{Bool, true, false}
use mathlib.Core.List.{List}
use mathlib.Core.Option.{Option}
use Prim.Native.Nat.{ℕ, suc, ◌+◌, ◌-◌, ◌≤◌}
use native.Mathlib.Omega.{arith}
use lib.ListN.{length, take, drop, length-drop}
use lib.Seq.{length-take-le}
use lib.IntN.{ℤ}
use Rattle.forms.specs.Edition.{edition}
use Rattle.forms.proofs.Editions.{line_width-some}
use Rattle.forms.specs.declared.LineNumber.{LineNumber}
use Rattle.calculus.specs.Rules as rules
use Rattle.answers.specs.declared.Position.{Position}
use Rattle.answers.specs.Answers.{refusal_at, Result}
use Rattle.fields.specs.declared.End.{End}
use Rattle.fields.specs.declared.WholeField.{WholeField}
use Rattle.fields.specs.Places.{fields_at, unread_bytes, next_of}
use Rattle.fields.proofs.Places.{Starts, starts-less, next-cut, next-ends}
use Rattle.proof.specs.Entries.{entry}
use Rattle.proof.specs.Check.{Closing, Checker, check_entries}
use Rattle.lines.proofs.Parts.{agree-sym}
use Rattle.lines.proofs.Lines.{lines_same}
use Rattle.lines.specs.Buffer.{lines_in}
use Rattle.lines.proofs.Keeping.{kept_refl, ready-more, ready-kept, kept_trans}
use Rattle.lines.specs.Ready.{Ready, LinesKept}
use Rattle.tally.specs.Tally.{more_rows}
use Rattle.tally.specs.declared.Tally.{Tally}
use Rattle.steps.specs.Steps.{SameChecked, row_left, last_made, field_checked, Steps, Advances}
use Rattle.steps.proofs.Stepping.{there-made}
use Rattle.std.specs.declared.result.Result as code
use Rattle.std.specs.Prelude.{Ok, Err}
use Rattle.answers.specs.declared.refusals.Refusal.{Refusal}
use Rattle.answers.specs.Refusals.{fault}
use Rattle.steps.specs.declared.Stepped.{Stepped}
use Rattle.steps.specs.declared.Stepped.TheVariants.{Made, Claimed, Strengthens, ClosesNumber, ClosesStride, Rounds, Splits}
use Rattle.branches.specs.Spare.{lines_left, Spare}
use Rattle.branches.specs.Branches.{entries_from, Comes, row_of, unclosed, Stopped}
use Rattle.branches.specs.declared.branch.BranchFault.{BranchFault}
use Rattle.branches.specs.declared.branch.Ending.{Ending}
use Rattle.branches.proofs.Spare.{lines-fewer, lines-starts, spare-less}

-- The entries from a place on, in the middle of a branch.
abbrev entries_at : (K : ℕ) (p : List ℕ) (place : ℕ) (kinds : List ℕ) (buf : List ℤ) (t : Tally) (made : Bool) (here : Position) (deeper : Option Checker) → Result Closing
entries_at K p place kinds buf t made here deeper =
    check_entries (edition t.edition) K here deeper (fields_at p place) t.rows.0 (last_made made K kinds buf t.lines.0) (lines_in K kinds buf t.lines.0)

pub record Going (K : ℕ) (p : List ℕ) (at : ℕ) (kinds₀ : List ℕ) (buf₀ : List ℤ) (t₀ : Tally) (kinds : List ℕ) (buf : List ℤ) (place : ℕ) (t : Tally) (made : Bool) : Type 0 where
  pub same : (here : Position) (deeper : Option Checker) → entries_from K p at kinds₀ buf₀ t₀ here deeper ≡ entries_at K p place kinds buf t made here deeper
  pub kept : LinesKept K t₀.lines.0 kinds₀ buf₀ kinds buf
  pub ready : Ready t.edition K kinds buf t.lines.0
  pub from : t₀.lines.0 ≤ t.lines.0
  pub open_is : t.«open» ≡ t₀.«open»
  pub edition_is : t.edition ≡ t₀.edition
  pub made_one : made ≡ true → 1 ≤ t.lines.0
  pub few : t.lines.0 + lines_left t₀.edition p place ≤ t₀.lines.0 + lines_left t₀.edition p at
  pub spare : Spare t.edition K (t₀.lines.0 + lines_left t₀.edition p at) kinds buf
  pub unread : unread_bytes p place ≤ unread_bytes p at

module _ {K : ℕ} {p : List ℕ} {at : ℕ} {kinds₀ : List ℕ} {buf₀ : List ℤ} {t₀ : Tally} {kinds : List ℕ} {buf : List ℤ} {place : ℕ} {t : Tally} {made : Bool}
    (g : Going K p at kinds₀ buf₀ t₀ kinds buf place t made) where
  going_end : (here : Position) {r : code.Result WholeField End} → r ≡ next_of (fields_at p place) → (e : End) → r ≡ Err e → Stopped K p at here kinds₀ buf₀ t₀ kinds buf (Err (unclosed e t.rows here))
  unfolding check_entries
  going_end here n (End.Cut a) e = record { kept = g.kept; by = (refl, λ other deeper. g.same other deeper ∙ rw (next-cut (fields_at p place) n e)) }
  going_end here n (End.Ends a) e = record { kept = g.kept; by = (refl, λ other deeper. g.same other deeper ∙ rw (next-ends (fields_at p place) n e)) }

  pub going-end : (here : Position) {r : code.Result WholeField End} → r ≡ next_of (fields_at p place) → {f : BranchFault} → (e : End) × (r ≡ Err e) × (f ≡ unclosed e t.rows here) → Stopped K p at here kinds₀ buf₀ t₀ kinds buf (Err f)
  going-end here n (e, y, z) = rw z (going_end here n e y)

  module _ {a tag start len next : ℕ} (s : Starts p place a tag start len next) {kinds' : List ℕ} {buf' : List ℤ} {r : code.Result Stepped Refusal}
      (given : Steps (field_checked K kinds buf t made tag (take (start + len - start) (drop start p))) K kinds buf t kinds' buf' r) (far : Advances t.edition (length (take (start + len - start) (drop start p))) r) where
    x : Steps (field_checked K kinds buf t made tag (take len (drop start p))) K kinds buf t kinds' buf' r
    x =
        let size : start + len - start ≡ len = omega arith in
        subst (λ (m : ℕ). Steps (field_checked K kinds buf t made tag (take m (drop start p))) K kinds buf t kinds' buf' r) size given

    long : Advances t.edition len r
    long =
        let size : start + len - start ≡ len = omega arith in
        subst (λ (m : ℕ). Advances t.edition m r) (length-take-le (start + len - start) (drop start p) (rw length-drop (omega (arith, s.next-is, s.upto))) ∙ size) far

    -- the field that stands next, and what follows it
    field_is : (here : Position) (deeper : Option Checker) → entries_from K p at kinds₀ buf₀ t₀ here deeper
        ≡ field_checked K kinds buf t made tag (take len (drop start p)) deeper (check_entries (edition t.edition) K here deeper (fields_at p next)) (refusal_at here t.rows.0 a) (fields_at p next)
    unfolding check_entries entry
    field_is here deeper = g.same here deeper ∙ rw (s.is, there-made made K kinds buf t.lines.0)

    all-kept : LinesKept K t₀.lines.0 kinds₀ buf₀ kinds' buf'
    all-kept = kept_trans g.from g.kept x.kept

    by-same : {f : _} → SameChecked (field_checked K kinds buf t made tag (take len (drop start p))) f → (here : Position) (deeper : Option Checker)
        → entries_from K p at kinds₀ buf₀ t₀ here deeper ≡ f deeper (check_entries (edition t.edition) K here deeper (fields_at p next)) (refusal_at here t.rows.0 a) (fields_at p next)
    by-same q here deeper = field_is here deeper ∙ q.is deeper (check_entries (edition t.edition) K here deeper (fields_at p next)) (refusal_at here t.rows.0 a) (fields_at p next)

    pub going-refused : (here : Position) {w : Refusal} → r ≡ Err w → Stopped K p at here kinds₀ buf₀ t₀ kinds' buf' (Err (record { fault = fault w a; rows = t.rows; position = here }))
    going-refused here e = let y = rw e at x in record { kept = all-kept; by = (refl, by-same y.by) }

    spare-kept : Spare t.edition K (t₀.lines.0 + lines_left t₀.edition p at) kinds' buf'
    spare-kept = spare-less (omega arith) x.kept.kinds_length x.kept.lines_length g.spare

    one_less : (edition t.edition).line_width ≤ len → suc (lines_left t₀.edition p next) ≤ lines_left t₀.edition p place
    one_less l = lines-starts t₀.edition s (rw g.edition_is at l)

    pub going-made : {u : Tally} → r ≡ Ok (Made u) → Going K p at kinds₀ buf₀ t₀ kinds' buf' next u true
    going-made e =
        let y = rw e at x in
        let l = one_less (rw e at long) in
        rw y.by.2
        (let z : t.lines.0 + 1 - 1 ≡ t.lines.0 = omega arith in
        record {
          same = λ here deeper. by-same y.by.0 here deeper ∙ rw z;
          kept = all-kept;
          ready = ready-more g.ready x.kept y.by.1 (g.spare.room (t.lines.0 + 1) y.by.1.most (omega (arith, g.few, l))) (g.spare.kinds_room (t.lines.0 + 1) y.by.1.most (omega (arith, g.few, l)));
          from = omega (arith, g.from);
          open_is = g.open_is;
          edition_is = g.edition_is;
          made_one = λ h. omega arith;
          few = omega (arith, g.few, l);
          spare = spare-kept;
          unread = omega (arith, g.unread, starts-less s);
        })

    lines_are : lines_in K kinds buf t.lines.0 ≡ lines_in K kinds' buf' t.lines.0
    lines_are = lines_same K t.lines.0 (agree-sym x.kept.lines_same) (agree-sym x.kept.kinds_same)

    pub going-claimed : r ≡ Ok Claimed → Going K p at kinds₀ buf₀ t₀ kinds' buf' next t false
    going-claimed e =
        let y = rw e at x in
        record {
          same = λ here deeper. by-same y.by here deeper ∙ rw lines_are;
          kept = all-kept;
          ready = ready-kept g.ready x.kept;
          from = g.from;
          open_is = g.open_is;
          edition_is = g.edition_is;
          made_one = λ h. absurd (let z : ◌≡◌ {A = ℕ} 0 1 = cc in omega arith);
          few = omega (arith, g.few, lines-fewer t₀.edition (starts-less s));
          spare = spare-kept;
          unread = omega (arith, g.unread, starts-less s);
        }

    comes : {row : rules.Row} {u : Tally} → SameChecked (field_checked K kinds buf t made tag (take len (drop start p))) (row_left K kinds buf t row) → u ≡ more_rows t → (edition t.edition).line_width ≤ len
        → Comes K p at kinds₀ buf₀ t₀ kinds' buf' row t.rows.0 a next u
    comes q eu l =
        rw eu
        (record {
          rows_is = refl;
          is = λ here deeper. by-same q here deeper ∙ rw (lines_are, g.edition_is);
          ready = subst (λ (e : ℕ). Ready e K kinds' buf' t.lines.0) g.edition_is (ready-kept g.ready x.kept);
          from = g.from;
          open_is = g.open_is;
          edition_is = g.edition_is;
          few = omega (arith, g.few, one_less l);
          unread = omega (arith, g.unread, s.from, s.start_is, s.next-is, s.upto, l, line_width-some t.edition);
        })

    -- The row ends the branch or opens others.
    module _ (here : Position) {u : Tally} {i : LineNumber} where
      stops : (d : Ending) → SameChecked (field_checked K kinds buf t made tag (take len (drop start p))) (row_left K kinds buf t (row_of d i.0)) → u ≡ more_rows t → (edition t.edition).line_width ≤ len
          → Stopped K p at here kinds₀ buf₀ t₀ kinds' buf' (Ok (record { ending = d; t = i; row = t.rows; at = a; next = next; tally = u }))
      stops d q eu l = record { kept = all-kept; by = comes q eu l }

      pub going-strengthens : r ≡ Ok (Strengthens u i) → Stopped K p at here kinds₀ buf₀ t₀ kinds' buf' (Ok (record { ending = Ending.Strengthens; t = i; row = t.rows; at = a; next = next; tally = u }))
      going-strengthens e = let y = rw e at x in stops Ending.Strengthens y.by.0 y.by.1 (rw e at long)

      pub going-number : r ≡ Ok (ClosesNumber u i) → Stopped K p at here kinds₀ buf₀ t₀ kinds' buf' (Ok (record { ending = Ending.ClosesNumber; t = i; row = t.rows; at = a; next = next; tally = u }))
      going-number e = let y = rw e at x in stops Ending.ClosesNumber y.by.0 y.by.1 (rw e at long)

      pub going-stride : {h : ℕ} → r ≡ Ok (ClosesStride u i h) → Stopped K p at here kinds₀ buf₀ t₀ kinds' buf' (Ok (record { ending = Ending.ClosesStride h; t = i; row = t.rows; at = a; next = next; tally = u }))
      going-stride {h} e = let y = rw e at x in stops (Ending.ClosesStride h) y.by.0 y.by.1 (rw e at long)

      pub going-rounds : {h : ℕ} {by : ℕ} → r ≡ Ok (Rounds u i h by) → Stopped K p at here kinds₀ buf₀ t₀ kinds' buf' (Ok (record { ending = Ending.Rounds h by; t = i; row = t.rows; at = a; next = next; tally = u }))
      going-rounds {h} {by} e = let y = rw e at x in stops (Ending.Rounds h by) y.by.0 y.by.1 (rw e at long)

      pub going-splits : r ≡ Ok (Splits u i) → Stopped K p at here kinds₀ buf₀ t₀ kinds' buf' (Ok (record { ending = Ending.Splits; t = i; row = t.rows; at = a; next = next; tally = u }))
      going-splits e = let y = rw e at x in stops Ending.Splits y.by.0 y.by.1 (rw e at long)

pub going_start : {K : ℕ} {p : List ℕ} {at : ℕ} {kinds : List ℕ} {buf : List ℤ} {t : Tally}
    → Ready t.edition K kinds buf t.lines.0 × Spare t.edition K (t.lines.0 + lines_left t.edition p at) kinds buf → Going K p at kinds buf t kinds buf at t false
going_start (h, s) = record {
  same = λ here deeper. refl;
  kept = kept_refl;
  ready = h;
  from = omega arith;
  open_is = refl;
  edition_is = refl;
  made_one = λ e. absurd (let z : ◌≡◌ {A = ℕ} 0 1 = cc in omega arith);
  few = omega arith;
  spare = s;
  unread = omega arith;
}
