-- The branches of a rounding from j on. Assumes nothing.
use mathlib.Core.Path.{◌≡◌, refl, sym, subst, ◌∙◌}
use mathlib.Core.Bool.{Bool, true, false}
use mathlib.Core.Logic.{⊎_elim}
use mathlib.Core.List.{List, ◌++◌}
use Prim.Native.Nat.{ℕ, suc, ◌+◌, ◌*◌, ◌-◌, ◌≤◌, ◌<◌}
use native.Mathlib.Numerals.{add-one}
use native.Mathlib.Nat.{eq-zero-or-pos}
use native.Mathlib.Omega.{arith}
use lib.Dec.{ltb}
use borrow.Author.Tests.{lt-ltb, le-ltb}
use lib.IntN.{ℤ, pos}
use lib.ListN.{length}
use Rattle.forms.specs.Edition.{edition, edition1, newest_edition}
use Rattle.forms.proofs.Editions.{lines-most}
use Rattle.forms.specs.Forms.{Form, Line, Formula, ◌divides◌, ◌and◌, ◌or◌}
use Rattle.forms.specs.Reduced.{reduced}
use Rattle.forms.specs.Flat.{form_in}
use Rattle.calculus.specs.Rules.{◌▷◌}
use Rattle.answers.specs.Answers.{position, Result, accepted, ◌>>=◌}
use Rattle.number_bytes.specs.Numbers.{unsigned_bytes}
use Rattle.fields.specs.Fields.{Fields, field_bytes}
use Rattle.fields.specs.Places.{fields_at, unread_bytes}
use Rattle.formula.specs.Formula.{encode}
use Rattle.formula_write.specs.Writing.{scratch_limit, Numbered, Divisor, Puts, Stores, front_bytes, StrideTemplate}
use Rattle.formula_write.proofs.Written.{stride-size}
use Rattle.formula_write.proofs.Storing.{or-size, front-size}
use Rattle.formula_write.proofs.Templates.{stride-template}
use Rattle.proof.specs.Check.{Closing, Checker, check_rounded}
use Rattle.lines.specs.Buffer.{size, line_in, lines_in, LineStart}
use Rattle.lines.proofs.Lines.{line_same}
use Rattle.lines.proofs.Branch.{inequality-byte}
use Rattle.lines.specs.Ready.{LinesKept}
use Rattle.lines.proofs.Keeping.{kept_refl, kept_trans}
use Rattle.tally.specs.declared.Tally.{Tally}
use Rattle.closes.proofs.Ending.{numbered, divisor}
use Rattle.openings.specs.Opening.{in_turn, start_of, from_branch, Longer, RoundsBy, stride_part, RoundedStarts}
use Rattle.openings.proofs.Starting.{starts, start-form, start-numbered}
use Rattle.branches.specs.Branching.{Branched, kept_back, Started, deeper, ChecksBranch, Opened, OpenedChecked, RoundedChecked}
use Rattle.std.specs.Prelude.{Ok, Err}
use Rattle.branches.specs.declared.branch.BranchFault.{BranchFault}
use Rattle.branches.specs.declared.branch.Closed.{Closed}
use Rattle.branches.proofs.JoinedClosings.{checked-as, alone-checks, in-turn-fault, in-turn-checks}
use Rattle.branches.proofs.OpenedBranches.{room-left, own-started, own-checked, start-asked, next-open, next-unread, next-opened, next-same}

more_bytes : (E f g : Formula) → encode edition1 ((E and f) or g) ≡ front_bytes true E ++ encode edition1 f ++ encode edition1 g
unfolding encode field_bytes unsigned_bytes
more_bytes E f g = refl

last-bytes : (E f : Formula) → encode edition1 (E and f) ≡ front_bytes false E ++ encode edition1 f
unfolding encode field_bytes unsigned_bytes
last-bytes E f = refl

-- ---- the branches from j on, by that of j and the others
module _ (branch : Checker) (ls : List Line) (l : Line) (step g by j rows : ℕ) (fs : Fields) where
  abbrev more_from : Result Closing
  more_from = in_turn (λ f g'. (stride_part g j l and f) or g') (branch (position step (j + 1)) rows (ls ▷ start_of by j l) fs) (λ rows fs. from_branch g by (j + 1) branch ls l step rows fs)

  more-is : j + 1 < by → from_branch g by j branch ls l step rows fs ≡ more_from
  unfolding check_rounded
  more-is h =
      let z : by - suc j ≡ suc (by - suc (suc j)) = omega arith in
      rw (add-one, z)

  abbrev last_from : Result Closing
  last_from = branch (position step (j + 1)) rows (ls ▷ start_of by j l) fs >>= λ x. accepted (record { formula = stride_part g j l and x.formula; rows = x.rows; after = x.after })

  last-is : by ≤ j + 1 → from_branch g by j branch ls l step rows fs ≡ last_from
  unfolding check_rounded
  last-is h =
      let z : by - suc j ≡ 0 = omega arith in
      rw (add-one, z)

-- ---- the template of line i's stride part, in an array of 75 bytes
module _ {K n by : ℕ} {p : List ℕ} {kinds : List ℕ} {buf : List ℤ} {t : Tally} {i at o : ℕ} (d : Opened K n by by kinds buf t i p at o) where
  pub template-place : (i ≤ (edition newest_edition).lines) × (K ≤ edition1.constants)
  template-place = (omega (arith, d.line, d.space, lines-most t.edition), d.ready.branch.constants)

  module _ {x : ℕ} (e : x ≡ i * size K + (K + 1)) where
    pub template-asked : {g by' : ℕ} {z : ℤ} → z ≡ pos g → g < 65536 → RoundsBy g by' → Numbered K buf x × Divisor z
    template-asked w few q = (numbered d.ready d.line e, divisor w few q.stride)

    -- It is that of the same line in each turn.
    pub template-kept : {g : ℕ} {out template : List ℕ} {r : ℕ} → length out ≡ 75 → Puts out 0 (g divides reduced g (form_in K buf x)) template r
        → {kinds' : List ℕ} {buf' : List ℤ} → LinesKept K n kinds buf kinds' buf' → StrideTemplate K g (line_in K kinds' buf' i).t_A template
    unfolding line_in
    template-kept {g} {template = template} l h k =
        let f = numbered d.ready d.line e in
        let own : StrideTemplate K g (line_in K kinds buf i).t_A template = rw e at (stride-template f (omega (arith, f.constants)) h) in
        subst (λ (l : Line). StrideTemplate K g l.t_A template) (sym (line_same K k.lines_same k.kinds_same i d.line)) own

-- ---- the branch of j
module _ {K n by : ℕ} {p : List ℕ} {kinds : List ℕ} {buf : List ℤ} {t : Tally} {i at o : ℕ} (d : Opened K n by by kinds buf t i p at o) {j : ℕ} (hj : j < by) where
  pub rounded-asked : {g by' : ℕ} → RoundsBy g by' → {template : List ℕ} → StrideTemplate K g (line_in K kinds buf i).t_A template
      → (LineStart K buf i n by by × (n < length kinds) × (j < by)) × (((2 ≤ g) × (o + kept_back ≤ scratch_limit)) × StrideTemplate K g (line_in K kinds buf i).t_A template)
  rounded-asked q e =
      let s : LineStart K buf i n by by × (n < length kinds) = start-asked d (omega arith) (omega arith) in
      ((s.0, s.1, hj), ((q.stride, room-left d), e))

  -- A divisor of two bytes is one that can be written.
  pub start-rounded-asked : {g by' : ℕ} → g < 65536 → RoundsBy g by' → {template : List ℕ} → StrideTemplate K g (line_in K kinds buf i).t_A template
      → (LineStart K buf i n by by × (n < length kinds) × (j < by)) × ((Divisor (pos g) × (o + kept_back ≤ scratch_limit)) × StrideTemplate K g (line_in K kinds buf i).t_A template)
  start-rounded-asked few q e = let x = rounded-asked q e in (x.0, ((divisor refl few x.1.0.0, x.1.0.1), x.1.1))

  rounded-start : LineStart K buf i n by j
  rounded-start = (start-asked d {u = by} {w = j} (omega arith) (omega arith)).0

  module _ (g : ℕ) (others : Bool) {scratch : List ℕ} {kinds₁ : List ℕ} {buf₁ : List ℤ} {scratch₁ : List ℕ} {o₁ : ℕ}
      (h : RoundedStarts K i n g by j others kinds buf scratch o kinds₁ buf₁ scratch₁ o₁) where
    own : Longer t.edition K kinds buf n (start_of by j (line_in K kinds buf i)) kinds₁ buf₁
    own = starts d.ready d.space rounded-start 0 (omega arith) inequality-byte h.line h.kind

    own-short : length (encode edition1 (stride_part g j (line_in K kinds buf i))) ≤ 75
    own-short =
        let f : Numbered K buf₁ (n * size K + (K + 1)) = start-numbered rounded-start h.line (omega arith) in
        subst (λ (f : Form). length (encode edition1 (g divides reduced g f)) ≤ 75) (start-form rounded-start kinds h.line) (omega (arith, stride-size f g, f.constants))

    short : o₁ ≤ o + kept_back
    short = omega (arith, h.front.o_is, front-size others (stride_part g j (line_in K kinds buf i)), or-size others, own-short)

    pub rounded-started : Started K kinds₁ buf₁ t p at o₁
    rounded-started = own-started d own short

    module _ (step : ℕ) where
      module _ {kinds₂ : List ℕ} {buf₂ : List ℤ} {scratch₂ : List ℕ} {r : Branched} (b : ChecksBranch K p at (position step (j + 1)) kinds₁ buf₁ t scratch₁ o₁ kinds₂ buf₂ scratch₂ r) where
        -- No others follow.
        last-checks : others ≡ false → by ≤ j + 1 → OpenedChecked 3 (from_branch g by j) K step n p at kinds buf t i scratch o kinds₂ buf₂ scratch₂ r
        last-checks e q =
            let E = stride_part g j (line_in K kinds buf i) in
            let h' = rw e at h.front in
            checked-as (last-is (deeper K t) (lines_in K kinds buf n) (line_in K kinds buf i) step g by j t.rows.0 (fields_at p at) q)
            (alone-checks h' kept_back (λ f. E and f) (last-bytes E) 3 (omega (arith, front-size false E, own-short)) (own-checked d own short (position step (j + 1)) b))

        more-kept : LinesKept K n kinds buf kinds₂ buf₂
        more-kept = (own-checked d own short (position step (j + 1)) b).kept

        closed-unread : {a o₂ : ℕ} {t₁ : Tally} → r ≡ Ok (record { at = a; o = o₂; tally = t₁ }) → unread_bytes p a < unread_bytes p at
        closed-unread c = next-unread d own short (position step (j + 1)) b c

        -- Others follow.
        module _ (e : others ≡ true) (q : j + 1 < by) where
          more : Stores scratch o (front_bytes true (stride_part g j (line_in K kinds buf i))) scratch₁ o₁
          more = rw e at h.front

          more-fault : {f : BranchFault} → r ≡ Err f → OpenedChecked 3 (from_branch g by j) K step n p at kinds buf t i scratch o kinds₂ buf₂ scratch₂ r
          more-fault y =
              checked-as (more-is (deeper K t) (lines_in K kinds buf n) (line_in K kinds buf i) step g by j t.rows.0 (fields_at p at) q)
              (in-turn-fault more kept_back (λ f g'. (stride_part g j (line_in K kinds buf i) and f) or g') (more_bytes (stride_part g j (line_in K kinds buf i)))
              (λ rows fs. from_branch g by (j + 1) (deeper K t) (lines_in K kinds buf n) (line_in K kinds buf i) step rows fs) (own-checked d own short (position step (j + 1)) b) 3 y)

          module _ {a o₂ : ℕ} {t₁ : Tally} (c : r ≡ Ok (record { at = a; o = o₂; tally = t₁ })) where
            more-open : t₁.«open» ≡ t.«open»
            more-open = next-open d own short (position step (j + 1)) b c

            more-opened : Opened K n by by kinds₂ buf₂ t₁ i p a o₂
            more-opened = next-opened d own short (position step (j + 1)) b c

            more-checks : {kinds₃ : List ℕ} {buf₃ : List ℤ} {scratch₃ : List ℕ} {r' : Branched} → OpenedChecked 3 (from_branch g by (j + 1)) K step n p a kinds₂ buf₂ t₁ i scratch₂ o₂ kinds₃ buf₃ scratch₃ r'
                → OpenedChecked 3 (from_branch g by j) K step n p at kinds buf t i scratch o kinds₃ buf₃ scratch₃ r'
            more-checks x =
                let E = stride_part g j (line_in K kinds buf i) in
                checked-as (more-is (deeper K t) (lines_in K kinds buf n) (line_in K kinds buf i) step g by j t.rows.0 (fields_at p at) q)
                (in-turn-checks more kept_back (λ f g'. (E and f) or g') (more_bytes E)
                (λ rows fs. from_branch g by (j + 1) (deeper K t) (lines_in K kinds buf n) (line_in K kinds buf i) step rows fs) (own-checked d own short (position step (j + 1)) b) 3 3
                (omega (arith, front-size true E, or-size true, own-short)) c (next-same d own short (position step (j + 1)) b c (from_branch g by (j + 1)) step x))

-- ---- the loop over j: what the next turn asks, and that what it checks from j on gives what is checked from 0 on
pub record Rounding (K step n : ℕ) (p : List ℕ) (at : ℕ) (kinds₀ : List ℕ) (buf₀ : List ℤ) (t₀ : Tally) (i g by : ℕ) (scratch₀ : List ℕ) (o₀ : ℕ)
    (kinds : List ℕ) (buf : List ℤ) (scratch : List ℕ) (here o : ℕ) (t : Tally) (j : ℕ) : Type 0 where
  pub opened : Opened K n by by kinds buf t i p here o
  pub less : j < by
  pub kept : LinesKept K n kinds₀ buf₀ kinds buf
  pub long : length scratch ≡ length scratch₀
  pub open_is : t.«open» ≡ t₀.«open»
  pub unread : unread_bytes p here ≤ unread_bytes p at
  pub rest : {kinds' : List ℕ} {buf' : List ℤ} {scratch' : List ℕ} {r : Branched} → RoundedChecked K step n p here kinds buf t i g by j scratch o kinds' buf' scratch' r
      → RoundedChecked K step n p at kinds₀ buf₀ t₀ i g by 0 scratch₀ o₀ kinds' buf' scratch' r

-- At the end of the loop the last branch closes all of them.
pub record Rounded (K step n : ℕ) (p : List ℕ) (at : ℕ) (kinds₀ : List ℕ) (buf₀ : List ℤ) (t₀ : Tally) (i g by : ℕ) (scratch₀ : List ℕ) (o₀ : ℕ)
    (kinds : List ℕ) (buf : List ℤ) (scratch : List ℕ) (end : Closed) (j : ℕ) : Type 0 where
  pub turn : j < by → Rounding K step n p at kinds₀ buf₀ t₀ i g by scratch₀ o₀ kinds buf scratch end.at end.o end.tally j
  pub last : by ≤ j → RoundedChecked K step n p at kinds₀ buf₀ t₀ i g by 0 scratch₀ o₀ kinds buf scratch (Ok end)
  pub lines_long : length buf ≡ length buf₀
  pub kinds_long : length kinds ≡ length kinds₀
  pub long : length scratch ≡ length scratch₀

pub rounding-start : {K n : ℕ} {p : List ℕ} {at : ℕ} {kinds : List ℕ} {buf : List ℤ} {t : Tally} {i g by : ℕ} {scratch : List ℕ} {o : ℕ} (step : ℕ)
    → Opened K n by by kinds buf t i p at o → RoundsBy g by → Rounded K step n p at kinds buf t i g by scratch o kinds buf scratch (record { at = at; o = o; tally = t }) 0
rounding-start step d q = record {
  turn = λ h. record { opened = d; less = h; kept = kept_refl; long = refl; open_is = refl; unread = omega arith; rest = λ x. x };
  last = λ h. absurd (omega (arith, q.least));
  lines_long = refl;
  kinds_long = refl;
  long = refl;
}

module _ {K step n : ℕ} {p : List ℕ} {at : ℕ} {kinds₀ : List ℕ} {buf₀ : List ℤ} {t₀ : Tally} {i g by : ℕ} {scratch₀ : List ℕ} {o₀ : ℕ}
    {kinds : List ℕ} {buf : List ℤ} {scratch : List ℕ} {here o : ℕ} {t : Tally} {j : ℕ} (turn : Rounding K step n p at kinds₀ buf₀ t₀ i g by scratch₀ o₀ kinds buf scratch here o t j)
    {kinds₁ : List ℕ} {buf₁ : List ℤ} {scratch₁ : List ℕ} {o₁ : ℕ} (h : RoundedStarts K i n g by j (ltb (j + 1) by) kinds buf scratch o kinds₁ buf₁ scratch₁ o₁)
    {kinds₂ : List ℕ} {buf₂ : List ℤ} {scratch₂ : List ℕ} {r : Branched} (b : ChecksBranch K p here (position step (j + 1)) kinds₁ buf₁ t scratch₁ o₁ kinds₂ buf₂ scratch₂ r) where
  rounding-last : by ≤ j + 1 → RoundedChecked K step n p at kinds₀ buf₀ t₀ i g by 0 scratch₀ o₀ kinds₂ buf₂ scratch₂ r
  rounding-last q = turn.rest (last-checks turn.opened turn.less g (ltb (j + 1) by) h step b (le-ltb (j + 1) by q) q)

  pub rounding-fault : {f : BranchFault} → r ≡ Err f → RoundedChecked K step n p at kinds₀ buf₀ t₀ i g by 0 scratch₀ o₀ kinds₂ buf₂ scratch₂ (Err f)
  rounding-fault y = rw (← y) (
      ⊎_elim
      (λ (z : by - (j + 1) ≡ 0). rounding-last (omega arith))
      (λ (l : 0 < by - (j + 1)).
      let q : j + 1 < by = omega arith in
      turn.rest (more-fault turn.opened turn.less g (ltb (j + 1) by) h step b (lt-ltb (j + 1) by q) q y))
      (eq-zero-or-pos (by - (j + 1))))

  pub rounding-kept : LinesKept K n kinds buf kinds₂ buf₂
  rounding-kept = more-kept turn.opened turn.less g (ltb (j + 1) by) h step b

  module _ {end : Closed} (c : r ≡ Ok end) where
    rounding-next : j + 1 < by → Rounding K step n p at kinds₀ buf₀ t₀ i g by scratch₀ o₀ kinds₂ buf₂ scratch₂ end.at end.o end.tally (j + 1)
    rounding-next q =
        let e = lt-ltb (j + 1) by q in
        record {
          opened = more-opened turn.opened turn.less g (ltb (j + 1) by) h step b e q c;
          less = q;
          kept = kept_trans (omega arith) turn.kept rounding-kept;
          long = b.long ∙ h.front.long ∙ turn.long;
          open_is = more-open turn.opened turn.less g (ltb (j + 1) by) h step b e q c ∙ turn.open_is;
          unread = omega (arith, turn.unread, closed-unread turn.opened turn.less g (ltb (j + 1) by) h step b c);
          rest = λ x. turn.rest (more-checks turn.opened turn.less g (ltb (j + 1) by) h step b e q c x);
        }

    pub rounding-turn : Rounded K step n p at kinds₀ buf₀ t₀ i g by scratch₀ o₀ kinds₂ buf₂ scratch₂ end (j + 1)
    rounding-turn = record {
      turn = rounding-next;
      last = λ q. rw c at (rounding-last q);
      lines_long = rounding-kept.lines_length ∙ turn.kept.lines_length;
      kinds_long = rounding-kept.kinds_length ∙ turn.kept.kinds_length;
      long = b.long ∙ h.front.long ∙ turn.long;
    }
