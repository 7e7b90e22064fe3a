-- One cut: what the branch checker leaves at the root, as the check of the cut. Assumes nothing.
use mathlib.Core.Path.{◌≡◌, refl, ◌∙◌}
use mathlib.Core.List.{List, [], ◌∷◌, map}
use Prim.Native.Nat.{ℕ, ◌+◌, ◌-◌, ◌≤◌}
use native.Mathlib.Omega.{arith}
use lib.Dec.{ltb}
use lib.IntN.{ℤ}
use lib.ListN.{length, length-map, length-append}
use Rattle.forms.specs.Edition.{edition}
use Rattle.forms.specs.Forms.{lines}
use Rattle.forms.proofs.Editions.{lines-least}
use Rattle.answers.specs.declared.Answer.{Answer}
use Rattle.answers.specs.declared.Position.{Position}
use Rattle.answers.specs.Answers.{answer, root, Result, ◌>>=◌, ◌>>◌}
use Rattle.fields.specs.declared.FileKind.{FileKind}
use Rattle.std.specs.Prelude.{Ok, Err, MatchResult, IsErrAnd}
use Rattle.std.specs.declared.result.Result as code
use Rattle.std.proofs.lemmas.Result.{err_from_is_err_and}
use Rattle.answers.specs.Refusals.{number_of}
use Rattle.answers.specs.declared.refusals.Fault.{Fault}
use Rattle.forms.specs.Forms.{Formula}
use Rattle.fields.specs.Ending.{IsEnding}
use Rattle.fields.specs.Places.{fields_at}
use Rattle.proof.specs.Check.{check_branch, check_root, check_proof}
use Rattle.lines.specs.Buffer.{lines_in, Bounded}
use Rattle.tally.specs.Tally.{tally}
use Rattle.branches.specs.Spare.{lines_left, Spare}
use Rattle.branches.specs.Branching.{answer_of, kept_back, Started, Closes, ChecksBranch}
use Rattle.branches.specs.declared.branch.Closed.{Closed}
use Rattle.branches.specs.declared.branch.BranchFault.{BranchFault}
use Rattle.branches.proofs.Spare.{spare-less}
use Rattle.bundle_load.specs.Load.{line_of, Space}
use Rattle.chains.specs.Runs.{Run, joined, up_to, beyond}
use Rattle.run.specs.Run.{claim_refused, check_cut}
use Rattle.run_cuts.specs.Cuts.{cut_lines, stages_of, LoadsCut, claimed_as, CutTells, RootChecked, Asked, cut_of, CutChecked}
use Rattle.run_cuts.specs.declared.begun.Run as begun
use Rattle.run_stages.proofs.MappedErrors.{mapped-ok, mapped-err}
use Rattle.run_cuts.proofs.CutLines.{cut-lines}

-- ---- the root
-- the code's results, their errors told as answers
abbrev pub BranchTold : code.Result Closed BranchFault → code.Result Closed Answer → Type 0
BranchTold x m = MatchResult x (λ c. m ≡ Ok c) (λ f. IsErrAnd m (λ a. a ≡ answer_of f))

abbrev pub EndingTold : code.Result (Unit {0}) Fault → code.Result (Unit {0}) Answer → Type 0
EndingTold x m = MatchResult x (λ u. m ≡ Ok u) (λ f. IsErrAnd m (λ a. a ≡ answer (number_of f.refusal) 3 f.place))

module _ (r : begun.Run) {n rows : ℕ} {kinds kinds' : List ℕ} {buf buf' : List ℤ} {S S' : List ℕ} {here : Position} where
  branch-stops : {f : BranchFault} → ChecksBranch r.k r.proof.now r.at here kinds buf (tally r.edition rows n 0) S 0 kinds' buf' S' (Err f) → here ≡ root → rows ≡ 0 → RootChecked r (lines_in r.k kinds buf n) S S' (Err (answer_of f))
  unfolding ◌>>=◌
  branch-stops b at-root none =
      let c = rw (at-root, none) at b.by in
      record { by = rw c }

  module _ {c : Closed} (b : ChecksBranch r.k r.proof.now r.at here kinds buf (tally r.edition rows n 0) S 0 kinds' buf' S' (Ok c)) (at-root : here ≡ root) (none : rows ≡ 0) where
    closes : Closes kept_back (check_branch (edition r.edition) r.k 32 root 0 (lines_in r.k kinds buf n) (fields_at r.proof.now r.at)) r.proof.now r.at (tally r.edition 0 n 0) c.at S 0 c.o S' c.tally
    closes = rw (at-root, none) at b.by

    ending-stops : {f : Fault} → IsEnding FileKind.Proof r.proof.now c.at (Err f) → RootChecked r (lines_in r.k kinds buf n) S S' (Err (answer (number_of f.refusal) 3 f.place))
    unfolding ◌>>=◌ ◌>>◌
    ending-stops s = record { by = rw (closes.is, s.is 3) }

    ended : Started r.k kinds buf (tally r.edition rows n 0) r.proof.now r.at 0 → {u : Unit {0}} → IsEnding FileKind.Proof r.proof.now c.at (Ok u) → RootChecked r (lines_in r.k kinds buf n) S S' (Ok c.o)
    unfolding ◌>>=◌ ◌>>◌
    ended st s = record {
      by = record {
        formula = closes.formula;
        is = rw (closes.is, s.is 3);
        o_is = omega (arith, closes.o_is);
        stored = λ l. closes.stored (omega (arith, closes.o_is));
        few = omega (arith, closes.within, st.room);
      };
    }

  module _ {x : code.Result Closed BranchFault} (b : ChecksBranch r.k r.proof.now r.at here kinds buf (tally r.edition rows n 0) S 0 kinds' buf' S' x) (at-root : here ≡ root) (none : rows ≡ 0) {m : code.Result Closed Answer} (told : BranchTold x m) where
    pub root-fault : {a : Answer} → m ≡ Err a → RootChecked r (lines_in r.k kinds buf n) S S' (Err a)
    root-fault e =
        let f = mapped-err (λ f a. a ≡ answer_of f) x told e in
        rw f.2 (branch-stops (rw f.1 at b) at-root none)

    module _ {c : Closed} (e : m ≡ Ok c) where
      branch-is : ChecksBranch r.k r.proof.now r.at here kinds buf (tally r.edition rows n 0) S 0 kinds' buf' S' (Ok c)
      branch-is = rw (mapped-ok (λ f a. a ≡ answer_of f) x told e) at b

      module _ {y : code.Result (Unit {0}) Fault} (s : IsEnding FileKind.Proof r.proof.now c.at y) {en : code.Result (Unit {0}) Answer} (told-end : EndingTold y en) where
        pub root-unended : {a : Answer} → en ≡ Err a → RootChecked r (lines_in r.k kinds buf n) S S' (Err a)
        root-unended h =
            let f = mapped-err (λ f a. a ≡ answer (number_of f.refusal) 3 f.place) y told-end h in
            rw f.2 (ending-stops branch-is at-root none (rw f.1 at s))

        pub root-ended : Started r.k kinds buf (tally r.edition rows n 0) r.proof.now r.at 0 → {u : Unit {0}} → en ≡ Ok u → RootChecked r (lines_in r.k kinds buf n) S S' (Ok c.o)
        root-ended st h = ended branch-is at-root none st (rw (mapped-ok (λ f a. a ≡ answer (number_of f.refusal) 3 f.place) y told-end h) at s)

-- ---- the cut
cut-count : (c : ℕ) (Ts : Run) → length (cut_lines c Ts) ≡ length (joined Ts)
cut-count c [] = refl
cut-count c (T ∷ Ts) = omega (arith, length-append (map (line_of (ltb 0 c)) T) (cut_lines (c - 1) Ts), length-map T (line_of (ltb 0 c)), cut-count (c - 1) Ts, length-append T (joined Ts))

-- 27 in place of 14, whatever is refused
abbrev pub ClaimsTold : (x y : code.Result ℕ Answer) → Type 0
ClaimsTold x y = MatchResult x (λ o. y ≡ Ok o) (λ a. IsErrAnd y (λ b. b ≡ claimed_as a))

claimed-tells : (R : Result Formula) {S S' : List ℕ} (x : code.Result ℕ Answer) {y : code.Result ℕ Answer} → CutTells R S S' x → ClaimsTold x y → CutTells (claim_refused R) S S' y
unfolding claim_refused
claimed-tells R (Ok o) p h =
    let d = p.by in
    rw h (record { by = record { formula = d.formula; is = rw d.is; o_is = d.o_is; stored = d.stored; few = d.few } })
claimed-tells R (Err a) {y} p h =
    let e = err_from_is_err_and y h in
    rw (e.1, e.2) (record { by = rw p.by })

module _ {r : begun.Run} {kinds : List ℕ} {buf : List ℤ} (a : Asked r kinds buf) where
  lines-few : r.count ≤ (edition r.edition).lines
  lines-few = omega (arith, a.staged.few, lines-least r.edition)

  pub asked-space : Space r.k r.count kinds buf
  asked-space = record {
    constants = a.high;
    room = omega (arith, a.spare.room r.count lines-few (omega arith));
    most = omega (arith, a.staged.few);
    kinds_room = omega (arith, a.spare.kinds_room r.count lines-few (omega arith));
  }

  -- whatever stands in the buffers
  pub asked-again : {kinds' : List ℕ} {buf' : List ℤ} → length kinds' ≡ length kinds → length buf' ≡ length buf → Asked r kinds' buf'
  asked-again q l = record { staged = a.staged; high = a.high; short = a.short; header_is = a.header_is; spare = spare-less (omega arith) q l a.spare }

  module _ (c : ℕ) {kinds₁ : List ℕ} {buf₁ : List ℤ} (l : LoadsCut r c kinds buf kinds₁ buf₁) where
    count_is : 0 + length (cut_lines c (stages_of r)) ≡ r.count
    count_is = omega (arith, cut-count c (stages_of r), a.staged.count_is)

    lines_are : lines_in r.k kinds₁ buf₁ r.count ≡ lines (up_to (stages_of r) c) (beyond (stages_of r) c)
    unfolding lines_in
    lines_are = rw (← count_is) l.lines ∙ cut-lines c (stages_of r)

    bounded : Bounded r.k buf₁ r.count
    bounded = rw count_is at (l.bounded (record { small = λ j h. absurd (omega arith) }))

    pub cut_started : Started r.k kinds₁ buf₁ (tally r.edition 0 r.count 0) r.proof.now r.at 0
    cut_started =
        let spare : Spare r.edition r.k (r.count + lines_left r.edition r.proof.now r.at) kinds₁ buf₁ = spare-less (omega arith) l.kinds_length l.lines_length a.spare in
        record {
          ready = record {
            branch = record { constants = a.high; room = spare.room r.count lines-few (omega arith); bounded = bounded };
            room = spare.kinds_room r.count lines-few (omega arith);
            most = lines-few;
          };
          spare = spare;
          room = omega (arith, a.short);
        }

    cut-is : claim_refused (check_root r.edition r.k (lines_in r.k kinds₁ buf₁ r.count) (fields_at r.proof.now r.at)) ≡ cut_of r c
    unfolding check_cut check_proof ◌>>=◌
    cut-is = rw (lines_are, a.header_is)

    pub cut-checked : {S S' : List ℕ} {x : code.Result ℕ Answer} → RootChecked r (lines_in r.k kinds₁ buf₁ r.count) S S' x
        → {y : code.Result ℕ Answer} → ClaimsTold x y → CutChecked r c S S' y
    cut-checked {x = x} q h = rw cut-is at (claimed-tells _ x q h)
