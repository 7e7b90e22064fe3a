-- The operation step by step: each refusal on the way, and the guards. Assumes nothing.
use mathlib.Core.Path.{◌≡◌, refl, sym, ◌∙◌, ap}
use mathlib.Core.Bool.{Bool, true, false, cond}
use mathlib.Core.Option.{Option, some}
use mathlib.Core.List.{List}
use Prim.Native.Nat.{ℕ, zero, suc, ◌+◌, ◌≤◌, ◌<◌}
use native.Mathlib.Omega.{arith}
use lib.Dec.{leb, eqb}
use lib.IntN.{ℤ}
use lib.ListN.{length, length-map}
use borrow.Author.Tests.{le-leb, lt-leb}
use Rattle.forms.specs.Edition.{edition1}
use Rattle.forms.specs.Forms.{Formula, every}
use Rattle.answers.specs.declared.Answer.{Answer}
use Rattle.answers.specs.Answers.{answer, file_proof, Result, refused, accepted, ◌>>=◌, ◌>>◌, need}
use Rattle.answers.proofs.Results.{never, one_value}
use Rattle.fields.specs.declared.FileKind.{FileKind}
use Rattle.fields.specs.declared.header.Headed.{Headed}
use Rattle.std.specs.Prelude.{Some, None, Ok, Err, MatchResult, IsErrAnd}
use Rattle.std.specs.declared.result.Result as code
use Rattle.answers.specs.Refusals.{number_of, told}
use Rattle.answers.specs.declared.refusals.Fault.{Fault}
use Rattle.fields.specs.Fields.{Fields, ends, cut, ◌▸◌, fields}
use Rattle.fields.specs.Header.{header_field, edition_field, constants_field, header}
use Rattle.fields.specs.Places.{fields_at, header_of, IsHeader}
use Rattle.fields.proofs.HeaderLaid.{header-gives}
use Rattle.fields.proofs.Headers.{given-some}
use Rattle.bundle.specs.Bundle.{at_most}
use Rattle.formula.specs.Formula.{formula_file}
use Rattle.proof.specs.Check.{check_proof}
use Rattle.proof.proofs.Agree.{agreed}
use Rattle.proof.proofs.Satisfies.{Satisfies, says-refused, says-accepted, bind, test}
use Rattle.branches.specs.Spare.{lines_left, Spare}
use Rattle.chains.specs.Runs.{Run, joined}
use Rattle.run.specs.Uniform.{Walked, uniform}
use Rattle.run.specs.Run.{parts, parted, stages_short, claim_refused, check_cut, both, check_cuts, check_run, guard_files, unwritten, fit_guards, written_guards, guards_by, guards}
use Rattle.run_branches.specs.Walks.{Countable}
use Rattle.run_branches.proofs.FieldsByBytes.{fields-few}
use Rattle.run_stages.specs.Staged.{stages}
use Rattle.run_cuts.specs.Cuts.{stages_of, Asked}
use Rattle.run_cuts.specs.All.{files, cuts_of, RunChecked}
use Rattle.run_cuts.specs.declared.begun.Run as begun
use Rattle.run_cuts.specs.declared.all.Derived.{Derived}
use Rattle.run_cuts.proofs.AllCuts.{cuts_from, cuts-from, stages-count}
use Rattle.run_stages.specs.Reading.{FindsLong, ReadsStages}
use Rattle.run_cuts.specs.Writing.{GuardsFit, WritesAll}
use Rattle.run_cuts.specs.Phases.{StagesPassed, ProofBegun, Passed, Begun, Totals, Guarded}
use Rattle.run_stages.specs.declared.reading.Stages.{Stages}
use Rattle.run_stages.proofs.MappedErrors.{mapped-ok, mapped-err}
use Rattle.run_stages.proofs.StagesRead.{parted-is}
use Rattle.run_cuts.proofs.GuardFiles.{cuts-on}

pub guards-refused : {buffer lengths P out sizes : List ℕ} {a : Answer} → guard_files 2 buffer lengths P ≡ refused a → Guarded buffer lengths P out sizes out sizes (Err a)
unfolding guards guards_by written_guards unwritten
guards-refused e = record { is = rw e }

-- ---- before the proof's header
pub all_short : {buffer lengths : List ℕ} → FindsLong buffer lengths None → stages_short 2 11 (parts lengths buffer) ≡ accepted tt
all_short f = f.is

module _ (buffer lengths P : List ℕ) where
  pub not-parted : parted lengths buffer ≡ false → guard_files 2 buffer lengths P ≡ refused (answer 25 4 0)
  unfolding guard_files need ◌>>◌
  not-parted h = rw h

  module _ (p : parted lengths buffer ≡ true) where
    short-stops : {a : Answer} → stages_short 2 11 (parts lengths buffer) ≡ refused a → guard_files 2 buffer lengths P ≡ refused a
    unfolding guard_files need ◌>>◌
    short-stops e = rw (p, e)

    pub stage-long : {file : ℕ} → FindsLong buffer lengths (Some file) → guard_files 2 buffer lengths P ≡ refused (answer 1 file 0)
    stage-long f = short-stops f.is

    module _ (s : stages_short 2 11 (parts lengths buffer) ≡ accepted tt) where
      pub proof-long : 65536 < length P → guard_files 2 buffer lengths P ≡ refused (answer 1 3 0)
      unfolding guard_files at_most need ◌>>◌
      proof-long h = rw (p, s, lt-leb (length P) 65536 h)

      module _ (h : length P ≤ 65536) where
        pub unread : {a : Answer} → ReadsStages buffer lengths (Err a) → guard_files 2 buffer lengths P ≡ refused a
        unfolding guard_files at_most need ◌>>◌ ◌>>=◌
        unread q = rw (p, s, le-leb (length P) 65536 h, q.by)

        module _ {stages : Stages} (q : ReadsStages buffer lengths (Ok stages)) where
          pub too_many : 64 < stages.count → guard_files 2 buffer lengths P ≡ refused (answer 26 4 0)
          unfolding guard_files at_most need ◌>>◌ ◌>>=◌
          too_many l =
              let d = q.by in
              rw (p, s, le-leb (length P) 65536 h, d.is, d.count_is, lt-leb stages.count 64 l)

          pub gathered : stages.count ≤ 64 → StagesPassed buffer lengths P stages.k stages.count
          gathered l =
              let d = q.by in
              let n = parted-is p in
              record {
                parted = p;
                short = s;
                proof_short = h;
                staged = record { is = d.is; adds_up = n.adds_up; least = n.least; most = n.most; k_is = d.k_is; count_is = d.count_is; few = l };
                low = d.low;
                high = d.high;
              }

-- ---- the cuts
both_first : (R : Result (List Formula)) (U : Result Walked) {Is : List Formula} → (both R U >>= λ (Js, w). accepted Js) ≡ accepted Is → R ≡ accepted Is
unfolding both ◌>>=◌
both_first (refused a) (refused b) e = absurd (never e)
both_first (refused a) (accepted w) e = absurd (never e)
both_first (accepted Js) (refused b) e = absurd (never e)
both_first (accepted Js) (accepted w) e = e

from-count : (K : ℕ) (Ts : Run) (fs : Fields) (i n : ℕ) {Js : List Formula} → cuts_from K Ts fs i n ≡ accepted Js → length Js ≡ n
from-count K Ts fs i zero e = ap length (sym (one_value refl e))
from-count K Ts fs i (suc n) e =
    let o = cuts-on K Ts fs i n e in
    ap length o.is ∙ ap suc (from-count K Ts fs (suc i) n o.others-are)

-- ---- the proof's header: its refusal is that of every cut, and of the walk
-- no refusal of a header is a 14
abbrev Not14 : Answer → Type 0
Not14 a = eqb a.number 14 ≡ false

field-not : (tag : ℕ) (fs : Fields) → Satisfies Not14 (header_field FileKind.Proof file_proof tag fs) (λ _. Unit {0})
unfolding header_field
field-not tag (ends at) = says-refused refl
field-not tag (cut at) = says-refused refl
field-not tag (f ▸ fs) = test _ _ refl λ _. test _ _ refl λ _. test _ _ refl λ _. says-accepted tt

edition-not : (fs : Fields) → Satisfies Not14 (edition_field FileKind.Proof file_proof 2 fs) (λ _. Unit {0})
unfolding edition_field
edition-not fs = bind (field-not 1 fs) λ x _. test _ _ refl λ _. says-accepted tt

constants-not : (given : Option ℕ) (fs : Fields) → Satisfies Not14 (constants_field FileKind.Proof file_proof given fs) (λ _. Unit {0})
unfolding constants_field
constants-not given fs = bind (field-not 2 fs) λ x _. test _ _ refl λ _. test _ _ refl λ _. says-accepted tt

header-not : (given : Option ℕ) (fs : Fields) → Satisfies Not14 (header FileKind.Proof file_proof 2 given fs) (λ _. Unit {0})
unfolding header
header-not given fs = bind (edition-not fs) λ x _. bind (constants-not given x.1) λ y _. says-accepted tt

cond_same : (b : Bool) (a : Answer) → cond b a a ≡ a
cond_same true a = refl
cond_same false a = refl

module _ (K : ℕ) (Ts : Run) (fs : Fields) {a : Answer} (h : header FileKind.Proof file_proof 2 (some K) fs ≡ refused a) where
  cut-stops : (i : ℕ) → check_cut 2 K Ts fs i ≡ refused a
  unfolding check_cut check_proof claim_refused ◌>>=◌
  cut-stops i = rw (h, (header-not (some K) fs).refusal a h)

  cuts-stop : (i n : ℕ) → check_cuts 2 K Ts fs i n ≡ refused a
  unfolding check_cuts both ◌>>=◌
  cuts-stop i zero = rw (cut-stops i)
  cuts-stop i (suc n) = rw (cut-stops i, cuts-stop (suc i) n, cond_same (leb a.place a.place) a)

  run-stops : check_run 2 K Ts fs ≡ refused a
  unfolding check_run uniform both ◌>>=◌
  run-stops = rw (cuts-stop 0 (length Ts), h, cond_same (leb a.place a.place) a)

-- ---- the proof
-- the header's result, its error told as an answer
abbrev pub HeaderTold : code.Result Headed Fault → code.Result Headed Answer → Type 0
HeaderTold x m = MatchResult x (λ y. m ≡ Ok y) (λ f. IsErrAnd m (λ a. a ≡ answer (number_of f.refusal) 3 f.place))

abbrev fitting : (K : ℕ) → List Formula → Result (List (List ℕ))
fitting K Is = need (answer 1 4 (length (joined (files K Is)))) (every (λ file. leb (length file) 65536) (files K Is)) >> accepted (files K Is)

module _ {buffer lengths P : List ℕ} {K count : ℕ} (g : StagesPassed buffer lengths P K count) where
  files-are : guard_files 2 buffer lengths P ≡ (check_run 2 K (stages buffer lengths) (fields P) >>= λ Is. fitting K Is)
  unfolding guard_files at_most need ◌>>◌ ◌>>=◌
  files-are = rw (g.parted, g.short, le-leb (length P) 65536 g.proof_short, g.staged.is, g.staged.count_is, le-leb count 64 g.staged.few, g.staged.k_is)

  header-as : {x : code.Result Headed Fault} → IsHeader FileKind.Proof 2 K P x → header FileKind.Proof file_proof 2 (some K) (fields P) ≡ told file_proof (header_of P) x
  header-as h = ap (λ (o : Option ℕ). header FileKind.Proof file_proof 2 o (fields P)) (sym (given-some K g.low)) ∙ h.is file_proof

  header-stops : {f : Fault} → IsHeader FileKind.Proof 2 K P (Err f) → guard_files 2 buffer lengths P ≡ refused (answer (number_of f.refusal) 3 f.place)
  unfolding ◌>>=◌
  header-stops h = files-are ∙ rw (run-stops K (stages buffer lengths) (fields P) (header-as h))

  header-begins : {y : Headed} → IsHeader FileKind.Proof 2 K P (Ok y) → ProofBegun P K y.edition y.next
  header-begins {y} h =
      let d : header FileKind.Proof file_proof 2 (some K) (fields P) ≡ accepted (record { number = y.edition; K = y.k; rest = fields_at P y.next }) = header-as h in
      let z : y.k ≡ K = agreed K y.k ((header-gives FileKind.Proof file_proof 2 (some K) (fields P)).gives _ d).agree in
      record { is = d ∙ ap (λ (x : ℕ). accepted (record { number = y.edition; K = x; rest = fields_at P y.next })) z }

  module _ {x : code.Result Headed Fault} (h : IsHeader FileKind.Proof 2 K P x) {m : code.Result Headed Answer} (told-as : HeaderTold x m) where
    pub unheaded : {a : Answer} → m ≡ Err a → guard_files 2 buffer lengths P ≡ refused a
    unheaded e =
        let f = mapped-err (λ f a. a ≡ answer (number_of f.refusal) 3 f.place) x told-as e in
        rw f.2 (header-stops (rw f.1 at h))

    pub begun-header : {y : Headed} → m ≡ Ok y → ProofBegun P K y.edition y.next
    begun-header e = header-begins (rw (mapped-ok (λ f a. a ≡ answer (number_of f.refusal) 3 f.place) x told-as e) at h)

  pub countable : (at : ℕ) → Countable P at 0
  countable at = record { few = omega (arith, fields-few P at, g.proof_short) }

module _ (r : begun.Run) (g : Passed r) where
  pub asked : Begun r → {kinds : List ℕ} {buf : List ℤ} → Spare r.edition r.k (r.count + lines_left r.edition r.proof.now r.at) kinds buf → Asked r kinds buf
  asked b s = record { staged = g.staged; high = g.high; short = g.proof_short; header_is = b.is; spare = s }

  pub run-refused : {a : Answer} → RunChecked r (Err a) → guard_files 2 r.buffer.now r.lengths.now r.proof.now ≡ refused a
  unfolding ◌>>=◌
  run-refused q =
      let d = q.by in
      files-are g ∙ rw d

  pub run-totals : {d : Derived} → RunChecked r (Ok d) → Totals r d
  run-totals q = record { derives = q.by }

-- ---- what is accepted
module _ {r : begun.Run} (g : Passed r) {d : Derived} (t : Totals r d) where
  pub guard-long : d.fit ≡ false → guard_files 2 r.buffer.now r.lengths.now r.proof.now ≡ refused (answer 1 4 d.total)
  unfolding ◌>>=◌ ◌>>◌ need
  guard-long h =
      let x = t.derives in
      let z = sym x.fit_is ∙ h in
      files-are g ∙ rw (x.is, z, x.total_is)

  all_fit : d.fit ≡ true → guard_files 2 r.buffer.now r.lengths.now r.proof.now ≡ accepted (files r.k t.derives.formulas)
  unfolding ◌>>=◌ ◌>>◌ need
  all_fit h =
      let x = t.derives in
      let z = sym x.fit_is ∙ h in
      files-are g ∙ rw (x.is, z)

  cuts_are : cuts_of r ≡ accepted t.derives.formulas
  unfolding check_run
  cuts_are = both_first (cuts_of r) (uniform 2 r.k (fields r.proof.now)) t.derives.is

  files-count : length (files r.k t.derives.formulas) ≡ length r.lengths.now + 1
  files-count =
      length-map t.derives.formulas (formula_file edition1 r.k)
      ∙ from-count r.k (stages_of r) (fields r.proof.now) 0 (suc (length (stages_of r))) (cuts-from r.k (stages_of r) (fields r.proof.now) 0 (length (stages_of r)) ∙ cuts_are)
      ∙ omega (arith, stages-count g.staged)

  module _ {out sizes : List ℕ} (h : d.fit ≡ true) where
    module _ {a : Answer} (q : a ≡ answer 21 4 d.total) where
      pub out-short : length out < d.total → Guarded r.buffer.now r.lengths.now r.proof.now out sizes out sizes (Err a)
      unfolding guards guards_by written_guards fit_guards unwritten
      out-short l =
          let x = t.derives in
          let z : leb (length (joined (files r.k x.formulas))) (length out) ≡ false = lt-leb (length (joined (files r.k x.formulas))) (length out) (omega (arith, x.total_is)) in
          record { is = rw (all_fit h, z, q, x.total_is) }

      pub sizes-short : d.total ≤ length out → length sizes < length r.lengths.now + 1 → Guarded r.buffer.now r.lengths.now r.proof.now out sizes out sizes (Err a)
      unfolding guards guards_by written_guards fit_guards unwritten
      sizes-short m l =
          let x = t.derives in
          let y : leb (length (joined (files r.k x.formulas))) (length out) ≡ true = le-leb (length (joined (files r.k x.formulas))) (length out) (omega (arith, x.total_is)) in
          let z : leb (length (files r.k x.formulas)) (length sizes) ≡ false = lt-leb (length (files r.k x.formulas)) (length sizes) (omega (arith, files-count)) in
          record { is = rw (all_fit h, y, z, q, x.total_is) }

    module _ (m : d.total ≤ length out) (l : length r.lengths.now + 1 ≤ length sizes) where
      pub all_room : GuardsFit r out sizes
      all_room = record { formulas = t.derives.formulas; are = cuts_are; room = omega (arith, t.derives.total_is); slots = l }

      pub all-written : {out' sizes' : List ℕ} → WritesAll r out out' sizes sizes' → Guarded r.buffer.now r.lengths.now r.proof.now out sizes out' sizes' (Ok d.total)
      unfolding guards guards_by written_guards fit_guards
      all-written w =
          let x = t.derives in
          let y : leb (length (joined (files r.k x.formulas))) (length out) ≡ true = le-leb (length (joined (files r.k x.formulas))) (length out) (omega (arith, x.total_is)) in
          let z : leb (length (files r.k x.formulas)) (length sizes) ≡ true = le-leb (length (files r.k x.formulas)) (length sizes) (omega (arith, files-count)) in
          record { is = rw (all_fit h, y, z, x.total_is, w.output x.formulas cuts_are, w.told x.formulas cuts_are) }
