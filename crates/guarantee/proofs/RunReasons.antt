-- A run is refused by 25, by 26, and by 1 at the end, only where there is a reason. Assumes nothing.
use mathlib.Core.Path.{◌≡◌, refl, ◌∙◌, ap, subst}
use mathlib.Core.Logic.{◌⊎◌, inl, inr}
use mathlib.Core.Option.{Option, none, some}
use mathlib.Core.Bool.{Bool, true, false, ◌&&◌}
use mathlib.Core.List.{List, [], ◌∷◌, map}
use Prim.Native.Nat.{ℕ, suc, ◌≤◌, ◌<◌}
use native.Mathlib.Omega.{arith}
use borrow.Author.Tests.{leb-true, leb-false}
use lib.Dec.{T, leb, eqb, le→leb, leb→le, eqb→eq, eqb_refl}
use lib.ListN.{length}
use mir.Facts.{and_yes, yes_and}
use Rattle.forms.specs.Edition.{edition1, newest_edition}
use Rattle.forms.specs.Forms.{All, nil, cons, Formula, every}
use Rattle.answers.specs.declared.Answer.{Answer}
use Rattle.answers.specs.Answers.{answer, file_proof, Result, refused, accepted, ◌>>◌, need}
use Rattle.fields.specs.Fields.{Fields, Item, fields}
use Rattle.bundle.specs.Bundle.{at_most}
use Rattle.bundle.specs.Layout.{Each}
use Rattle.formula.specs.Formula.{formula_file}
use Rattle.proof.specs.Tree.{OpenStep, Tree}
use Rattle.proof.proofs.Tree.{proof-stands}
use Rattle.proof.proofs.Satisfies.{Satisfies, says-refused, says-accepted, bind, weaken}
use Rattle.chains.specs.Runs.{Run, joined, up_to, beyond}
use Rattle.run.specs.Uniform.{with_number}
use Rattle.run.specs.Run.{most_stages, most_constraints, first_stage, total, parts, parted, stages_short, read_stages, constants_of, run_of, side, check_run, guard_files, unwritten, fit_guards, written_guards, guards_by, guards}
use Rattle.run.specs.Layout.{guard_at, StageFile, RunYields}
use Rattle.run.specs.Refused.{CutRefused, RunRefused, every_cut, some_cut, differing, of_run}
use Rattle.run.specs.Ordered.{Parted, RunWithinLimits}
use Rattle.run_laws.proofs.Agree.{all-stages}
use Rattle.run_laws.proofs.OneTable.{RunAs, run-gives}
use Rattle.run_laws.proofs.Refused.{refused-as-check}
use Rattle.guarantee.specs.RunTree.{BranchFields, closes, goes_on, AllBranchFields, final, further, Unlike, strengthen, round, past, StandsInRun, as_check, claim, unlike}
use Rattle.guarantee.specs.Runs.{ManyConstraints, LongGuard}
use Rattle.guarantee.proofs.NotedAnswers.{stands-file}
use Rattle.guarantee.proofs.RunTree.{uniform-stands}
use Rattle.guarantee.proofs.TooLongFiles.{above-1, proof-amidst}
use Rattle.guarantee.proofs.BundleNumbers.{up-to-20, because, bundle-plain}

-- ---- the stages, the proof: neither 25 nor 26, and 1 not for what is lent
abbrev Plain : Answer → Type 0
Plain a = (¬ (a.number ≡ 25)) × (¬ (a.number ≡ 26)) × (a.number ≡ 1 → ¬ (a.file ≡ 4))

short-run : (limit file : ℕ) (bytes : List ℕ) → ¬ (file ≡ 4) → Satisfies Plain (at_most limit file bytes) (λ _. length bytes ≤ limit)
unfolding at_most need
short-run limit file bytes n = go (leb (length bytes) limit) refl
  where
    go : (b : Bool) → leb (length bytes) limit ≡ b → Satisfies Plain (need (answer 1 file 0) b) (λ _. length bytes ≤ limit)
    go true e = says-accepted (leb-true _ _ e)
    go false e = says-refused (λ q. omega arith, λ q. omega arith, λ _. n)

-- a step without a value, and what its acceptance tells
then-says : {Q : Answer → Type 0} {Y : Type 0} {P : Type 0} {R : Y → Type 0} {m : Result (Unit {0})} {r : Result Y} → Satisfies Q m (λ _. P) → (P → Satisfies Q r R) → Satisfies Q (m >> r) R
unfolding ◌>>◌
then-says {m = refused a} h k = says-refused (h.refusal a refl)
then-says {m = accepted x} h k = k (h.value x refl)

stages-short : (file : ℕ) → 5 ≤ file → (Ts : List (List ℕ)) → Satisfies Plain (stages_short newest_edition file Ts) (λ _. All (λ T. length T ≤ 8_192) Ts)
unfolding stages_short
stages-short file l [] = says-accepted nil
stages-short file l (T ∷ Ts) = then-says (short-run 8_192 file T (λ q. omega arith)) λ s. weaken (stages-short (suc file) (omega arith) Ts) (λ a q. q) (λ _ h. cons s h)

stages-plain : (file : ℕ) → 5 ≤ file → (given : Option ℕ) (Ts : List (List ℕ)) → Satisfies Plain (read_stages newest_edition file given Ts) (λ _. Unit {0})
unfolding read_stages
stages-plain file l given [] = says-accepted tt
stages-plain file l given (T ∷ Ts) = bind (weaken (bundle-plain file given T) (λ a q. (λ e. omega (arith, q.0), λ e. omega (arith, q.0), λ e f. omega (arith, q.1 e))) (λ _ u. u)) λ t _.
    bind (stages-plain (suc file) (omega arith) (some t.K) Ts) λ ts _. says-accepted tt

plain-amid : (a : Answer) → 2 ≤ a.number → (a.number ≤ 20) ⊎ ((a.number ≡ 27) ⊎ (a.number ≡ 28)) → Plain a
plain-amid a l (inl h) = (λ e. omega arith, λ e. omega arith, λ e f. omega arith)
plain-amid a l (inr (inl h)) = (λ e. omega arith, λ e. omega arith, λ e f. omega arith)
plain-amid a l (inr (inr h)) = (λ e. omega arith, λ e. omega arith, λ e f. omega arith)

run-plain : (K : ℕ) (Ts : Run) (proof : List ℕ) (a : Answer) → RunRefused newest_edition K Ts proof a → Plain a
unfolding with_number
run-plain K Ts proof a (every_cut h) =
    let t = (proof-amidst newest_edition (side K (up_to Ts 0)) (side K (beyond Ts 0)) (fields proof)).refusal a (h 0 (omega arith)) in
    let n = up-to-20 a.number t in
    (λ e. omega arith, λ e. omega arith, λ e _. above-1 t e)
run-plain K Ts proof a (some_cut i l n q) = plain-amid a (omega arith) (inl (omega arith))
run-plain K Ts proof a (differing i l b n q e) = let m : a.number ≡ 27 = ap (λ (x : Answer). x.number) e in plain-amid a (omega arith) (inr (inl m))
run-plain K Ts proof a (of_run (inl n) e f) = plain-amid a (omega arith) (inr (inl n))
run-plain K Ts proof a (of_run (inr n) e f) = plain-amid a (omega arith) (inr (inr n))

-- ---- what is refused amid the proof names it, and is not by 1
branch-file : {closed : List OpenStep} {t : Tree} {fs : Fields} {is : List Item} {rows : ℕ} {after : Fields} {a : Answer} → BranchFields closed t fs is rows after a → a.file ≡ file_proof
branch-file (closes f k e q) = ap (λ (x : Answer). x.file) q
branch-file (goes_on f b) = branch-file b

branches-file : {step last : ℕ} {ps : List OpenStep} {b rows : ℕ} {fs : Fields} {iss : List (List Item)} {rows' : ℕ} {after : Fields} {a : Answer} → AllBranchFields step last ps b rows fs iss rows' after a → a.file ≡ file_proof
branches-file (final e b) = branch-file b
branches-file (further h b bs) = branches-file bs

unlike-file : {t : Tree} {fs : Fields} {a : Answer} → Unlike t fs a → a.file ≡ file_proof
unlike-file (strengthen f e b n) = branches-file b
unlike-file (round f e b n) = branches-file b
unlike-file (past f u) = unlike-file u

stands-in-proof : {t : Tree} {fs : Fields} {a : Answer} → StandsInRun t fs a → a.file ≡ file_proof
unfolding with_number
stands-in-proof (as_check n m s) = stands-file s
stands-in-proof (claim n s) = stands-file s
stands-in-proof (unlike u) = unlike-file u

module _ (K : ℕ) (Ts : Run) (proof : List ℕ) where
  cut-file : (a : Answer) (i : ℕ) → CutRefused newest_edition K Ts proof a i → a.file ≡ file_proof
  cut-file a i e = stands-file (proof-stands newest_edition (side K (up_to Ts i)) (side K (beyond Ts i)) (fields proof) a e)

  pub run-amid : (a : Answer) → RunRefused newest_edition K Ts proof a → (a.file ≡ file_proof) × (¬ (a.number ≡ 1))
  unfolding with_number
  run-amid a (every_cut h) = (cut-file a 0 (h 0 (omega arith)), above-1 ((proof-amidst newest_edition (side K (up_to Ts 0)) (side K (beyond Ts 0)) (fields proof)).refusal a (h 0 (omega arith))))
  run-amid a (some_cut i l n e) = (cut-file a i e, λ q. omega arith)
  run-amid a (differing i l b n e q) = (ap (λ (x : Answer). x.file) q ∙ cut-file b i e, λ z. let m : a.number ≡ 27 = ap (λ (x : Answer). x.number) q in omega arith)
  run-amid a (of_run (inl n) e h) = (stands-in-proof ((uniform-stands newest_edition K (fields proof)).refusal a e), λ q. omega arith)
  run-amid a (of_run (inr n) e h) = (stands-in-proof ((uniform-stands newest_edition K (fields proof)).refusal a e), λ q. omega arith)

-- ---- the lengths, as the operation tests them
module _ (lengths buffer : List ℕ) where
  pub is-parted : Parted lengths buffer → T (parted lengths buffer)
  unfolding parted
  is-parted (a, b, c) = yes_and (leb 1 (length lengths) && leb (length lengths) most_stages) (eqb (total lengths) (length buffer))
      (yes_and (leb 1 (length lengths)) (leb (length lengths) most_stages) (le→leb 1 (length lengths) a) (le→leb (length lengths) most_stages b)) (rw c (eqb_refl (length buffer)))

  parted-is : T (parted lengths buffer) → Parted lengths buffer
  unfolding parted
  parted-is t =
      let (ab, c) = and_yes (leb 1 (length lengths) && leb (length lengths) most_stages) (eqb (total lengths) (length buffer)) t in
      let (a, b) = and_yes (leb 1 (length lengths)) (leb (length lengths) most_stages) ab in
      (leb→le 1 (length lengths) a, leb→le (length lengths) most_stages b, eqb→eq (total lengths) (length buffer) c)

-- ---- the whole operation
pub every-short : (K : ℕ) {Is : List Formula} → All (λ I. length (formula_file edition1 K I) ≤ edition1.formula_bytes) Is → T (every (λ file. leb (length file) edition1.formula_bytes) (map (formula_file edition1 K) Is))
unfolding every
every-short K nil = tt
every-short K (cons {x = I} h hs) = yes_and (leb (length (formula_file edition1 K I)) edition1.formula_bytes) _ (le→leb _ _ h) (every-short K hs)

some-long : (K : ℕ) (Is : List Formula) → every (λ file. leb (length file) edition1.formula_bytes) (map (formula_file edition1 K) Is) ≡ false
    → (i : ℕ) × (i < length Is) × (edition1.formula_bytes < length (formula_file edition1 K (guard_at Is i)))
unfolding every guard_at
some-long K [] e = absurd (subst T e tt)
some-long K (I ∷ Is) e = go (leb (length (formula_file edition1 K I)) edition1.formula_bytes) refl e (λ f. some-long K Is f)
  where
    go : (b : Bool) → leb (length (formula_file edition1 K I)) edition1.formula_bytes ≡ b → {c : Bool} → b && c ≡ false
        → (c ≡ false → (i : ℕ) × (i < length Is) × (edition1.formula_bytes < length (formula_file edition1 K (guard_at Is i))))
        → (i : ℕ) × (i < suc (length Is)) × (edition1.formula_bytes < length (formula_file edition1 K (guard_at (I ∷ Is) i)))
    go true t f k = let (i, h, l) = k f in (suc i, omega arith, l)
    go false t f k = (0, omega arith, leb-false _ _ t)

module _ (buffer lengths proof : List ℕ) where
  abbrev pub Why : Answer → Type 0
  Why a = (a.number ≡ 25 → ¬ (Parted lengths buffer)) × (a.number ≡ 26 → ManyConstraints buffer lengths proof) × (a.number ≡ 1 → a.file ≡ 4 → LongGuard buffer lengths proof)

  plain : {X : Type 0} {P : X → Type 0} {r : Result X} → Satisfies Plain r P → Satisfies Why r P
  plain s = weaken s (λ a (p, q, l). (λ e. absurd (p e), λ e. absurd (q e), λ e f. absurd (l e f))) (λ _ u. u)

  stages-why : Satisfies Why (read_stages newest_edition first_stage none (parts lengths buffer)) (λ ts. Each (StageFile newest_edition (constants_of ts)) (parts lengths buffer) (run_of ts))
  stages-why = record {
    refusal = (plain (stages-plain first_stage (omega arith) none (parts lengths buffer))).refusal;
    value = (all-stages newest_edition first_stage (parts lengths buffer)).gives;
  }

  run-why : (K : ℕ) (Ts : Run) → Satisfies Why (check_run newest_edition K Ts (fields proof)) (RunAs newest_edition K Ts (fields proof))
  run-why K Ts = record {
    refusal = λ a e. let (p, q, l) = run-plain K Ts proof a (refused-as-check.as_check newest_edition K Ts proof a e).0 in (λ e. absurd (p e), λ e. absurd (q e), λ e f. absurd (l e f));
    value = (run-gives newest_edition K Ts (fields proof)).gives;
  }

  pub yields : RunWithinLimits lengths buffer proof → (K : ℕ) (Ts : Run) → Each (StageFile newest_edition K) (parts lengths buffer) Ts → length (joined Ts) ≤ most_constraints
      → (Is : List Formula) → RunAs newest_edition K Ts (fields proof) Is → RunYields newest_edition buffer lengths proof K Ts Is
  yields (p, _, s) K Ts h f Is r = record {
    least = p.0;
    most = p.1;
    adds_up = p.2;
    stages = h;
    few = f;
    edition_proof = r.number;
    es = r.es;
    file_proof = record { first = r.first; last = r.last; short = s; body = r.body; whole = r.whole; low = r.low; high = r.high; enters = r.enters };
    count = r.count;
    guards = r.guards;
  }

  files-why : Satisfies Why (guard_files newest_edition buffer lengths proof) (λ _. Unit {0})
  unfolding guard_files
  files-why =
      because _ _ (λ f. (λ _ h. subst T f (is-parted lengths buffer h), λ e. absurd (omega arith), λ e. absurd (omega arith))) λ p.
      then-says (plain (stages-short first_stage (omega arith) (parts lengths buffer))) λ s.
      then-says (plain (short-run 65_536 file_proof proof (λ q. omega arith))) λ l.
      let short : RunWithinLimits lengths buffer proof = (parted-is lengths buffer (rw p tt), s, l) in
      bind stages-why λ ts h.
      because _ _ (λ f. (λ e. absurd (omega arith), λ _. record { K = constants_of ts; Ts = run_of ts; short = short; stages = h; many = omega (arith, leb-false (length (joined (run_of ts))) most_constraints f) }, λ e. absurd (omega arith))) λ few.
      bind (run-why (constants_of ts) (run_of ts)) λ Is r.
      because _ _ (λ f. (
        λ e. absurd (omega arith),
        λ e. absurd (omega arith),
        λ _ _. record {
          K = constants_of ts;
          Ts = run_of ts;
          Is = Is;
          yields = yields short (constants_of ts) (run_of ts) h (leb-true _ _ few) Is r;
          long = let (i, h, l) = some-long (constants_of ts) Is f in (i, omega (arith, r.count), l);
        },
      )) λ _. says-accepted tt

  module _ (output sizes : List ℕ) where
    fit-why : (b : Bool) (files : List (List ℕ)) → Why (fit_guards output sizes b files).answer
    unfolding fit_guards unwritten
    fit-why true files = (λ e. absurd (omega arith), λ e. absurd (omega arith), λ e f. absurd (omega arith))
    fit-why false files = (λ e. absurd (omega arith), λ e. absurd (omega arith), λ e f. absurd (omega arith))

    written-why : (r : Result (List (List ℕ))) → guard_files newest_edition buffer lengths proof ≡ r → Why (written_guards output sizes r).answer
    unfolding written_guards unwritten
    written-why (refused a) e = files-why.refusal a e
    written-why (accepted files) e = fit-why _ files

    pub guards-why : Why (guards buffer lengths proof output sizes).answer
    unfolding guards guards_by
    guards-why = written-why (guard_files newest_edition buffer lengths proof) refl
