-- The promises of a run hold: one list of guards, each what check writes, and a refusal of the proof as check refuses it. Assumes nothing.
use mathlib.Core.Path.{◌≡◌, refl, sym, ◌∙◌, ap, ap₂}
use mathlib.Core.Logic.{◌⊎◌}
use mathlib.Core.Option.{none}
use mathlib.Core.Bool.{Bool, true, false}
use mathlib.Core.List.{List, [], ◌∷◌, map}
use Prim.Native.Nat.{ℕ, zero, suc, ◌≤◌, ◌<◌}
use native.Mathlib.Omega.{arith}
use lib.Dec.{leb, le→leb}
use lib.ListN.{length, take, drop}
use Rattle.forms.specs.Edition.{edition1, newest_edition}
use Rattle.forms.specs.Forms.{All, nil, cons, Formula, every}
use Rattle.answers.specs.declared.Answer.{Answer}
use Rattle.answers.specs.Answers.{answer, file_proof, file_lent, Result, refused, accepted, ◌>>=◌, ◌>>◌, need}
use Rattle.answers.proofs.Results.{never, one_value, binds, passes, needs}
use Rattle.number_bytes.specs.Numbers.{Bytes}
use Rattle.fields.specs.Fields.{fields}
use Rattle.fields.specs.Header.{agrees}
use Rattle.bundle.specs.Layout.{Each, nil as nil-each, cons as cons-each}
use Rattle.bundle.proofs.Laid.{short-accepted}
use Rattle.formula.specs.Formula.{formula_file}
use Rattle.proof.specs.Check.{check_proof}
use Rattle.chains.specs.Runs.{Run, joined, up_to, beyond}
use Rattle.run.specs.Run.{most_constraints, first_stage, parts, constants_of, run_of, side, check_cut, check_run, guard_files, GuardsWritten, unwritten, fit_guards, written_guards, guards_by, guards}
use Rattle.run.specs.Layout.{guard_at, StageFile, RunYields}
use Rattle.run.specs.Refused.{CutRefused, Earliest, RunRefused, every_cut, some_cut, differing, of_run}
use Rattle.run.specs.Ordered.{RunWithinLimits}
use Rattle.run_laws.proofs.OneTable.{run-gives}
use Rattle.run_laws.proofs.Refused.{refused-as-check}
use Rattle.guarantee.specs.LaidOut.{WholeFields}
use Rattle.guarantee.specs.Runs.{RunPromised}
use Rattle.guarantee.proofs.Soundness.{lists}
use Rattle.guarantee.proofs.RunReasons.{is-parted, run-amid, yields}
use Rattle.guarantee.proofs.RunStages.{in_stage}
use Rattle.guarantee.proofs.Runs.{left-of, delivered, cut-checked}
use Rattle.guarantee.proofs.RunAcceptance.{bundles_of, run-of, stages-read, stages-fit, constants-of, parts-count, cut-accepted, guards-yielded}

-- ---- one K, one run, one list of guards
same-guards : (Is Js : List Formula) → length Is ≡ length Js → ((i : ℕ) → i < length Is → guard_at Is i ≡ guard_at Js i) → Is ≡ Js
unfolding guard_at
same-guards [] [] l h = refl
same-guards [] (J ∷ Js) l h = absurd (omega arith)
same-guards (I ∷ Is) [] l h = absurd (omega arith)
same-guards (I ∷ Is) (J ∷ Js) l h = ap₂ ◌∷◌ (h 0 (omega arith)) (same-guards Is Js (omega arith) (λ i b. h (suc i) (omega arith)))

module _ {buffer lengths proof : List ℕ} {K K' : ℕ} {Ts Ts' : Run} {Is Is' : List Formula} (y : RunYields newest_edition buffer lengths proof K Ts Is) (y' : RunYields newest_edition buffer lengths proof K' Ts' Is') where
  same-stages : bundles_of newest_edition K y.stages ≡ bundles_of newest_edition K' y'.stages
  unfolding agrees
  same-stages = one_value (stages-read newest_edition K y.stages first_stage none tt) (stages-read newest_edition K' y'.stages first_stage none tt)

  same-K : K ≡ K'
  same-K =
      let l : 1 ≤ length (parts lengths buffer) = omega (arith, parts-count lengths buffer, y.least) in
      sym (constants-of newest_edition K y.stages l) ∙ ap constants_of same-stages ∙ constants-of newest_edition K' y'.stages l

  same-run : Ts ≡ Ts'
  same-run = sym (run-of newest_edition K y.stages) ∙ ap run_of same-stages ∙ run-of newest_edition K' y'.stages

  same-list : Is ≡ Is'
  same-list = same-guards Is Is' (y.count ∙ ap (λ (Ts : Run). suc (length Ts)) same-run ∙ sym y'.count) each
    where
      each : (i : ℕ) → i < length Is → guard_at Is i ≡ guard_at Is' i
      each i b =
          let n : length Ts ≡ length Ts' = ap (λ (Ts : Run). length Ts) same-run in
          let other : check_cut newest_edition K Ts (fields proof) i ≡ accepted (guard_at Is' i) = rw (same-K, same-run) (cut-accepted y' i (omega (arith, y.count))) in
          one_value (cut-accepted y i (omega (arith, y.count))) other

-- ---- each stage is some writer's file
all-part : {P : ℕ → Type 0} (n : ℕ) {xs : List ℕ} → All P xs → All P (take n xs) × All P (drop n xs)
all-part zero h = (nil, h)
all-part (suc n) nil = (nil, nil)
all-part (suc n) (cons x xs) = let (a, b) = all-part n xs in (cons x a, b)

all_listed : {K : ℕ} (lengths buffer : List ℕ) {Ts : Run} → Bytes buffer → Each (StageFile newest_edition K) (parts lengths buffer) Ts → All WholeFields (parts lengths buffer)
unfolding parts
all_listed [] buffer b nil-each = nil
all_listed (n ∷ ns) buffer b (cons-each s ss) = let (a, r) = all-part n b in cons (lists a s.states.whole) (all_listed ns (drop n buffer) r ss)

-- ---- a refusal of the proof
module _ (buffer lengths proof output sizes : List ℕ) (K : ℕ) (Ts : Run) (short : RunWithinLimits lengths buffer proof) (stages : Each (StageFile newest_edition K) (parts lengths buffer) Ts)
    (few : length (joined Ts) ≤ most_constraints) where
  abbrev finishing : (Is : List Formula) → Result (List (List ℕ))
  finishing Is = need (answer 1 file_lent (length (joined (map (formula_file edition1 K) Is)))) (every (λ file. leb (length file) edition1.formula_bytes) (map (formula_file edition1 K) Is)) >> accepted (map (formula_file edition1 K) Is)

  after-stages : (L : ℕ) (S : Run) → L ≡ K → S ≡ Ts → (need (answer 26 file_lent 0) (leb (length (joined S)) most_constraints) >> (check_run newest_edition L S (fields proof) >>= λ Js.
      need (answer 1 file_lent (length (joined (map (formula_file edition1 L) Js)))) (every (λ file. leb (length file) edition1.formula_bytes) (map (formula_file edition1 L) Js)) >> accepted (map (formula_file edition1 L) Js)))
      ≡ (check_run newest_edition K Ts (fields proof) >>= λ Js. finishing Js)
  after-stages L S p q = rw (p, q) (needs _ _ _ (le→leb _ _ few))

  files-are : guard_files newest_edition buffer lengths proof ≡ (check_run newest_edition K Ts (fields proof) >>= λ Js. finishing Js)
  unfolding guard_files agrees
  files-are = needs _ _ _ (is-parted lengths buffer short.0) ∙ passes _ (stages-fit newest_edition K stages first_stage) ∙ passes _ (short-accepted _ file_proof proof short.2)
      ∙ binds _ (stages-read newest_edition K stages first_stage none tt)
      ∙ after-stages (constants_of (bundles_of newest_edition K stages)) (run_of (bundles_of newest_edition K stages))
      (constants-of newest_edition K stages (omega (arith, parts-count lengths buffer, short.0.0))) (run-of newest_edition K stages)

  abbrev InProof : Answer → Type 0
  InProof a = RunRefused newest_edition K Ts proof a × Earliest newest_edition K Ts proof a × (¬ (a.number ≡ 14))

  fit-file : (b : Bool) (files : List (List ℕ)) → (fit_guards output sizes b files).answer.file ≡ file_proof → ⊥
  unfolding fit_guards unwritten
  fit-file true files e = omega arith
  fit-file false files e = omega arith

  finished-file : (b : Bool) (x : ℕ) (files : List (List ℕ)) → (written_guards output sizes (need (answer 1 file_lent x) b >> accepted files)).answer.file ≡ file_proof → ⊥
  unfolding written_guards unwritten need ◌>>◌
  finished-file true x files e = fit-file _ files e
  finished-file false x files e = omega arith

  by-run : (R : Result (List Formula)) → check_run newest_edition K Ts (fields proof) ≡ R → (written_guards output sizes (R >>= λ Js. finishing Js)).answer.file ≡ file_proof → InProof (written_guards output sizes (R >>= λ Js. finishing Js)).answer
  unfolding ◌>>=◌ written_guards unwritten
  by-run (refused a) e h = refused-as-check.as_check newest_edition K Ts proof a e
  by-run (accepted Is) e h = absurd (finished-file (every (λ file. leb (length file) edition1.formula_bytes) (map (formula_file edition1 K) Is)) (length (joined (map (formula_file edition1 K) Is))) (map (formula_file edition1 K) Is) h)

  refused-in-proof : (guards buffer lengths proof output sizes).answer.file ≡ file_proof → InProof (guards buffer lengths proof output sizes).answer
  unfolding guards guards_by
  refused-in-proof h = rw files-are (by-run (check_run newest_edition K Ts (fields proof)) refl (rw files-are at h))

  -- where guards are derived, the proof is not named
  none-where-named : Bytes proof → (guards buffer lengths proof output sizes).answer.file ≡ file_proof → (Is : List Formula) → ¬ (RunYields newest_edition buffer lengths proof K Ts Is)
  unfolding guards guards_by
  none-where-named bytes h Is y =
      finished-file (every (λ file. leb (length file) edition1.formula_bytes) (map (formula_file edition1 K) Is)) (length (joined (map (formula_file edition1 K) Is))) (map (formula_file edition1 K) Is) (rw (guards-yielded y bytes) at h)

  -- where none are, it is
  module _ (none-derived : (Is : List Formula) → ¬ (RunYields newest_edition buffer lengths proof K Ts Is)) (Q : Answer → Type 0) (of-refused : (a : Answer) → RunRefused newest_edition K Ts proof a → Q a) where
    by-refusal : (R : Result (List Formula)) → check_run newest_edition K Ts (fields proof) ≡ R → Q (written_guards output sizes (R >>= λ Js. finishing Js)).answer
    unfolding ◌>>=◌ written_guards unwritten
    by-refusal (refused a) e = of-refused a (refused-as-check.as_check newest_edition K Ts proof a e).0
    by-refusal (accepted Is) e = absurd (none-derived Is (yields buffer lengths proof short K Ts stages few Is ((run-gives newest_edition K Ts (fields proof)).gives Is e)))

    where-none : Q (guards buffer lengths proof output sizes).answer
    unfolding guards guards_by
    where-none = rw files-are (by-refusal (check_run newest_edition K Ts (fields proof)) refl)

  -- where moreover check accepts every cut, by 27 or 28
  abbrev Ours : Answer → Type 0
  Ours a = (a.number ≡ 27) ⊎ (a.number ≡ 28)

  module _ (cuts : (i : ℕ) → i ≤ length Ts → (I : Formula) × (check_proof newest_edition (side K (up_to Ts i)) (side K (beyond Ts i)) (fields proof) ≡ accepted I)) where
    never-cut : (a : Answer) (i : ℕ) → i ≤ length Ts → CutRefused newest_edition K Ts proof a i → ⊥
    never-cut a i l e = let (I, q) = cuts i l in never (sym e ∙ q)

    ours : (a : Answer) → RunRefused newest_edition K Ts proof a → Ours a
    ours a (every_cut h) = absurd (never-cut a 0 (omega arith) (h 0 (omega arith)))
    ours a (some_cut i l n e) = absurd (never-cut a i l e)
    ours a (differing i l b n e q) = absurd (never-cut b i l e)
    ours a (of_run n e h) = n

-- docs/FORMAT.md, "Guards of a run of stages".
pub run-promised : RunPromised
run-promised = record {
  interpolates = delivered;
  listed = λ buffer lengths proof output sizes left sizesLeft r bytes w h. all_listed lengths buffer bytes (left-of w h).checkable.certified.yields.stages;
  one_list = λ buffer lengths proof K K' Ts Ts' Is Is' y y'. (same-K y y', same-run y y', same-list y y');
  as_check = λ buffer lengths proof K Ts Is c i h A B n_A n_B a b lent checked q w. w.is ∙ cut-checked c i h A B n_A n_B a b lent;
  in_stage = λ buffer lengths proof output sizes left sizesLeft r w limits before T after are A B file x P lent checked q short c.
      in_stage w limits before T after are A B file x P lent checked q short c;
  in-proof = λ buffer lengths proof output sizes left sizesLeft r w K Ts short stages few h.
      let e : r.answer ≡ (guards buffer lengths proof output sizes).answer = ap (λ (g : GuardsWritten). g.answer) w.is in
      rw e (refused-in-proof buffer lengths proof output sizes K Ts short stages few (rw e at h));
  names_proof = λ buffer lengths proof output sizes left sizesLeft r w K Ts short stages few.
      let e : r.answer ≡ (guards buffer lengths proof output sizes).answer = ap (λ (g : GuardsWritten). g.answer) w.is in (
        λ n. rw e (where-none buffer lengths proof output sizes K Ts short stages few n (λ a. a.file ≡ file_proof) (λ a h. (run-amid K Ts proof a h).0)),
        λ bytes h. none-where-named buffer lengths proof output sizes K Ts short stages few bytes (rw e at h),
      );
  not_uniform = λ buffer lengths proof output sizes left sizesLeft r w K Ts short stages few cuts n.
      let e : r.answer ≡ (guards buffer lengths proof output sizes).answer = ap (λ (g : GuardsWritten). g.answer) w.is in
      rw e (where-none buffer lengths proof output sizes K Ts short stages few n (λ a. (a.number ≡ 27) ⊎ (a.number ≡ 28)) (ours buffer lengths proof output sizes K Ts short stages few cuts));
}
