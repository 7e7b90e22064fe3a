-- A run's stages are refused as check refuses them, each with its own file. docs/FORMAT.md, "Guards of a run of stages". Assumes nothing.
use mathlib.Core.Path.{◌≡◌, refl, sym, ◌∙◌, ap, subst}
use mathlib.Core.Logic.{◌⊎◌, inl, inr}
use mathlib.Core.Option.{Option, none, some}
use mathlib.Core.Bool.{Bool, true, false}
use mathlib.Core.List.{List, [], ◌∷◌, ◌++◌}
use Prim.Native.Nat.{ℕ, suc, ◌+◌, ◌≤◌}
use native.Mathlib.Omega.{arith}
use lib.ListN.{length}
use Rattle.forms.specs.Edition.{Edition, edition, newest_edition}
use Rattle.forms.specs.Forms.{All, nil as nil-all, cons as cons-all}
use Rattle.answers.specs.declared.Answer.{Answer}
use Rattle.answers.specs.declared.WriteResult.{WriteResult}
use Rattle.answers.specs.Answers.{answer, file_a, file_b, file_proof, Result, refused, accepted, ◌>>=◌, ◌>>◌, need, found, Written}
use Rattle.answers.proofs.Results.{never, binds, passes, bind-refused}
use Rattle.fields.specs.declared.FileKind.{FileKind}
use Rattle.fields.specs.Fields.{Fields, ends, cut, ◌▸◌, fields}
use Rattle.fields.specs.Header.{agrees, header_field, edition_field, constants_field}
use Rattle.bundle.specs.Bundle.{Bundle, at_most, constraints, bundle_header, bundle, bundles, both_read}
use Rattle.bundle.specs.Layout.{Each, nil, cons}
use Rattle.bundle.proofs.Laid.{Laid, bundle-gives, bundle-accepts, short-accepted, both-read-short}
use Rattle.proof.specs.Promises.{Checks}
use Rattle.proof.proofs.Agree.{agreed, agrees-refl}
use Rattle.proof.proofs.Outside.{short-in, bundle-in}
use Rattle.proof.proofs.Satisfies.{Satisfies, says-accepted, bind, seq, test, weaken}
use Rattle.chains.specs.Runs.{Run}
use Rattle.enumeration.proofs.Refusals.{checked-file, as_check}
use Rattle.run.specs.Run.{first_stage, parts, stages_short, read_stages, constants_of, run_of, guard_files, GuardsWritten, unwritten, fit_guards, written_guards, guards_by, guards}
use Rattle.run.specs.Layout.{StageFile}
use Rattle.run.specs.Ordered.{RunWithinLimits}
use Rattle.run.specs.Promises.{WritesGuards}
use Rattle.run_laws.proofs.Ordered.{run-in-order}
use Rattle.run_laws.proofs.Refused.{refused-as-check}
use Rattle.guarantee.specs.RefusedIff.{JustWhere}
use Rattle.guarantee.specs.Runs.{Bundled, ReadByCheck, as_A, as_B}
use Rattle.guarantee.proofs.NotedAnswers.{map_result, Maps, maps-computed, bind-maps}
use Rattle.guarantee.proofs.RunReasons.{run-amid}

-- ---- a bundle under another file's number
abbrev in_file : ℕ → Answer → Answer
in_file file a = record { number = a.number; file = file; place = a.place; row = a.row; step = a.step; branch = a.branch }

module _ {μ : Answer → Answer} {X Y : Type 0} {f : X → Y} where
  need-maps : (a : Answer) (t : Bool) {s : Result X} {s' : Result Y} → Maps μ f s s' → Maps μ f (need a t >> s) (need (μ a) t >> s')
  unfolding need ◌>>◌
  need-maps a true d = d
  need-maps a false d = record { equal = refl }

  found-maps : {Z : Type 0} (a : Answer) (o : Option Z) {k : Z → Result X} {k' : Z → Result Y} → ((z : Z) → Maps μ f (k z) (k' z)) → Maps μ f (found a o >>= k) (found (μ a) o >>= k')
  unfolding found ◌>>=◌
  found-maps a none d = record { equal = refl }
  found-maps a (some z) d = d z

module _ (file other : ℕ) where
  abbrev Refiled : {X : Type 0} → Result X → Result X → Type 0
  Refiled = Maps (in_file other) (λ x. x)

  field-refiled : (tag : ℕ) (fs : Fields) → Refiled (header_field FileKind.Bundle file tag fs) (header_field FileKind.Bundle other tag fs)
  unfolding header_field
  field-refiled tag (ends at) = maps-computed
  field-refiled tag (cut at) = maps-computed
  field-refiled tag (f ▸ fs) = need-maps _ _ (need-maps _ _ (need-maps _ _ maps-computed))

  constraints-refiled : (e : Edition) (K n : ℕ) (fs : Fields) → Refiled (constraints file e K n fs) (constraints other e K n fs)
  unfolding constraints
  constraints-refiled e K n (ends at) = maps-computed
  constraints-refiled e K n (cut at) = maps-computed
  constraints-refiled e K n (f ▸ fs) = need-maps _ _ (found-maps _ _ λ kind. need-maps _ _ (need-maps _ _ (need-maps _ _ (bind-maps _ (constraints-refiled e K (suc n) fs) λ cs _. maps-computed))))

  edition-refiled : (fs : Fields) → Refiled (edition_field FileKind.Bundle file newest_edition fs) (edition_field FileKind.Bundle other newest_edition fs)
  unfolding edition_field
  edition-refiled fs = bind-maps _ (field-refiled 0x01 fs) λ x _. need-maps _ _ maps-computed

  constants-refiled : (given : Option ℕ) (fs : Fields) → Refiled (constants_field FileKind.Bundle file given fs) (constants_field FileKind.Bundle other given fs)
  unfolding constants_field
  constants-refiled given fs = bind-maps _ (field-refiled 0x02 fs) λ x _. need-maps _ _ (need-maps _ _ maps-computed)

  header-refiled : (given : Option ℕ) (bytes : List ℕ) → Refiled (bundle_header newest_edition file given bytes) (bundle_header newest_edition other given bytes)
  unfolding bundle_header at_most
  header-refiled given bytes = bind-maps _ (edition-refiled (fields bytes)) λ x _. need-maps _ _ (bind-maps _ (constants-refiled given x.1) λ y _. maps-computed)

  bundle-refiled : (given : Option ℕ) (bytes : List ℕ) → Refiled (bundle newest_edition file given bytes) (bundle newest_edition other given bytes)
  unfolding bundle
  bundle-refiled given bytes = bind-maps _ (header-refiled given bytes) λ h _. bind-maps _ (constraints-refiled (edition h.number) h.K 0 h.rest) λ cs _. maps-computed

  refiled : (given : Option ℕ) (bytes : List ℕ) {a : Answer} → bundle newest_edition file given bytes ≡ refused a → bundle newest_edition other given bytes ≡ refused (in_file other a)
  refiled given bytes e = sym (bundle-refiled given bytes).equal ∙ ap (map_result (in_file other) (λ x. x)) e

-- ---- the stages in turn
stages-above : (file : ℕ) (given : Option ℕ) (Ts : List (List ℕ)) → Satisfies (λ a. file ≤ a.file) (read_stages newest_edition file given Ts) (λ _. Unit {0})
unfolding read_stages
stages-above file given [] = says-accepted tt
stages-above file given (T ∷ Ts) = bind (weaken (bundle-in file newest_edition given T) (λ a q. omega (arith, q.0)) (λ _ u. u)) λ t _.
    bind (weaken (stages-above (suc file) (some t.K) Ts) (λ a q. omega (arith, q)) (λ _ u. u)) λ ts _. says-accepted tt

module _ (T : List ℕ) (after : List (List ℕ)) where
  front-refused : (file : ℕ) (given : Option ℕ) {a : Answer} → bundle newest_edition file given T ≡ refused a → read_stages newest_edition file given (T ∷ after) ≡ refused a
  unfolding read_stages
  front-refused file given e = bind-refused _ e

  front-found : (file : ℕ) (given : Option ℕ) → Satisfies (λ a. a.file ≡ file → bundle newest_edition file given T ≡ refused a) (read_stages newest_edition file given (T ∷ after)) (λ _. Unit {0})
  unfolding read_stages
  front-found file given = bind {P = λ _. Unit {0}} (record { refusal = λ a e q. e; value = λ _ _. tt }) λ t _.
      bind (weaken (stages-above (suc file) (some t.K) after) (λ a l q. absurd (omega (arith, l, q))) (λ _ u. u)) λ ts _. says-accepted tt

  -- behind stages of this K
  later-refused : (K : ℕ) {before : List (List ℕ)} {Ts : Run} → Each (StageFile newest_edition K) before Ts → (file n : ℕ) → n ≡ file + length before → (a : Answer)
      → bundle newest_edition n (some K) T ≡ refused a → read_stages newest_edition file (some K) (before ++ (T ∷ after)) ≡ refused a
  unfolding read_stages
  later-refused K nil file n q a e = let z : n ≡ file = omega arith in front-refused file (some K) (subst (λ (m : ℕ). bundle newest_edition m (some K) T ≡ refused a) z e)
  later-refused K (cons {x = F} {y = C} s ss) file n q a e =
      binds _ (bundle-accepts newest_edition file (some K) F (record { edition = s.number; K = K; constraints = C }) (record { file = s.states; agree = agrees-refl K }))
      ∙ bind-refused _ (later-refused K ss (suc file) n (omega arith) a e)

  record Found (K : ℕ) (before : List (List ℕ)) (n : ℕ) (a : Answer) : Type 0 where
    Ts : Run
    stages : Each (StageFile newest_edition K) before Ts
    is : bundle newest_edition n (some K) T ≡ refused a

  found-on : {K n : ℕ} {F : List ℕ} {before : List (List ℕ)} {a : Answer} (t : Bundle) → Laid newest_edition (some K) F t → Found t.K before n a → Found K (F ∷ before) n a
  found-on {K} {n} {F} {before} {a} t l f = subst (λ (L : ℕ). Found L (F ∷ before) n a) (agreed K t.K l.agree)
      (record { Ts = t.constraints ∷ f.Ts; stages = cons (record { number = t.edition; states = l.file }) f.stages; is = f.is })

  later-found : (before : List (List ℕ)) (K file n : ℕ) → n ≡ file + length before
      → Satisfies (λ a. a.file ≡ n → Found K before n a) (read_stages newest_edition file (some K) (before ++ (T ∷ after))) (λ _. Unit {0})
  unfolding read_stages
  later-found [] K file n q =
      let z : file ≡ n = omega arith in
      weaken (front-found file (some K)) (λ a h f. record { Ts = []; stages = nil; is = subst (λ (m : ℕ). bundle newest_edition m (some K) T ≡ refused a) z (h (omega (arith, f))) }) (λ _ u. u)
  later-found (F ∷ before) K file n q =
      bind {P = λ t. Laid newest_edition (some K) F t} (record { refusal = λ a e f. absurd (omega (arith, f, ((bundle-in file newest_edition (some K) F).refusal a e).0)); value = (bundle-gives newest_edition file (some K) F).gives }) λ t l.
      bind (weaken (later-found before t.K (suc file) n (omega arith)) (λ a h f. found-on t l (h f)) (λ _ u. u)) λ ts _. says-accepted tt

-- ---- what check says of a stage
module _ {A B P lent checked : List ℕ} {q : WriteResult} (short : length P ≤ 65_536) (c : Checks A B P lent checked q) where
  checked-as : {a : Answer} → both_read newest_edition A B ≡ refused a → q.answer ≡ a
  checked-as e = ap (λ (w : Written). w.answer) (c.is ∙ (as_check A B P short [] lent e).0)

  refused-by : (q.answer.file ≡ file_a) ⊎ (q.answer.file ≡ file_b) → both_read newest_edition A B ≡ refused q.answer
  refused-by o = let (a, e) = checked-file A B P short lent (subst (λ (w : Written). (w.answer.file ≡ file_a) ⊎ (w.answer.file ≡ file_b)) c.is o) in e ∙ ap refused (sym (checked-as e))

-- where A is refused, and where A is read
module _ (A B : List ℕ) where
  A-refused : {a : Answer} → bundle newest_edition file_a none A ≡ refused a → bundles newest_edition A B ≡ refused a
  unfolding bundles
  A-refused e = bind-refused _ e

  B-refused : {x : Bundle} {a : Answer} → bundle newest_edition file_a none A ≡ accepted x → bundle newest_edition file_b (some x.K) B ≡ refused a → bundles newest_edition A B ≡ refused a
  unfolding bundles
  B-refused e f = binds _ e ∙ bind-refused _ f

  A-found : Satisfies (λ a. a.file ≡ file_a → bundle newest_edition file_a none A ≡ refused a) (bundles newest_edition A B) (λ _. Unit {0})
  unfolding bundles
  A-found = bind {P = λ _. Unit {0}} (record { refusal = λ a e q. e; value = λ _ _. tt }) λ x _.
      bind (weaken (bundle-in file_b newest_edition (some x.K) B) (λ a i q. absurd (omega (arith, i.0, q))) (λ _ u. u)) λ y _. says-accepted tt

  B-found : (x : Bundle) → bundle newest_edition file_a none A ≡ accepted x → Satisfies (λ a. bundle newest_edition file_b (some x.K) B ≡ refused a) (bundles newest_edition A B) (λ _. Unit {0})
  unfolding bundles
  B-found x e = rw (binds {Y = Bundle × Bundle} (λ a. bundle newest_edition file_b (some a.K) B >>= λ b. accepted (a, b)) e) (bind {P = λ _. Unit {0}} (record { refusal = λ a e. e; value = λ _ _. tt }) λ y _. says-accepted tt)

-- ---- the first stage, and those behind it
record FoundBehind (F : List ℕ) (before : List (List ℕ)) (T : List ℕ) (after : List (List ℕ)) (n : ℕ) (a : Answer) : Type 0 where
  first : Bundle
  laid : Laid newest_edition none F first
  others : Found T after first.K before n a

module _ (F : List ℕ) (before : List (List ℕ)) (T : List ℕ) (after : List (List ℕ)) where
  behind-found : (n : ℕ) → n ≡ 12 + length before → Satisfies (λ a. a.file ≡ n → FoundBehind F before T after n a) (read_stages newest_edition 11 none (F ∷ (before ++ (T ∷ after)))) (λ _. Unit {0})
  unfolding read_stages
  behind-found n q =
      bind {P = λ t. Laid newest_edition none F t} (record { refusal = λ a e f. absurd (omega (arith, f, ((bundle-in 11 newest_edition none F).refusal a e).0)); value = (bundle-gives newest_edition 11 none F).gives }) λ t l.
      bind (weaken (later-found T after before t.K 12 n q) (λ a h f. record { first = t; laid = l; others = h f }) (λ _ u. u)) λ ts _. says-accepted tt

  behind-refused : (x : Bundle) → bundle newest_edition 11 none F ≡ accepted x → (a : Answer) → read_stages newest_edition 12 (some x.K) (before ++ (T ∷ after)) ≡ refused a
      → read_stages newest_edition 11 none (F ∷ (before ++ (T ∷ after))) ≡ refused a
  unfolding read_stages
  behind-refused x e a h = binds _ e ∙ bind-refused _ h

-- ---- the run
short-all : (file : ℕ) {Ts : List (List ℕ)} → All (λ T. length T ≤ 8_192) Ts → stages_short newest_edition file Ts ≡ accepted tt
unfolding stages_short
short-all file nil-all = refl
short-all file (cons-all {x = T} h hs) = passes _ (short-accepted _ file T h) ∙ short-all (suc file) hs

module _ (buffer lengths proof : List ℕ) (limits : RunWithinLimits lengths buffer proof) where
  abbrev Staged : Answer → Type 0
  Staged a = 11 ≤ a.file → read_stages newest_edition 11 none (parts lengths buffer) ≡ refused a

  files-staged : Satisfies Staged (guard_files newest_edition buffer lengths proof) (λ _. Unit {0})
  unfolding guard_files
  files-staged =
      test _ _ (λ l. absurd (omega arith)) λ _.
      seq {P = λ _. Unit {0}} (record { refusal = λ a e l. absurd (never (sym e ∙ short-all first_stage limits.1)); value = λ _ _. tt })
      (seq (weaken (short-in file_proof _ proof) (λ a i l. absurd (omega (arith, i.0, l))) (λ _ u. u))
      (bind {P = λ _. Unit {0}} (record { refusal = λ a e l. e; value = λ _ _. tt }) λ ts _.
      test _ _ (λ l. absurd (omega arith)) λ _.
      bind {P = λ _. Unit {0}} (record { refusal = λ a e l. absurd (omega (arith, l, (run-amid (constants_of ts) (run_of ts) proof a (refused-as-check.as_check newest_edition (constants_of ts) (run_of ts) proof a e).0).0)); value = λ _ _. tt }) λ Is _.
      test _ _ (λ l. absurd (omega arith)) λ _. says-accepted tt))

  module _ (output sizes : List ℕ) where
    fit-staged : (b : Bool) (files : List (List ℕ)) → Staged (fit_guards output sizes b files).answer
    unfolding fit_guards unwritten
    fit-staged true files l = absurd (omega arith)
    fit-staged false files l = absurd (omega arith)

    written-staged : (r : Result (List (List ℕ))) → Satisfies Staged r (λ _. Unit {0}) → Staged (written_guards output sizes r).answer
    unfolding written_guards unwritten
    written-staged (refused a) s = s.refusal a refl
    written-staged (accepted files) s = fit-staged _ files

    guards-staged : Staged (guards buffer lengths proof output sizes).answer
    unfolding guards guards_by
    guards-staged = written-staged (guard_files newest_edition buffer lengths proof) files-staged

all-behind : {P : List ℕ → Type 0} (xs : List (List ℕ)) (y : List ℕ) (ys : List (List ℕ)) → All P (xs ++ (y ∷ ys)) → P y
all-behind [] y ys (cons-all h hs) = h
all-behind (x ∷ xs) y ys (cons-all h hs) = all-behind xs y ys hs

all_first : {P : List ℕ → Type 0} {x : List ℕ} {xs : List (List ℕ)} → All P (x ∷ xs) → P x
all_first (cons-all h hs) = h

module _ {buffer lengths proof output sizes left sizesLeft : List ℕ} {r : WriteResult} (w : WritesGuards buffer lengths proof output sizes left sizesLeft r) (limits : RunWithinLimits lengths buffer proof) where
  staged : 11 ≤ r.answer.file → read_stages newest_edition 11 none (parts lengths buffer) ≡ refused r.answer
  staged = subst (λ (g : GuardsWritten). Staged buffer lengths proof limits g.answer) (sym w.is) (guards-staged buffer lengths proof limits output sizes)

  told-by : (a : Answer) → read_stages newest_edition 11 none (parts lengths buffer) ≡ refused a → r.answer ≡ a
  told-by = (run-in-order.ordered buffer lengths proof output sizes left sizesLeft r w).stage limits

  module _ (T : List ℕ) (after : List (List ℕ)) where
    -- the first stage
    module _ (are : parts lengths buffer ≡ T ∷ after) (B P lent checked : List ℕ) (q : WriteResult) (short_b : length B ≤ 8_192) (short : length P ≤ 65_536) (c : Checks T B P lent checked q) where
      short_t : length T ≤ 8_192
      short_t = all_first (subst (All (λ T. length T ≤ 8_192)) are limits.1)

      first-why : r.answer.file ≡ 11 → q.answer.file ≡ 1
      first-why f =
          let e : bundle newest_edition 11 none T ≡ refused r.answer = (front-found T after 11 none).refusal r.answer (subst (λ (Ts : List (List ℕ)). read_stages newest_edition 11 none Ts ≡ refused r.answer) are (staged (omega arith))) f in
          ap (λ (a : Answer). a.file) (checked-as short c (both-read-short newest_edition T B short_t short_b ∙ A-refused T B (refiled 11 1 none T e)))

      first-is : q.answer.file ≡ 1 → r.answer ≡ answer q.answer.number 11 q.answer.place
      first-is f =
          let e : bundle newest_edition 1 none T ≡ refused q.answer = (A-found T B).refusal q.answer (sym (both-read-short newest_edition T B short_t short_b) ∙ refused-by short c (inl f)) f in
          told-by (in_file 11 q.answer) (subst (λ (Ts : List (List ℕ)). read_stages newest_edition 11 none Ts ≡ refused (in_file 11 q.answer)) (sym are) (front-refused T after 11 none (refiled 1 11 none T e)))
          ∙ ap (in_file 11) ((bundle-in 1 newest_edition none T).refusal q.answer e).1

    -- a stage behind the first
    module _ (F : List ℕ) (before : List (List ℕ)) (are : parts lengths buffer ≡ F ∷ (before ++ (T ∷ after))) (P lent checked : List ℕ) (q : WriteResult) (short : length P ≤ 65_536) (c : Checks F T P lent checked q) where
      abbrev n : ℕ
      n = 11 + suc (length before)

      all_short : All (λ T. length T ≤ 8_192) (F ∷ (before ++ (T ∷ after)))
      all_short = subst (All (λ T. length T ≤ 8_192)) are limits.1

      both-short : both_read newest_edition F T ≡ bundles newest_edition F T
      both-short = both-read-short newest_edition F T (all_first all_short) (all-behind (F ∷ before) T after all_short)

      other-why : r.answer.file ≡ n → Bundled (F ∷ before) × (q.answer.file ≡ 2)
      other-why f =
          let x = (behind-found F before T after n (omega arith)).refusal r.answer (subst (λ (Ts : List (List ℕ)). read_stages newest_edition 11 none Ts ≡ refused r.answer) are (staged (omega arith))) f in
          let e : bundle newest_edition 2 (some x.first.K) T ≡ refused (in_file 2 r.answer) = refiled n 2 (some x.first.K) T x.others.is in (
            record { K = x.first.K; Ts = x.first.constraints ∷ x.others.Ts; stages = cons (record { number = x.first.edition; states = x.laid.file }) x.others.stages },
            ap (λ (a : Answer). a.file) (checked-as short c (both-short ∙ B-refused F T (bundle-accepts newest_edition 1 none F x.first x.laid) e)),
          )

      other-is : Bundled (F ∷ before) → q.answer.file ≡ 2 → r.answer ≡ answer q.answer.number n q.answer.place
      unfolding agrees
      other-is b f = go b.stages
        where
          go : {Ts : Run} → Each (StageFile newest_edition b.K) (F ∷ before) Ts → r.answer ≡ answer q.answer.number n q.answer.place
          go (cons {y = C} s ss) =
              let x : Bundle = record { edition = s.number; K = b.K; constraints = C } in
              let l : Laid newest_edition none F x = record { file = s.states; agree = tt } in
              let e : bundle newest_edition 2 (some b.K) T ≡ refused q.answer = (B-found F T x (bundle-accepts newest_edition 1 none F x l)).refusal q.answer (sym both-short ∙ refused-by short c (inr f)) in
              told-by (in_file n q.answer) (subst (λ (Ts : List (List ℕ)). read_stages newest_edition 11 none Ts ≡ refused (in_file n q.answer)) (sym are)
              (behind-refused F before T after x (bundle-accepts newest_edition 11 none F x l) (in_file n q.answer) (later-refused T after b.K ss 12 n (omega arith) (in_file n q.answer) (refiled 2 n (some b.K) T e))))
              ∙ ap (in_file n) ((bundle-in 2 newest_edition (some b.K) T).refusal q.answer e).1

  pub in_stage : (before : List (List ℕ)) (T : List ℕ) (after : List (List ℕ)) → parts lengths buffer ≡ before ++ (T ∷ after)
      → (A B : List ℕ) (file : ℕ) → ReadByCheck before T A B file → (P lent checked : List ℕ) (q : WriteResult) → length P ≤ 65_536 → Checks A B P lent checked q
      → JustWhere (r.answer.file ≡ 11 + length before) (Bundled before × (q.answer.file ≡ file)) r.answer (λ _. answer q.answer.number (11 + length before) q.answer.place)
  in_stage before T after are A B file (as_A s) P lent checked q short c = (
    λ f. (record { K = 0; Ts = []; stages = nil }, first-why T after are B P lent checked q s short c f),
    λ (b, f). first-is T after are B P lent checked q s short c f,
  )
  in_stage before T after are A B file (as_B {F = F} {before = others}) P lent checked q short c = (
    λ f. other-why T after F others are P lent checked q short c f,
    λ (b, f). other-is T after F others are P lent checked q short c b f,
  )
