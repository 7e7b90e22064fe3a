-- What a run's files certify is accepted. Assumes nothing.
use mathlib.Core.Path.{◌≡◌, refl, sym, ◌∙◌, ap, subst}
use mathlib.Core.Logic.{◌⊎◌, inl, inr}
use mathlib.Core.Option.{Option, none, some}
use mathlib.Core.Bool.{Bool, true, false, ◌&&◌}
use mathlib.Core.List.{List, [], ◌∷◌, map}
use Prim.Native.Nat.{ℕ, zero, suc, ◌+◌, ◌≤◌, ◌<◌}
use native.Mathlib.Omega.{arith}
use borrow.Author.Tests.{lt-leb, leb-false}
use lib.Dec.{T, leb, leb→le, le→leb}
use lib.ListN.{length, drop, length-map}
use mir.Facts.{and_yes, yes_and}
use Rattle.forms.specs.Edition.{edition, edition1, newest_edition}
use Rattle.forms.proofs.Editions.{bundle_bytes-grows}
use Rattle.forms.specs.Forms.{All, nil, cons, Formula, every}
use Rattle.calculus.specs.Rules.{Entry, entries}
use Rattle.answers.specs.declared.WriteResult.{WriteResult}
use Rattle.answers.specs.Answers.{answer, acceptance, root, file_proof, file_lent, Result, refused, accepted, ◌>>=◌, ◌>>◌, need, over}
use Rattle.answers.proofs.Results.{binds, passes, needs, not-21}
use Rattle.number_bytes.specs.Numbers.{Bytes}
use Rattle.fields.specs.declared.FileKind.{FileKind}
use Rattle.fields.specs.Fields.{Fields, Item, fields}
use Rattle.fields.specs.Header.{agrees}
use Rattle.fields.proofs.HeaderLaid.{header_read}
use Rattle.fields.proofs.Contents.{ItemBytes, contents-bytes}
use Rattle.bundle.specs.Bundle.{Bundle}
use Rattle.bundle.specs.Layout.{Each, nil as nil-each, cons as cons-each}
use Rattle.bundle.proofs.Laid.{listed, bundle-accepts, short-accepted}
use Rattle.formula.specs.Formula.{formula_file}
use Rattle.proof.specs.Layout.{Enters}
use Rattle.proof.proofs.Agree.{proof-accepts, agrees-refl}
use Rattle.chains.specs.Runs.{Run, joined, up_to, beyond}
use Rattle.run.specs.Uniform.{Walked, uniform}
use Rattle.run.specs.Run.{most_constraints, first_stage, parts, stages_short, read_stages, constants_of, run_of, side, claim_refused, check_cut, both, check_cuts, check_run, guard_files, GuardsWritten, unwritten, fit_guards, written_guards, guards_by, guards}
use Rattle.run.specs.Layout.{guard_at, StageFile, RunYields, RunCertifies}
use Rattle.run.specs.Promises.{guards_of, WritesGuards}
use Rattle.run_laws.proofs.Agree.{Certified, guards-give}
use Rattle.run_laws.proofs.Ordered.{run-in-order}
use Rattle.run_laws.proofs.OneField.{EntersBytes}
use Rattle.run_laws.proofs.UniformWalked.{walk-accepts}
use Rattle.guarantee.specs.Runs.{guards_file, guard_sizes, RunCheckable, ShortGuards, RunAcceptance}
use Rattle.guarantee.proofs.Runs.{all-at, left-of}
use Rattle.guarantee.proofs.RunReasons.{is-parted, every-short, Why, guards-why}

-- ---- the fields of a proof of bytes
with-bytes : (n K : ℕ) {is : List Item} {es : List Entry} → Each (Enters (edition n) K) is es → All ItemBytes is → Each (EntersBytes n K) is es
with-bytes n K nil-each nil = nil-each
with-bytes n K (cons-each h hs) (cons b bs) = cons-each (record { enters = h; bytes = b }) (with-bytes n K hs bs)

behind-two : {x y : Item} {is : List Item} → All ItemBytes (x ∷ y ∷ is) → All ItemBytes is
behind-two (cons _ (cons _ h)) = h

both-accepted : {X Y : Type 0} {r : Result X} {s : Result Y} {x : X} {y : Y} → r ≡ accepted x → s ≡ accepted y → both r s ≡ accepted (x, y)
unfolding both
both-accepted p q = rw (p, q)

module _ (newest K : ℕ) (Ts : Run) (fs : Fields) where
  cuts-accepted : (i m : ℕ) (Js : List Formula) → length Js ≡ suc m → ((j : ℕ) → j ≤ m → check_cut newest K Ts fs (i + j) ≡ accepted (guard_at Js j)) → check_cuts newest K Ts fs i m ≡ accepted Js
  unfolding check_cuts guard_at
  cuts-accepted i m [] l h = absurd (omega arith)
  cuts-accepted i zero (J ∷ []) l h = let z : i + 0 ≡ i = omega arith in binds _ (subst (λ (k : ℕ). check_cut newest K Ts fs k ≡ accepted J) z (h 0 (omega arith)))
  cuts-accepted i zero (J ∷ J' ∷ Js) l h = absurd (omega arith)
  cuts-accepted i (suc m) (J ∷ Js) l h =
      let z : i + 0 ≡ i = omega arith in
      let first : check_cut newest K Ts fs i ≡ accepted J = subst (λ (k : ℕ). check_cut newest K Ts fs k ≡ accepted J) z (h 0 (omega arith)) in
      let rest : check_cuts newest K Ts fs (suc i) m ≡ accepted Js = cuts-accepted (suc i) m Js (omega arith) (λ j b. later i j m Js h b) in
      binds _ (both-accepted first rest)
    where
      later : (i j m : ℕ) (Js : List Formula) → ((j : ℕ) → j ≤ suc m → check_cut newest K Ts fs (i + j) ≡ accepted (guard_at (J ∷ Js) j)) → j ≤ m → check_cut newest K Ts fs (suc i + j) ≡ accepted (guard_at Js j)
      later i j m Js h b = let z : i + suc j ≡ suc i + j = omega arith in subst (λ (k : ℕ). check_cut newest K Ts fs k ≡ accepted (guard_at Js j)) z (h (suc j) (omega arith))

module _ {newest : ℕ} {buffer lengths proof : List ℕ} {K : ℕ} {Ts : Run} {Is : List Formula} (y : RunYields newest buffer lengths proof K Ts Is) where
  abbrev n : ℕ
  n = y.edition_proof

  pub cut-accepted : (i : ℕ) → i ≤ length Ts → check_cut newest K Ts (fields proof) i ≡ accepted (guard_at Is i)
  unfolding check_cut claim_refused
  cut-accepted i h = let f = y.file_proof in ap claim_refused (proof-accepts newest (side K (up_to Ts i)) (side K (beyond Ts i)) (fields proof) (guard_at Is i) (record {
    number = n;
    first = f.first;
    last = f.last;
    es = y.es;
    body = f.body;
    whole = f.whole;
    low = f.low;
    high = f.high;
    enters = f.enters;
    proves = y.guards.proves i h;
  }))

  module _ (bytes : Bytes proof) where
    is-uniform : (w : Walked) × (uniform newest K (fields proof) ≡ accepted w)
    unfolding uniform
    is-uniform =
        let f = y.file_proof in
        let p = y.guards.proves 0 (omega arith) in
        let e = edition n in
        let h = header_read FileKind.Proof file_proof newest (some K) (fields proof) n K f.body f.whole f.first f.last f.low f.high (agrees-refl K) in
        let states : Each (EntersBytes n K) f.body (entries p.proof []) = subst (Each (EntersBytes n K) f.body) (sym p.are) (with-bytes n K f.enters (behind-two (contents-bytes proof bytes f.whole))) in
        let a = walk-accepts n K e.branchings root 0 _ _ _ p.proof [] h.after (y.guards.uniform 0 (omega arith)) p.opened (listed h.after h.rest states) in
        (a.walked, binds _ h.reads ∙ a.is)

    run-accepted : check_run newest K Ts (fields proof) ≡ accepted Is
    unfolding check_run
    run-accepted = binds _ (both-accepted (cuts-accepted newest K Ts (fields proof) 0 (length Ts) Is y.count (λ j h. let z : j ≡ 0 + j = omega arith in subst (λ (k : ℕ). check_cut newest K Ts (fields proof) k ≡ accepted (guard_at Is j)) z (cut-accepted j h))) is-uniform.1)

-- ---- the stages
module _ (newest K : ℕ) where
  abbrev pub bundles_of : {files : List (List ℕ)} {Ts : Run} → Each (StageFile newest K) files Ts → List Bundle
  bundles_of nil-each = []
  bundles_of (cons-each {y = T} s ss) = record { edition = s.number; K = K; constraints = T } ∷ bundles_of ss

  pub run-of : {files : List (List ℕ)} {Ts : Run} (h : Each (StageFile newest K) files Ts) → run_of (bundles_of h) ≡ Ts
  unfolding run_of
  run-of nil-each = refl
  run-of (cons-each {y = T} s ss) = ap (λ (Ts : Run). T ∷ Ts) (run-of ss)

  pub stages-read : {files : List (List ℕ)} {Ts : Run} (h : Each (StageFile newest K) files Ts) (file : ℕ) (given : Option ℕ) → T (agrees given K) → read_stages newest file given files ≡ accepted (bundles_of h)
  unfolding read_stages
  stages-read nil-each file given a = refl
  stages-read (cons-each {x = F} {y = C} s ss) file given a =
      binds _ (bundle-accepts newest file given F (record { edition = s.number; K = K; constraints = C }) (record { file = s.states; agree = a })) ∙ binds _ (stages-read ss (suc file) (some K) (agrees-refl K))

  pub stages-fit : {files : List (List ℕ)} {Ts : Run} → Each (StageFile newest K) files Ts → (file : ℕ) → stages_short newest file files ≡ accepted tt
  unfolding stages_short
  stages-fit nil-each file = refl
  stages-fit (cons-each {x = F} s ss) file =
      let b = s.states in
      passes _ (short-accepted _ file F (omega (arith, b.short, bundle_bytes-grows s.number newest b.first b.last))) ∙ stages-fit ss (suc file)

  pub constants-of : {files : List (List ℕ)} {Ts : Run} (h : Each (StageFile newest K) files Ts) → 1 ≤ length files → constants_of (bundles_of h) ≡ K
  unfolding constants_of
  constants-of nil-each l = absurd (omega arith)
  constants-of (cons-each s ss) l = refl

pub parts-count : (ls buffer : List ℕ) → length (parts ls buffer) ≡ length ls
unfolding parts
parts-count [] buffer = refl
parts-count (l ∷ ls) buffer = ap suc (parts-count ls (drop l buffer))

-- ---- the files
abbrev finishing : (K : ℕ) → List Formula → Result (List (List ℕ))
finishing K Is = need (answer 1 file_lent (length (guards_file K Is))) (every (λ file. leb (length file) edition1.formula_bytes) (map (formula_file edition1 K) Is)) >> accepted (map (formula_file edition1 K) Is)

module _ {newest : ℕ} {buffer lengths proof : List ℕ} {K : ℕ} {Ts : Run} {Is : List Formula} (y : RunYields newest buffer lengths proof K Ts Is) (bytes : Bytes proof) where
  abbrev ts : List Bundle
  ts = bundles_of newest K y.stages

  -- all that is left to ask is whether a guard's file is too long
  after-stages : (L : ℕ) (S : Run) → L ≡ K → S ≡ Ts → (need (answer 26 file_lent 0) (leb (length (joined S)) most_constraints) >> (check_run newest L S (fields proof) >>= λ Js.
      need (answer 1 file_lent (length (joined (map (formula_file edition1 L) Js)))) (every (λ file. leb (length file) edition1.formula_bytes) (map (formula_file edition1 L) Js)) >> accepted (map (formula_file edition1 L) Js))) ≡ finishing K Is
  after-stages L S p q = rw (p, q) (needs _ _ _ (le→leb _ _ y.few) ∙ binds _ (run-accepted y bytes))

  pub guards-yielded : guard_files newest buffer lengths proof ≡ finishing K Is
  unfolding guard_files agrees
  guards-yielded = needs _ _ _ (is-parted lengths buffer (y.least, y.most, y.adds_up)) ∙ passes _ (stages-fit newest K y.stages first_stage) ∙ passes _ (short-accepted _ file_proof proof y.file_proof.short)
      ∙ binds _ (stages-read newest K y.stages first_stage none tt)
      ∙ after-stages (constants_of ts) (run_of ts) (constants-of newest K y.stages (omega (arith, parts-count lengths buffer, y.least))) (run-of newest K y.stages)

pub guards-accepted : {newest : ℕ} {buffer lengths proof : List ℕ} {K : ℕ} {Ts : Run} {Is : List Formula} → RunCertifies newest buffer lengths proof K Ts Is → Bytes proof
    → guard_files newest buffer lengths proof ≡ accepted (map (formula_file edition1 K) Is)
guards-accepted {K = K} c bytes = guards-yielded c.yields bytes ∙ needs _ _ _ (every-short K c.short)

-- ---- what is left
sizes-of : (K : ℕ) (Is : List Formula) → map length (map (formula_file edition1 K) Is) ≡ guard_sizes K Is
sizes-of K [] = refl
sizes-of K (I ∷ Is) = ap (λ (l : List ℕ). length (formula_file edition1 K I) ∷ l) (sizes-of K Is)

module _ (output sizes : List ℕ) where
  abbrev left_with : (K : ℕ) → List Formula → GuardsWritten
  left_with K Is = record { answer = acceptance; count = length (guards_file K Is); output = over (guards_file K Is) output; sizes = over (guard_sizes K Is) sizes }

  fit_all : (K : ℕ) (Is : List Formula) (b : Bool) → T b → fit_guards output sizes b (map (formula_file edition1 K) Is) ≡ left_with K Is
  unfolding fit_guards
  fit_all K Is true t = ap (λ (l : List ℕ). let g : GuardsWritten = record { answer = acceptance; count = length (guards_file K Is); output = over (guards_file K Is) output; sizes = over l sizes } in g) (sizes-of K Is)
  fit_all K Is false t = absurd t

  fit_none : (files : List (List ℕ)) (b : Bool) → b ≡ false → fit_guards output sizes b files ≡ unwritten output sizes (answer 21 file_lent (length (joined files)))
  unfolding fit_guards
  fit_none files b e = rw e

  neither-fits : (K : ℕ) (Is : List Formula) → (length output < length (guards_file K Is)) ⊎ (length sizes < length Is)
      → leb (length (guards_file K Is)) (length output) && leb (length (map (formula_file edition1 K) Is)) (length sizes) ≡ false
  neither-fits K Is (inl l) = rw (lt-leb (length (guards_file K Is)) (length output) l)
  neither-fits K Is (inr l) = no-and (leb (length (guards_file K Is)) (length output)) (lt-leb (length (map (formula_file edition1 K) Is)) (length sizes) (omega (arith, length-map Is (formula_file edition1 K))))
    where
      no-and : (a : Bool) {b : Bool} → b ≡ false → a && b ≡ false
      no-and true e = e
      no-and false e = refl

  module _ (buffer lengths proof : List ℕ) (bytes : Bytes proof) where
    left-written : (c : RunCheckable buffer lengths proof output sizes) → guards buffer lengths proof output sizes ≡ left_with c.K c.Is
    unfolding guards guards_by written_guards
    left-written c = ap (written_guards output sizes) (guards-accepted c.certified bytes)
        ∙ fit_all c.K c.Is (leb (length (guards_file c.K c.Is)) (length output) && leb (length (map (formula_file edition1 c.K) c.Is)) (length sizes))
        (yes_and (leb (length (guards_file c.K c.Is)) (length output)) (leb (length (map (formula_file edition1 c.K) c.Is)) (length sizes)) (le→leb _ _ c.fits.0)
        (le→leb (length (map (formula_file edition1 c.K) c.Is)) (length sizes) (omega (arith, c.fits.1, length-map c.Is (formula_file edition1 c.K)))))

    left-short : (K : ℕ) (Ts : Run) (Is : List Formula) → RunCertifies newest_edition buffer lengths proof K Ts Is → (length output < length (guards_file K Is)) ⊎ (length sizes < length Is)
        → guards buffer lengths proof output sizes ≡ unwritten output sizes (answer 21 file_lent (length (guards_file K Is)))
    unfolding guards guards_by written_guards
    left-short K Ts Is c s = ap (written_guards output sizes) (guards-accepted c bytes) ∙ fit_none (map (formula_file edition1 K) Is) _ (neither-fits K Is s)

    refuses-long : (K : ℕ) (Is : List Formula) (b : Bool) → (T b → ⊥) → written_guards output sizes (need (answer 1 file_lent (length (guards_file K Is))) b >> accepted (map (formula_file edition1 K) Is)) ≡ unwritten output sizes (answer 1 file_lent (length (guards_file K Is)))
    unfolding written_guards need ◌>>◌
    refuses-long K Is true h = absurd (h tt)
    refuses-long K Is false h = refl

    short-all : (K : ℕ) (Is : List Formula) → T (every (λ file. leb (length file) edition1.formula_bytes) (map (formula_file edition1 K) Is)) → All (λ I. length (formula_file edition1 K I) ≤ edition1.formula_bytes) Is
    unfolding every
    short-all K [] t = nil
    short-all K (I ∷ Is) t = let (a, b) = and_yes (leb (length (formula_file edition1 K I)) edition1.formula_bytes) _ t in cons (leb→le _ _ a) (short-all K Is b)

    left-long : (K : ℕ) (Ts : Run) (Is : List Formula) → RunYields newest_edition buffer lengths proof K Ts Is → (i : ℕ) → i ≤ length Ts → edition1.formula_bytes < length (formula_file edition1 K (guard_at Is i))
        → guards buffer lengths proof output sizes ≡ unwritten output sizes (answer 1 file_lent (length (guards_file K Is)))
    unfolding guards guards_by
    left-long K Ts Is y i h l = ap (written_guards output sizes) (guards-yielded y bytes) ∙ refuses-long K Is _ (λ t. omega (arith, l, all-at (short-all K Is t) i (omega (arith, y.count))))

-- ---- 21 comes only from an output that is too short
either-no : (a b : Bool) → a && b ≡ false → (a ≡ false) ⊎ (b ≡ false)
either-no true b e = inr e
either-no false b e = inl refl

module _ (buffer lengths proof output sizes : List ℕ) where
  fit-21 : (files : List (List ℕ)) → Certified newest_edition buffer lengths proof files → (b : Bool) → leb (length (joined files)) (length output) && leb (length files) (length sizes) ≡ b
      → (fit_guards output sizes b files).answer.number ≡ 21 → ShortGuards buffer lengths proof output sizes
  unfolding fit_guards unwritten
  fit-21 files c true e h = absurd (omega arith)
  fit-21 files c false e h = record { K = c.K; Ts = c.Ts; Is = c.Is; certified = c.certifies; short = short (either-no (leb (length (joined files)) (length output)) (leb (length files) (length sizes)) e) }
    where
      short : (leb (length (joined files)) (length output) ≡ false) ⊎ (leb (length files) (length sizes) ≡ false) → (length output < length (guards_file c.K c.Is)) ⊎ (length sizes < length c.Is)
      short (inl l) = inl (subst (λ (fs : List (List ℕ)). length output < length (joined fs)) c.are (leb-false (length (joined files)) (length output) l))
      short (inr l) = inr (subst (λ (n : ℕ). length sizes < n) (ap length c.are ∙ length-map c.Is (formula_file edition1 c.K)) (leb-false (length files) (length sizes) l))

  written-21 : (r : Result (List (List ℕ))) → guard_files newest_edition buffer lengths proof ≡ r → (written_guards output sizes r).answer.number ≡ 21 → ShortGuards buffer lengths proof output sizes
  unfolding written_guards unwritten
  written-21 (refused a) e h = absurd (not-21 ((guards-give newest_edition buffer lengths proof).refusal a e) h)
  written-21 (accepted files) e h = fit-21 files ((guards-give newest_edition buffer lengths proof).gives files e) _ refl h

  only-21 : (guards buffer lengths proof output sizes).answer.number ≡ 21 → ShortGuards buffer lengths proof output sizes
  unfolding guards guards_by
  only-21 h = written-21 (guard_files newest_edition buffer lengths proof) refl h

answer-of : {buffer lengths proof output sizes left sizesLeft : List ℕ} {r : WriteResult} → WritesGuards buffer lengths proof output sizes left sizesLeft r → (g : GuardsWritten) → guards buffer lengths proof output sizes ≡ g → guards_of r left sizesLeft ≡ g
answer-of w g e = w.is ∙ e

why-of : {buffer lengths proof output sizes left sizesLeft : List ℕ} {r : WriteResult} → WritesGuards buffer lengths proof output sizes left sizesLeft r → Why buffer lengths proof r.answer
why-of {buffer} {lengths} {proof} {output} {sizes} w = subst (λ (g : GuardsWritten). Why buffer lengths proof g.answer) (sym w.is) (guards-why buffer lengths proof output sizes)

-- Demand 2's like of a run.
pub run-acceptance : RunAcceptance
unfolding unwritten agrees
run-acceptance = record {
  accepted_iff = λ buffer lengths proof output sizes left sizesLeft r bytes w. (
    λ h. (left-of w h).checkable,
    λ c. ap (λ (g : GuardsWritten). g.answer.number) (answer-of w _ (left-written output sizes buffer lengths proof bytes c)),
  );
  writes = λ buffer lengths proof output sizes left sizesLeft r bytes w c.
      let e = answer-of w _ (left-written output sizes buffer lengths proof bytes c) in
      (ap (λ (g : GuardsWritten). g.answer) e, ap (λ (g : GuardsWritten). g.count) e, ap (λ (g : GuardsWritten). g.output) e, ap (λ (g : GuardsWritten). g.sizes) e);
  guards_25 = λ buffer lengths proof output sizes left sizesLeft r w. ((why-of w).0, λ n. (run-in-order.ordered buffer lengths proof output sizes left sizesLeft r w).unparted n);
  guards_26 = λ buffer lengths proof output sizes left sizesLeft r w. (
    (why-of w).1,
    λ m. (run-in-order.ordered buffer lengths proof output sizes left sizesLeft r w).many m.short _ (stages-read newest_edition m.K m.stages first_stage none tt)
        (subst (λ (Ts : Run). most_constraints < length (joined Ts)) (sym (run-of newest_edition m.K m.stages)) m.many),
  );
  guards_1_at_end = λ buffer lengths proof output sizes left sizesLeft r bytes w. (
    λ (e, f). (why-of w).2 e f,
    λ l. let (i, h, long) = l.long in ap (λ (g : GuardsWritten). g.answer) (answer-of w _ (left-long output sizes buffer lengths proof bytes l.K l.Ts l.Is l.yields i h long)),
  );
  guards_21 = λ buffer lengths proof output sizes left sizesLeft r bytes w. (
    λ h. only-21 buffer lengths proof output sizes (subst (λ (g : GuardsWritten). g.answer.number ≡ 21) w.is h),
    λ s. ap (λ (g : GuardsWritten). g.answer) (answer-of w _ (left-short output sizes buffer lengths proof bytes s.K s.Ts s.Is s.certified s.short)),
  );
}
