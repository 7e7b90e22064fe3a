-- What one accepted call for a run delivers: the chain of guards, their bytes, and that each is what check writes. Assumes nothing.
use mathlib.Core.Path.{◌≡◌, refl, sym, ◌∙◌, ap, ap₂, subst}
use mathlib.Core.Logic.{◌⊎◌, inl, inr}
use mathlib.Core.Option.{some}
use mathlib.Core.Bool.{Bool, true, false, ◌&&◌}
use mathlib.Core.List.{List, [], ◌∷◌, ◌++◌, map, append_assoc}
use Prim.Native.Nat.{ℕ, zero, suc, ◌≤◌, ◌<◌}
use native.Mathlib.Omega.{arith}
use lib.Dec.{T, leb, leb→le}
use lib.ListN.{length, take, drop, length-map}
use lib.Seq.{take_at, drop_at}
use mir.Facts.{and_yes}
use Rattle.forms.specs.Edition.{edition1, newest_edition}
use Rattle.forms.specs.Forms.{All, nil, cons, Constraint, Formula}
use Rattle.answers.specs.declared.Answer.{Answer}
use Rattle.answers.specs.declared.WriteResult.{WriteResult}
use Rattle.answers.specs.Answers.{acceptance, Result, refused, accepted, ◌>>=◌, over, written}
use Rattle.number_bytes.specs.Numbers.{Bytes}
use Rattle.fields.specs.Fields.{Item, without_notes, fields}
use Rattle.fields.proofs.Framing.{items-file_of}
use Rattle.bundle.specs.Layout.{Each, nil as nil-each, cons as cons-each, StatesAll, BundleFile}
use Rattle.formula.specs.Formula.{formula_file, read_formula}
use Rattle.formula.proofs.RoundTrip.{read-written}
use Rattle.proof.specs.Layout.{Certifies}
use Rattle.proof.specs.Check.{check_by, check}
use Rattle.proof.proofs.Agree.{interpolant-iff}
use Rattle.proof.proofs.Sizes.{Stated, proves-height, proves-encodable, bundle-in, proof_short}
use Rattle.chains.specs.Runs.{Run, joined, up_to, beyond}
use Rattle.chains.proofs.Run.{run-chain}
use Rattle.run.specs.Run.{GuardsWritten, parts, guard_files, unwritten, fit_guards, written_guards, guards_by, guards}
use Rattle.run.specs.Layout.{guard_at, StageFile, RunCertifies}
use Rattle.run.specs.Promises.{guards_of, WritesGuards}
use Rattle.run_laws.proofs.Agree.{Certified, guards-give, never-0, never_22}
use Rattle.guarantee.specs.Refusals.{ToldByNumber}
use Rattle.guarantee.specs.Testing.{FormulaFile}
use Rattle.guarantee.specs.Runs.{Writer, file_by, stated_by, buffer_by, lengths_by, run_by, guards_file, guard_sizes, DeliveredRun, RunCheckable}
use Rattle.guarantee.proofs.FormulaFiles.{read-gives}

-- ---- what is left
module _ (output sizes : List ℕ) where
  fit-yes : (files : List (List ℕ)) (b : Bool) → (fit_guards output sizes b files).answer.number ≡ 0
      → T b × (fit_guards output sizes b files ≡ record { answer = acceptance; count = length (joined files); output = over (joined files) output; sizes = over (map length files) sizes })
  unfolding fit_guards unwritten
  fit-yes files true e = (tt, refl)
  fit-yes files false e = absurd (omega arith)

  -- what is said of an answer by its number
  abbrev pub Told : GuardsWritten → Type 0
  Told w = ToldByNumber w.answer × (¬ (w.answer.number ≡ 0) → (w.output ≡ output) × (w.sizes ≡ sizes) × (w.count ≡ 0))

  told_fit : (files : List (List ℕ)) (b : Bool) → Told (fit_guards output sizes b files)
  unfolding fit_guards unwritten
  told_fit files true = (record { accepts = (λ e. refl, λ e. refl); never_22 = λ e. omega arith }, λ n. absurd (n refl))
  told_fit files false = (record { accepts = (λ e. absurd (omega arith), λ e. ap (λ (a : Answer). a.number) e); never_22 = λ e. omega arith }, λ n. (refl, refl, refl))

  told : (r : Result (List (List ℕ))) → ((a : Answer) → r ≡ refused a → ¬ (a.number ≡ 0)) → ((a : Answer) → r ≡ refused a → ¬ (a.number ≡ 22)) → Told (written_guards output sizes r)
  unfolding written_guards unwritten
  told (refused a) z t = (record { accepts = (λ e. absurd (z a refl e), λ e. ap (λ (a : Answer). a.number) e); never_22 = t a refl }, λ n. (refl, refl, refl))
  told (accepted files) z t = told_fit files _

  module _ (buffer lengths proof : List ℕ) where
    pub record LeftBy (w : GuardsWritten) : Type 0 where
      pub checkable : RunCheckable buffer lengths proof output sizes
      pub count : w.count ≡ length (guards_file checkable.K checkable.Is)
      pub bytes : w.output ≡ over (guards_file checkable.K checkable.Is) output
      pub many : w.sizes ≡ over (guard_sizes checkable.K checkable.Is) sizes

    sizes-of : (K : ℕ) (Is : List Formula) → map length (map (formula_file edition1 K) Is) ≡ guard_sizes K Is
    sizes-of K [] = refl
    sizes-of K (I ∷ Is) = ap (λ (l : List ℕ). length (formula_file edition1 K I) ∷ l) (sizes-of K Is)

    left_by : (r : Result (List (List ℕ))) → guard_files newest_edition buffer lengths proof ≡ r → (written_guards output sizes r).answer.number ≡ 0 → LeftBy (written_guards output sizes r)
    unfolding written_guards unwritten
    left_by (refused a) e h = absurd (never-0 newest_edition buffer lengths proof a e h)
    left_by (accepted files) e h =
        let c : Certified newest_edition buffer lengths proof files = (guards-give newest_edition buffer lengths proof).gives files e in
        let f = fit-yes files (leb (length (joined files)) (length output) && leb (length files) (length sizes)) h in
        let (a, b) = and_yes (leb (length (joined files)) (length output)) (leb (length files) (length sizes)) f.0 in
        let q : files ≡ map (formula_file edition1 c.K) c.Is = c.are in
        record {
          checkable = record {
            K = c.K;
            Ts = c.Ts;
            Is = c.Is;
            certified = c.certifies;
            fits = (
              subst (λ (fs : List (List ℕ)). length (joined fs) ≤ length output) q (leb→le _ _ a),
              subst (λ (n : ℕ). n ≤ length sizes) (ap length q ∙ length-map c.Is (formula_file edition1 c.K)) (leb→le _ _ b),
            );
          };
          count = ap (λ (w : GuardsWritten). w.count) f.1 ∙ ap (λ (fs : List (List ℕ)). length (joined fs)) q;
          bytes = ap (λ (w : GuardsWritten). w.output) f.1 ∙ ap (λ (fs : List (List ℕ)). over (joined fs) output) q;
          many = ap (λ (w : GuardsWritten). w.sizes) f.1 ∙ ap (λ (fs : List (List ℕ)). over (map length fs) sizes) q ∙ ap (λ (l : List ℕ). over l sizes) (sizes-of c.K c.Is);
        }

    left-guards : (guards buffer lengths proof output sizes).answer.number ≡ 0 → LeftBy (guards buffer lengths proof output sizes)
    unfolding guards guards_by
    left-guards h = left_by (guard_files newest_edition buffer lengths proof) refl h

    told-guards : Told (guards buffer lengths proof output sizes)
    unfolding guards guards_by
    told-guards = told (guard_files newest_edition buffer lengths proof) (never-0 newest_edition buffer lengths proof) (never_22 newest_edition buffer lengths proof)

module _ {buffer lengths proof output sizes left sizesLeft : List ℕ} {r : WriteResult} (w : WritesGuards buffer lengths proof output sizes left sizesLeft r) where
  pub left-of : r.answer.number ≡ 0 → LeftBy output sizes buffer lengths proof (guards_of r left sizesLeft)
  left-of h = subst (LeftBy output sizes buffer lengths proof) (sym w.is) (left-guards output sizes buffer lengths proof (subst (λ (g : GuardsWritten). g.answer.number ≡ 0) w.is h))

  pub told_of : Told output sizes (guards_of r left sizesLeft)
  told_of = subst (Told output sizes) (sym w.is) (told-guards output sizes buffer lengths proof)

-- ---- what the stages' writers stated is what was read
some_is : {X : Type 0} {x y : X} → some x ≡ some y → x ≡ y
some_is e = cc

one_or_two : (n : ℕ) → 1 ≤ n → n ≤ 2 → (n ≡ 1) ⊎ (n ≡ 2)
one_or_two zero l h = absurd (omega arith)
one_or_two (suc zero) l h = inl refl
one_or_two (suc (suc zero)) l h = inr refl
one_or_two (suc (suc (suc n))) l h = absurd (omega arith)

meaning-is : (w : Writer) (n K : ℕ) (T : List Constraint) → BundleFile newest_edition (file_by w) n K T → w.means w.fields ≡ (K, T)
meaning-is w n K T b =
    let e : without_notes w.fields ≡ b.list = some_is (sym (items-file_of w.fields w.framed) ∙ b.whole) in
    w.faithful n (one_or_two n b.first b.last) w.fields K T (subst (λ (l : List Item). StatesAll n l K T) (sym e) b.laid)

parts-by : (ws : List Writer) → parts (lengths_by ws) (buffer_by ws) ≡ map file_by ws
unfolding parts
parts-by [] = refl
parts-by (w ∷ ws) = ap₂ ◌∷◌ (take_at (file_by w) (buffer_by ws) (length (file_by w)) refl)
    (ap (parts (lengths_by ws)) (drop_at (file_by w) (buffer_by ws) (length (file_by w)) refl) ∙ parts-by ws)

record Means (K : ℕ) (ws : List Writer) (Ts : Run) : Type 0 where
  run : run_by ws ≡ Ts
  K_of : All (λ w. (w.means w.fields).0 ≡ K) ws

means : {K : ℕ} (ws : List Writer) {Ts : Run} → Each (StageFile newest_edition K) (map file_by ws) Ts → Means K ws Ts
means [] nil-each = record { run = refl; K_of = nil }
means {K} (w ∷ ws) (cons-each {y = T} {ys = Ts} s ss) =
    let h = means ws ss in
    let q = meaning-is w s.number K T s.states in
    record { run = ap₂ ◌∷◌ (ap (λ (m : ℕ × List Constraint). m.1) q) h.run; K_of = cons (ap (λ (m : ℕ × List Constraint). m.0) q) h.K_of }

-- ---- each guard's file states it
all-joined : {K : ℕ} {files : List (List ℕ)} {Ts : Run} → Each (StageFile newest_edition K) files Ts → (i : ℕ) → Stated K (up_to Ts i) × Stated K (beyond Ts i)
all-joined h i = (up_to-in h i, beyond-in h i)
  where
    append : {X : Type 0} {P : X → Type 0} {xs ys : List X} → All P xs → All P ys → All P (xs ++ ys)
    append nil k = k
    append (cons h hs) k = cons h (append hs k)

    all_in : {K : ℕ} {files : List (List ℕ)} {Ts : Run} → Each (StageFile newest_edition K) files Ts → Stated K (joined Ts)
    all_in nil-each = nil
    all_in (cons-each s ss) = append (bundle-in s.states) (all_in ss)

    up_to-in : {K : ℕ} {files : List (List ℕ)} {Ts : Run} → Each (StageFile newest_edition K) files Ts → (i : ℕ) → Stated K (up_to Ts i)
    up_to-in h zero = nil
    up_to-in nil-each (suc i) = nil
    up_to-in (cons-each s ss) (suc i) = append (bundle-in s.states) (up_to-in ss i)

    beyond-in : {K : ℕ} {files : List (List ℕ)} {Ts : Run} → Each (StageFile newest_edition K) files Ts → (i : ℕ) → Stated K (beyond Ts i)
    beyond-in h zero = all_in h
    beyond-in nil-each (suc i) = nil
    beyond-in (cons-each s ss) (suc i) = beyond-in ss i

all-guards : {P : Formula → Type 0} (Is : List Formula) → ((i : ℕ) → i < length Is → P (guard_at Is i)) → All P Is
unfolding guard_at
all-guards [] h = nil
all-guards (I ∷ Is) h = cons (h 0 (omega arith)) (all-guards Is (λ i l. h (suc i) (omega arith)))

pub all-at : {P : Formula → Type 0} {Is : List Formula} → All P Is → (i : ℕ) → i < length Is → P (guard_at Is i)
unfolding guard_at
all-at nil i l = absurd (omega arith)
all-at (cons h hs) zero l = h
all-at (cons h hs) (suc i) l = all-at hs i (omega arith)

-- ---- check derives guard i from the bundles of cut i
module _ {buffer lengths proof : List ℕ} {K : ℕ} {Ts : Run} {Is : List Formula} (c : RunCertifies newest_edition buffer lengths proof K Ts Is)
    (i : ℕ) (h : i ≤ length Ts) (A B : List ℕ) (n_A n_B : ℕ) (a : BundleFile newest_edition A n_A K (up_to Ts i)) (b : BundleFile newest_edition B n_B K (beyond Ts i)) where
  cut-certifies : Certifies newest_edition A B proof K (guard_at Is i)
  cut-certifies =
      let y = c.yields in
      record {
        yields = record {
          edition_a = n_A;
          edition_b = n_B;
          edition_proof = y.edition_proof;
          a = up_to Ts i;
          b = beyond Ts i;
          es = y.es;
          file_a = a;
          file_b = b;
          file_proof = y.file_proof;
          proves = y.guards.proves i h;
        };
        short = all-at c.short i (omega (arith, y.count));
      }

  pub cut-checked : (lent : List ℕ) → check A B proof lent ≡ written (accepted (formula_file edition1 K (guard_at Is i))) lent
  unfolding check check_by ◌>>=◌
  cut-checked lent = ap (λ (r : Result (ℕ × Formula)). written (r >>= λ (K, I). accepted (formula_file edition1 K I)) lent) ((interpolant-iff newest_edition A B proof K (guard_at Is i)).1 cut-certifies)

module _ {buffer lengths proof : List ℕ} {K : ℕ} {Ts : Run} {Is : List Formula} (c : RunCertifies newest_edition buffer lengths proof K Ts Is) (bytes : Bytes proof) where
  guard-back : (i : ℕ) → i ≤ length Ts → read_formula K (fields (formula_file edition1 K (guard_at Is i))) ≡ accepted (guard_at Is i)
  guard-back i h =
      let y = c.yields in
      let p = y.guards.proves i h in
      let s = all-joined y.stages i in
      read-written K (guard_at Is i) y.file_proof.low y.file_proof.high (proves-encodable K y.edition_proof p s.0 s.1 (proof_short bytes y.file_proof)) (proves-height y.edition_proof p)

  guards-stated : All (λ I. FormulaFile K (formula_file edition1 K I) I) Is
  guards-stated = all-guards Is (λ i h. (read-gives K (formula_file edition1 K (guard_at Is i))).gives (guard_at Is i) (guard-back i (omega (arith, c.yields.count))))

-- ---- the output, cut by its sizes
parts-front : (K : ℕ) (Is : List Formula) (rest : List ℕ) → parts (guard_sizes K Is) (guards_file K Is ++ rest) ≡ map (formula_file edition1 K) Is
unfolding parts
parts-front K [] rest = refl
parts-front K (I ∷ Is) rest =
    let file = formula_file edition1 K I in
    let q : (file ++ guards_file K Is) ++ rest ≡ file ++ (guards_file K Is ++ rest) = append_assoc file (guards_file K Is) rest in
    subst (λ (l : List ℕ). ◌≡◌ {A = List (List ℕ)} (take (length file) l ∷ parts (guard_sizes K Is) (drop (length file) l)) (file ∷ map (formula_file edition1 K) Is)) (sym q)
    (ap₂ ◌∷◌ (take_at file (guards_file K Is ++ rest) (length file) refl) (ap (parts (guard_sizes K Is)) (drop_at file (guards_file K Is ++ rest) (length file) refl) ∙ parts-front K Is rest))

cut-front : (K : ℕ) (Is : List Formula) (output sizes left sizesLeft : List ℕ) → left ≡ over (guards_file K Is) output → sizesLeft ≡ over (guard_sizes K Is) sizes
    → parts (take (length Is) sizesLeft) left ≡ map (formula_file edition1 K) Is
unfolding over
cut-front K Is output sizes left sizesLeft b s =
    let f : take (length Is) sizesLeft ≡ guard_sizes K Is = ap (take (length Is)) s ∙ take_at (guard_sizes K Is) (drop (length (guard_sizes K Is)) sizes) (length Is) (length-map Is (λ I. length (formula_file edition1 K I))) in
    ap₂ parts f b ∙ parts-front K Is (drop (length (guards_file K Is)) output)

-- ---- the theorem
module _ (ws : List Writer) (proof output sizes left sizesLeft : List ℕ) (r : WriteResult) (w : WritesGuards (buffer_by ws) (lengths_by ws) proof output sizes left sizesLeft r) (h : r.answer.number ≡ 0) where
  pub delivered : DeliveredRun ws proof output sizes left sizesLeft r
  delivered =
      let l = left-of w h in
      let c = l.checkable in
      let m = means ws (subst (λ (fs : List (List ℕ)). Each (StageFile newest_edition c.K) fs c.Ts) (parts-by ws) c.certified.yields.stages) in
      let certified : RunCertifies newest_edition (buffer_by ws) (lengths_by ws) proof c.K (run_by ws) c.Is =
      subst (λ (Ts : Run). RunCertifies newest_edition (buffer_by ws) (lengths_by ws) proof c.K Ts c.Is) (sym m.run) c.certified in
      record {
        K = c.K;
        Is = c.Is;
        certified = certified;
        K_of = m.K_of;
        guards = certified.yields.count ∙ ap suc (length-map ws stated_by);
        chain = run-chain certified.yields.guards;
        fits = c.fits;
        count = l.count;
        bytes = l.bytes;
        lengths = l.many;
        files = cut-front c.K c.Is output sizes left sizesLeft l.bytes l.many;
        upto = certified.short;
        states = guards-stated certified;
      }
