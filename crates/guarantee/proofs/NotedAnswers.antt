-- What check answers moves with the fields of its files, where notes are put in. docs/FORMAT.md, "Bytes and fields". Assumes nothing.
use mathlib.Core.Path.{◌≡◌, refl, sym, ◌∙◌, ap, subst}
use mathlib.Core.Option.{Option, none, some}
use mathlib.Core.Bool.{Bool, true, false, cond}
use mathlib.Core.List.{List}
use Prim.Native.Nat.{ℕ, suc, ◌≤◌}
use native.Mathlib.Omega.{arith}
use lib.Dec.{leb, eqb}
use lib.ListN.{length}
use borrow.Author.Tests.{eq-eqb, ne_eqb}
use Rattle.forms.specs.Edition.{Edition, edition, edition1, edition2, newest_edition}
use Rattle.forms.specs.Forms.{Formula}
use Rattle.answers.specs.declared.Answer.{Answer}
use Rattle.answers.specs.Answers.{answer, file_a, file_b, file_proof, Result, refused, accepted, ◌>>=◌, ◌>>◌, need, Written, fit, written}
use Rattle.answers.proofs.Results.{passes}
use Rattle.fields.specs.declared.FileKind.{FileKind}
use Rattle.fields.specs.Fields.{Fields, ends, cut, ◌▸◌, fields, Noted, Kept}
use Rattle.fields.proofs.Moved.{move, move_answer, move_header, Moved, computed, need-moved, found-moved, bind-moved, edition-moved, constants-moved}
use Rattle.bundle.specs.Bundle.{Bundle, at_most, constraints, bundle_header, bundle, bundles}
use Rattle.bundle.specs.Layout.{edition_said, limit_said, bundle_limit}
use Rattle.bundle.proofs.Notes.{limit-most, kept-higher, at_most-kept}
use Rattle.formula.specs.Formula.{formula_file}
use Rattle.proof.specs.Check.{check_proof, formula_at_most, interpolant, check_by, check}
use Rattle.proof.specs.Editions.{limit_behind, lengths_fit, limit_a, limit_b}
use Rattle.proof.specs.Tree.{Tree, Stands, here, past}
use Rattle.proof.proofs.Satisfies.{Satisfies}
use Rattle.proof.proofs.Outside.{bundle-in}
use Rattle.proof.proofs.Moved.{check_proof-moved}
use Rattle.proof.proofs.Tree.{proof-stands}
use Rattle.guarantee.specs.NotedPlaces.{moved_by, moved_answer, check_places}
use Rattle.guarantee.proofs.TooLongFiles.{Amidst, above-1, edition-amidst, constants-amidst, constraints-amidst, proof-amidst}
use Rattle.guarantee.proofs.NotedPlaces.{fields-moved}

-- ---- a block whose refusals are mapped, by one rule for each form of step
abbrev pub map_result : (μ : Answer → Answer) {X Y : Type 0} → (X → Y) → Result X → Result Y
map_result μ f (refused a) = refused (μ a)
map_result μ f (accepted x) = accepted (f x)

-- r' is r with its refusal mapped by μ, and its value by f.
pub record Maps (μ : Answer → Answer) {X Y : Type 0} (f : X → Y) (r : Result X) (r' : Result Y) : Type 0 where
  pub equal : map_result μ f r ≡ r'

module _ {μ : Answer → Answer} {X Y : Type 0} {f : X → Y} where
  pub maps-computed : {r : Result X} → Maps μ f r (map_result μ f r)
  maps-computed = record { equal = refl }

  pub bind-maps : {Z W : Type 0} {g : Z → W} {r : Result Z} {r' : Result W} {k : Z → Result X} (k' : W → Result Y)
      → Maps μ g r r' → ((z : Z) → r ≡ accepted z → Maps μ f (k z) (k' (g z))) → Maps μ f (r >>= k) (r' >>= k')
  unfolding ◌>>=◌
  bind-maps {r = refused a} k' d e = record { equal = ap (λ s. s >>= k') d.equal }
  bind-maps {r = accepted z} k' d e = record { equal = (e z refl).equal ∙ ap (λ s. s >>= k') d.equal }

  -- a step of both that stays
  pub then-maps : (r : Result (Unit {0})) {s : Result X} {s' : Result Y} → ((a : Answer) → r ≡ refused a → μ a ≡ a) → (r ≡ accepted tt → Maps μ f s s') → Maps μ f (r >> s) (r >> s')
  unfolding ◌>>◌
  then-maps (refused a) h k = record { equal = ap refused (h a refl) }
  then-maps (accepted u) h k = k refl

  pub moved-maps : {φ : ℕ → ℕ} {r : Result X} {r' : Result Y} → ((a : Answer) → r ≡ refused a → μ a ≡ move_answer φ a) → Moved φ f r r' → Maps μ f r r'
  moved-maps {r = refused a} h d = record { equal = ap refused (h a refl) ∙ d.equal }
  moved-maps {r = accepted x} h d = record { equal = d.equal }

  -- by another map, which is the same where r is refused
  pub maps-as : {ν : Answer → Answer} {r : Result X} {r' : Result Y} → ((a : Answer) → r ≡ refused a → μ a ≡ ν a) → Maps ν f r r' → Maps μ f r r'
  maps-as {r = refused a} h d = record { equal = ap refused (h a refl) ∙ d.equal }
  maps-as {r = accepted x} h d = record { equal = d.equal }

-- ---- 1 stays, and every other refusal moves by the map of its file
abbrev placed : Answer → ℕ → Answer
placed a p = record { number = a.number; file = a.file; place = p; row = a.row; step = a.step; branch = a.branch }

module _ (places : (file place : ℕ) → ℕ) where
  pub one-stays : (a : Answer) → a.number ≡ 1 → moved_answer places a ≡ a
  one-stays a n =
      let e : cond (eqb a.number 1) a.place (places a.file a.place) ≡ a.place = rw (eq-eqb a.number 1 n) in
      ap (placed a) e

  pub other-moves : (φ : ℕ → ℕ) (a : Answer) → ¬ (a.number ≡ 1) → places a.file a.place ≡ φ a.place → moved_answer places a ≡ move_answer φ a
  other-moves φ a n q =
      let e : cond (eqb a.number 1) a.place (places a.file a.place) ≡ φ a.place = rw (ne_eqb a.number 1 n) q in
      ap (placed a) e

  module _ {X Y : Type 0} {f : X → Y} where
    -- 1 for a file, or a formula, that is too long
    pub one-maps : (file at : ℕ) (t : Bool) {s : Result X} {s' : Result Y} → (need (answer 1 file at) t ≡ accepted tt → Maps (moved_answer places) f s s')
        → Maps (moved_answer places) f (need (answer 1 file at) t >> s) (need (answer 1 file at) t >> s')
    unfolding need ◌>>◌
    one-maps file at true k = k refl
    one-maps file at false k = record { equal = refl }

    pub short-maps : (limit file : ℕ) (bytes : List ℕ) {s : Result X} {s' : Result Y} → (at_most limit file bytes ≡ accepted tt → Maps (moved_answer places) f s s')
        → Maps (moved_answer places) f (at_most limit file bytes >> s) (at_most limit file bytes >> s')
    unfolding at_most
    short-maps limit file bytes k = one-maps file 0 (leb (length bytes) limit) k

-- ---- a bundle
constraints-moved : {φ : ℕ → ℕ} (file : ℕ) (e : Edition) (K n : ℕ) (fs : Fields) → Moved φ (λ x. x) (constraints file e K n fs) (constraints file e K n (move φ fs))
unfolding constraints
constraints-moved file e K n (ends at) = computed
constraints-moved file e K n (cut at) = computed
constraints-moved file e K n (f ▸ fs) =
    need-moved _ _ (found-moved _ _ λ kind. need-moved _ _ (need-moved _ _ (need-moved _ _ (bind-moved _ (constraints-moved file e K (suc n) fs) λ cs. computed))))

module _ (file : ℕ) (given : Option ℕ) {F F' : List ℕ} (n : Noted F F') (k : Kept (bundle_limit F) F F') where
  abbrev Here : Answer → Answer
  Here = moved_answer (λ file. moved_by n)

  amidst-moves : {X : Type 0} {P : X → Type 0} {r : Result X} → Satisfies Amidst r P → (a : Answer) → r ≡ refused a → Here a ≡ move_answer (moved_by n) a
  amidst-moves s a e = other-moves (λ file. moved_by n) (moved_by n) a (above-1 (s.refusal a e)) refl

  kept-said : (m : ℕ) → edition_said (fields F) ≡ some m → Kept (edition m).bundle_bytes F F'
  unfolding bundle_limit
  kept-said m e = subst (λ (l : ℕ). Kept l F F') (ap limit_said e) k

  header-maps : Maps Here (move_header (moved_by n)) (bundle_header newest_edition file given F) (bundle_header newest_edition file given F')
  unfolding bundle_header
  header-maps = rw (fields-moved n)
      (bind-maps _ (moved-maps (amidst-moves (edition-amidst FileKind.Bundle file newest_edition (fields F))) (edition-moved FileKind.Bundle file newest_edition (fields F))) λ x e.
      rw (at_most-kept (edition x.0).bundle_bytes file n (kept-said x.0 ((edition-amidst FileKind.Bundle file newest_edition (fields F)).value x e)))
      (short-maps (λ file. moved_by n) (edition x.0).bundle_bytes file F λ _.
      bind-maps _ (moved-maps (amidst-moves (constants-amidst FileKind.Bundle file given x.1)) (constants-moved FileKind.Bundle file given x.1)) λ y _. maps-computed))

  bundle-maps : Maps Here (λ x. x) (bundle newest_edition file given F) (bundle newest_edition file given F')
  unfolding bundle
  bundle-maps = bind-maps _ header-maps λ h _.
      bind-maps _ (moved-maps (amidst-moves (constraints-amidst file (edition h.number) h.K 0 h.rest)) (constraints-moved file (edition h.number) h.K 0 h.rest)) λ cs _. maps-computed

  -- as one of several files
  pub bundle-mapped : (places : (file place : ℕ) → ℕ) → ((p : ℕ) → places file p ≡ moved_by n p) → Maps (moved_answer places) (λ x. x) (bundle newest_edition file given F) (bundle newest_edition file given F')
  bundle-mapped places h = maps-as (λ a e.
      let i : a.file ≡ file = ((bundle-in file newest_edition given F).refusal a e).0 in
      ap (λ (p : ℕ). placed a (cond (eqb a.number 1) a.place p)) (ap (λ (x : ℕ). places x a.place) i ∙ h a.place)) bundle-maps

-- ---- the proof
pub stands-file : {t : Tree} {fs : Fields} {a : Answer} → Stands t fs a → a.file ≡ file_proof
stands-file (here e) = ap (λ (a : Answer). a.file) e
stands-file (past f s) = stands-file s

module _ {P P' : List ℕ} (n : Noted P P') (places : (file place : ℕ) → ℕ) (h : (p : ℕ) → places file_proof p ≡ moved_by n p) where
  pub proof-maps : (a b : Bundle) → Maps (moved_answer places) (λ x. x) (check_proof newest_edition a b (fields P)) (check_proof newest_edition a b (fields P'))
  proof-maps a b = rw (fields-moved n) (moved-maps (λ x e.
      let i : x.file ≡ file_proof = stands-file (proof-stands newest_edition a b (fields P) x e) in
      other-moves places (moved_by n) x (above-1 ((proof-amidst newest_edition a b (fields P)).refusal x e)) (ap (λ (y : ℕ). places y x.place) i ∙ h x.place))
      (check_proof-moved (moved_by n) newest_edition a b (fields P)))

-- ---- check
behind-most : {X : Type 0} (r : Result X) (file : List ℕ) → limit_behind r file ≤ edition2.bundle_bytes
unfolding limit_behind
behind-most (refused a) file = omega arith
behind-most (accepted x) file = limit-most file

behind-accepted : {X : Type 0} {r : Result X} {x : X} → r ≡ accepted x → (file : List ℕ) → limit_behind r file ≡ bundle_limit file
unfolding limit_behind
behind-accepted e file = rw e

module _ {A A' B B' P P' : List ℕ} (n_A : Noted A A') (n_B : Noted B B') (nP : Noted P P') (kA : Kept (limit_a A B P) A A') (kB : Kept (limit_b A B P) B B') (kP : Kept edition1.proof_bytes P P') where
  abbrev μ : Answer → Answer
  μ = moved_answer (check_places n_A n_B nP)

  most-A : Kept edition2.bundle_bytes A A'
  unfolding limit_a
  most-A = kept-higher (behind-most (lengths_fit A B P) A) kA

  most-B : Kept edition2.bundle_bytes B B'
  unfolding limit_b
  most-B = kept-higher (behind-most (lengths_fit A B P >> bundle newest_edition file_a none A) B) kB

  read-A : lengths_fit A B P ≡ accepted tt → Kept (bundle_limit A) A A'
  unfolding limit_a
  read-A f = subst (λ (l : ℕ). Kept l A A') (behind-accepted f A) kA

  read-B : lengths_fit A B P ≡ accepted tt → (x : Bundle) → bundle newest_edition file_a none A ≡ accepted x → Kept (bundle_limit B) B B'
  unfolding limit_b
  read-B f x e = subst (λ (l : ℕ). Kept l B B') (behind-accepted (passes _ f ∙ e) B) kB

  in_A : (p : ℕ) → check_places n_A n_B nP file_a p ≡ moved_by n_A p
  unfolding check_places
  in_A p = refl

  in_B : (p : ℕ) → check_places n_A n_B nP file_b p ≡ moved_by n_B p
  unfolding check_places
  in_B p = refl

  in-proof : (p : ℕ) → check_places n_A n_B nP file_proof p ≡ moved_by nP p
  unfolding check_places
  in-proof p = refl

  bundles-map : lengths_fit A B P ≡ accepted tt → Maps μ (λ x. x) (bundles newest_edition A B) (bundles newest_edition A' B')
  unfolding bundles
  bundles-map f =
      bind-maps _ (bundle-mapped file_a none n_A (read-A f) (check_places n_A n_B nP) in_A) λ a e.
      bind-maps _ (bundle-mapped file_b (some a.K) n_B (read-B f a e) (check_places n_A n_B nP) in_B) λ b _. maps-computed

  interpolant-maps : Maps μ (λ x. x) (interpolant newest_edition A B P) (interpolant newest_edition A' B' P')
  unfolding interpolant formula_at_most lengths_fit
  interpolant-maps =
      rw (at_most-kept edition2.bundle_bytes file_a n_A most-A, at_most-kept edition2.bundle_bytes file_b n_B most-B, at_most-kept edition2.proof_bytes file_proof nP kP)
      (short-maps (check_places n_A n_B nP) _ file_a A λ fA. short-maps (check_places n_A n_B nP) _ file_b B λ fB. short-maps (check_places n_A n_B nP) _ file_proof P λ fP.
      bind-maps _ (bundles-map (passes _ fA ∙ passes _ fB ∙ fP)) λ x _.
      bind-maps _ (proof-maps nP (check_places n_A n_B nP) in-proof x.0 x.1) λ I _.
      one-maps (check_places n_A n_B nP) _ _ _ λ _. maps-computed)

  -- with file 4, and without a file, the place stays
  fit-mapped : (output : List ℕ) (b : Bool) (bytes : List ℕ) → μ (fit output b bytes).answer ≡ (fit output b bytes).answer
  unfolding fit check_places
  fit-mapped output true bytes = refl
  fit-mapped output false bytes = refl

  pub record Alike (w w' : Written) : Type 0 where
    pub answer : w'.answer ≡ μ w.answer
    pub count : w'.count ≡ w.count
    pub output : w'.output ≡ w.output

  written-mapped : (output : List ℕ) (r r' : Result (ℕ × Formula)) → Maps μ (λ x. x) r r'
      → Alike (written (r >>= λ (K, I). accepted (formula_file edition1 K I)) output) (written (r' >>= λ (K, I). accepted (formula_file edition1 K I)) output)
  unfolding written ◌>>=◌
  written-mapped output (refused a) r' d = rw (sym d.equal) (record { answer = refl; count = refl; output = refl })
  written-mapped output (accepted (K, I)) r' d = rw (sym d.equal) (record { answer = sym (fit-mapped output (leb (length (formula_file edition1 K I)) (length output)) (formula_file edition1 K I)); count = refl; output = refl })

  pub check-moved : (output : List ℕ) → Alike (check A B P output) (check A' B' P' output)
  unfolding check check_by
  check-moved output = written-mapped output (interpolant newest_edition A B P) (interpolant newest_edition A' B' P') interpolant-maps
