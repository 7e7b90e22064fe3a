-- What check makes of turned files: the same as of the files, or 16. Assumes nothing.
use mathlib.Core.Path.{◌≡◌, refl, sym, ◌∙◌, ap, ap₂, subst}
use mathlib.Core.Option.{Option, none, some}
use mathlib.Core.Bool.{Bool}
use mathlib.Core.List.{List, [], ◌∷◌, map}
use Prim.Native.Nat.{ℕ, ◌≤◌, ◌<◌}
use native.Mathlib.Omega.{arith}
use lib.ListN.{length, length-append, length-map}
use Rattle.forms.specs.Edition.{Edition, edition, edition1, newest_edition}
use Rattle.forms.proofs.Editions.{bundle_bytes-grows, lines-least, lines-most}
use Rattle.forms.specs.Forms.{Constraint, Formula, line_a, line_b, lines, occurs}
use Rattle.calculus.specs.Rules.{Entry, row_count}
use Rattle.calculus.proofs.Sides.{Side}
use Rattle.calculus.proofs.Interpolation.{initial-words, sides}
use Rattle.answers.specs.Answers.{root, file_a, file_b, file_proof, Result, accepted, ◌>>=◌, Written, written}
use Rattle.answers.proofs.Results.{one_value, binds, passes}
use Rattle.fields.specs.declared.FileKind.{FileKind}
use Rattle.fields.specs.Fields.{Item, fields}
use Rattle.fields.specs.Header.{agrees}
use Rattle.fields.proofs.HeaderLaid.{header_read}
use Rattle.bundle.specs.Bundle.{Bundle, bundles}
use Rattle.bundle.specs.Layout.{Each, nil, cons, BundleFile}
use Rattle.bundle.proofs.Laid.{listed, bundle-accepts, bundles-accept, short-accepted}
use Rattle.formula.specs.Formula.{formula_file}
use Rattle.proof.specs.Entries.{EntryTag}
use Rattle.proof.specs.Check.{check_proof, interpolant, check_by, check}
use Rattle.proof.specs.Layout.{Enters, ProofFile, Yields}
use Rattle.proof.proofs.Agree.{agrees-refl, interpolant-yields}
use Rattle.conversion.specs.Turning.{other, bundle_turned, proof_turned}
use Rattle.conversion.specs.Widest.{widest}
use Rattle.conversion.proofs.Asking.{Asked}
use Rattle.conversion.proofs.Bundles.{bundle-turned-gives, turned-states}
use Rattle.conversion.proofs.Proofs.{proof_items, proof-turned-gives, turned-proof-file}
use Rattle.conversion.proofs.Narrow.{widest_fits, narrowed-proves}
use Rattle.guarantee_laws.proofs.Overflow.{Overflows, after-steps, overflow-bind, branch-overflows}

-- ---- a file states one thing
module _ {file : List ℕ} {n K n' K' : ℕ} {cs cs' : List Constraint} (f : BundleFile newest_edition file n K cs) (g : BundleFile newest_edition file n' K' cs') where
  one-bundle : ◌≡◌ {A = Bundle} (record { edition = n; K = K; constraints = cs }) (record { edition = n'; K = K'; constraints = cs' })
  unfolding agrees
  one-bundle = one_value (bundle-accepts newest_edition file_a none file _ (record { file = f; agree = tt })) (bundle-accepts newest_edition file_a none file _ (record { file = g; agree = tt }))

-- What is turned states what the file stated.
pub bundle-restated : {file bytes : List ℕ} {n K : ℕ} {cs : List Constraint} (to : ℕ) → BundleFile newest_edition file n K cs → bundle_turned to file ≡ accepted bytes → BundleFile newest_edition bytes to K cs
bundle-restated {file} {bytes} {n} {K} {cs} to f e =
    let t = (bundle-turned-gives to file).gives bytes e in
    let same = one-bundle t.source f in
    subst (λ (b : Bundle). BundleFile newest_edition bytes to b.K b.constraints) same (turned-states t)

same_tag : {x y : EntryTag} {o : Option EntryTag} → o ≡ some x → o ≡ some y → x ≡ y
same_tag p q = cc

same-entry : {e : Edition} {K : ℕ} {i : Item} {x y : Entry} → Enters e K i x → Enters e K i y → x ≡ y
same-entry h k = sym h.entry ∙ rw (same_tag h.tag k.tag) k.entry

same_entries : {e : Edition} {K : ℕ} {is : List Item} {es es' : List Entry} → Each (Enters e K) is es → Each (Enters e K) is es' → es ≡ es'
same_entries nil nil = refl
same_entries (cons h hs) (cons k ks) = ap₂ (λ (x : Entry) (es : List Entry). x ∷ es) (same-entry h k) (same_entries hs ks)

one-cons : {X : Type 0} {x y : X} {xs ys : List X} → x ∷ xs ≡ y ∷ ys → (x ≡ y) × (xs ≡ ys)
one-cons e = (cc, cc)

one-some : {X : Type 0} {x y : X} {o : Option X} → o ≡ some x → o ≡ some y → x ≡ y
one-some p q = cc

one-header : {n K n' K' : ℕ} {is js : List Item} → proof_items n K is ≡ proof_items n' K' js → (n ≡ n') × (K ≡ K') × (is ≡ js)
one-header e =
    let (first, others) = one-cons e in
    let (second, rest) = one-cons others in
    ((one-cons (ap (λ (i : Item). i.contents) first)).0, (one-cons (ap (λ (i : Item). i.contents) second)).0, rest)

-- The entries of the turned proof are those of the proof, which has the other edition.
pub record Restated (to n K : ℕ) (es : List Entry) (bytes : List ℕ) : Type 0 where
  pub asks : Asked to
  pub from : n ≡ other to
  pub file : ProofFile newest_edition bytes to K es

pub proof-restated : {file bytes : List ℕ} {n K : ℕ} {es : List Entry} (to : ℕ) → ProofFile newest_edition file n K es → proof_turned to file ≡ accepted bytes → Restated to n K es bytes
proof-restated {file} {bytes} {n} {K} {es} to f e =
    let t = (proof-turned-gives to file).gives bytes e in
    let s = t.source in
    let (number, constants, body) = one-header (one-some f.whole s.whole) in
    let own : Each (Enters (edition (other to)) t.K) s.body es =
    subst (λ (is : List Item). Each (Enters (edition (other to)) t.K) is es) body
    (subst (λ (K : ℕ). Each (Enters (edition (other to)) K) f.body es) constants
    (subst (λ (n : ℕ). Each (Enters (edition n) K) f.body es) number f.enters)) in
    record {
      asks = t.asks;
      from = number;
      file = subst (ProofFile newest_edition bytes to K) (same_entries s.enters own)
          (subst (λ (K : ℕ). ProofFile newest_edition bytes to K t.es) (sym constants) (turned-proof-file t));
    }

-- ---- a choice of files
-- A bundle is taken as it is, or turned.
pub data BundleChosen (A : List ℕ) : List ℕ → Type 0 where
  as_it_is : BundleChosen A A
  turned : (to : ℕ) {A' : List ℕ} → bundle_turned to A ≡ accepted A' → BundleChosen A A'

pub chosen-bundle : {A A' : List ℕ} {n K : ℕ} {cs : List Constraint} → BundleFile newest_edition A n K cs → BundleChosen A A' → (n' : ℕ) × BundleFile newest_edition A' n' K cs
chosen-bundle {n = n} f as_it_is = (n, f)
chosen-bundle f (turned to e) = (to, bundle-restated to f e)

-- How many lines a table starts with.
start-lines : (a b : List Constraint) → length a ≤ 32 → length b ≤ 32 → length (lines a b) ≤ 64
start-lines a b h k = omega (arith, length-append (map line_a a) (map line_b b), length-map a line_a, length-map b line_b)

module _ {A B P : List ℕ} {K : ℕ} {I : Formula} (y : Yields newest_edition A B P K I) {A' B' : List ℕ} (cA : BundleChosen A A') (cB : BundleChosen B B') where
  starts : length (lines y.a y.b) ≤ 64
  starts = start-lines y.a y.b y.file_a.few y.file_b.few

  -- A proof of these entries in the edition n, if no branch has too many lines for that.
  yields-by : {P' : List ℕ} (n : ℕ) → ProofFile newest_edition P' n K y.es → widest y.proves.proof ≤ (edition n).lines → Yields newest_edition A' B' P' K I
  yields-by n f h =
      let (n_A, fA) = chosen-bundle y.file_a cA in
      let (n_B, fB) = chosen-bundle y.file_b cB in
      record {
        edition_a = n_A;
        edition_b = n_B;
        edition_proof = n;
        a = y.a;
        b = y.b;
        es = y.es;
        file_a = fA;
        file_b = fB;
        file_proof = f;
        proves = narrowed-proves y.edition_proof n y.proves h;
      }

  -- As it is, or turned up: any branch fits.
  own-fits : widest y.proves.proof ≤ (edition y.edition_proof).lines
  own-fits = widest_fits (edition y.edition_proof) y.proves.proof (omega (arith, starts, lines-least y.edition_proof))

  pub yields-same : Yields newest_edition A' B' P K I
  yields-same = yields-by y.edition_proof y.file_proof own-fits

  pub yields-up : {P' : List ℕ} → proof_turned 2 P ≡ accepted P' → Yields newest_edition A' B' P' K I
  yields-up e = yields-by 2 (proof-restated 2 y.file_proof e).file (omega (arith, own-fits, lines-most y.edition_proof))

  pub yields-down : {P' : List ℕ} → proof_turned 1 P ≡ accepted P' → widest y.proves.proof ≤ 128 → Yields newest_edition A' B' P' K I
  yields-down e h = yields-by 1 (proof-restated 1 y.file_proof e).file h

  -- Turned down, with more than 128 lines on a branch: 16.
  abbrev of_a : Bundle
  of_a = record { edition = (chosen-bundle y.file_a cA).0; K = K; constraints = y.a }

  abbrev of_b : Bundle
  of_b = record { edition = (chosen-bundle y.file_b cB).0; K = K; constraints = y.b }

  bundles-read : bundles newest_edition A' B' ≡ accepted (of_a, of_b)
  unfolding agrees
  bundles-read = bundles-accept newest_edition A' B' of_a of_b (record { laid_a = record { file = (chosen-bundle y.file_a cA).1; agree = tt }; laid_b = record { file = (chosen-bundle y.file_b cB).1; agree = agrees-refl K } })

  abbrev occurring : Side → ℕ → Bool
  occurring σ = occurs (sides y.a y.b σ)

  proof-overflows : {P' : List ℕ} → ProofFile newest_edition P' 1 K y.es → 128 < widest y.proves.proof → Overflows (check_proof newest_edition of_a of_b (fields P'))
  unfolding check_proof
  proof-overflows {P'} f h =
      let r = header_read FileKind.Proof file_proof newest_edition (some K) (fields P') 1 K f.body f.whole f.first f.last f.low f.high (agrees-refl K) in
      after-steps (binds _ r.reads)
      (overflow-bind _ (branch-overflows y.edition_proof 1 K occurring 32 root 0 (lines y.a y.b) I y.proves.proof [] r.after (initial-words (sides y.a y.b))
      y.proves.opened (row_count y.proves.proof) (omega arith) y.proves.rows
      (listed r.after r.rest (subst (Each (Enters (edition 1) K) f.body) (sym y.proves.are) f.enters)) (omega (arith, starts)) h))

  short-file : {file : List ℕ} (c : (n : ℕ) × BundleFile newest_edition file n K y.a) → length file ≤ 8_192
  short-file (n, f) = omega (arith, f.short, bundle_bytes-grows n newest_edition f.first f.last)

  short-second : {file : List ℕ} (c : (n : ℕ) × BundleFile newest_edition file n K y.b) → length file ≤ 8_192
  short-second (n, f) = omega (arith, f.short, bundle_bytes-grows n newest_edition f.first f.last)

  pub overflows-down : {P' : List ℕ} → proof_turned 1 P ≡ accepted P' → 128 < widest y.proves.proof → Overflows (interpolant newest_edition A' B' P')
  unfolding interpolant
  overflows-down {P'} e h =
      let f = (proof-restated 1 y.file_proof e).file in
      after-steps (passes _ (short-accepted _ file_a A' (short-file (chosen-bundle y.file_a cA))) ∙ passes _ (short-accepted _ file_b B' (short-second (chosen-bundle y.file_b cB)))
      ∙ passes _ (short-accepted _ file_proof P' f.short) ∙ binds _ bundles-read)
      (overflow-bind _ (proof-overflows f h))

-- ---- what check leaves
pub same_left : (output : List ℕ) {A B P A' B' P' : List ℕ} {K : ℕ} {I : Formula} → Yields newest_edition A B P K I → Yields newest_edition A' B' P' K I → check A' B' P' output ≡ check A B P output
unfolding check check_by
same_left output {A} {B} {P} {A'} {B'} {P'} {K} {I} y y' =
    ap (λ (r : Result (ℕ × Formula)). written (r >>= λ (K, I). accepted (formula_file edition1 K I)) output) (interpolant-yields newest_edition A' B' P' K I y' ∙ sym (interpolant-yields newest_edition A B P K I y))

-- 16 in the proof, and nothing is written.
pub record Left16 (output : List ℕ) (w : Written) : Type 0 where
  pub number : w.answer.number ≡ 16
  pub file : w.answer.file ≡ 3
  pub count : w.count ≡ 0
  pub kept : w.output ≡ output

pub overflow-left : (output A B P : List ℕ) → Overflows (interpolant newest_edition A B P) → Left16 output (check A B P output)
unfolding check check_by written ◌>>=◌
overflow-left output A B P o = rw o.is (record { number = o.number; file = o.file; count = refl; kept = refl })
