-- What is promised of turning holds. Assumes nothing.
use mathlib.Core.Path.{◌≡◌, refl, sym, ◌∙◌, ap, subst}
use mathlib.Core.Logic.{◌⊎◌, inl, inr}
use mathlib.Core.Option.{Option, none, some}
use mathlib.Core.Bool.{Bool, true, false, ◌&&◌}
use mathlib.Core.List.{List, [], ◌++◌}
use Prim.Native.Nat.{ℕ, ◌+◌, ◌≤◌, ◌<◌}
use native.Mathlib.Omega.{arith}
use borrow.Author.Tests.{lt-leb, leb-true, leb-false, eqb-false}
use lib.Dec.{leb, eqb, T}
use lib.IntN.{ℤ}
use lib.ListN.{length, take, drop}
use lib.Seq.{take_at}
use Rattle.forms.specs.Edition.{Edition, edition, newest_edition}
use Rattle.forms.specs.Forms.{All, Formula}
use Rattle.calculus.specs.Rules.{Entry}
use Rattle.answers.specs.declared.Answer.{Answer}
use Rattle.answers.specs.declared.WriteResult.{WriteResult}
use Rattle.answers.specs.Answers.{answer, file_a, file_proof, file_lent, Result, refused, accepted, ◌>>=◌, ◌>>◌, need, over, fit, Written, written, written_of}
use Rattle.answers.proofs.Results.{Gives, never, not-0, binds, passes, needs, fail, bind-refused, then-refused}
use Rattle.number_bytes.specs.Numbers.{Bytes}
use Rattle.fields.specs.declared.FileKind.{FileKind}
use Rattle.fields.specs.Fields.{Fields, ends, cut, ◌▸◌, Item, Framed, file_of, fields}
use Rattle.fields.specs.Header.{Header, header_tag, known, header_field, edition_field, header, header_bytes}
use Rattle.bundle.specs.Bundle.{Bundle, at_most, bundle_header, bundle}
use Rattle.fields.proofs.HeaderLaid.{edition-read}
use Rattle.bundle.specs.Layout.{BundleFile, edition_said, Says}
use Rattle.bundle.specs.Read.{BundleRead, kinds_of, numbers_of, unread, store, stored, read_bundle}
use Rattle.bundle_read.specs.declared.ReadResult.{ReadResult}
use Rattle.bundle_read.specs.Promises.{Reads}
use Rattle.bundle.proofs.Laid.{short-accepted}
use Rattle.bundle.proofs.RoundTrips.{written_as, written-fits}
use Rattle.proof.specs.Check.{check}
use Rattle.proof.specs.Layout.{ProofFile, Yields}
use Rattle.proof.specs.Tree.{starts_at, Outside}
use Rattle.proof.proofs.Satisfies.{Satisfies as Tells, says-refused, says-accepted, bind as tell-bind, says-need, test as tests, weaken as weakens}
use Rattle.proof.proofs.Tree.{amidst, entry-says}
use Rattle.proof.proofs.Editions.{Starting, starting, not-read}
use Rattle.proof.specs.Promises.{Checks}
use Rattle.conversion.specs.Turning.{other, asked, other_edition, each_field, result_within, bundle_turned, turn_bundle, lines_turned, fields_turned, makes_line, entries_read, proof_turned, turn_proof}
use Rattle.conversion.specs.Widest.{widest}
use Rattle.conversion.specs.Promises.{TurnsBundle, TurnsProof}
use Rattle.conversion.proofs.Asking.{Asked, down, up, asked-gives, asked-accepted, said-gives, other-gives, within-accepted}
use Rattle.guarantee_laws.proofs.Outside.{proof-outside}
use Rattle.guarantee_laws.proofs.AsCheck.{as_check as check-refused}
use Rattle.conversion.proofs.Bundles.{bundle-turned-gives, bundle-back, result-short}
use Rattle.conversion.proofs.Proofs.{proof-turned-gives, proof-back}
use Rattle.guarantee_laws.proofs.Checked.{bundle-restated, proof-restated, chosen-bundle, BundleChosen, as_it_is as as_is, turned as is_turned, yields-same, yields-up, yields-down, overflows-down, same_left, overflow-left, Left16}
use Rattle.conversion.specs.Turnable.{BundleTurnable, ProofTurnable}
use Rattle.guarantee.specs.Acceptance.{WrittenAs}
use Rattle.guarantee.specs.LaidOut.{WholeFields}
use Rattle.guarantee.specs.Soundness.{Meaning, Faithful}
use Rattle.guarantee.specs.Conversion.{BundleChoice, as_it_is, turned, Direction, ProofChoice, turned_up, turned_down, ConversionPromised}
use Rattle.guarantee.proofs.Acceptance.{written_from, short-from}
use Rattle.guarantee.proofs.Soundness.{lists, meaning-is}
use Rattle.guarantee_laws.proofs.Turnable.{bundle-turnable, turnable-bundle, proof-turnable, turnable-proof, turnable-read, bundle-narrow, proof-narrow}
use Rattle.guarantee.specs.TooManyLines.{branch_lines, TooManyLines}
use Rattle.guarantee.proofs.TooManyLines.{lines-full}
use Rattle.guarantee.proofs.TooLongFiles.{AllAmidst, edition-field-amidst, edition-amidst, header-amidst, One, never1, at-most, bundle-one}
use Rattle.guarantee.proofs.BundleNumbers.{because}
use Rattle.guarantee_laws.proofs.TurnedDown.{down-shorter}

-- ---- what is left of an output
number_of : {r : WriteResult} {left : List ℕ} {w : Written} → written_of r left ≡ w → r.answer.number ≡ w.answer.number
number_of e = ap (λ (w : Written). w.answer.number) e

answer-of : {r : WriteResult} {left : List ℕ} {w : Written} → written_of r left ≡ w → r.answer ≡ w.answer
answer-of e = ap (λ (w : Written). w.answer) e

module _ (output left : List ℕ) (r : WriteResult) where
  -- An accepted call: these bytes.
  by-fit : (b : Bool) (bs : List ℕ) → written_of r left ≡ fit output b bs → r.answer.number ≡ 0 → bs ≡ take r.count left
  unfolding fit over
  by-fit true bs e h =
      let count : r.count ≡ length bs = ap (λ (w : Written). w.count) e in
      let is : left ≡ over bs output = ap (λ (w : Written). w.output) e in
      sym (rw (count, is) (take_at bs (drop (length bs) output) (length bs) refl))
  by-fit false bs e h = absurd (let z = number_of e in omega arith)

  was-accepted : {P : List ℕ → Type 0} (m : Result (List ℕ)) → Gives m P → written_of r left ≡ written m output → r.answer.number ≡ 0 → m ≡ accepted (take r.count left)
  unfolding written
  was-accepted (refused a) g e h = absurd (not-0 (g.refusal a refl) (sym (number_of e) ∙ h))
  was-accepted (accepted bs) g e h = ap accepted (by-fit (leb (length bs) (length output)) bs e h)

  refused_as : {m : Result (List ℕ)} {a : Answer} → written_of r left ≡ written m output → m ≡ refused a → r.answer ≡ a
  unfolding written
  refused_as e f = answer-of e ∙ rw f

  written_as_lem : {m : Result (List ℕ)} {bs : List ℕ} → written_of r left ≡ written m output → m ≡ accepted bs → length bs ≤ length output → WrittenAs bs output left r.answer r.count
  written_as_lem {bs = bs} e f h =
      let all : written_of r left ≡ written_as bs output = e ∙ ap (λ (m : Result (List ℕ)). written m output) f ∙ written-fits output bs h in
      record { answer = answer-of all; count_is = ap (λ (w : Written). w.count) all; left_is = ap (λ (w : Written). w.output) all }

-- ---- the two operations
module _ {to : ℕ} {file output left : List ℕ} {r : WriteResult} where
  bundle-is : TurnsBundle to file output left r → written_of r left ≡ written (bundle_turned to file) output
  unfolding turn_bundle
  bundle-is d = d.is

  proof-is : TurnsProof to file output left r → written_of r left ≡ written (proof_turned to file) output
  unfolding turn_proof
  proof-is d = d.is

  bundle-accepted : TurnsBundle to file output left r → r.answer.number ≡ 0 → bundle_turned to file ≡ accepted (take r.count left)
  bundle-accepted d h = was-accepted output left r (bundle_turned to file) (bundle-turned-gives to file) (bundle-is d) h

  proof-accepted : TurnsProof to file output left r → r.answer.number ≡ 0 → proof_turned to file ≡ accepted (take r.count left)
  proof-accepted d h = was-accepted output left r (proof_turned to file) (proof-turned-gives to file) (proof-is d) h

-- ---- accepted just where
too_short : (output left : List ℕ) (r : WriteResult) {m : Result (List ℕ)} {bs : List ℕ} → written_of r left ≡ written m output → m ≡ accepted bs → length output < length bs → r.answer ≡ answer 21 4 (length bs)
unfolding written fit
too_short output left r {bs = bs} e f h = answer-of e ∙ rw (f, lt-leb (length bs) (length output) h)

within-refused : (bytes : List ℕ) → 65_536 < length bytes → result_within 65_536 bytes ≡ refused (answer 1 4 (length bytes))
unfolding result_within need
within-refused bytes h = then-refused _ (rw (lt-leb (length bytes) 65_536 h) refl)

module _ {to : ℕ} {file output left : List ℕ} {r : WriteResult} where
  is-turnable-bundle : TurnsBundle to file output left r → r.answer.number ≡ 0 → (bytes : List ℕ) × BundleTurnable to file bytes × (length bytes ≤ length output)
  is-turnable-bundle d h =
      let (bytes, t, fits) = written_from output (bundle_turned to file) (bundle-turned-gives to file) (sym (number_of (bundle-is d)) ∙ h) in
      (bytes, bundle-turnable t, fits)

  is-turnable-proof : TurnsProof to file output left r → r.answer.number ≡ 0 → (bytes : List ℕ) × ProofTurnable to file bytes × (length bytes ≤ 65_536) × (length bytes ≤ length output)
  is-turnable-proof d h =
      let (bytes, t, fits) = written_from output (proof_turned to file) (proof-turned-gives to file) (sym (number_of (proof-is d)) ∙ h) in
      (bytes, proof-turnable t, t.short, fits)

  no-room-bundle : TurnsBundle to file output left r → r.answer.number ≡ 21 → (bytes : List ℕ) × BundleTurnable to file bytes × (length output < length bytes)
  no-room-bundle d h =
      let (bytes, t, short) = short-from output (bundle_turned to file) (bundle-turned-gives to file) (sym (number_of (bundle-is d)) ∙ h) in
      (bytes, bundle-turnable t, short)

  no-room-proof : TurnsProof to file output left r → r.answer.number ≡ 21 → (bytes : List ℕ) × ProofTurnable to file bytes × (length bytes ≤ 65_536) × (length output < length bytes)
  no-room-proof d h =
      let (bytes, t, short) = short-from output (proof_turned to file) (proof-turned-gives to file) (sym (number_of (proof-is d)) ∙ h) in
      (bytes, proof-turnable t, t.short, short)

  listed-bundle : Bytes file → TurnsBundle to file output left r → r.answer.number ≡ 0 → WholeFields file
  listed-bundle k d h = let (bytes, t, fits) = is-turnable-bundle d h in lists k t.states.whole

  listed-proof : Bytes file → TurnsProof to file output left r → r.answer.number ≡ 0 → WholeFields file
  listed-proof k d h = let (bytes, t, short, fits) = is-turnable-proof d h in lists k t.states.whole

  turns-bundle : TurnsBundle to file output left r → {bytes : List ℕ} → BundleTurnable to file bytes → length bytes ≤ length output → WrittenAs bytes output left r.answer r.count
  turns-bundle d t fits = written_as_lem output left r (bundle-is d) (turnable-bundle t) fits

  turns-proof : Bytes file → TurnsProof to file output left r → {bytes : List ℕ} → ProofTurnable to file bytes → length bytes ≤ 65_536 → length bytes ≤ length output → WrittenAs bytes output left r.answer r.count
  turns-proof k d {bytes} t short fits = written_as_lem output left r (proof-is d) (turnable-proof k t ∙ within-accepted 65_536 bytes short) fits

-- ---- what the files state
means-alike : (to : ℕ) (F G : List Item) → All Framed F → All Framed G → (M N : Meaning) → Faithful M → Faithful N → (bytes : List ℕ) → bundle_turned to (file_of F) ≡ accepted bytes → bytes ≡ file_of G → N G ≡ M F
means-alike to F G fF fG M N hM hN bytes e is =
    let t = (bundle-turned-gives to (file_of F)).gives bytes e in
    let b = bundle-restated to t.source e in
    meaning-is G fG N hN to t.K t.cs (subst (λ (bs : List ℕ). BundleFile newest_edition bs to t.K t.cs) is b) ∙ sym (meaning-is F fF M hM (other to) t.K t.cs t.source)

-- ---- check
chosen : {A A₂ : List ℕ} → BundleChoice A A₂ → BundleChosen A A₂
chosen as_it_is = as_is
chosen (turned to output left r d h) = is_turned to (bundle-accepted d h)

yields-chosen : {A B P : List ℕ} {K : ℕ} {I : Formula} (y : Yields newest_edition A B P K I) {A₂ B₂ P₂ : List ℕ} (d : Direction) → BundleChoice A A₂ → BundleChoice B B₂ → ProofChoice P d P₂
    → (d ≡ Direction.down → widest y.proves.proof ≤ 128) → Yields newest_edition A₂ B₂ P₂ K I
yields-chosen y d cA cB as_it_is h = yields-same y (chosen cA) (chosen cB)
yields-chosen y d cA cB (turned_up output left r t a) h = yields-up y (chosen cA) (chosen cB) (proof-accepted t a)
yields-chosen y d cA cB (turned_down output left r t a) h = yields-down y (chosen cA) (chosen cB) (proof-accepted t a) (h refl)

left-same : {r r₂ : WriteResult} {left left₂ : List ℕ} {w w₂ : Written} → written_of r left ≡ w → written_of r₂ left₂ ≡ w₂ → w₂ ≡ w → (r₂ ≡ r) × (left₂ ≡ left)
left-same e f s =
    let all = f ∙ s ∙ sym e in
    (ap (λ (w : Written). let r : WriteResult = record { answer = w.answer; count = w.count } in r) all, ap (λ (w : Written). w.output) all)

overflow-chosen : {A B P : List ℕ} {K : ℕ} {I : Formula} (y : Yields newest_edition A B P K I) {A₂ B₂ P₂ : List ℕ} → BundleChoice A A₂ → BundleChoice B B₂ → ProofChoice P Direction.down P₂
    → 128 < widest y.proves.proof → (output : List ℕ) → Left16 output (check A₂ B₂ P₂ output)
overflow-chosen y {A₂} {B₂} {P₂} cA cB (turned_down o left r t a) h output = overflow-left output A₂ B₂ P₂ (overflows-down y (chosen cA) (chosen cB) (proof-accepted t a) h)

of-16 : {r : WriteResult} {left output : List ℕ} {w : Written} → written_of r left ≡ w → Left16 output w → (r.answer.number ≡ 16) × (r.answer.file ≡ 3) × (r.count ≡ 0) × (left ≡ output)
of-16 e l = (number_of e ∙ l.number, ap (λ (w : Written). w.answer.file) e ∙ l.file, ap (λ (w : Written). w.count) e ∙ l.count, ap (λ (w : Written). w.output) e ∙ l.kept)

says_first : {file : List ℕ} {K : ℕ} {es : List Entry} → ProofFile newest_edition file 1 K es → Says file 1
says_first {file} f =
    let r = edition-read FileKind.Proof file_proof newest_edition (fields file) 1 _ f.whole f.first f.last in
    (edition-amidst FileKind.Proof file_proof newest_edition (fields file)).value _ r.reads

-- at the row that would make the 129th line
full-chosen : {A B P : List ℕ} {K : ℕ} {I : Formula} (y : Yields newest_edition A B P K I) {A₂ B₂ P₂ : List ℕ} → BundleChoice A A₂ → BundleChoice B B₂ → ProofChoice P Direction.down P₂
    → {output left : List ℕ} {r : WriteResult} → Checks A₂ B₂ P₂ output left r → r.answer.number ≡ 16 → TooManyLines 128 (branch_lines (length y.a + length y.b) []) (fields P₂) r.answer.place
full-chosen y cA cB (turned_down o left r t a) d z =
    lines-full d z (chosen-bundle y.file_a (chosen cA)).1 (chosen-bundle y.file_b (chosen cB)).1 1 (says_first (proof-restated 1 y.file_proof (proof-accepted t a)).file)

-- ---- refusals
is-asked : {to : ℕ} → (to ≡ 1) ⊎ (to ≡ 2) → Asked to
is-asked (inl e) = subst Asked (sym e) down
is-asked (inr e) = subst Asked (sym e) up

not-other : {to : ℕ} → Asked to → eqb to (other to) ≡ false
not-other down = refl
not-other up = refl

unasked : (to : ℕ) → ¬ (to ≡ 1) → ¬ (to ≡ 2) → asked to ≡ refused (answer 5 file_lent 0)
unfolding asked need
unasked to h k = rw (not-read to h k)

too_long : (limit file : ℕ) (bytes : List ℕ) → limit < length bytes → at_most limit file bytes ≡ refused (answer 1 file 0)
unfolding at_most need
too_long limit file bytes h = rw (lt-leb (length bytes) limit h)

module _ (kind : FileKind) (file : ℕ) (k : T (known kind 0x01)) where
  said-so : {fs : Fields} {n : ℕ} (s : Starting fs n) (to : ℕ) → other_edition kind file to fs ≡ need (answer 5 file (starts_at fs)) (eqb n (other to))
  unfolding other_edition header_field starts_at
  said-so {n = n} s to =
      let f = s.first in
      ap (other_edition kind file to) s.are
      ∙ binds _ (needs _ _ _ (rw s.tag k) ∙ needs _ _ _ (rw s.tag tt) ∙ needs _ _ _ (rw s.size tt) ∙ ap (λ (n : ℕ). accepted (f.at, n, s.after)) s.says)
      ∙ ap (λ (fs : Fields). need (answer 5 file (starts_at fs)) (eqb n (other to))) (sym s.are)

  already : (fs : Fields) (to : ℕ) → Asked to → edition_said fs ≡ some to → other_edition kind file to fs ≡ refused (answer 5 file (starts_at fs))
  unfolding need
  already fs to a e = said-so (starting fs to e) to ∙ rw (not-other a)

  -- where turning refuses the first field, and it does not say the edition asked for, so does reading
  neither : {to : ℕ} → Asked to → (n : ℕ) → ¬ (n ≡ to) → ¬ (n ≡ other to) → (leb 1 n && leb n 2) ≡ false
  neither down n h k = not-read n h k
  neither up n h k = not-read n k h

  one-refusal : {X : Type 0} {a b : Answer} {r : Result X} → r ≡ refused a → r ≡ refused b → a ≡ b
  one-refusal p q = cc

  refused-5 : (b : Bool) (x a : Answer) → need x b ≡ refused a → (b ≡ false) × (x ≡ a)
  unfolding need
  refused-5 true x a e = absurd (never (sym e))
  refused-5 false x a e = (refl, let z : x ≡ a = cc in z)

  module _ (fs : Fields) (to : ℕ) (asks : Asked to) (h : ¬ (edition_said fs ≡ some to)) (a : Answer) (e : other_edition kind file to fs ≡ refused a) where
    no_value : (x : ℕ × ℕ × Fields) → header_field kind file 0x01 fs ≡ accepted x → edition_field kind file newest_edition fs ≡ refused a
    unfolding other_edition edition_field
    no_value x q =
        let said : edition_said fs ≡ some x.1 = (said-gives kind file fs).gives x q in
        let (t, is) = refused-5 (eqb x.1 (other to)) (answer 5 file x.0) a (sym (binds (λ (x : ℕ × ℕ × Fields). need (answer 5 file x.0) (eqb x.1 (other to))) q) ∙ e) in
        binds _ q ∙ fail (answer 5 file x.0) _ (neither asks x.1 (λ z. h (said ∙ ap some z)) (eqb-false x.1 (other to) t)) ∙ ap refused is

    no_field : (b : Answer) → header_field kind file 0x01 fs ≡ refused b → edition_field kind file newest_edition fs ≡ refused a
    unfolding other_edition edition_field
    no_field b q = bind-refused _ q ∙ ap refused (one-refusal (bind-refused (λ (x : ℕ × ℕ × Fields). need (answer 5 file x.0) (eqb x.1 (other to))) q) e)

    same_first : edition_field kind file newest_edition fs ≡ refused a
    same_first = go (header_field kind file 0x01 fs) refl
      where
        go : (r : Result (ℕ × ℕ × Fields)) → header_field kind file 0x01 fs ≡ r → edition_field kind file newest_edition fs ≡ refused a
        go (refused b) q = no_field b q
        go (accepted x) q = no_value x q

known-first : Unit {0} → T (known FileKind.Bundle 0x01)
unfolding known header_tag
known-first u = tt

known-second : Unit {0} → T (known FileKind.Proof 0x01)
unfolding known header_tag
known-second u = tt

first-refused : (file : List ℕ) (b : Answer) → edition_field FileKind.Bundle file_a newest_edition (fields file) ≡ refused b → bundle newest_edition file_a none file ≡ refused b
unfolding bundle bundle_header
first-refused file b e = bind-refused _ (bind-refused _ e)

-- ---- reading refused
either-refused : {X Y : Type 0} (m : Result (Unit {0})) {n : Result X} (f : X → Result Y) (a : Answer) → n ≡ refused a → ((b : Answer) → m ≡ refused b → b ≡ a) → (m >> (n >>= f)) ≡ refused a
either-refused (refused b) f a e k = then-refused _ refl ∙ ap refused (k b refl)
either-refused (accepted u) f a e k = passes _ refl ∙ bind-refused f e

reading-refused : (to : ℕ) (file : List ℕ) → Asked to → length file ≤ 8_192 → ¬ (Says file to) → (a : Answer) → bundle newest_edition file_a none file ≡ refused a → bundle_turned to file ≡ refused a
unfolding bundle_turned
reading-refused to file x l h a e = passes _ (asked-accepted x) ∙ passes _ (short-accepted _ file_a file l)
    ∙ either-refused (other_edition FileKind.Bundle file_a to (fields file)) _ a e λ b q. same b q
  where
    same : (b : Answer) → other_edition FileKind.Bundle file_a to (fields file) ≡ refused b → b ≡ a
    same b q = one-refusal FileKind.Bundle file_a (known-first tt) (first-refused file b (same_first FileKind.Bundle file_a (known-first tt) (fields file) to x h b q)) e

-- ---- 1: for the file, or for a result that is too long
-- A step that is accepted, and then the rest.
then-tells : {Q : Answer → Type 0} {Y : Type 0} {R : Y → Type 0} {P : Unit {0} → Type 0} (m : Result (Unit {0})) (r : Result Y) → Tells Q m P → (m ≡ accepted tt → Tells Q r R) → Tells Q (m >> r) R
unfolding ◌>>◌
then-tells (refused a) r h k = says-refused (h.refusal a refl)
then-tells (accepted u) r h k = k refl

-- What is accepted is what was accepted.
itself : {Q : Answer → Type 0} {X : Type 0} {P : X → Type 0} {m : Result X} → Tells Q m P → Tells Q m (λ x. m ≡ accepted x)
itself t = record { refusal = t.refusal; value = λ x e. e }

-- no step but the tests of a length refuses by 1
asked-amidst : (to : ℕ) → AllAmidst (asked to)
unfolding asked
asked-amidst to = weakens (says-need _ _ tt) (λ a h. h) (λ _ _. tt)

module _ (kind : FileKind) (file : ℕ) where
  other-amidst : (to : ℕ) (fs : Fields) → AllAmidst (other_edition kind file to fs)
  unfolding other_edition
  other-amidst to fs = tell-bind (edition-field-amidst kind file fs) λ x _. weakens (says-need _ _ tt) (λ a h. h) (λ _ _. tt)

  each-amidst : (number : ℕ) → T (amidst number) → (fits : Item → Bool) (fs : Fields) → AllAmidst (each_field number file fits fs)
  unfolding each_field
  each-amidst number h fits (ends at) = says-accepted tt
  each-amidst number h fits (cut at) = says-accepted tt
  each-amidst number h fits (f ▸ fs) = tests _ _ h λ _. each-amidst number h fits fs

entries-amidst : (e : Edition) (K : ℕ) (made : Bool) (fs : Fields) → AllAmidst (entries_read e K made fs)
unfolding entries_read
entries-amidst e K made (ends at) = says-accepted tt
entries-amidst e K made (cut at) = says-refused tt
entries-amidst e K made (f ▸ fs) = tell-bind (entry-says e K _ made f (λ n t. t)) λ x _. entries-amidst e K (makes_line x) fs

said-one : {m n : ℕ} {o : Option ℕ} → o ≡ some m → o ≡ some n → m ≡ n
said-one p q = cc

is-2 : {to : ℕ} → Asked to → other to ≡ 1 → to ≡ 2
is-2 down e = absurd (omega arith)
is-2 up e = refl

module _ (to : ℕ) (file : List ℕ) where
  -- a bundle
  abbrev LongBundle : Answer → Type 0
  LongBundle a = (a ≡ answer 1 1 0) × ((8_192 < length file) ⊎ ((to ≡ 2) × Says file 1 × (4_096 < length file)))

  bundle-1 : Tells (One LongBundle) (bundle_turned to file) (λ _. Unit {0})
  unfolding bundle_turned
  bundle-1 = then-tells _ _ (never1 LongBundle (asked-amidst to)) λ a. at-most LongBundle _ file_a file (λ h. (refl, inl h)) λ l.
      then-tells _ _ (never1 LongBundle (other-amidst FileKind.Bundle file_a to (fields file))) λ o.
      let late : Says file 1 → to ≡ 2 = λ s. is-2 ((asked-gives to).gives tt a) (said-one ((other-gives FileKind.Bundle file_a to (fields file)).gives tt o) s) in
      tell-bind (itself (bundle-one LongBundle file_a none file l λ s h. (refl, inr (late s, s, h)))) λ b e. then-tells _ _ (never1 LongBundle (each-amidst FileKind.Bundle file_a 13 tt _ _)) λ f.
      subst (λ (r : Result (List ℕ)). Tells (One LongBundle) r (λ _. Unit {0})) (sym (within-accepted (edition to).bundle_bytes _ (result-short to file b a o e f))) (says-accepted tt)

  -- a proof
  abbrev LongProof : Answer → Type 0
  LongProof a = (a.file ≡ 3) ⊎ ((a.file ≡ 4) × (¬ (to ≡ 1)) × ((bytes : List ℕ) × ProofTurnable to file bytes))

  module _ (l : length file ≤ 65_536) (h : Header) (e : header FileKind.Proof file_proof newest_edition none (fields file) ≡ accepted h) (x : entries_read (edition h.number) h.K false h.rest ≡ accepted tt) where
    abbrev result_to : ℕ → List ℕ
    result_to n = header_bytes n h.K ++ fields_turned (lines_turned (edition h.number) (edition n)) h.rest

    not-down : leb (length (result_to to)) 65_536 ≡ false → ¬ (to ≡ 1)
    not-down long d = omega (arith, l, down-shorter file h e x, leb-false (length (result_to 1)) 65_536 (subst (λ (n : ℕ). leb (length (result_to n)) 65_536 ≡ false) d long))

  proof_1 : Tells (One LongProof) (proof_turned to file) (λ _. Unit {0})
  unfolding proof_turned result_within
  proof_1 = then-tells _ _ (never1 LongProof (asked-amidst to)) λ a. at-most LongProof _ file_proof file (λ h. inl refl) λ l.
      then-tells _ _ (never1 LongProof (other-amidst FileKind.Proof file_proof to (fields file))) λ o.
      tell-bind (itself (never1 LongProof (header-amidst FileKind.Proof file_proof newest_edition none (fields file)))) λ h e.
      then-tells _ _ (never1 LongProof (entries-amidst (edition h.number) h.K false h.rest)) λ x. then-tells _ _ (never1 LongProof (each-amidst FileKind.Proof file_proof 10 tt _ _)) λ f.
      because _ _ (λ long _. inr (refl, not-down l h e x long, turnable-read to file a l o h e x f)) λ _. says-accepted tt

fits-or-21 : (output : List ℕ) (b : Bool) (bs : List ℕ) → ¬ ((fit output b bs).answer.number ≡ 1)
unfolding fit
fits-or-21 output true bs h = omega arith
fits-or-21 output false bs h = omega arith

told-1 : {Why : Answer → Type 0} (output left : List ℕ) (r : WriteResult) (m : Result (List ℕ)) → Tells (One Why) m (λ _. Unit {0}) → written_of r left ≡ written m output → r.answer.number ≡ 1
    → (m ≡ refused r.answer) × Why r.answer
unfolding written
told-1 {Why} output left r (refused a) t e h = let same = answer-of e in (ap refused (sym same), subst Why (sym same) (t.refusal a refl (sym (number_of e) ∙ h)))
told-1 output left r (accepted bs) t e h = absurd (fits-or-21 output (leb (length bs) (length output)) bs (sym (number_of e) ∙ h))

-- where it is for the result, that is too long
is-long : (bytes : List ℕ) {a : Answer} → result_within 65_536 bytes ≡ refused a → 65_536 < length bytes
is-long bytes e = go (leb (length bytes) 65_536) refl
  where
    go : (b : Bool) → leb (length bytes) 65_536 ≡ b → 65_536 < length bytes
    go true q = absurd (never (sym e ∙ within-accepted 65_536 bytes (leb-true _ _ q)))
    go false q = leb-false _ _ q

module _ {to : ℕ} {file output left : List ℕ} {r : WriteResult} (d : TurnsProof to file output left r) where
  told-proof : r.answer.number ≡ 1 → (proof_turned to file ≡ refused r.answer) × LongProof to file r.answer
  told-proof h = told-1 output left r (proof_turned to file) (proof_1 to file) (proof-is d) h

  result-long : Bytes file → r.answer.number ≡ 1 → r.answer.file ≡ 4 → (bytes : List ℕ) × ProofTurnable to file bytes × (65_536 < length bytes)
  result-long k n f = let (e, w) = told-proof n in go e w
    where
      go : proof_turned to file ≡ refused r.answer → LongProof to file r.answer → (bytes : List ℕ) × ProofTurnable to file bytes × (65_536 < length bytes)
      go e (inl q) = absurd (omega (arith, q, f))
      go e (inr (_, _, (bytes, t))) = (bytes, t, is-long bytes (sym (turnable-proof k t) ∙ e))

  short-down : to ≡ 1 → r.answer.number ≡ 1 → r.answer.file ≡ 3
  short-down e n = go (told-proof n).1
    where
      go : LongProof to file r.answer → r.answer.file ≡ 3
      go (inl q) = q
      go (inr (_, n, _)) = absurd (n e)

-- ---- each refusal of the definitions
unasked-bundle : (to : ℕ) (file : List ℕ) → ¬ (to ≡ 1) → ¬ (to ≡ 2) → bundle_turned to file ≡ refused (answer 5 4 0)
unfolding bundle_turned
unasked-bundle to file h k = then-refused _ (unasked to h k)

unasked-proof : (to : ℕ) (file : List ℕ) → ¬ (to ≡ 1) → ¬ (to ≡ 2) → proof_turned to file ≡ refused (answer 5 4 0)
unfolding proof_turned
unasked-proof to file h k = then-refused _ (unasked to h k)

bundle-too-long : {to : ℕ} (file : List ℕ) → Asked to → 8_192 < length file → bundle_turned to file ≡ refused (answer 1 1 0)
unfolding bundle_turned
bundle-too-long file a h = passes _ (asked-accepted a) ∙ then-refused _ (too_long 8_192 file_a file h)

proof-too-long : {to : ℕ} (file : List ℕ) → Asked to → 65_536 < length file → proof_turned to file ≡ refused (answer 1 3 0)
unfolding proof_turned
proof-too-long file a h = passes _ (asked-accepted a) ∙ then-refused _ (too_long 65_536 file_proof file h)

bundle-there : {to : ℕ} (file : List ℕ) → Asked to → length file ≤ 8_192 → Says file to → bundle_turned to file ≡ refused (answer 5 1 (starts_at (fields file)))
unfolding bundle_turned
bundle-there {to} file a l s = passes _ (asked-accepted a) ∙ passes _ (short-accepted _ file_a file l) ∙ then-refused _ (already FileKind.Bundle file_a (known-first tt) (fields file) to a s)

proof-there : {to : ℕ} (file : List ℕ) → Asked to → length file ≤ 65_536 → Says file to → proof_turned to file ≡ refused (answer 5 3 (starts_at (fields file)))
unfolding proof_turned
proof-there {to} file a l s = passes _ (asked-accepted a) ∙ passes _ (short-accepted _ file_proof file l) ∙ then-refused _ (already FileKind.Proof file_proof (known-second tt) (fields file) to a s)

-- ---- as reading, as check
stored-file : (kinds : List ℕ) (numbers : List ℤ) (m : Result Bundle) → (stored kinds numbers m).answer.file ≡ 1 → (a : Answer) × (m ≡ refused a) × ((stored kinds numbers m).answer ≡ a)
unfolding stored unread store
stored-file kinds numbers (refused a) e = (a, refl, refl)
stored-file kinds numbers (accepted b) e = absurd (by-room (leb (length (kinds_of b.constraints)) (length kinds) && leb (length (numbers_of b.constraints)) (length numbers)) e)
  where
    by-room : (fits : Bool) → (store kinds numbers fits b).answer.file ≡ 1 → ⊥
    by-room true e = omega arith
    by-room false e = omega arith

same-refusal : {X : Type 0} {a b : Answer} {m : Result X} → m ≡ refused a → m ≡ refused b → b ≡ a
same-refusal p q = cc

module _ {to : ℕ} (file : List ℕ) (x : Asked to) (h : ¬ (Says file to)) where
  read-refused : (a : Answer) → (at_most 8_192 file_a file >> bundle newest_edition file_a none file) ≡ refused a → bundle_turned to file ≡ refused a
  read-refused a e = go (leb (length file) 8_192) refl
    where
      go : (b : Bool) → leb (length file) 8_192 ≡ b → bundle_turned to file ≡ refused a
      go true q = let l = leb-true (length file) 8_192 q in reading-refused to file x l h a (sym (passes _ (short-accepted _ file_a file l)) ∙ e)
      go false q = let l = leb-false (length file) 8_192 q in bundle-too-long file x l ∙ ap refused (same-refusal e (then-refused _ (too_long 8_192 file_a file l)))

as_read : {file kinds : List ℕ} {numbers : List ℤ} {kinds' : List ℕ} {numbers' : List ℤ} {r : ReadResult} → Reads file kinds numbers kinds' numbers' r → r.answer.file ≡ 1
    → {to : ℕ} → Asked to → ¬ (Says file to) → {output left : List ℕ} {r₂ : WriteResult} → TurnsBundle to file output left r₂ → r₂.answer ≡ r.answer
unfolding read_bundle
as_read {file} {kinds} {numbers} {r = r} d f {to} x h {output} {left} {r₂} d₂ =
    let is : r.answer ≡ (read_bundle kinds numbers newest_edition file).answer = ap (λ (b : BundleRead). b.answer) d.is in
    let (a, e, same) = stored-file kinds numbers (at_most 8_192 file_a file >> bundle newest_edition file_a none file) (ap (λ (a : Answer). a.file) (sym is) ∙ f) in
    refused_as output left r₂ (bundle-is d₂) (read-refused file x h a e) ∙ sym (is ∙ same)

told-alike : {a : Answer} {n at : ℕ} → Outside a → a.number ≡ n → a.file ≡ 3 → a.place ≡ at → a ≡ answer n 3 at
told-alike {a} {n} {at} o p q s = o ∙ ap (λ (m : ℕ). answer m a.file a.place) p ∙ ap (λ (f : ℕ). answer n f a.place) q ∙ ap (answer n 3) s

as-checked : {A B P output left : List ℕ} {r : WriteResult} → Checks A B P output left r → r.answer.file ≡ 3 → r.answer.number ≤ 7
    → {to : ℕ} → Asked to → ¬ (Says P to) → {output₂ left₂ : List ℕ} {r₂ : WriteResult} → TurnsProof to P output₂ left₂ r₂ → r₂.answer ≡ answer r.answer.number 3 r.answer.place
unfolding turn_proof
as-checked {A} {B} {P} {output} {r = r} d f n {to} x h {output₂} {left₂} {r₂} d₂ =
    let is : r.answer ≡ (check A B P output).answer = answer-of d.is in
    let t = check-refused to x P h A B output (ap (λ (a : Answer). a.file) (sym is) ∙ f) (subst (λ (a : Answer). a.number ≤ 7) is n) in
    let e : r₂.answer ≡ t.b = refused_as output₂ left₂ r₂ (proof-is d₂) t.turned in
    let o : Outside r₂.answer = subst Outside (sym (answer-of (proof-is d₂))) (proof-outside to P output₂) in
    told-alike o (ap (λ (a : Answer). a.number) e ∙ t.number ∙ ap (λ (a : Answer). a.number) (sym is)) (ap (λ (a : Answer). a.file) e ∙ t.file) (ap (λ (a : Answer). a.place) e ∙ t.place ∙ ap (λ (a : Answer). a.place) (sym is))

-- Point 4.
pub conversion-promised : ConversionPromised
conversion-promised = record {
  bundle_iff = λ to file output left r d. (is-turnable-bundle d, λ (bytes, t, fits). ap (λ (a : Answer). a.number) (turns-bundle d t fits).answer);
  bundle_turns = λ to file output left r d bytes t fits. turns-bundle d t fits;
  bundle_21 = λ to file output left r d. (no-room-bundle d, λ (bytes, t, h). too_short output left r (bundle-is d) (turnable-bundle t) h);
  proof_iff = λ to file output left r k d. (is-turnable-proof d, λ (bytes, t, short, fits). ap (λ (a : Answer). a.number) (turns-proof k d t short fits).answer);
  proof_turns = λ to file output left r k d bytes t short fits. turns-proof k d t short fits;
  proof_1 = λ to file output left r k d. (λ (n, f). result-long d k n f, λ (bytes, t, h). refused_as output left r (proof-is d) (turnable-proof k t ∙ within-refused bytes h));
  proof_21 = λ to file output left r k d. (no-room-proof d, λ (bytes, t, short, h). too_short output left r (proof-is d) (turnable-proof k t ∙ within-accepted 65_536 bytes short) h);
  bundle_13 = λ file output left r d K cs b before c after e h k f at. refused_as output left r (bundle-is d) (bundle-narrow file K cs b before c after e h k f at);
  proof_10 = λ file output left r d K es p t before i after e h k f at. refused_as output left r (proof-is d) (proof-narrow file K es p t before i after e h k f at);
  bundle_and_back = λ to F framed k output left r d h output₂ left₂ r₂ fits d₂.
      written_as_lem output₂ left₂ r₂ (bundle-is d₂) (bundle-back to F framed k (take r.count left) (bundle-accepted d h)) fits;
  proof_and_back = λ to F framed k output left r d h output₂ left₂ r₂ fits d₂.
      written_as_lem output₂ left₂ r₂ (proof-is d₂) (proof-back to F framed k (take r.count left) (proof-accepted d h)) fits;
  bundle_listed = λ to file output left r k d h. listed-bundle k d h;
  proof_listed = λ to file output left r k d h. listed-proof k d h;
  states_same = λ to A output left r d h n K cs f. bundle-restated to f (bundle-accepted d h);
  enters_same = λ to P output left r d h n K es f. (proof-restated to f (proof-accepted d h)).file;
  means_same = λ to F G fF fG M N hM hN output left r d h is. means-alike to F G fF fG M N hM hN (take r.count left) (bundle-accepted d h) is;
  checked_same = λ A B P K I y A₂ B₂ P₂ dir cA cB cP h output left left₂ r r₂ d d₂. left-same d.is d₂.is (same_left output y (yields-chosen y dir cA cB cP h));
  checked_16 = λ A B P K I y A₂ B₂ P₂ cA cB cP h output left r d.
      let (number, file, count, same) = of-16 d.is (overflow-chosen y cA cB cP h output) in
      (number, file, full-chosen y cA cB cP d number, count, same);
  asked_bundle = λ to file output left r d h k. refused_as output left r (bundle-is d) (unasked-bundle to file h k);
  asked_proof = λ to file output left r d h k. refused_as output left r (proof-is d) (unasked-proof to file h k);
  long_bundle = λ to file output left r d a h. refused_as output left r (bundle-is d) (bundle-too-long file (is-asked a) h);
  long_proof = λ to file output left r d a h. refused_as output left r (proof-is d) (proof-too-long file (is-asked a) h);
  there_bundle = λ to file output left r d a l s. refused_as output left r (bundle-is d) (bundle-there file (is-asked a) l s);
  there_proof = λ to file output left r d a l s. refused_as output left r (proof-is d) (proof-there file (is-asked a) l s);
  as_reading = λ file kinds numbers kinds' numbers' r d h to a s output left r₂ d₂. as_read d h (is-asked a) s d₂;
  as_check = λ A B P output left r d h n to a s output₂ left₂ r₂ d₂. as-checked d h n (is-asked a) s d₂;
  never_too_long = λ to file output left r d h. (told-1 output left r (bundle_turned to file) (bundle-1 to file) (bundle-is d) h).1;
  never_too_long_down = λ file output left r d h. short-down d refl h;
}
