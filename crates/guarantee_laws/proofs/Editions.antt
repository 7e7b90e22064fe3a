-- What is promised of edition 2 holds of the operations. Assumes nothing.
use mathlib.Core.Path.{◌≡◌, refl, sym, ◌∙◌, ap, subst}
use mathlib.Core.Option.{Option, none, some}
use mathlib.Core.Bool.{Bool, true, false, ◌&&◌}
use mathlib.Core.List.{List}
use Prim.Native.Nat.{ℕ, zero, suc, ◌≤◌, ◌<◌}
use native.Mathlib.Omega.{arith}
use borrow.Author.Tests.{le-leb, lt-leb, leb-true, leb-false, ne_eqb}
use lib.Dec.{leb, le→leb}
use lib.IntN.{ℤ, nat_abs}
use lib.ListN.{length}
use mir.Facts.{yes_and}
use Rattle.forms.specs.Edition.{newest_edition}
use Rattle.forms.specs.Forms.{All}
use Rattle.forms.proofs.Editions.{bundle_bytes-most, bundle_bytes-by}
use Rattle.answers.specs.declared.Answer.{Answer}
use Rattle.answers.specs.declared.WriteResult.{WriteResult}
use Rattle.answers.specs.Answers.{answer, file_a, file_b, file_proof, file_lent, Result, refused, accepted, ◌>>◌, Written, written_of, written}
use Rattle.answers.proofs.Results.{Gives, weaken, seq, binds, passes, needs, fail, bind-refused, each-accepted}
use Rattle.number_bytes.proofs.Signed.{all-weaken}
use Rattle.fields.specs.declared.FileKind.{FileKind}
use Rattle.fields.specs.Fields.{◌▸◌, fields}
use Rattle.fields.specs.Header.{header_tag, known, agrees, header}
use Rattle.bundle.specs.Bundle.{Bundle, at_most, bundle, bundles, both_read}
use Rattle.bundle.specs.Layout.{edition_said, Says, limit_said, bundle_limit}
use Rattle.bundle.specs.Read.{BundleRead, unread, stored, read_bundle}
use Rattle.bundle.specs.Write.{encode_bundle, write_bundle}
use Rattle.bundle.specs.Show.{answer_of, shown_part, show_answer}
use Rattle.bundle.proofs.Laid.{short-gives, short-accepted, bundle-gives, bundle-accepts, both-read-short}
use Rattle.bundle_show.specs.Promises.{AnswersShow}
use Rattle.bundle_read.specs.declared.ReadResult.{ReadResult}
use Rattle.bundle_read.specs.Promises.{Reads}
use Rattle.bundle_write.specs.Promises.{Writes}
use Rattle.formula.specs.Formula.{read_formula}
use Rattle.formula.specs.Test.{tested, judged, test_formula}
use Rattle.formula_test.specs.declared.Tested.{Tested}
use Rattle.formula_test.specs.Promises.{Tests}
use Rattle.proof.specs.Check.{check_proof, interpolant, check_by, check}
use Rattle.proof.specs.Editions.{InFirst, Accepts, limit_behind, lengths_fit, limit_a, limit_b}
use Rattle.proof.proofs.Agree.{agrees-refl}
use Rattle.proof.proofs.Editions.{Starting, starting, field-said, not-read, other-bundle, late-bundle, offices}
use Rattle.proof.specs.Promises.{Checks}
use Rattle.guarantee.specs.Editions.{BundlesWithinLimits, ReadA, ReadBoth, SaysAt, Other, HasLowest, HasMore, EditionsPromised}
use Rattle.guarantee.proofs.TooLongFiles.{check_1, show_1, read_1}
use Rattle.guarantee_laws.proofs.BundleRefusals.{bundle-lowest, bundle-more, write_kind, write_count, wide-1, wide-2}

-- ---- what a file says, and where
module _ {file : List ℕ} {n at : ℕ} (s : SaysAt file n at) where
  abbrev start : Starting (fields file) n
  start = starting (fields file) n s.says

  first-at : start.first.at ≡ at
  first-at =
      let e : start.first ▸ start.after ≡ s.first ▸ s.after = sym start.are ∙ s.are in
      let same : start.first ≡ s.first = cc in
      ap (λ f. f.at) same ∙ s.place

-- a bundle of another edition, with its place
bundle-other : (file : ℕ) (given : Option ℕ) (bytes : List ℕ) {n at : ℕ} → Other n → SaysAt bytes n at → bundle newest_edition file given bytes ≡ refused (answer 5 file at)
bundle-other file given bytes {n} o s = other-bundle file given bytes n (start s) o.not_1 o.not_2 ∙ ap (λ (at : ℕ). refused (answer 5 file at)) (first-at s)

-- ---- A and B
module _ (A B : List ℕ) where
  abbrev bundle_a : ReadA A B → Bundle
  bundle_a r = record { edition = r.n_A; K = r.K; constraints = r.a }

  A-accepted : (r : ReadA A B) → bundle newest_edition file_a none A ≡ accepted (bundle_a r)
  unfolding agrees
  A-accepted r = bundle-accepts newest_edition file_a none A (bundle_a r) (record { file = r.states_a; agree = tt })

  late_A : Says A 1 → 4_096 < length A → bundles newest_edition A B ≡ refused (answer 1 file_a 0)
  unfolding bundles
  late_A s h = bind-refused _ (late-bundle file_a none A s h)

  late_B : ReadA A B → Says B 1 → 4_096 < length B → bundles newest_edition A B ≡ refused (answer 1 file_b 0)
  unfolding bundles
  late_B r s h = binds _ (A-accepted r) ∙ bind-refused _ (late-bundle file_b (some r.K) B s h)

  other-A : {n at : ℕ} → Other n → SaysAt A n at → bundles newest_edition A B ≡ refused (answer 5 file_a at)
  unfolding bundles
  other-A o s = bind-refused _ (bundle-other file_a none A o s)

  other-B : ReadA A B → {n at : ℕ} → Other n → SaysAt B n at → bundles newest_edition A B ≡ refused (answer 5 file_b at)
  unfolding bundles
  other-B r o s = binds _ (A-accepted r) ∙ bind-refused _ (bundle-other file_b (some r.K) B o s)

  lowest-A : BundlesWithinLimits A B → {K at : ℕ} → HasLowest A K at → bundles newest_edition A B ≡ refused (answer 13 file_a at)
  unfolding bundles agrees
  lowest-A s h = bind-refused _ (bundle-lowest file_a none A tt s.a h)

  lowest-B : (r : ReadA A B) → {at : ℕ} → HasLowest B r.K at → bundles newest_edition A B ≡ refused (answer 13 file_b at)
  unfolding bundles
  lowest-B r h = binds _ (A-accepted r) ∙ bind-refused _ (bundle-lowest file_b (some r.K) B (agrees-refl r.K) r.short.b h)

  more-A : {n K at : ℕ} → HasMore A n K at → bundles newest_edition A B ≡ refused (answer 8 file_a at)
  unfolding bundles agrees
  more-A h = bind-refused _ (bundle-more file_a none A tt h)

  more-B : (r : ReadA A B) → {n at : ℕ} → HasMore B n r.K at → bundles newest_edition A B ≡ refused (answer 8 file_b at)
  unfolding bundles
  more-B r h = binds _ (A-accepted r) ∙ bind-refused _ (bundle-more file_b (some r.K) B (agrees-refl r.K) h)

  both-accepted : (r : ReadBoth A B) → bundles newest_edition A B ≡ accepted (bundle_a r.first, record { edition = r.n_B; K = r.first.K; constraints = r.b })
  unfolding bundles
  both-accepted r = binds _ (A-accepted r.first) ∙ binds _ (bundle-accepts newest_edition file_b (some r.first.K) B _ (record { file = r.states_b; agree = agrees-refl r.first.K }))

-- ---- check
module _ {A B proof output left : List ℕ} {r : WriteResult} (c : Checks A B proof output left r) where
  refused-so : {a : Answer} → interpolant newest_edition A B proof ≡ refused a → r.answer ≡ a
  unfolding check check_by written
  refused-so e = ap (λ (w : Written). w.answer) c.is ∙ ap (λ (x : Result (List ℕ)). (written x output).answer) (bind-refused _ e)

  long_A : 8_192 < length A → r.answer ≡ answer 1 file_a 0
  unfolding interpolant at_most
  long_A h = refused-so (fail _ _ (lt-leb (length A) 8_192 h))

  long_B : length A ≤ 8_192 → 8_192 < length B → r.answer ≡ answer 1 file_b 0
  unfolding interpolant at_most
  long_B k h = refused-so (needs _ _ _ (le→leb (length A) 8_192 k) ∙ fail _ _ (lt-leb (length B) 8_192 h))

  long_proof : BundlesWithinLimits A B → 65_536 < length proof → r.answer ≡ answer 1 file_proof 0
  unfolding interpolant at_most
  long_proof s h = refused-so (needs _ _ _ (le→leb (length A) 8_192 s.a) ∙ needs _ _ _ (le→leb (length B) 8_192 s.b) ∙ fail _ _ (lt-leb (length proof) 65_536 h))

  module _ (s : BundlesWithinLimits A B) (p : length proof ≤ 65_536) where
    bundles-refused : {a : Answer} → bundles newest_edition A B ≡ refused a → r.answer ≡ a
    unfolding interpolant
    bundles-refused e = refused-so (passes _ (short-accepted 8_192 file_a A s.a) ∙ passes _ (short-accepted 8_192 file_b B s.b) ∙ passes _ (short-accepted 65_536 file_proof proof p) ∙ bind-refused _ e)

    proof-refused : {ab : Bundle × Bundle} {a : Answer} → bundles newest_edition A B ≡ accepted ab → check_proof newest_edition ab.0 ab.1 (fields proof) ≡ refused a → r.answer ≡ a
    unfolding interpolant
    proof-refused e q = refused-so (passes _ (short-accepted 8_192 file_a A s.a) ∙ passes _ (short-accepted 8_192 file_b B s.b) ∙ passes _ (short-accepted 65_536 file_proof proof p) ∙ binds _ e ∙ bind-refused _ q)

proof-other : (a b : Bundle) (proof : List ℕ) {n at : ℕ} → Other n → SaysAt proof n at → check_proof newest_edition a b (fields proof) ≡ refused (answer 5 file_proof at)
unfolding check_proof header known header_tag
proof-other a b proof {n} o s =
    bind-refused _ (bind-refused _ (field-said FileKind.Proof file_proof tt (start s) 2 ∙ fail _ _ (not-read n o.not_1 o.not_2)))
    ∙ ap (λ (at : ℕ). refused (answer 5 file_proof at)) (first-at s)

-- ---- read
module _ {file kinds : List ℕ} {numbers : List ℤ} {kinds' : List ℕ} {numbers' : List ℤ} {r : ReadResult} (c : Reads file kinds numbers kinds' numbers' r) where
  read-refused : {a : Answer} → (at_most 8_192 file_a file >> bundle newest_edition file_a none file) ≡ refused a → r.answer ≡ a
  unfolding read_bundle stored unread
  read-refused e = ap (λ (b : BundleRead). b.answer) c.is ∙ ap (λ (x : Result Bundle). (stored kinds numbers x).answer) e

  read_long : 8_192 < length file → r.answer ≡ answer 1 file_a 0
  unfolding at_most
  read_long h = read-refused (fail _ _ (lt-leb (length file) 8_192 h))

  read_by : length file ≤ 8_192 → {a : Answer} → bundle newest_edition file_a none file ≡ refused a → r.answer ≡ a
  read_by h e = read-refused (passes _ (short-accepted 8_192 file_a file h) ∙ e)

  -- too long for edition 1, and perhaps for every edition
  read_late : Says file 1 → 4_096 < length file → r.answer ≡ answer 1 file_a 0
  read_late s h = go (leb (length file) 8_192) refl
    where
      go : (b : Bool) → leb (length file) 8_192 ≡ b → r.answer ≡ answer 1 file_a 0
      go true e = read_by (leb-true _ _ e) (late-bundle file_a none file s h)
      go false e = read_long (leb-false _ _ e)

  read_lowest : length file ≤ 8_192 → {K at : ℕ} → HasLowest file K at → r.answer ≡ answer 13 file_a at
  unfolding agrees
  read_lowest s h = read_by s (bundle-lowest file_a none file tt s h)

  read_more : {n K at : ℕ} → HasMore file n K at → r.answer ≡ answer 8 file_a at
  unfolding agrees
  read_more {n} h = read_by (omega (arith, h.short, bundle_bytes-most n)) (bundle-more file_a none file tt h)

-- ---- show
module _ {A B : List ℕ} {line : ℕ} {r : Answer} (c : AnswersShow A B line r) where
  show_long_A : 8_192 < length A → r ≡ answer 1 file_a 0
  unfolding show_answer shown_part both_read answer_of at_most
  show_long_A h = c.is ∙ ap answer_of (bind-refused _ (fail _ _ (lt-leb (length A) 8_192 h)))

  show_long_B : length A ≤ 8_192 → 8_192 < length B → r ≡ answer 1 file_b 0
  unfolding show_answer shown_part both_read answer_of at_most
  show_long_B k h = c.is ∙ ap answer_of (bind-refused _ (needs _ _ _ (le→leb (length A) 8_192 k) ∙ fail _ _ (lt-leb (length B) 8_192 h)))

  show-by : BundlesWithinLimits A B → {a : Answer} → bundles newest_edition A B ≡ refused a → r ≡ a
  unfolding show_answer shown_part answer_of
  show-by s e = c.is ∙ ap answer_of (bind-refused _ (both-read-short newest_edition A B s.a s.b ∙ e))

-- ---- write
write_other : {n K : ℕ} {kinds : List ℕ} {numbers : List ℤ} {output left : List ℕ} {r : WriteResult} → Writes n K kinds numbers output left r → Other n → r.answer ≡ answer 5 file_lent 0
unfolding write_bundle encode_bundle written
write_other {n} {output = output} c o = ap (λ (w : Written). w.answer) c.is ∙ ap (λ (x : Result (List ℕ)). (written x output).answer) (fail _ _ (not-read n o.not_1 o.not_2))

-- ---- test
not_first : (n : ℕ) → ¬ (n ≡ 1) → (leb 1 n && leb n 1) ≡ false
not_first zero h = refl
not_first (suc zero) h = absurd (h refl)
not_first (suc (suc n)) h = rw (le-leb 1 (suc (suc n)) (omega arith), lt-leb (suc (suc n)) 1 (omega arith))

module _ {formula : List ℕ} {n at : ℕ} (h : ¬ (n ≡ 1)) (s : SaysAt formula n at) where
  reading-other : (K : ℕ) → read_formula K (fields formula) ≡ refused (answer 5 file_proof at)
  unfolding read_formula header known header_tag
  reading-other K =
      bind-refused _ (bind-refused _ (field-said FileKind.Formula file_proof tt (start s) 1 ∙ fail _ _ (not_first n h)))
      ∙ ap (λ (at : ℕ). refused (answer 5 file_proof at)) (first-at s)

  test_other : {values : List ℤ} {r : Tested} → Tests formula values r → 1 ≤ length values → length values ≤ 16 → All (λ z. nat_abs z ≤ 1_000_000) values → length formula ≤ 65_536 → r.answer ≡ answer 5 file_proof at
  unfolding test_formula tested judged
  test_other {values} c low high range short =
      let e : tested formula values ≡ refused (answer 5 file_proof at) =
      needs _ _ _ (yes_and (leb 1 (length values)) (leb (length values) 16) (le→leb 1 (length values) low) (le→leb (length values) 16 high))
      ∙ passes _ (each-accepted _ _ 0 (all-weaken (λ z k. le→leb (nat_abs z) 1_000_000 k) range))
      ∙ needs _ _ _ (le→leb (length formula) 65_536 short)
      ∙ reading-other (length values) in
      ap (λ (t : Tested). t.answer) c.is ∙ ap (λ x. (judged values x).answer) e

-- ---- the length that demand 3 means
plain : (file : List ℕ) → Says file 1 → bundle_limit file ≡ 4_096
unfolding bundle_limit
plain file s = ap limit_said s

plain-else : (file : List ℕ) → ¬ (Says file 1) → bundle_limit file ≡ 8_192
unfolding bundle_limit
plain-else file h = go (edition_said (fields file)) refl
  where
    go : (o : Option ℕ) → edition_said (fields file) ≡ o → limit_said o ≡ 8_192
    go none e = refl
    go (some n) e = bundle_bytes-by n (ne_eqb n 1 λ q. h (e ∙ ap some q))

-- behind what is read before
behind : {X : Type 0} {r : Result X} {x : X} (file : List ℕ) → r ≡ accepted x → Says file 1 → limit_behind r file ≡ 4_096
unfolding limit_behind
behind file e s = rw e (plain file s)

behind-else : {X : Type 0} {P : X → Type 0} {r : Result X} (file : List ℕ) → Gives r P → ((x : X) → P x → ¬ (Says file 1)) → limit_behind r file ≡ 8_192
unfolding limit_behind
behind-else {r = refused a} file g n = refl
behind-else {r = accepted x} file g n = plain-else file (n x (g.gives x refl))

module _ (A B proof : List ℕ) where
  lengths-accepted : BundlesWithinLimits A B → length proof ≤ 65_536 → lengths_fit A B proof ≡ accepted tt
  unfolding lengths_fit
  lengths-accepted s p = passes _ (short-accepted 8_192 file_a A s.a) ∙ passes _ (short-accepted 8_192 file_b B s.b) ∙ short-accepted 65_536 file_proof proof p

  lengths-give : Gives (lengths_fit A B proof) (λ _. BundlesWithinLimits A B × (length proof ≤ 65_536))
  unfolding lengths_fit
  lengths-give = seq (short-gives 8_192 file_a A) λ a. seq (short-gives 8_192 file_b B) λ b. weaken (short-gives 65_536 file_proof proof) λ _ p. (record { a = a; b = b }, p)

  length_A : BundlesWithinLimits A B → length proof ≤ 65_536 → Says A 1 → limit_a A B proof ≡ 4_096
  unfolding limit_a
  length_A s p h = behind A (lengths-accepted s p) h

  length_A_else : ¬ (BundlesWithinLimits A B × (length proof ≤ 65_536) × Says A 1) → limit_a A B proof ≡ 8_192
  unfolding limit_a
  length_A_else n = behind-else A lengths-give λ _ (s, p) h. n (s, p, h)

  length_B : ReadA A B → length proof ≤ 65_536 → Says B 1 → limit_b A B proof ≡ 4_096
  unfolding limit_b
  length_B r p h = behind B (passes _ (lengths-accepted r.short p) ∙ A-accepted A B r) h

  A-gives : Gives (lengths_fit A B proof >> bundle newest_edition file_a none A) (λ _. ReadA A B × (length proof ≤ 65_536))
  A-gives = seq lengths-give λ (s, p). weaken (bundle-gives newest_edition file_a none A) λ a l. (record { short = s; n_A = a.edition; K = a.K; a = a.constraints; states_a = l.file }, p)

  length_B_else : ¬ (ReadA A B × (length proof ≤ 65_536) × Says B 1) → limit_b A B proof ≡ 8_192
  unfolding limit_b
  length_B_else n = behind-else B A-gives λ _ (r, p) h. n (r, p, h)

-- ---- the office before edition 2
module _ {A B proof output left : List ℕ} {r : WriteResult} (c : Checks A B proof output left r) where
  as_accepting : InFirst A B proof → Accepts (check A B proof output) → written_of r left ≡ check_by 1 A B proof output
  as_accepting f h = c.is ∙ offices.same_bytes A B proof output f h

  as_accepted : Accepts (check_by 1 A B proof output) → written_of r left ≡ check_by 1 A B proof output
  as_accepted h =
      let f = offices.first_only A B proof output h in
      as_accepting f ((offices.same_accepted A B proof output f).0 h)

-- Point 3.
pub editions-promised : EditionsPromised
editions-promised = record {
  first_edition = (refl, refl, refl, refl);
  second_edition = (refl, refl, refl, refl);
  offices = offices;
  as_first = λ A B proof output left r c f a b. c.is ∙ offices.same_answer A B proof output f a b;
  as_accepting = λ A B proof output left r c f h. as_accepting c f (subst Accepts c.is h);
  as_accepted = λ A B proof output left r c h. as_accepted c h;
  length_A = length_A;
  length_A_else = length_A_else;
  length_B = length_B;
  length_B_else = length_B_else;
  length_plain = plain;
  length_plain_else = plain-else;
  check_long_A = λ A B proof output left r c h. long_A c h;
  check_long_B = λ A B proof output left r c k h. long_B c k h;
  check_long_proof = λ A B proof output left r c s h. long_proof c s h;
  check_late_A = λ A B proof output left r c s p h l. bundles-refused c s p (late_A A B h l);
  check_late_B = λ A B proof output left r c s p h l. bundles-refused c s.short p (late_B A B s h l);
  check_1 = λ A B proof output left r c one. check_1 c one;
  check_other_A = λ A B proof output left r c s p n at o h. bundles-refused c s p (other-A A B o h);
  check_other_B = λ A B proof output left r c s p n at o h. bundles-refused c s.short p (other-B A B s o h);
  check_other_proof = λ A B proof output left r c s p n at o h. proof-refused c s.first.short p (both-accepted A B s) (proof-other _ _ proof o h);
  check_more_A = λ A B proof output left r c s p n K at h. bundles-refused c s p (more-A A B h);
  check_more_B = λ A B proof output left r c a p n at h. bundles-refused c a.short p (more-B A B a h);
  check_lowest_A = λ A B proof output left r c s p K at h. bundles-refused c s p (lowest-A A B s h);
  check_lowest_B = λ A B proof output left r c a p at h. bundles-refused c a.short p (lowest-B A B a h);
  read_long = λ file kinds numbers kinds' numbers' r c h. read_long c h;
  read_late = λ file kinds numbers kinds' numbers' r c s h. read_late c s h;
  read_1 = λ file kinds numbers kinds' numbers' r c one. read_1 c one;
  read_other = λ file kinds numbers kinds' numbers' r c h n at o s. read_by c h (bundle-other file_a none file o s);
  read_more = λ file kinds numbers kinds' numbers' r c n K at h. read_more c h;
  read_lowest = λ file kinds numbers kinds' numbers' r c s K at h. read_lowest c s h;
  show_long_A = λ A B line r c h. show_long_A c h;
  show_long_B = λ A B line r c k h. show_long_B c k h;
  show_late_A = λ A B line r c s h l. show-by c s (late_A A B h l);
  show_late_B = λ A B line r c s h l. show-by c s.short (late_B A B s h l);
  show_1 = λ A B line r c one. show_1 c one;
  show_other_A = λ A B line r c s n at o h. show-by c s (other-A A B o h);
  show_other_B = λ A B line r c s n at o h. show-by c s.short (other-B A B s o h);
  show_more_A = λ A B line r c s n K at h. show-by c s (more-A A B h);
  show_more_B = λ A B line r c a n at h. show-by c a.short (more-B A B a h);
  show_lowest_A = λ A B line r c s K at h. show-by c s (lowest-A A B s h);
  show_lowest_B = λ A B line r c a at h. show-by c a.short (lowest-B A B a h);
  write_other = λ n K kinds numbers output left r c o. write_other c o;
  write_kind = λ n K kinds numbers output left r c k before after kind are held h. write_kind c k before after kind are held h;
  write_count = λ n K kinds numbers output left r c k valid h. write_count c k valid h;
  write_wide_1 = λ K kinds numbers output left r c k before after z are held h. wide-1 before after z are c k held h;
  write_wide_2 = λ K kinds numbers output left r c k before after z are held h. wide-2 before after z are c k held h;
  test_other = λ formula values r c low high range short n at h s. test_other h s c low high range short;
}
