-- The refusals by 21, 7 and 8, and by 1 at check's end, come just where they should, with their file and place. Assumes nothing.
use mathlib.Core.Path.{◌≡◌, refl, sym, ◌∙◌, ap, subst}
use mathlib.Core.Logic.{◌⊎◌, inl, inr}
use mathlib.Core.Bool.{Bool, true, false, ◌&&◌}
use mathlib.Core.List.{List}
use mathlib.Core.Option.{none, some}
use Prim.Native.Nat.{ℕ, zero, suc, ◌<◌}
use native.Mathlib.Omega.{arith}
use borrow.Author.Tests.{lt-leb, le-leb, leb-true, leb-false}
use mir.Facts.{and_yes, yes_and}
use lib.Dec.{T, leb, leb→le, le→leb}
use lib.IntN.{ℤ}
use lib.ListN.{length}
use Rattle.forms.specs.Edition.{edition1, newest_edition}
use Rattle.forms.specs.Forms.{Formula}
use Rattle.answers.specs.declared.Answer.{Answer}
use Rattle.answers.specs.declared.WriteResult.{WriteResult}
use Rattle.answers.specs.Answers.{answer, file_a, file_b, Result, refused, accepted, ◌>>=◌, Written, fit, written}
use Rattle.answers.proofs.Results.{fail, needs, passes}
use Rattle.number_bytes.proofs.Signed.{all-weaken}
use Rattle.fields.specs.Fields.{fields}
use Rattle.fields.specs.Header.{agrees}
use Rattle.bundle.specs.Bundle.{Bundle, at_most, bundles}
use Rattle.bundle.specs.Read.{BundleRead, kinds_of, numbers_of, unread, store, stored, read_bundle}
use Rattle.bundle.specs.Write.{encode_bundle, write_bundle}
use Rattle.bundle.specs.Writable.{InOrder}
use Rattle.bundle.proofs.Laid.{Laid, BothLaid, bundle-gives, bundle-accepts, bundles-give, bundle-short, short-accepted}
use Rattle.bundle.proofs.Writable.{encode_bundle-gives, encode_bundle-accepted}
use Rattle.bundle_read.specs.declared.ReadResult.{ReadResult}
use Rattle.bundle_read.specs.Promises.{Reads}
use Rattle.bundle_write.specs.Promises.{Writes}
use Rattle.formula.specs.Formula.{formula_file}
use Rattle.proof.specs.Check.{formula_at_most, interpolant, check_by, check}
use Rattle.proof.specs.Layout.{Yields, Certifies}
use Rattle.proof.specs.Promises.{Checks}
use Rattle.proof.proofs.Satisfies.{Satisfies, says-accepted, bind, seq, test, weaken, each-says}
use Rattle.proof.proofs.Agree.{proof-gives, yielded, interpolant-iff}
use Rattle.guarantee.specs.Acceptance.{bundle_file}
use Rattle.guarantee.specs.RefusedIff.{YieldsSome, bytes_needed, ShortOutput, LongFormula, ShortRead, WrongK, ManyKinds, ShortWrite, RefusedIff}
use Rattle.guarantee.proofs.Acceptance.{acceptance-holds, of-editions, edition-first, edition-last, held_two, held-four, all_held}
use Rattle.guarantee.proofs.TooLongFiles.{above-1, proof-amidst}
use Rattle.guarantee.proofs.BundleNumbers.{up-to-20, because, Plain, short-plain, bundle-plain}

-- ---- check
module _ (A B proof : List ℕ) where
  -- Never 21, and 1 with file 4 has its reason.
  abbrev Late : Answer → Type 0
  Late a = (¬ (a.number ≡ 21)) × (a.number ≡ 1 → a.file ≡ 4 → LongFormula A B proof)

  late : {X : Type 0} {P : X → Type 0} {r : Result X} (file : ℕ) → ¬ (file ≡ 4) → Satisfies (Plain file) r P → Satisfies Late r P
  late file n s = weaken s (λ a q. (λ e. omega (arith, q.0), λ e f. absurd (n (sym (q.1 e) ∙ f)))) (λ _ u. u)

  bundles-late : Satisfies Late (bundles newest_edition A B) (BothLaid newest_edition A B)
  unfolding bundles
  bundles-late = record {
    refusal = (bind (late file_a (λ e. omega arith) (bundle-plain file_a none A)) λ a _. bind (late file_b (λ e. omega arith) (bundle-plain file_b (some a.K) B)) λ b _. says-accepted {P = λ _. Unit {0}} tt).refusal;
    value = (bundles-give newest_edition A B).gives;
  }

  interpolant-late : Satisfies Late (interpolant newest_edition A B proof) (λ _. Unit {0})
  unfolding interpolant formula_at_most at_most
  interpolant-late =
      test _ _ (λ e. omega arith, λ e f. absurd (omega arith)) λ _. test _ _ (λ e. omega arith, λ e f. absurd (omega arith)) λ _. test _ _ (λ e. omega arith, λ e f. absurd (omega arith)) λ s.
      bind bundles-late λ (a, b) l.
      bind (record { refusal = λ x e. let t = (proof-amidst newest_edition a b (fields proof)).refusal x e in (λ n. omega (arith, up-to-20 x.number t), λ e. absurd (above-1 t e)); value = (proof-gives newest_edition a b (fields proof)).gives }) λ I p.
      because _ _ (λ q. (
        λ e. omega arith,
        λ _ _. record {
          derives = record { K = a.K; formula = I; yields = yielded newest_edition A B proof a b l (leb→le (length proof) 65_536 s) I p };
          long = leb-false _ _ q;
        },
      )) λ _. says-accepted tt

  abbrev derives-by : {K : ℕ} {I : Formula} → Yields newest_edition A B proof K I → YieldsSome A B proof
  derives-by {K} {I} y = record { K = K; formula = I; yields = y }

  -- what is left, by the bytes or the refusal
  module _ (output : List ℕ) where
    abbrev Told : Answer → Type 0
    Told a = (a.number ≡ 21 → ShortOutput A B proof output) × (a.number ≡ 1 → a.file ≡ 4 → LongFormula A B proof)

    told_fit : (K : ℕ) (I : Formula) → Certifies newest_edition A B proof K I → (b : Bool) → leb (length (formula_file edition1 K I)) (length output) ≡ b → Told (fit output b (formula_file edition1 K I)).answer
    unfolding fit
    told_fit K I c true q = (λ e. absurd (omega arith), λ e f. absurd (omega arith))
    told_fit K I c false q = (λ _. record { derives = derives-by c.yields; within = c.short; short = leb-false _ _ q }, λ e f. absurd (omega arith))

    told-by : (r : Result (ℕ × Formula)) → interpolant newest_edition A B proof ≡ r → Told (written (r >>= λ (K, I). accepted (formula_file edition1 K I)) output).answer
    unfolding written ◌>>=◌
    told-by (refused a) e = let q = interpolant-late.refusal a e in (λ n. absurd (q.0 n), q.1)
    told-by (accepted (K, I)) e = told_fit K I ((interpolant-iff newest_edition A B proof K I).0 e) (leb (length (formula_file edition1 K I)) (length output)) refl

    check-told : Told (check A B proof output).answer
    unfolding check check_by
    check-told = told-by (interpolant newest_edition A B proof) refl

module _ {A B proof output left : List ℕ} {r : WriteResult} (c : Checks A B proof output left r) where
  told : Told A B proof output r.answer
  told = subst (λ (w : Written). Told A B proof output w.answer) (sym c.is) (check-told A B proof output)

  by-21 : (s : ShortOutput A B proof output) → r.answer ≡ answer 21 4 (bytes_needed s.derives)
  by-21 s = acceptance-holds.too_short A B proof output left r c s.derives.K s.derives.formula (record { yields = s.derives.yields; short = s.within }) s.short

  by-1 : (l : LongFormula A B proof) → r.answer ≡ answer 1 4 (bytes_needed l.derives)
  by-1 l = acceptance-holds.too_long A B proof output left r c l.derives.K l.derives.formula l.derives.yields l.long

  by-derives : (d : YieldsSome A B proof) → (r.answer.number ≡ 0) ⊎ (r.answer.number ≡ 21) ⊎ ((r.answer.number ≡ 1) × (r.answer.file ≡ 4))
  by-derives d = go (leb (bytes_needed d) 65_536) refl (leb (bytes_needed d) (length output)) refl
    where
      go : (b : Bool) → leb (bytes_needed d) 65_536 ≡ b → (t : Bool) → leb (bytes_needed d) (length output) ≡ t
          → (r.answer.number ≡ 0) ⊎ (r.answer.number ≡ 21) ⊎ ((r.answer.number ≡ 1) × (r.answer.file ≡ 4))
      go false p t q =
          let e = by-1 (record { derives = d; long = leb-false _ _ p }) in
          inr (inr (ap (λ (a : Answer). a.number) e, ap (λ (a : Answer). a.file) e))
      go true p false q = inr (inl (ap (λ (a : Answer). a.number) (by-21 (record { derives = d; within = leb-true _ _ p; short = leb-false _ _ q }))))
      go true p true q = inl ((acceptance-holds.accepted_iff A B proof output left r c).1 (record { K = d.K; formula = d.formula; certified = record { yields = d.yields; short = leb-true _ _ p }; fits = leb-true _ _ q }))

  derives-from : (r.answer.number ≡ 0) ⊎ (r.answer.number ≡ 21) ⊎ ((r.answer.number ≡ 1) × (r.answer.file ≡ 4)) → YieldsSome A B proof
  derives-from (inl e) = let k = (acceptance-holds.accepted_iff A B proof output left r c).0 e in record { K = k.K; formula = k.formula; yields = k.certified.yields }
  derives-from (inr (inl e)) = (told.0 e).derives
  derives-from (inr (inr (e, f))) = (told.1 e f).derives

-- ---- read
module _ (file kinds : List ℕ) (numbers : List ℤ) where
  stored-21 : (r : Result Bundle) → Satisfies (Plain file_a) r (Laid newest_edition none file) → (stored kinds numbers r).answer.number ≡ 21 → ShortRead file kinds numbers
  unfolding stored store unread
  stored-21 (refused a) s e = absurd (omega (arith, (s.refusal a refl).0))
  stored-21 (accepted b) s e = go (leb (length (kinds_of b.constraints)) (length kinds)) refl (leb (length (numbers_of b.constraints)) (length numbers)) refl e
    where
      is : (length kinds < length (kinds_of b.constraints)) ⊎ (length numbers < length (numbers_of b.constraints)) → ShortRead file kinds numbers
      is h = record { n = b.edition; K = b.K; constraints = b.constraints; states = (s.value b refl).file; short = h }

      go : (p : Bool) → leb (length (kinds_of b.constraints)) (length kinds) ≡ p → (q : Bool) → leb (length (numbers_of b.constraints)) (length numbers) ≡ q
          → (store kinds numbers (p && q) b).answer.number ≡ 21 → ShortRead file kinds numbers
      go false h q k e = is (inl (leb-false _ _ h))
      go true h false k e = is (inr (leb-false _ _ k))
      go true h true k e = absurd (omega arith)

  read-21-from : (read_bundle kinds numbers newest_edition file).answer.number ≡ 21 → ShortRead file kinds numbers
  unfolding read_bundle
  read-21-from = stored-21 _ (seq (short-plain _ file_a file) (record { refusal = (bundle-plain file_a none file).refusal; value = (bundle-gives newest_edition file_a none file).gives }))

  -- the other way
  short-stored : (b : Bundle) → (length kinds < length (kinds_of b.constraints)) ⊎ (length numbers < length (numbers_of b.constraints)) → (stored kinds numbers (accepted b)).answer ≡ answer 21 4 (length b.constraints)
  unfolding stored store unread
  short-stored b (inl h) = rw (lt-leb (length (kinds_of b.constraints)) (length kinds) h)
  short-stored b (inr h) = go (leb (length (kinds_of b.constraints)) (length kinds))
    where
      go : (p : Bool) → (store kinds numbers (p && leb (length (numbers_of b.constraints)) (length numbers)) b).answer ≡ answer 21 4 (length b.constraints)
      go false = refl
      go true = rw (lt-leb (length (numbers_of b.constraints)) (length numbers) h)

  read-21-to : (s : ShortRead file kinds numbers) → (read_bundle kinds numbers newest_edition file).answer ≡ answer 21 4 (length s.constraints)
  unfolding read_bundle agrees
  read-21-to s =
      let b : Bundle = record { edition = s.n; K = s.K; constraints = s.constraints } in
      ap (λ (r : Result Bundle). (stored kinds numbers r).answer) (passes _ (short-accepted _ file_a file (bundle-short s.states)) ∙ bundle-accepts newest_edition file_a none file b (record { file = s.states; agree = tt }))
      ∙ short-stored b s.short

-- ---- write
outside-K : (K : ℕ) → (leb 1 K && leb K 16) ≡ false → (K ≡ 0) ⊎ (16 < K)
outside-K zero e = inl refl
outside-K (suc K) e = inr (leb-false (suc K) 16 (rw (le-leb 1 (suc K) (omega arith)) at e))

K-outside : (K : ℕ) → (K ≡ 0) ⊎ (16 < K) → (leb 1 K && leb K 16) ≡ false
K-outside K (inl e) = rw e
K-outside zero (inr h) = refl
K-outside (suc K) (inr h) = rw (le-leb 1 (suc K) (omega arith), lt-leb (suc K) 16 h)

true-T : {b : Bool} → b ≡ true → T b
true-T e = rw e tt

module _ (n K : ℕ) (kinds : List ℕ) (numbers : List ℤ) where
  -- Why it is refused by 7 or 8; and never by 21, before the bytes are there.
  abbrev WhyBy : (number : ℕ) → Type 0
  WhyBy m = (m ≡ 7 → WrongK n K) × (m ≡ 8 → ManyKinds n K kinds) × (¬ (m ≡ 21))

  abbrev Why : Answer → Type 0
  Why a = WhyBy a.number

  no-why : {m : ℕ} → ¬ (m ≡ 7) → ¬ (m ≡ 8) → ¬ (m ≡ 21) → WhyBy m
  no-why p q r = (λ e. absurd (p e), λ e. absurd (q e), r)

  bytes-why : Satisfies Why (encode_bundle newest_edition n K kinds numbers) (λ _. Unit {0})
  unfolding encode_bundle
  bytes-why = because _ _ (λ _. no-why (λ e. omega arith) (λ e. omega arith) (λ e. omega arith)) λ t.
      let (g, k) = and_yes (leb 1 n) (leb n 2) (true-T t) in
      let ed : (n ≡ 1) ⊎ (n ≡ 2) = of-editions n (leb→le 1 n g) (leb→le n 2 k) in
      because _ _ (λ f. (λ _. record { one_or_two = ed; wrong = outside-K K f }, λ e. absurd (omega arith), λ e. omega arith)) λ u.
      let (l, m) = and_yes (leb 1 K) (leb K 16) (true-T u) in
      because _ _ (λ f. (λ e. absurd (omega arith), λ _. record { one_or_two = ed; low = leb→le 1 K l; high = leb→le K 16 m; many = leb-false _ _ f }, λ e. omega arith)) λ _.
      seq (each-says _ _ (λ i. no-why (λ e. omega arith) (λ e. omega arith) (λ e. omega arith)) 0 kinds)
      (test _ _ (no-why (λ e. omega arith) (λ e. omega arith) (λ e. omega arith)) λ _.
      seq (each-says _ _ (λ i. no-why (λ e. omega arith) (λ e. omega arith) (λ e. omega arith)) 0 numbers) (says-accepted tt))

  module _ (output : List ℕ) where
    short_write : InOrder newest_edition n K kinds numbers → length output < length (bundle_file n K kinds numbers) → ShortWrite n K kinds numbers output
    short_write ready h = record {
      writable = record {
        one_or_two = of-editions n ready.first ready.last;
        low = ready.low;
        high = ready.high;
        few = ready.few;
        valid = all-weaken (λ kind t. leb→le kind 2 t) ready.valid;
        size = ready.size;
        held_by_1 = λ e. all-weaken held_two (rw e at ready.held);
        held_by_2 = λ e. all-weaken held-four (rw e at ready.held);
        fits = omega arith;
      };
      short = h;
    }

    abbrev WhyLeft : Answer → Type 0
    WhyLeft a = (a.number ≡ 7 → WrongK n K) × (a.number ≡ 8 → ManyKinds n K kinds) × (a.number ≡ 21 → ShortWrite n K kinds numbers output)

    fit-why : InOrder newest_edition n K kinds numbers → (b : Bool) → leb (length (bundle_file n K kinds numbers)) (length output) ≡ b → WhyLeft (fit output b (bundle_file n K kinds numbers)).answer
    unfolding fit
    fit-why ready true q = (λ e. absurd (omega arith), λ e. absurd (omega arith), λ e. absurd (omega arith))
    fit-why ready false q = (λ e. absurd (omega arith), λ e. absurd (omega arith), λ _. short_write ready (leb-false _ _ q))

    left-why : (r : Result (List ℕ)) → encode_bundle newest_edition n K kinds numbers ≡ r → WhyLeft (written r output).answer
    unfolding written
    left-why (refused a) e = let (p, q, s) = bytes-why.refusal a e in (p, q, λ n. absurd (s n))
    left-why (accepted bytes) e =
        let (ready, are) = (encode_bundle-gives newest_edition n K kinds numbers).gives bytes e in
        subst (λ (bs : List ℕ). WhyLeft (written (accepted bs) output).answer) (sym are) (fit-why ready (leb (length (bundle_file n K kinds numbers)) (length output)) refl)

    write-why : WhyLeft (write_bundle newest_edition n K kinds numbers output).answer
    unfolding write_bundle
    write-why = left-why (encode_bundle newest_edition n K kinds numbers) refl

    -- the other way
    by-refused : {a : Answer} → encode_bundle newest_edition n K kinds numbers ≡ refused a → (write_bundle newest_edition n K kinds numbers output).answer ≡ a
    unfolding write_bundle written
    by-refused e = rw e

    edition-passes : (n ≡ 1) ⊎ (n ≡ 2) → T (leb 1 n && leb n 2)
    edition-passes e = yes_and (leb 1 n) (leb n 2) (le→leb 1 n (edition-first e)) (le→leb n 2 (edition-last e))

    wrong-K : WrongK n K → (write_bundle newest_edition n K kinds numbers output).answer ≡ answer 7 4 0
    unfolding encode_bundle
    wrong-K w = by-refused (needs _ _ _ (edition-passes w.one_or_two) ∙ fail _ _ (K-outside K w.wrong))

    many-kinds : ManyKinds n K kinds → (write_bundle newest_edition n K kinds numbers output).answer ≡ answer 8 4 0
    unfolding encode_bundle
    many-kinds w = by-refused (needs _ _ _ (edition-passes w.one_or_two) ∙ needs _ _ _ (yes_and (leb 1 K) (leb K 16) (le→leb 1 K w.low) (le→leb K 16 w.high)) ∙ fail _ _ (lt-leb (length kinds) 32 w.many))

    too_short : ShortWrite n K kinds numbers output → (write_bundle newest_edition n K kinds numbers output).answer ≡ answer 21 4 (length (bundle_file n K kinds numbers))
    unfolding write_bundle written fit
    too_short s =
        let w = s.writable in
        let ready : InOrder newest_edition n K kinds numbers = record {
          first = edition-first w.one_or_two;
          last = edition-last w.one_or_two;
          low = w.low;
          high = w.high;
          few = w.few;
          valid = all-weaken (λ kind h. le→leb kind 2 h) w.valid;
          size = w.size;
          held = all_held w.one_or_two w.held_by_1 w.held_by_2;
        } in
        ap (λ (x : Result (List ℕ)). (written x output).answer) (encode_bundle-accepted newest_edition n K kinds numbers ready)
        ∙ rw (lt-leb (length (bundle_file n K kinds numbers)) (length output) s.short)

module _ {n K : ℕ} {kinds : List ℕ} {numbers : List ℤ} {output left : List ℕ} {w : WriteResult} (c : Writes n K kinds numbers output left w) where
  left-told : WhyLeft n K kinds numbers output w.answer
  left-told = subst (λ (x : Written). WhyLeft n K kinds numbers output x.answer) (sym c.is) (write-why n K kinds numbers output)

  write-is : {a : Answer} → (write_bundle newest_edition n K kinds numbers output).answer ≡ a → w.answer ≡ a
  write-is e = ap (λ (x : Written). x.answer) c.is ∙ e

module _ {file kinds : List ℕ} {numbers : List ℤ} {kinds' : List ℕ} {numbers' : List ℤ} {r : ReadResult} (c : Reads file kinds numbers kinds' numbers' r) where
  read_is : {a : Answer} → (read_bundle kinds numbers newest_edition file).answer ≡ a → r.answer ≡ a
  read_is e = ap (λ (x : BundleRead). x.answer) c.is ∙ e

  read-from-21 : r.answer.number ≡ 21 → ShortRead file kinds numbers
  read-from-21 e = read-21-from file kinds numbers (subst (λ (x : BundleRead). x.answer.number ≡ 21) c.is e)

pub refused-iff : RefusedIff
refused-iff = record {
  check_21 = λ A B proof output left r c. ((told c).0, by-21 c);
  check_1_at_end = λ A B proof output left r c. (λ (e, f). (told c).1 e f, by-1 c);
  check_derives = λ A B proof output left r c. (derives-from c, by-derives c);
  read_21 = λ file kinds numbers kinds' numbers' r c. (read-from-21 c, λ s. read_is c (read-21-to file kinds numbers s));
  write_7 = λ n K kinds numbers output left w c. ((left-told c).0, λ x. write-is c (wrong-K n K kinds numbers output x));
  write_8 = λ n K kinds numbers output left w c. ((left-told c).1, λ x. write-is c (many-kinds n K kinds numbers output x));
  write_21 = λ n K kinds numbers output left w c. ((left-told c).2, λ x. write-is c (too_short n K kinds numbers output x));
}
