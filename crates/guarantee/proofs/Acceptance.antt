-- Demand 2 holds of the operations. Assumes nothing.
use mathlib.Core.Path.{◌≡◌, refl, sym, ◌∙◌, ap, subst}
use mathlib.Core.Bool.{Bool, true, false, ◌&&◌}
use mathlib.Core.List.{List, [], ◌∷◌, ◌++◌}
use mathlib.Core.Option.{Option, none, some, map}
use mathlib.Core.Logic.{◌⊎◌, inl, inr}
use Prim.Native.Nat.{ℕ, zero, suc, ◌+◌, ◌-◌, ◌≤◌, ◌<◌}
use native.Mathlib.Omega.{arith}
use borrow.Author.Tests.{lt-leb, ltb-true, ltb-false, leb-true, leb-false}
use lib.Dec.{T, leb, ltb, leb→le, le→leb, ltb→lt, lt→ltb}
use mir.Facts.{and_yes, yes_and}
use lib.IntN.{ℤ, pos, negsuc, nat_abs}
use lib.ListN.{length}
use lib.Signed.{mag}
use Rattle.forms.specs.Edition.{edition, edition1, newest_edition}
use Rattle.forms.specs.Forms.{All, nil, cons, Constraint, Formula, small}
use Rattle.answers.specs.declared.Answer.{Answer}
use Rattle.answers.specs.declared.WriteResult.{WriteResult}
use Rattle.answers.specs.Answers.{answer, acceptance, file_a, file_b, file_lent, Result, refused, accepted, ◌>>=◌, ◌>>◌, fit, Written, written}
use Rattle.answers.proofs.Results.{Gives, not-0, not-21, weaken, bind, seq, finds, binds, found_some}
use Rattle.number_bytes.specs.Numbers.{Bytes, unsigned_bytes}
use Rattle.number_bytes.proofs.Signed.{all-weaken}
use Rattle.fields.specs.Fields.{Field, Fields, ends, cut, ◌▸◌, fields, nth, Item, item, items, field_bytes, file_of}
use Rattle.fields.specs.Header.{agrees}
use Rattle.fields.proofs.Contents.{ItemBytes}
use Rattle.bundle.specs.Bundle.{Bundle}
use Rattle.bundle.specs.Layout.{Each, nil as nil-each, cons as cons-each, BundleFile}
use Rattle.bundle.specs.Read.{BundleRead, kinds_of, numbers_of, unread, store, stored, read_bundle}
use Rattle.bundle.specs.Write.{holdable, write_bundle}
use Rattle.bundle.specs.Show.{Part, part_of, constraint_part, shown_part, answer_of, show_answer}
use Rattle.bundle.proofs.Laid.{BothLaid, bundle-gives, both-read-gives, both-read-accepts, short-gives}
use Rattle.bundle.specs.Writable.{InOrder as Ready}
use Rattle.bundle.proofs.Writable.{encode_bundle-gives, encode_bundle-accepted}
use Rattle.bundle.proofs.RoundTrips.{bytes_written, rewritten, written_as, written-fits, read_as, read-file, write_then_read, read_then_write}
use Rattle.bundle_read.specs.declared.ReadResult.{ReadResult}
use Rattle.bundle_read.specs.Promises.{Reads}
use Rattle.bundle_write.specs.Promises.{Writes}
use Rattle.formula.specs.Formula.{formula_file}
use Rattle.proof.specs.Check.{formula_at_most, interpolant, check_by, check}
use Rattle.proof.specs.Layout.{Yields, Certifies}
use Rattle.proof.proofs.Agree.{interpolant-iff, interpolant-yields, interpolant-long, never-0, one_formula, agreed, agrees-refl}
use Rattle.proof.specs.Promises.{Checks}
use Rattle.scheduler.specs.declared.Job.{Job}
use Rattle.scheduler.specs.declared.Scheduler.{Scheduler}
use Rattle.scheduler.specs.declared.Turned.{Turned}
use Rattle.scheduler.specs.Scheduler.{slot_at, part}
use Rattle.scheduler.specs.Promises.{Turns}
use Rattle.scheduler.specs.Fair.{AllLie, CheckedAlone}
use Rattle.scheduler.proofs.Fair.{lie-or-not, answers}
use Rattle.guarantee.specs.Acceptance.{Checkable, Readable, bundle_file, Writable, Showable, WrittenAs, ReadAs, Acceptance}
use Rattle.guarantee.proofs.Refusals.{refusals}

written_as_lem : {bytes output left : List ℕ} {x : Answer} {count : ℕ} → ◌≡◌ {A = Written} (record { answer = x; count = count; output = left }) (written_as bytes output) → WrittenAs bytes output left x count
written_as_lem e = record { answer = ap (λ (w : Written). w.answer) e; count_is = ap (λ (w : Written). w.count) e; left_is = ap (λ (w : Written). w.output) e }

-- ---- check
module _ (output : List ℕ) where
  -- where the bytes fit, and where they do not
  fit-yes : (bytes : List ℕ) (b : Bool) → T b → fit output b bytes ≡ written_as bytes output
  unfolding fit
  fit-yes bytes true t = refl
  fit-yes bytes false t = absurd t

  fit-accepted : (bytes : List ℕ) (b : Bool) → (fit output b bytes).answer.number ≡ 0 → T b
  unfolding fit
  fit-accepted bytes true e = tt
  fit-accepted bytes false e = absurd (omega arith)

  module _ (A B proof : List ℕ) where
    left_by : Result (ℕ × Formula) → Written
    left_by r = written (r >>= λ (K, I). accepted (formula_file edition1 K I)) output

    from : (r : Result (ℕ × Formula)) → interpolant newest_edition A B proof ≡ r → (left_by r).answer.number ≡ 0 → Checkable A B proof output
    unfolding left_by written ◌>>=◌
    from (refused a) e h = absurd (never-0 newest_edition A B proof a e h)
    from (accepted (K, I)) e h = record {
      K = K;
      formula = I;
      certified = (interpolant-iff newest_edition A B proof K I).0 e;
      fits = leb→le _ _ (fit-accepted (formula_file edition1 K I) (leb (length (formula_file edition1 K I)) (length output)) h);
    }

    checkable : (check A B proof output).answer.number ≡ 0 → Checkable A B proof output
    unfolding check check_by left_by
    checkable h = from (interpolant newest_edition A B proof) refl h

    certified-written : (c : Checkable A B proof output) → check A B proof output ≡ written_as (formula_file edition1 c.K c.formula) output
    unfolding check check_by written ◌>>=◌
    certified-written c = rw ((interpolant-iff newest_edition A B proof c.K c.formula).1 c.certified) (fit-yes (formula_file edition1 c.K c.formula) _ (le→leb _ _ c.fits))

    -- what it leaves depends on the proof by K and the formula alone
    pub yielded-left : (K : ℕ) (I : Formula) → Yields newest_edition A B proof K I
        → check A B proof output ≡ written ((formula_at_most K I >> accepted (K, I)) >>= λ (k, J). accepted (formula_file edition1 k J)) output
    unfolding check check_by
    yielded-left K I y = rw (interpolant-yields newest_edition A B proof K I y)

    certified-short : (K : ℕ) (I : Formula) → Certifies newest_edition A B proof K I → length output < length (formula_file edition1 K I)
        → (check A B proof output).answer ≡ answer 21 file_lent (length (formula_file edition1 K I))
    unfolding check check_by written fit ◌>>=◌
    certified-short K I c h = rw ((interpolant-iff newest_edition A B proof K I).1 c, lt-leb (length (formula_file edition1 K I)) (length output) h)

    derived-long : (K : ℕ) (I : Formula) → Yields newest_edition A B proof K I → edition1.formula_bytes < length (formula_file edition1 K I) → (check A B proof output).answer ≡ answer 1 file_lent (length (formula_file edition1 K I))
    unfolding check check_by written ◌>>=◌
    derived-long K I y h = rw (interpolant-long newest_edition A B proof K I y h)

-- The same of the function.
module _ {A B proof output left : List ℕ} {r : WriteResult} (c : Checks A B proof output left r) where
  pub is-checkable : r.answer.number ≡ 0 → Checkable A B proof output
  is-checkable h = checkable output A B proof (subst (λ (w : Written). w.answer.number ≡ 0) c.is h)

  pub leaves : (a : Checkable A B proof output) → WrittenAs (formula_file edition1 a.K a.formula) output left r.answer r.count
  leaves a = written_as_lem (c.is ∙ certified-written output A B proof a)

-- What was written fits.
pub written_from : {P : List ℕ → Type 0} (output : List ℕ) (r : Result (List ℕ)) → Gives r P → (written r output).answer.number ≡ 0 → (bytes : List ℕ) × P bytes × (length bytes ≤ length output)
unfolding written
written_from output (refused a) g h = absurd (not-0 (g.refusal a refl) h)
written_from output (accepted bytes) g h = (bytes, g.gives bytes refl, leb→le _ _ (fit-accepted output bytes (leb (length bytes) (length output)) h))

-- What has no room does not fit.
pub short-from : {P : List ℕ → Type 0} (output : List ℕ) (r : Result (List ℕ)) → Gives r P → (written r output).answer.number ≡ 21 → (bytes : List ℕ) × P bytes × (length output < length bytes)
unfolding written fit
short-from output (refused a) g h = absurd (not-21 (g.refusal a refl) h)
short-from output (accepted bytes) g h = (bytes, g.gives bytes refl, go (leb (length bytes) (length output)) refl h)
  where
    go : (b : Bool) → leb (length bytes) (length output) ≡ b → (fit output b bytes).answer.number ≡ 21 → length output < length bytes
    go true e h = absurd (omega arith)
    go false e h = leb-false _ _ e

-- ---- read
-- What was read fits both outputs.
module _ (kinds : List ℕ) (numbers : List ℤ) where
  abbrev Fit : Bundle → Type 0
  Fit b = (length (kinds_of b.constraints) ≤ length kinds) × (length (numbers_of b.constraints) ≤ length numbers)

  store-from : (s t : Bool) (b : Bundle) → (store kinds numbers (s && t) b).answer.number ≡ 0 → T s × T t
  unfolding store unread
  store-from true true b h = (tt, tt)
  store-from true false b h = absurd (omega arith)
  store-from false t b h = absurd (omega arith)

  stored-from : {P : Bundle → Type 0} (r : Result Bundle) → Gives r P → (stored kinds numbers r).answer.number ≡ 0 → (b : Bundle) × P b × Fit b
  unfolding stored unread
  stored-from (refused a) g h = absurd (not-0 (g.refusal a refl) h)
  stored-from (accepted b) g h =
      let (s, t) = store-from (leb (length (kinds_of b.constraints)) (length kinds)) (leb (length (numbers_of b.constraints)) (length numbers)) b h in
      (b, g.gives b refl, (leb→le _ _ s, leb→le _ _ t))

  read-from : (file : List ℕ) → (read_bundle kinds numbers newest_edition file).answer.number ≡ 0 → (b : Bundle) × BundleFile newest_edition file b.edition b.K b.constraints × Fit b
  unfolding read_bundle
  read-from file h = stored-from _ (seq (short-gives _ _ file) λ _. weaken (bundle-gives newest_edition file_a none file) λ b l. l.file) h

module _ {file kinds : List ℕ} {numbers : List ℤ} {kinds' : List ℕ} {numbers' : List ℤ} {r : ReadResult} (c : Reads file kinds numbers kinds' numbers' r) where
  read_answer : r.answer.number ≡ 0 → (read_bundle kinds numbers newest_edition file).answer ≡ acceptance
  read_answer h = subst (λ (x : BundleRead). x.answer ≡ acceptance) c.is ((refusals.read file kinds numbers kinds' numbers' r c).0.accepts.0 h)

  read_as_lem : {n K : ℕ} {ks : List ℕ} {zs : List ℤ} → read_bundle kinds numbers newest_edition file ≡ read_as n K ks zs kinds numbers → ReadAs n K ks zs kinds numbers kinds' numbers' r
  read_as_lem q =
      let e = c.is ∙ q in
      record {
        answer = ap (λ (x : BundleRead). x.answer) e;
        edition = ap (λ (x : BundleRead). x.edition) e;
        count = ap (λ (x : BundleRead). x.count) e;
        constants = ap (λ (x : BundleRead). x.K) e;
        kinds_left = ap (λ (x : BundleRead). x.kinds) e;
        numbers_left = ap (λ (x : BundleRead). x.numbers) e;
      }

  reads-it : (b : Readable file kinds numbers) → ReadAs b.n b.K (kinds_of b.constraints) (numbers_of b.constraints) kinds numbers kinds' numbers' r
  reads-it b = read_as_lem (read-file kinds numbers newest_edition file (record { edition = b.n; K = b.K; constraints = b.constraints }) b.states b.kinds_fit b.numbers_fit)

  readable : r.answer.number ≡ 0 → Readable file kinds numbers
  readable h =
      let (b, f, fit) = read-from kinds numbers file (subst (λ (x : BundleRead). x.answer.number ≡ 0) c.is h) in
      record { n = b.edition; K = b.K; constraints = b.constraints; states = f; kinds_fit = fit.0; numbers_fit = fit.1 }

-- ---- write
-- the editions up to the newest are 1 and 2
pub of-editions : (n : ℕ) → 1 ≤ n → n ≤ newest_edition → (n ≡ 1) ⊎ (n ≡ 2)
of-editions zero h k = absurd (omega arith)
of-editions (suc zero) h k = inl refl
of-editions (suc (suc zero)) h k = inr refl
of-editions (suc (suc (suc n))) h k = absurd (omega arith)

pub edition-first : {n : ℕ} → (n ≡ 1) ⊎ (n ≡ 2) → 1 ≤ n
edition-first (inl e) = omega arith
edition-first (inr e) = omega arith

pub edition-last : {n : ℕ} → (n ≡ 1) ⊎ (n ≡ 2) → n ≤ newest_edition
edition-last (inl e) = omega arith
edition-last (inr e) = omega arith

-- a number's size and n of n and of -n-1 differ by one at most
mag_low : (z : ℤ) → mag z ≤ nat_abs z
mag_low (pos n) = omega arith
mag_low (negsuc n) = omega arith

mag_high : (z : ℤ) → nat_abs z ≤ suc (mag z)
mag_high (pos n) = omega arith
mag_high (negsuc n) = omega arith

-- what two bytes hold is what edition 1 holds, and what four hold, but for one number, is what edition 2 holds
pub held_two : (z : ℤ) → T (holdable 2 z) → mag z ≤ 32_767
unfolding holdable
held_two z h = omega (arith, ltb→lt (mag z + mag z) 65_536 (and_yes (ltb (mag z + mag z) 65_536) (small 2_147_483_647 z) h).0)

pub two-held : (z : ℤ) → mag z ≤ 32_767 → T (holdable 2 z)
unfolding holdable small
two-held z h = yes_and (ltb (mag z + mag z) 65_536) (leb (nat_abs z) 2_147_483_647) (lt→ltb (mag z + mag z) 65_536 (omega arith)) (le→leb (nat_abs z) 2_147_483_647 (omega (arith, mag_high z)))

pub held-four : (z : ℤ) → T (holdable 4 z) → nat_abs z ≤ 2_147_483_647
unfolding holdable small
held-four z h = leb→le (nat_abs z) 2_147_483_647 (and_yes (ltb (mag z + mag z) 4_294_967_296) (leb (nat_abs z) 2_147_483_647) h).1

pub four-held : (z : ℤ) → nat_abs z ≤ 2_147_483_647 → T (holdable 4 z)
unfolding holdable small
four-held z h = yes_and (ltb (mag z + mag z) 4_294_967_296) (leb (nat_abs z) 2_147_483_647) (lt→ltb (mag z + mag z) 4_294_967_296 (omega (arith, mag_low z))) (le→leb (nat_abs z) 2_147_483_647 h)

pub all_held : {n : ℕ} {numbers : List ℤ} → (n ≡ 1) ⊎ (n ≡ 2) → (n ≡ 1 → All (λ z. mag z ≤ 32_767) numbers) → (n ≡ 2 → All (λ z. nat_abs z ≤ 2_147_483_647) numbers)
    → All (λ z. T (holdable (edition n).coefficient_width z)) numbers
all_held (inl e) h k = rw e (all-weaken two-held (h e))
all_held (inr e) h k = rw e (all-weaken four-held (k e))

module _ {n K : ℕ} {kinds : List ℕ} {numbers : List ℤ} {output left : List ℕ} {w : WriteResult} (c : Writes n K kinds numbers output left w) where
  write-answer : w.answer.number ≡ 0 → (write_bundle newest_edition n K kinds numbers output).answer ≡ acceptance
  write-answer h = subst (λ (x : Written). x.answer ≡ acceptance) c.is ((refusals.write n K kinds numbers output left w c).0.accepts.0 h)

  writable : w.answer.number ≡ 0 → Writable n K kinds numbers output
  unfolding write_bundle
  writable h =
      let (bytes, (ready, are), fit) = written_from output _ (encode_bundle-gives newest_edition n K kinds numbers) (subst (λ (x : Written). x.answer.number ≡ 0) c.is h) in
      record {
        one_or_two = of-editions n ready.first ready.last;
        low = ready.low;
        high = ready.high;
        few = ready.few;
        valid = all-weaken (λ kind t. leb→le kind 2 t) ready.valid;
        size = ready.size;
        held_by_1 = λ e. all-weaken held_two (rw e at ready.held);
        held_by_2 = λ e. all-weaken held-four (rw e at ready.held);
        fits = subst (λ (bs : List ℕ). length bs ≤ length output) are fit;
      }

  writes-it : Writable n K kinds numbers output → WrittenAs (bundle_file n K kinds numbers) output left w.answer w.count
  unfolding write_bundle
  writes-it b =
      let ready : Ready newest_edition n K kinds numbers = record {
        first = edition-first b.one_or_two;
        last = edition-last b.one_or_two;
        low = b.low;
        high = b.high;
        few = b.few;
        valid = all-weaken (λ kind h. le→leb kind 2 h) b.valid;
        size = b.size;
        held = all_held b.one_or_two b.held_by_1 b.held_by_2;
      } in
      written_as_lem (c.is ∙ ap (λ (x : Result (List ℕ)). written x output) (encode_bundle-accepted newest_edition n K kinds numbers ready) ∙ written-fits output (bundle_file n K kinds numbers) b.fits)

-- ---- show
-- there are as many fields as are listed
nth-there : (fs : Fields) {list : List Item} → items fs ≡ some list → (i : ℕ) → i < length list → (f : Field) × (nth i fs ≡ some f)
unfolding items nth
nth-there (ends at) {list} e i h = absurd (let z : [] ≡ list = cc in let n = ap length z in omega arith)
nth-there (cut at) e i h = absurd (let z : ◌≡◌ {A = ℕ} 0 1 = cc in omega arith)
nth-there (f ▸ fs) {list} e zero h = (f, refl)
nth-there (f ▸ fs) {list} e (suc i) h = go (λ is p k. nth-there fs {list = is} p i k) (items fs) refl e
  where
    go : ((is : List Item) → items fs ≡ some is → i < length is → (g : Field) × (nth i fs ≡ some g)) → (o : Option (List Item)) → items fs ≡ o → map (λ is. item f.tag f.contents ∷ is) o ≡ some list → (g : Field) × (nth i fs ≡ some g)
    go ih none p q = absurd (let z : ◌≡◌ {A = ℕ} 0 1 = cc in omega arith)
    go ih (some is) p q =
        let z : item f.tag f.contents ∷ is ≡ list = cc in
        let n = ap length z in
        ih is p (omega arith)

nth-gone : (fs : Fields) {list : List Item} → items fs ≡ some list → (i : ℕ) → length list ≤ i → nth i fs ≡ none
unfolding items nth
nth-gone (ends at) e i h = refl
nth-gone (cut at) e i h = refl
nth-gone (f ▸ fs) {list} e i h = go (λ is p i k. nth-gone fs {list = is} p i k) i h (items fs) refl e
  where
    go : ((is : List Item) → items fs ≡ some is → (i : ℕ) → length is ≤ i → nth i fs ≡ none) → (i : ℕ) → length list ≤ i → (o : Option (List Item)) → items fs ≡ o → map (λ is. item f.tag f.contents ∷ is) o ≡ some list → nth i (f ▸ fs) ≡ none
    go ih i h none p q = absurd (let z : ◌≡◌ {A = ℕ} 0 1 = cc in omega arith)
    go ih zero h (some is) p q = absurd (let z : item f.tag f.contents ∷ is ≡ list = cc in let n = ap length z in omega arith)
    go ih (suc i) h (some is) p q =
        let z : item f.tag f.contents ∷ is ≡ list = cc in
        let n = ap length z in
        ih is p i (omega arith)

each-length : {X Y : Type 0} {R : X → Y → Type 0} {xs : List X} {ys : List Y} → Each R xs ys → length xs ≡ length ys
each-length nil-each = refl
each-length (cons-each _ h) = ap suc (each-length h)

listed-length : {file : List ℕ} {n K : ℕ} {cs : List Constraint} (f : BundleFile newest_edition file n K cs) → length f.list ≡ suc (suc (length cs))
listed-length f = ap length f.laid.are ∙ ap (λ (n : ℕ). suc (suc n)) (each-length f.laid.states)

module _ (A B : List ℕ) (line : ℕ) where
  module _ {n_A n_B K : ℕ} {a b : List Constraint} (fA : BundleFile newest_edition A n_A K a) (fB : BundleFile newest_edition B n_B K b) where
    part-there : line < length a + length b → (p : Part) × (constraint_part A B (length a) line ≡ some p)
    unfolding constraint_part part_of
    part-there h = go (ltb line (length a)) refl
      where
        go : (t : Bool) → ltb line (length a) ≡ t → (p : Part) × (◌≡◌ {A = Option Part} (elim t [ true ↦ part_of file_a (nth (line + 2) (fields A)) | false ↦ part_of file_b (nth (line - length a + 2) (fields B)) ]) (some p))
        go true e = let (f, q) = nth-there (fields A) fA.whole (line + 2) (omega (arith, ltb-true line (length a) e, listed-length fA)) in (record { file = file_a; start = f.at; size = 3 + length f.contents }, rw q)
        go false e = let (f, q) = nth-there (fields B) fB.whole (line - length a + 2) (omega (arith, ltb-false line (length a) e, listed-length fB)) in (record { file = file_b; start = f.at; size = 3 + length f.contents }, rw q)

    part-gone : length a + length b ≤ line → constraint_part A B (length a) line ≡ none
    unfolding constraint_part part_of
    part-gone h = go (ltb line (length a)) refl
      where
        go : (t : Bool) → ltb line (length a) ≡ t → ◌≡◌ {A = Option Part} (elim t [ true ↦ part_of file_a (nth (line + 2) (fields A)) | false ↦ part_of file_b (nth (line - length a + 2) (fields B)) ]) none
        go true e = absurd (omega (arith, ltb-true line (length a) e))
        go false e = rw (nth-gone (fields B) fB.whole (line - length a + 2) (omega (arith, listed-length fB)))

    -- what the show finds in two bundles
    found-there : line < length a + length b → show_answer newest_edition A B line ≡ acceptance
    unfolding show_answer shown_part agrees answer_of
    found-there h =
        let a' : Bundle = record { edition = n_A; K = K; constraints = a } in
        let b' : Bundle = record { edition = n_B; K = K; constraints = b } in
        let (p, e) = part-there h in
        ap answer_of
        (binds _ (both-read-accepts newest_edition A B a' b' (record { laid_a = record { file = fA; agree = tt }; laid_b = record { file = fB; agree = agrees-refl K } })) ∙ found_some _ e)

  -- the line is there if the part is
  is-there : {n_A n_B K : ℕ} {a b : List Constraint} → BundleFile newest_edition A n_A K a → BundleFile newest_edition B n_B K b → {p : Part} → constraint_part A B (length a) line ≡ some p → line < length a + length b
  is-there {a = a} {b = b} fA fB {p} e = go (leb (length a + length b) line) refl
    where
      go : (t : Bool) → leb (length a + length b) line ≡ t → line < length a + length b
      go true q = absurd (let n = part-gone fA fB (leb-true _ _ q) in let z : ◌≡◌ {A = ℕ} 0 1 = cc in omega arith)
      go false q = leb-false _ _ q

  both-showable : (a b : Bundle) → BothLaid newest_edition A B (a, b) → {p : Part} → constraint_part A B (length a.constraints) line ≡ some p → Showable A B line
  both-showable a b l e =
      let fA = l.laid_a.file in
      let fB = subst (λ (K : ℕ). BundleFile newest_edition B b.edition K b.constraints) (agreed a.K b.K l.laid_b.agree) l.laid_b.file in
      record { n_A = a.edition; n_B = b.edition; K = a.K; a = a.constraints; b = b.constraints; states_a = fA; states_b = fB; there = is-there fA fB e }

  shown-gives : Gives (shown_part newest_edition A B line) (λ _. Showable A B line)
  unfolding shown_part
  shown-gives = bind (both-read-gives newest_edition A B) λ (a, b) l. weaken (finds _ _ tt) λ p e. both-showable a b l e

  showable : (show_answer newest_edition A B line).number ≡ 0 → Showable A B line
  unfolding show_answer answer_of
  showable = go (shown_part newest_edition A B line) refl
    where
      go : (r : Result Part) → shown_part newest_edition A B line ≡ r → (answer_of r).number ≡ 0 → Showable A B line
      go (refused a) e h = absurd (not-0 (shown-gives.refusal a e) h)
      go (accepted p) e h = shown-gives.gives p e

-- ---- the round trips
-- the contents of a file of bytes are bytes
all_right : {X : Type 0} {P : X → Type 0} (xs ys : List X) → All P (xs ++ ys) → All P ys
all_right [] ys h = h
all_right (x ∷ xs) ys (cons _ h) = all_right xs ys h

all_left : {X : Type 0} {P : X → Type 0} (xs ys : List X) → All P (xs ++ ys) → All P xs
all_left [] ys h = nil
all_left (x ∷ xs) ys (cons p h) = cons p (all_left xs ys h)

contents-bytes : (F : List Item) → Bytes (file_of F) → All ItemBytes F
unfolding file_of field_bytes
contents-bytes [] h = nil
contents-bytes (i ∷ is) h = cons (record { bytes = all_right (i.tag ∷ unsigned_bytes 2 (length i.contents)) i.contents (all_left (field_bytes i.tag i.contents) (file_of is) h) }) (contents-bytes is (all_right (field_bytes i.tag i.contents) (file_of is) h))

-- ---- a turn
module _ (s : Scheduler) (buffer output left : List ℕ) (r : Turned) (c : Turns s buffer output left r) where
  abbrev turn-job : Job
  turn-job = (slot_at s r.seat).job

  abbrev turn-checkable : Type 0
  turn-checkable = Checkable (part buffer turn-job.a) (part buffer turn-job.b) (part buffer turn-job.proof) output

  turn-accepts : r.result.answer.number ≡ 0 → (r.idle ≡ false) × AllLie buffer turn-job × turn-checkable
  turn-accepts z = let e = (refusals.turn s buffer output left r c).0 z in go e (answers.turn_serves s buffer output left r c e).4 (lie-or-not buffer turn-job)
    where
      go : r.idle ≡ false → CheckedAlone turn-job buffer output left r.result → AllLie buffer turn-job ⊎ (AllLie buffer turn-job → ⊥) → (r.idle ≡ false) × AllLie buffer turn-job × turn-checkable
      go e a (inl l) = (e, l, is-checkable (a.checks l) z)
      go e a (inr l) = let n : r.result.answer.number ≡ 34 = ap (λ (x : Answer). x.number) (a.outside l).0 in absurd (omega (arith, n, z))

  turn-accepted : (r.idle ≡ false) × AllLie buffer turn-job × turn-checkable → r.result.answer.number ≡ 0
  turn-accepted (e, l, k) = ap (λ (x : Answer). x.number) (leaves ((answers.turn_serves s buffer output left r c e).4.checks l) k).answer

-- Demand 2.
pub acceptance-holds : Acceptance
acceptance-holds = record {
  accepted_iff = λ A B proof output left r c. (is-checkable c, λ a. ap (λ (x : Answer). x.number) (leaves c a).answer);
  turn_iff = λ s buffer output left r c. (turn-accepts s buffer output left r c, turn-accepted s buffer output left r c);
  writes = λ A B proof output left r c a. leaves c a;
  too_short = λ A B proof output left r c K I d h. ap (λ (w : Written). w.answer) c.is ∙ certified-short output A B proof K I d h;
  too_long = λ A B proof output left r c K I y h. ap (λ (w : Written). w.answer) c.is ∙ derived-long output A B proof K I y h;
  one_formula = λ A B proof K K' I I' y y'. one_formula y y';
  read_iff = λ file lent_kinds lent_numbers leftKinds leftNumbers r c. (readable c, λ b. ap (λ (x : Answer). x.number) (reads-it c b).answer);
  reads = λ file lent_kinds lent_numbers leftKinds leftNumbers r c b. reads-it c b;
  write_iff = λ n K kinds numbers output left w c. (writable c, λ b. ap (λ (x : Answer). x.number) (writes-it c b).answer);
  writes_bundle = λ n K kinds numbers output left w c b. writes-it c b;
  show_iff = λ A B line r c. (
    λ h. showable A B line (ap (λ (x : Answer). x.number) (sym c.is) ∙ h),
    λ s. ap (λ (x : Answer). x.number) (c.is ∙ found-there A B line s.states_a s.states_b s.there),
  );
  write_then_read = λ n K kinds numbers output left w c h lent_kinds lent_numbers leftKinds leftNumbers r roomKinds roomNumbers d.
      read_as_lem d (ap (λ (x : Written). read_bundle lent_kinds lent_numbers newest_edition (bytes_written x)) c.is
      ∙ write_then_read newest_edition n K kinds numbers output (write-answer c h) lent_kinds lent_numbers roomKinds roomNumbers);
  read_then_write = λ F framed bytes lent_kinds lent_numbers leftKinds leftNumbers r c h output left w room d.
      written_as_lem (d.is ∙ ap (λ (x : BundleRead). rewritten newest_edition x output) c.is
      ∙ read_then_write newest_edition F framed (contents-bytes F bytes) lent_kinds lent_numbers (read_answer c h) output room);
}
