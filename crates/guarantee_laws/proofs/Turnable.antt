-- Turning accepts just what is to be turned. Assumes nothing.
use mathlib.Core.Path.{◌≡◌, refl, sym, ◌∙◌, ap, subst}
use mathlib.Core.Logic.{◌⊎◌, inl, inr}
use mathlib.Core.Option.{none, some}
use mathlib.Core.Bool.{false}
use mathlib.Core.List.{List, [], ◌∷◌, ◌++◌, map}
use Prim.Native.Nat.{ℕ, suc, ◌^◌, ◌≤◌, ◌<◌}
use native.Mathlib.Omega.{arith}
use lib.Dec.{T, leb→le}
use lib.IntN.{ℤ, nat_abs}
use lib.ListN.{length}
use lib.Signed.{mag}
use Rattle.forms.specs.Edition.{edition, edition1, edition2, newest_edition}
use Rattle.forms.specs.Forms.{Form, All, nil, cons, Constraint, small, every}
use Rattle.forms.proofs.Editions.{coefficient_width-is}
use Rattle.calculus.specs.Rules.{Entry}
use Rattle.answers.specs.Answers.{answer, file_a, file_proof, refused, accepted}
use Rattle.answers.proofs.Results.{passes, binds, then-refused}
use Rattle.number_bytes.specs.Numbers.{Bytes, flat}
use Rattle.number_bytes.proofs.Signed.{all-weaken}
use Rattle.fields.specs.declared.FileKind.{FileKind}
use Rattle.fields.specs.Fields.{Field, Fields, Item, item, fields, items, nth}
use Rattle.fields.specs.Header.{Header, header_tag, known, agrees, header}
use Rattle.fields.proofs.HeaderLaid.{next-items, header-gives, header_read}
use Rattle.fields.proofs.Contents.{ItemBytes, contents-bytes}
use Rattle.bundle.specs.Bundle.{Bundle, form_small}
use Rattle.bundle.specs.Layout.{Each, States, BundleFile}
use Rattle.bundle.proofs.Laid.{Lists, done, next, Itemed, itemed, listed, bundle-accepts, short-accepted}
use Rattle.bundle.specs.Write.{holdable}
use Rattle.bundle.proofs.Every.{every_of, of-every}
use Rattle.bundle.proofs.Writable.{bytes_of-file, header-file, sized}
use Rattle.proof.specs.Entries.{entry_tagged, line_count}
use Rattle.proof.specs.Layout.{Enters, ProofFile}
use Rattle.conversion.specs.Turning.{other, asked, other_edition, each_field, lines_named, lines_fit, numbers_fit, behind_header, bundle_turned, entries_read, proof_turned, result_within}
use Rattle.conversion.specs.Turnable.{BundleTurnable, ProofTurnable, InTurn, turned_item}
use Rattle.conversion.proofs.Asking.{Asked, down, up, asked-gives, asked-accepted, other-first, other_last, other-gives, other-accepted, same-edition, Fit, ends-fit, next_fits, each-field-gives}
use Rattle.conversion.proofs.Bundles.{AllHeld, file-widths, body-lists, BundleTurns, bundle-turned-accepts}
use Rattle.conversion.proofs.Carried.{below-own, every-below, below-every, there}
use Rattle.conversion.proofs.First.{first-unfit, lists-items, rest_gives, nth-behind}
use Rattle.conversion.proofs.Proofs.{ProofTurns, EntriesIn, entries-give, entries-accept, proof-turned-as}
use Rattle.guarantee.proofs.Acceptance.{held_two, two-held, four-held}

to-ask : {to : ℕ} → Asked to → (to ≡ 1) ⊎ (to ≡ 2)
to-ask down = inl refl
to-ask up = inr refl

pub to-asked : {to : ℕ} → (to ≡ 1) ⊎ (to ≡ 2) → Asked to
to-asked (inl e) = subst Asked (sym e) down
to-asked (inr e) = subst Asked (sym e) up

-- ---- bundles
small-four : (z : ℤ) → T (small 2_147_483_647 z) → T (holdable 4 z)
unfolding small
small-four z h = four-held z (leb→le (nat_abs z) 2_147_483_647 h)

form-four : (c : Constraint) → T (form_small 2_147_483_647 c.form) → T (every (holdable 4) (flat c.form))
unfolding form_small
form-four c h = every_of (holdable 4) (all-weaken small-four (of-every (small 2_147_483_647) (flat c.form) h))

held_in : {to : ℕ} {file : List ℕ} {n K : ℕ} {cs : List Constraint} → BundleFile newest_edition file n K cs → (to ≡ 1) ⊎ (to ≡ 2)
    → (to ≡ 1 → All (λ c. All (λ z. mag z ≤ 32_767) (flat c.form)) cs) → AllHeld (edition to).coefficient_width cs
held_in f (inl e) h = rw e (all-weaken (λ c k. every_of (holdable 2) (all-weaken two-held k)) (h e))
held_in f (inr e) h = rw e (all-weaken form-four f.within)

held_down : {to : ℕ} {cs : List Constraint} → AllHeld (edition to).coefficient_width cs → to ≡ 1 → All (λ c. All (λ z. mag z ≤ 32_767) (flat c.form)) cs
held_down h e = all-weaken (λ c k. all-weaken held_two (of-every (holdable 2) (flat c.form) k)) (rw e at h)

pub bundle-turnable : {to : ℕ} {file bytes : List ℕ} → BundleTurns to file bytes → BundleTurnable to file bytes
bundle-turnable {to} t = record {
  one_or_two = to-ask t.asks;
  K = t.K;
  constraints = t.cs;
  states = t.source;
  held = held_down t.held;
  are = t.are ∙ sym (bytes_of-file to t.K (sized (file-widths (edition to).coefficient_width (coefficient_width-is to) t.source t.held)));
}

pub turnable-bundle : {to : ℕ} {file bytes : List ℕ} → BundleTurnable to file bytes → bundle_turned to file ≡ accepted bytes
turnable-bundle {to} {file} t =
    let h = held_in t.states t.one_or_two t.held in
    bundle-turned-accepts to file (to-asked t.one_or_two) t.states h
    ∙ ap accepted (sym (t.are ∙ bytes_of-file to t.K (sized (file-widths (edition to).coefficient_width (coefficient_width-is to) t.states h))))

-- ---- proofs
below-256 : {ns : List ℕ} → All (λ n. n ≤ 255) ns → All (λ n. n < 256 ^ 1) ns
below-256 h = all-weaken (λ n k. omega arith) h

up-256 : {ns : List ℕ} → All (λ n. n < 256 ^ 1) ns → All (λ n. n < 256 ^ 2) ns
up-256 h = all-weaken (λ n k. omega arith) h

most-255 : {ns : List ℕ} → All (λ n. n < 256 ^ 1) ns → All (λ n. n ≤ 255) ns
most-255 h = all-weaken (λ n k. omega arith) h

fit-down : (i : Item) → All (λ n. n ≤ 255) (lines_named edition2 i) → T (lines_fit edition2 edition1 i)
unfolding lines_fit
fit-down i h = below-every 1 (below-256 h)

down-fit : (i : Item) → T (lines_fit edition2 edition1 i) → All (λ n. n ≤ 255) (lines_named edition2 i)
unfolding lines_fit
down-fit i t = most-255 (every-below 1 (lines_named edition2 i) t)

-- A line number of one byte has two.
fit-up : {K : ℕ} {i : Item} {x : Entry} → Enters edition1 K i x → Bytes i.contents → T (lines_fit edition1 edition2 i)
unfolding lines_fit
fit-up {K} {i} h k = below-every 2 (up-256 (below-own 1 (line_count (entry_tagged i.tag)) i.contents (there 1 1 K i h) k))

fits-up : {K : ℕ} {is : List Item} {es : List Entry} → Each (Enters edition1 K) is es → All ItemBytes is → All (λ i. T (lines_fit edition1 edition2 i)) is
fits-up Each.nil nil = nil
fits-up (Each.cons h hs) (cons k ks) = cons (fit-up h k.bytes) (fits-up hs ks)

behind-two : {i j : Item} {is : List Item} → All ItemBytes (i ∷ j ∷ is) → All ItemBytes is
behind-two (cons _ (cons _ h)) = h

lines-held : {to : ℕ} {file : List ℕ} {K : ℕ} {es : List Entry} → Bytes file → (f : ProofFile newest_edition file (other to) K es) → (to ≡ 1) ⊎ (to ≡ 2)
    → (to ≡ 1 → All (λ i. All (λ n. n ≤ 255) (lines_named edition2 i)) f.body) → All (λ i. T (lines_fit (edition (other to)) (edition to) i)) f.body
lines-held k f (inl e) h = rw e (all-weaken fit-down (h e))
lines-held {to} {file} k f (inr e) h = let own = behind-two (contents-bytes file k f.whole) in rw e (fits-up (rw e at f.enters) own)

held_low : {to : ℕ} {is : List Item} → All (λ i. T (lines_fit (edition (other to)) (edition to) i)) is → to ≡ 1 → All (λ i. All (λ n. n ≤ 255) (lines_named edition2 i)) is
held_low h e = all-weaken down-fit (rw e at h)

pub proof-turnable : {to : ℕ} {file bytes : List ℕ} → ProofTurns to file bytes → ProofTurnable to file bytes
proof-turnable {to} t = record {
  one_or_two = to-ask t.asks;
  K = t.K;
  entries = t.es;
  states = t.source;
  in_turn = t.turn;
  held = held_low t.held;
  are = t.are ∙ header-file to t.K (map (turned_item (other to) to) t.source.body);
}

pub turnable-proof : {to : ℕ} {file bytes : List ℕ} → Bytes file → ProofTurnable to file bytes → proof_turned to file ≡ result_within 65_536 bytes
turnable-proof {to} {file} k t =
    proof-turned-as to file (to-asked t.one_or_two) t.states t.in_turn (lines-held k t.states t.one_or_two t.held)
    ∙ ap (result_within 65_536) (sym (t.are ∙ sym (header-file to t.K (map (turned_item (other to) to) t.states.body))))

-- what is read whole is to be turned, however long the result
itemed-fit : {P : Item → Type 0} {R : Item → Entry → Type 0} {fs : Fields} {es : List Entry} → Lists R fs es → Fit P fs → (t : Itemed R fs es) × All P t.list
unfolding items
itemed-fit (done at) ends-fit = (record { list = []; are = refl; each = Each.nil }, nil)
itemed-fit (next f {fs = fs} r l) (next_fits h k) =
    let t = itemed-fit l k in
    (record { list = item f.tag f.contents ∷ t.0.list; are = next-items f fs t.0.are; each = Each.cons r t.0.each }, cons h t.1)

module _ (to : ℕ) (file : List ℕ) where
  abbrev TurnableAs : ℕ → Type 0
  TurnableAs n = (K : ℕ) (rest : Fields) → 1 ≤ K → K ≤ 16
      → ((is : List Item) → items rest ≡ some is → items (fields file) ≡ some (item 0x01 (n ∷ []) ∷ item 0x02 (K ∷ []) ∷ is))
      → EntriesIn (edition n) K false rest → Fit (λ i. T (lines_fit (edition n) (edition to) i)) rest → (bytes : List ℕ) × ProofTurnable to file bytes

  turnable-as : Asked to → length file ≤ 65_536 → TurnableAs (other to)
  turnable-as a l K rest low high from x f =
      let (b, held) = itemed-fit x.lists f in (
        _,
        record {
          one_or_two = to-ask a;
          K = K;
          entries = x.es;
          states = record { first = other-first a; last = other_last a; short = l; body = b.list; whole = from b.list b.are; low = low; high = high; enters = b.each };
          in_turn = x.turn;
          held = held_low held;
          are = refl;
        },
      )

  pub turnable-read : asked to ≡ accepted tt → length file ≤ 65_536 → other_edition FileKind.Proof file_proof to (fields file) ≡ accepted tt
      → (h : Header) → header FileKind.Proof file_proof newest_edition none (fields file) ≡ accepted h → entries_read (edition h.number) h.K false h.rest ≡ accepted tt
      → each_field 10 file_proof (lines_fit (edition h.number) (edition to)) h.rest ≡ accepted tt → (bytes : List ℕ) × ProofTurnable to file bytes
  turnable-read a l o h e r f =
      let d = (header-gives FileKind.Proof file_proof newest_edition none (fields file)).gives h e in
      let x = (entries-give (edition h.number) h.K false h.rest).gives tt r in
      let b = itemed x.lists in
      let n : h.number ≡ other to = same-edition (fields file) (other to) h.number _ ((other-gives FileKind.Proof file_proof to (fields file)).gives tt o) (d.from b.list b.are) in
      subst TurnableAs (sym n) (turnable-as ((asked-gives to).gives tt a) l) h.K h.rest d.low d.high d.from x ((each-field-gives 10 file_proof _ tt h.rest).gives tt f)

-- ---- turning down, 13 and 10 at the first field at fault
abbrev Held : Constraint → Type 0
Held c = All (λ z. mag z ≤ 32_767) (flat c.form)

abbrev Low : Item → Type 0
Low i = All (λ n. n ≤ 255) (lines_named edition2 i)

module _ (K : ℕ) where
  held_fits : (i : Item) (c : Constraint) → States edition2 K i c → Held c → T (numbers_fit edition2 edition1 K i)
  unfolding numbers_fit
  held_fits i c s h = subst (λ (t : Form). T (every (holdable 2) (flat t))) (sym s.form) (every_of (holdable 2) (all-weaken two-held h))

  unheld-fails : (i : Item) (c : Constraint) → States edition2 K i c → (Held c → ⊥) → T (numbers_fit edition2 edition1 K i) → ⊥
  unfolding numbers_fit
  unheld-fails i c s k t = k (all-weaken held_two (of-every (holdable 2) (flat c.form) (subst (λ (t : Form). T (every (holdable 2) (flat t))) s.form t)))

low_fits : (i j : Item) → i ≡ j → Low j → T (lines_fit edition2 edition1 i)
low_fits i j e h = subst (λ (i : Item). T (lines_fit edition2 edition1 i)) (sym e) (fit-down j h)

high-fails : (i j : Item) → i ≡ j → (Low j → ⊥) → T (lines_fit edition2 edition1 i) → ⊥
high-fails i j e k t = k (subst Low e (down-fit i t))

pub bundle-narrow : (file : List ℕ) (K : ℕ) (cs : List Constraint) → BundleFile newest_edition file 2 K cs → (before : List Constraint) (c : Constraint) (after : List Constraint) → cs ≡ before ++ (c ∷ after)
    → All Held before → (Held c → ⊥) → (f : Field) → nth (suc (suc (length before))) (fields file) ≡ some f → bundle_turned 1 file ≡ refused (answer 13 1 f.at)
unfolding bundle_turned agrees known header_tag
bundle-narrow file K cs b before c after e h k f at =
    let x : Bundle = record { edition = 2; K = K; constraints = cs } in
    passes _ (asked-accepted down)
    ∙ passes _ (short-accepted _ file_a file b.short)
    ∙ passes _ (other-accepted FileKind.Bundle file_a 1 (fields file) _ tt (b.whole ∙ ap some b.laid.are))
    ∙ binds _ (bundle-accepts newest_edition file_a none file x (record { file = b; agree = tt }))
    ∙ then-refused _ (first-unfit 13 file_a (numbers_fit edition2 edition1 K) {R = States edition2 K} {P = Held} (held_fits K) (unheld-fails K) before c after
    (subst (Lists (States edition2 K) (behind_header (fields file))) e (body-lists b)) h k f (sym (nth-behind (fields file) (length before)) ∙ at))

pub proof-narrow : (file : List ℕ) (K : ℕ) (es : List Entry) (p : ProofFile newest_edition file 2 K es) → InTurn false es → (before : List Item) (i : Item) (after : List Item) → p.body ≡ before ++ (i ∷ after)
    → All Low before → (Low i → ⊥) → (f : Field) → nth (suc (suc (length before))) (fields file) ≡ some f → proof_turned 1 file ≡ refused (answer 10 3 f.at)
unfolding proof_turned agrees known header_tag
proof-narrow file K es p t before i after e h k f at =
    let r = header_read FileKind.Proof file_proof newest_edition none (fields file) 2 K p.body p.whole p.first p.last p.low p.high tt in
    let is : r.after ≡ behind_header (fields file) = (rest_gives FileKind.Proof file_proof newest_edition none (fields file)).gives _ r.reads in
    passes _ (asked-accepted down)
    ∙ passes _ (short-accepted _ file_proof file p.short)
    ∙ passes _ (other-accepted FileKind.Proof file_proof 1 (fields file) _ tt p.whole)
    ∙ binds _ r.reads
    ∙ passes _ (entries-accept edition2 K false (listed r.after r.rest p.enters) t)
    ∙ then-refused _ (first-unfit 10 file_proof (lines_fit edition2 edition1) {R = λ i j. i ≡ j} {P = Low} low_fits high-fails before i after
    (subst (Lists (λ i j. i ≡ j) r.after) e (lists-items r.after p.body r.rest)) h k f (ap (nth (length before)) is ∙ sym (nth-behind (fields file) (length before)) ∙ at))
