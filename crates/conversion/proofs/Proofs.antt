-- A proof that is turned is the file of the same entries in the other edition, and turned back it is what it was, without notes. Assumes nothing.
use mathlib.Core.Path.{◌≡◌, refl, sym, ◌∙◌, ap, ap₂, subst}
use mathlib.Core.Option.{Option, none, some}
use mathlib.Core.Bool.{Bool, true, false}
use mathlib.Core.List.{List, [], ◌∷◌, ◌++◌, map}
use Prim.Native.Nat.{ℕ, ◌≤◌}
use native.Mathlib.Omega.{arith}
use lib.Dec.{T, eqb→eq, eqb_refl}
use lib.ListN.{length, length-append}
use Rattle.forms.specs.Edition.{Edition, edition, edition1, newest_edition}
use Rattle.forms.specs.Forms.{Form, All, nil, cons}
use Rattle.calculus.specs.Rules.{Entry, claim}
use Rattle.answers.specs.Answers.{answer, file_proof, accepted}
use Rattle.answers.proofs.Results.{Gives, gives-refused, gives-accepted, weaken, bind, seq, test, finds, binds, passes, needs, found_some}
use Rattle.number_bytes.specs.Numbers.{Bytes}
use Rattle.fields.specs.declared.FileKind.{FileKind}
use Rattle.fields.specs.Fields.{Field, Fields, ends, cut, ◌▸◌, Item, item, fields, items, note, Framed, field_bytes, file_of, without_notes, unless_note_item}
use Rattle.fields.specs.Header.{header_tag, known, agrees, header_bytes}
use Rattle.fields.proofs.HeaderLaid.{first_of, not-empty, header-gives, header_read, next-items}
use Rattle.fields.proofs.Framing.{items-file_of}
use Rattle.fields.proofs.Contents.{ItemBytes, contents-bytes}
use Rattle.bundle.specs.Layout.{Each}
use Rattle.bundle.proofs.Writable.{header-file}
use Rattle.bundle.proofs.Laid.{Lists, done, next, listed, short-gives, short-accepted}
use Rattle.proof.specs.Entries.{EntryTag, combine_tag, reduce_tag, scale_tag, strengthen_tag, number_tag, stride_tag, round_tag, split_tag, claim_tag, entry_tagged, in_place, size_of, entry_from, entry}
use Rattle.proof.specs.Layout.{Enters, ProofFile}
use Rattle.proof.proofs.Entered.{entry_known}
use Rattle.conversion.specs.Turning.{other, lines_fit, lines_turned, fields_turned, makes_line, entries_read, result_within, proof_turned}
use Rattle.conversion.specs.Turnable.{InTurn, none_left, a_row, a_claim, turned_item}
use Rattle.conversion.proofs.Asking.{Asked, asked-gives, asked-accepted, other-first, other_last, asked-first, asked-last, asked-back, other-other, other-gives, other-accepted, same-edition, Fit, ends-fit, cut-fit, next_fits, each-field-gives, each-field-accepted, within-gives, within-accepted}
use Rattle.conversion.proofs.Carried.{turned-enters, turned-framed, entry-no-note, back_fits, back-same}

-- ---- entries with each claim in its place
claim-made : {made : Bool} {t t_A : Form} {es : List Entry} → InTurn made (claim t t_A ∷ es) → T made
claim-made (a_claim h) = tt

then-turn : {made : Bool} {x : Entry} {es : List Entry} → InTurn made (x ∷ es) → InTurn (makes_line x) es
unfolding makes_line
then-turn (a_row r h) = h
then-turn (a_claim h) = h

module _ (e : Edition) (K : ℕ) where
  in_turn : (made : Bool) (x : EntryTag) (bs : List ℕ) → T (in_place made x) → {es : List Entry} → InTurn (makes_line (entry_from e K x bs)) es → InTurn made (entry_from e K x bs ∷ es)
  unfolding in_place entry_from makes_line
  in_turn made combine_tag bs t h = a_row _ h
  in_turn made reduce_tag bs t h = a_row _ h
  in_turn made scale_tag bs t h = a_row _ h
  in_turn made strengthen_tag bs t h = a_row _ h
  in_turn made number_tag bs t h = a_row _ h
  in_turn made stride_tag bs t h = a_row _ h
  in_turn made round_tag bs t h = a_row _ h
  in_turn made split_tag bs t h = a_row _ h
  in_turn false claim_tag bs t h = absurd t
  in_turn true claim_tag bs t h = a_claim h

  in_place_lem : (made : Bool) (x : EntryTag) (bs : List ℕ) {es : List Entry} → InTurn made (entry_from e K x bs ∷ es) → T (in_place made x)
  unfolding in_place entry_from
  in_place_lem made combine_tag bs h = tt
  in_place_lem made reduce_tag bs h = tt
  in_place_lem made scale_tag bs h = tt
  in_place_lem made strengthen_tag bs h = tt
  in_place_lem made number_tag bs h = tt
  in_place_lem made stride_tag bs h = tt
  in_place_lem made round_tag bs h = tt
  in_place_lem made split_tag bs h = tt
  in_place_lem made claim_tag bs h = claim-made h

  -- One field.
  record Entered (made : Bool) (i : Item) (x : Entry) : Type 0 where
    enters : Enters e K i x
    turn : {es : List Entry} → InTurn (makes_line x) es → InTurn made (x ∷ es)

  entry_gives : (made : Bool) (f : Field) → Gives (entry e K (λ n. answer n file_proof f.at) made f) (Entered made (item f.tag f.contents))
  unfolding entry
  entry_gives made f = test _ _ tt λ _. bind (finds _ (entry_tagged f.tag) tt) λ x t. test _ _ tt λ p. test _ _ tt λ n.
      gives-accepted (record { enters = record { tagged = x; tag = t; size = eqb→eq (length f.contents) (size_of e K x) n; entry = refl }; turn = λ h. in_turn made x f.contents p h })

  entry-accepts : (made : Bool) (f : Field) {x : Entry} → Enters e K (item f.tag f.contents) x → {es : List Entry} → InTurn made (x ∷ es)
      → entry e K (λ n. answer n file_proof f.at) made f ≡ accepted x
  unfolding entry
  entry-accepts made f h {es} t = needs _ _ _ (entry_known f.tag h.tagged h.tag) ∙ binds _ (found_some _ h.tag)
      ∙ needs _ _ _ (in_place_lem made h.tagged f.contents (subst (λ (x : Entry). InTurn made (x ∷ es)) (sym h.entry) t))
      ∙ needs _ _ _ (rw h.size (eqb_refl (size_of e K h.tagged))) ∙ ap accepted h.entry

  -- All fields after the header.
  pub record EntriesIn (made : Bool) (fs : Fields) : Type 0 where
    pub es : List Entry
    pub lists : Lists (Enters e K) fs es
    pub turn : InTurn made es

  pub entries-give : (made : Bool) (fs : Fields) → Gives (entries_read e K made fs) (λ _. EntriesIn made fs)
  unfolding entries_read
  entries-give made (ends at) = gives-accepted (record { es = []; lists = done at; turn = none_left })
  entries-give made (cut at) = gives-refused _ tt
  entries-give made (f ▸ fs) = bind (entry_gives made f) λ x n. weaken (entries-give (makes_line x) fs) λ _ r. record { es = x ∷ r.es; lists = next f n.enters r.lists; turn = n.turn r.turn }

  pub entries-accept : (made : Bool) {fs : Fields} {es : List Entry} → Lists (Enters e K) fs es → InTurn made es → entries_read e K made fs ≡ accepted tt
  unfolding entries_read
  entries-accept made (done at) t = refl
  entries-accept made (next f {x = x} s l) t = binds _ (entry-accepts made f s t) ∙ entries-accept (makes_line x) l (then-turn t)

-- ---- the fields as items
-- The items of fields that state entries; each passes the test; and the bytes of these fields turned.
record Body (a b K : ℕ) (fs : Fields) (es : List Entry) : Type 0 where
  list : List Item
  are : items fs ≡ some list
  each : Each (Enters (edition a) K) list es
  held : All (λ i. T (lines_fit (edition a) (edition b) i)) list
  turned : fields_turned (lines_turned (edition a) (edition b)) fs ≡ file_of (map (turned_item a b) list)

module _ (a b K : ℕ) where
  body_of : {fs : Fields} {es : List Entry} → Lists (Enters (edition a) K) fs es → Fit (λ i. T (lines_fit (edition a) (edition b) i)) fs → Body a b K fs es
  unfolding items fields_turned file_of
  body_of (done at) ends-fit = record { list = []; are = refl; each = Each.nil; held = nil; turned = refl }
  body_of (next f {fs = fs} s l) (next_fits h k) =
      let t = body_of l k in
      let i = item f.tag f.contents in
      record {
        list = i ∷ t.list;
        are = next-items f fs t.are;
        each = Each.cons s t.each;
        held = cons h t.held;
        turned = ap (λ (bs : List ℕ). field_bytes f.tag (lines_turned (edition a) (edition b) i) ++ bs) t.turned;
      }

fit_of : {P : Item → Type 0} (fs : Fields) {is : List Item} → items fs ≡ some is → All P is → Fit P fs
unfolding items
fit_of (ends at) h nil = ends-fit
fit_of (cut at) h nil = cut-fit
fit_of (f ▸ fs) h nil = absurd (not-empty f fs h)
fit_of {P} fs h (cons {x = i} {xs = is} p ps) =
    let f = first_of fs i is h in
    subst (Fit P) (sym f.are) (next_fits (subst P (sym (ap₂ item f.tag f.contents)) p) (fit_of f.after f.rest ps))

-- ---- what is turned
-- A proof's fields, the header's two first.
abbrev pub proof_items : (n K : ℕ) → List Item → List Item
proof_items n K is = item 0x01 (n ∷ []) ∷ item 0x02 (K ∷ []) ∷ is

one_list : {is js : List Item} {o : Option (List Item)} → o ≡ some is → o ≡ some js → is ≡ js
one_list p q = cc

-- The bytes are the fields of the file, which has the other edition, with the line numbers in the new width; each is held.
pub record ProofTurns (to : ℕ) (file bytes : List ℕ) : Type 0 where
  pub asks : Asked to
  pub K : ℕ
  pub es : List Entry
  pub source : ProofFile newest_edition file (other to) K es
  pub turn : InTurn false es
  pub held : All (λ i. T (lines_fit (edition (other to)) (edition to) i)) source.body
  pub are : bytes ≡ file_of (proof_items to K (map (turned_item (other to) to) source.body))
  pub short : length bytes ≤ 65_536

module _ (to : ℕ) (file : List ℕ) where
  abbrev Rest : (n K : ℕ) → Fields → List ℕ
  Rest n K rest = header_bytes to K ++ fields_turned (lines_turned (edition n) (edition to)) rest

  abbrev TurnedAs : ℕ → Type 0
  TurnedAs n = (K : ℕ) (rest : Fields) → 1 ≤ K → K ≤ edition1.constants
      → ((is : List Item) → items rest ≡ some is → items (fields file) ≡ some (proof_items n K is))
      → EntriesIn (edition n) K false rest → Fit (λ i. T (lines_fit (edition n) (edition to) i)) rest → length (Rest n K rest) ≤ 65_536 → ProofTurns to file (Rest n K rest)

  turned_as : Asked to → length file ≤ 65_536 → TurnedAs (other to)
  turned_as a l K rest low high from x h s =
      let b = body_of (other to) to K x.lists h in
      record {
        asks = a;
        K = K;
        es = x.es;
        source = record { first = other-first a; last = other_last a; short = l; body = b.list; whole = from b.list b.are; low = low; high = high; enters = b.each };
        turn = x.turn;
        held = b.held;
        are = ap (λ (bs : List ℕ). header_bytes to K ++ bs) b.turned ∙ sym (header-file to K (map (turned_item (other to) to) b.list));
        short = s;
      }

  pub proof-turned-gives : Gives (proof_turned to file) (ProofTurns to file)
  unfolding proof_turned
  proof-turned-gives = seq (asked-gives to) λ a. seq (short-gives _ file_proof file) λ l. seq (other-gives FileKind.Proof file_proof to (fields file)) λ s.
      bind (header-gives FileKind.Proof file_proof newest_edition none (fields file)) λ h d. seq (entries-give (edition h.number) h.K false h.rest) λ x.
      seq (each-field-gives 10 file_proof _ tt h.rest) λ f. weaken (within-gives _ _) λ bs r.
      let b = body_of h.number to h.K x.lists f in
      let e : h.number ≡ other to = same-edition (fields file) (other to) h.number _ s (d.from b.list b.are) in
      subst (ProofTurns to file) (sym r.0) (subst TurnedAs (sym e) (turned_as a l) h.K h.rest d.low d.high d.from x f r.1)

  -- The other way: a proof of the other edition with each claim in its place and each line number held is turned, if the result is not too long.
  abbrev result_of : (K : ℕ) → List Item → List ℕ
  result_of K body = file_of (proof_items to K (map (turned_item (other to) to) body))

  pub proof-turned-as : Asked to → {K : ℕ} {es : List Entry} (f : ProofFile newest_edition file (other to) K es) → InTurn false es
      → All (λ i. T (lines_fit (edition (other to)) (edition to) i)) f.body → proof_turned to file ≡ result_within 65_536 (result_of K f.body)
  unfolding proof_turned agrees known header_tag
  proof-turned-as a {K} {es} f t held =
      let h = header_read FileKind.Proof file_proof newest_edition none (fields file) (other to) K f.body f.whole f.first f.last f.low f.high tt in
      let l : Lists (Enters (edition (other to)) K) h.after es = listed h.after h.rest f.enters in
      let k : Fit (λ i. T (lines_fit (edition (other to)) (edition to) i)) h.after = fit_of h.after h.rest held in
      let b = body_of (other to) to K l k in
      let same : Rest (other to) K h.after ≡ result_of K f.body =
      ap (λ (bs : List ℕ). header_bytes to K ++ bs) b.turned ∙ sym (header-file to K (map (turned_item (other to) to) b.list)) ∙ ap (result_of K) (one_list b.are h.rest) in
      passes _ (asked-accepted a)
      ∙ passes _ (short-accepted _ file_proof file f.short)
      ∙ passes _ (other-accepted FileKind.Proof file_proof to (fields file) _ tt f.whole)
      ∙ binds _ h.reads
      ∙ passes _ (entries-accept (edition (other to)) K false l t)
      ∙ passes _ (each-field-accepted 10 file_proof _ k)
      ∙ ap (result_within 65_536) same

  pub proof-turned-accepts : Asked to → {K : ℕ} {es : List Entry} (f : ProofFile newest_edition file (other to) K es) → InTurn false es
      → All (λ i. T (lines_fit (edition (other to)) (edition to) i)) f.body → length (result_of K f.body) ≤ 65_536 → proof_turned to file ≡ accepted (result_of K f.body)
  proof-turned-accepts a f t held short = proof-turned-as a f t held ∙ within-accepted 65_536 _ short

-- ---- the turned proof states the same entries
module _ (a b K : ℕ) where
  enters-turned : {is : List Item} {es : List Entry} → Each (Enters (edition a) K) is es → All (λ i. T (lines_fit (edition a) (edition b) i)) is → Each (Enters (edition b) K) (map (turned_item a b) is) es
  enters-turned Each.nil nil = Each.nil
  enters-turned (Each.cons {x = i} h hs) (cons t ts) = Each.cons (turned-enters a b K i h t) (enters-turned hs ts)

  framed-turned : K ≤ edition1.constants → {is : List Item} {es : List Entry} → Each (Enters (edition a) K) is es → All (λ i. T (lines_fit (edition a) (edition b) i)) is → All Framed (map (turned_item a b) is)
  framed-turned k Each.nil nil = nil
  framed-turned k (Each.cons {x = i} h hs) (cons t ts) = cons (turned-framed a b K i h k t) (framed-turned k hs ts)

  bare-turned : {is : List Item} {es : List Entry} → Each (Enters (edition a) K) is es → without_notes (map (turned_item a b) is) ≡ map (turned_item a b) is
  unfolding without_notes unless_note_item
  bare-turned Each.nil = refl
  bare-turned (Each.cons {x = i} h hs) = rw (entry-no-note i.tag h.tagged h.tag) (ap (λ (is : List Item). turned_item a b i ∷ is) (bare-turned hs))

  back-held : {is : List Item} {es : List Entry} → Each (Enters (edition a) K) is es → All ItemBytes is → All (λ i. T (lines_fit (edition a) (edition b) i)) is
      → All (λ i. T (lines_fit (edition b) (edition a) i)) (map (turned_item a b) is)
  back-held Each.nil nil nil = nil
  back-held (Each.cons {x = i} h hs) (cons k ks) (cons t ts) = cons (back_fits a b K i h k.bytes t) (back-held hs ks ts)

  back_items : {is : List Item} {es : List Entry} → Each (Enters (edition a) K) is es → All ItemBytes is → All (λ i. T (lines_fit (edition a) (edition b) i)) is
      → map (turned_item b a) (map (turned_item a b) is) ≡ is
  back_items Each.nil nil nil = refl
  back_items (Each.cons {x = i} h hs) (cons k ks) (cons t ts) = ap₂ (λ (i : Item) (is : List Item). i ∷ is) (back-same a b K i h k.bytes t) (back_items hs ks ts)

bare-items : (n K : ℕ) (is : List Item) → without_notes is ≡ is → without_notes (proof_items n K is) ≡ proof_items n K is
unfolding without_notes unless_note_item note
bare-items n K is e = ap (proof_items n K) e

-- The file of these items.
module _ {to : ℕ} {file bytes : List ℕ} (t : ProofTurns to file bytes) where
  abbrev turned_body : List Item
  turned_body = map (turned_item (other to) to) t.source.body

  turned-whole : items (fields bytes) ≡ some (proof_items to t.K turned_body)
  turned-whole =
      let f = t.source in
      let framed : All Framed (proof_items to t.K turned_body) =
      cons {x = item 0x01 (to ∷ [])} (record { framed = omega arith }) (cons {x = item 0x02 (t.K ∷ [])} (record { framed = omega arith }) (framed-turned (other to) to t.K f.high f.enters t.held)) in
      ap (λ (bs : List ℕ). items (fields bs)) t.are ∙ items-file_of (proof_items to t.K turned_body) framed
      ∙ ap some (bare-items to t.K turned_body (bare-turned (other to) to t.K f.enters))

  pub turned-proof-file : ProofFile newest_edition bytes to t.K t.es
  turned-proof-file =
      let f = t.source in
      record {
        first = asked-first t.asks;
        last = asked-last t.asks;
        short = t.short;
        body = turned_body;
        whole = turned-whole;
        low = f.low;
        high = f.high;
        enters = enters-turned (other to) to t.K f.enters t.held;
      }

-- ---- turned back
-- A file without its notes is not longer.
unless-shorter : (b : Bool) (i : Item) (is js : List Item) → length (file_of is) ≤ length (file_of js) → length (file_of (unless_note_item b i is)) ≤ length (file_of (i ∷ js))
unfolding unless_note_item file_of
unless-shorter true i is js h = omega (arith, length-append (field_bytes i.tag i.contents) (file_of js))
unless-shorter false i is js h = omega (arith, length-append (field_bytes i.tag i.contents) (file_of js), length-append (field_bytes i.tag i.contents) (file_of is))

bare-shorter : (F : List Item) → length (file_of (without_notes F)) ≤ length (file_of F)
unfolding without_notes file_of
bare-shorter [] = omega arith
bare-shorter (i ∷ is) = unless-shorter (note i.tag) i (without_notes is) is (bare-shorter is)

body_bytes : {i j : Item} {is : List Item} → All ItemBytes (i ∷ j ∷ is) → All ItemBytes is
body_bytes (cons _ (cons _ h)) = h

module _ (to : ℕ) (F : List Item) (framed : All Framed F) (k : Bytes (file_of F)) (bytes : List ℕ) (t : ProofTurns to (file_of F) bytes) where
  -- in what is turned back the edition is that of the file
  abbrev Back : ℕ → Type 0
  Back n = (f : ProofFile newest_edition bytes n t.K t.es) → f.body ≡ map (turned_item (other to) to) t.source.body → proof_turned (other to) bytes ≡ accepted (file_of (without_notes F))

  list-is : proof_items (other to) t.K t.source.body ≡ without_notes F
  list-is = one_list t.source.whole (items-file_of F framed)

  short-bare : length (file_of (without_notes F)) ≤ 65_536
  short-bare = omega (arith, bare-shorter F, t.source.short)

  back_from : Back (other (other to))
  back_from f e =
      let s = t.source in
      let own = body_bytes (contents-bytes (file_of F) k s.whole) in
      let same : map (turned_item (other (other to)) (other to)) f.body ≡ s.body =
      ap (map (turned_item (other (other to)) (other to))) e
      ∙ ap (λ (n : ℕ). map (turned_item n (other to)) (map (turned_item (other to) to) s.body)) (other-other t.asks)
      ∙ back_items (other to) to t.K s.enters own t.held in
      let bare : file_of (proof_items (other to) t.K (map (turned_item (other (other to)) (other to)) f.body)) ≡ file_of (without_notes F) =
      ap (λ (is : List Item). file_of (proof_items (other to) t.K is)) same ∙ ap file_of list-is in
      proof-turned-accepts (other to) bytes (asked-back t.asks) f t.turn
      (subst (All (λ i. T (lines_fit (edition (other (other to))) (edition (other to)) i))) (sym e)
      (subst (λ (n : ℕ). All (λ i. T (lines_fit (edition n) (edition (other to)) i)) (map (turned_item (other to) to) s.body)) (sym (other-other t.asks))
      (back-held (other to) to t.K s.enters own t.held)))
      (rw bare short-bare)
      ∙ ap accepted bare

  turned-back : proof_turned (other to) bytes ≡ accepted (file_of (without_notes F))
  unfolding turned-proof-file
  turned-back = subst Back (other-other t.asks) back_from (turned-proof-file t) refl

-- The file of any framed fields, if it is turned, is turned back as the file of these fields without notes.
pub proof-back : (to : ℕ) (F : List Item) → All Framed F → Bytes (file_of F) → (bytes : List ℕ) → proof_turned to (file_of F) ≡ accepted bytes → proof_turned (other to) bytes ≡ accepted (file_of (without_notes F))
proof-back to F framed k bytes e = turned-back to F framed k bytes ((proof-turned-gives to (file_of F)).gives bytes e)
