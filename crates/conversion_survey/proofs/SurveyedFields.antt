-- Laws for each way through the code: the fields of a proof gone over one by one. Assumes nothing.
use mathlib.Core.Path.{◌≡◌, refl, sym, ◌∙◌, ap, ap₂, subst}
use mathlib.Core.Option.{Option, none, some}
use mathlib.Core.Bool.{Bool, true, false, ◌&&◌}
use mathlib.Core.List.{List, [], ◌∷◌, ◌++◌}
use Prim.Native.Nat.{ℕ, zero, suc, ◌+◌, ◌-◌, ◌*◌, ◌^◌, ◌≤◌}
use native.Mathlib.Nat.{suc-mul}
use native.Mathlib.Omega.{arith}
use borrow.Author.Tests.{eqb-true, eqb-false, ne_eqb}
use lib.Dec.{ltb, eqb}
use lib.ListN.{length, take, drop, length-drop, length-append}
use lib.Seq.{drop-drop, take-take}
use Rattle.forms.specs.Edition.{edition}
use Rattle.forms.specs.Forms.{every}
use Rattle.calculus.specs.Rules.{Entry}
use Rattle.std.specs.Prelude.{Ok, Err}
use Rattle.std.specs.declared.result.Result as code
use Rattle.answers.specs.declared.refusals.Refusal.{Refusal}
use Rattle.answers.specs.Refusals.{number_of}
use Rattle.answers.specs.declared.Answer.{Answer}
use Rattle.answers.specs.Answers.{answer, file_proof, Result, refused, accepted, ◌>>=◌, ◌>>◌, need}
use Rattle.answers.proofs.Results.{binds, needs, fail, bind-refused}
use Rattle.number_bytes.specs.Numbers.{unsigned, unsigneds, unsigneds_bytes}
use Rattle.number_bytes.proofs.Signed.{drop-take}
use Rattle.fields.specs.declared.FileKind.{FileKind}
use Rattle.fields.specs.Header.{known, header_tag}
use Rattle.fields.specs.Fields.{Field, Fields, ends, cut, ◌▸◌, item, field_bytes}
use Rattle.fields.specs.Places.{fields_at, next_of}
use Rattle.fields.specs.declared.WholeField.{WholeField}
use Rattle.fields.specs.declared.End.{End}
use Rattle.fields.proofs.Places.{Starts, starts-size}
use Rattle.fields.proofs.Framing.{length-field_bytes}
use Rattle.proof.specs.Entries.{EntryTag, combine_tag, reduce_tag, scale_tag, strengthen_tag, number_tag, stride_tag, round_tag, split_tag, claim_tag, entry_tagged, shape, line_count, in_place, size_of, entry_from, entry}
use Rattle.proof.proofs.Entered.{entry-unknown, entry-none, entry-out, entry_in}
use Rattle.conversion.specs.Turning.{each_field, lines_fit, lines_turned, fields_turned, makes_line, entries_read}
use Rattle.conversion.proofs.Carried.{head-size, turned-is}
use Rattle.conversion_survey.specs.SurveyAnswers.{sized_by, sized_as, AnswersOf, FieldLaid, LinesThere, at_field}

-- ---- what a tag and a length tell
-- An entry in its place: 6, or the entry.
in_size : (n K tag len : ℕ) (x : EntryTag) {size : ℕ} {m : Bool} (b : Bool) (f : Field) (refusal : ℕ → Answer) → eqb len size ≡ b → size_of (edition n) K x ≡ size → length f.contents ≡ len
    → ((bs : List ℕ) → makes_line (entry_from (edition n) K x bs) ≡ m) → line_count (entry_tagged tag) ≡ (shape x).line_numbers → (shape x).line_numbers * (edition n).line_width ≤ size → {r : Result Entry}
    → r ≡ (need (refusal 6) (eqb (length f.contents) (size_of (edition n) K x)) >> accepted (entry_from (edition n) K x f.contents))
    → AnswersOf refusal (edition n).line_width tag len (sized_by b m) r
unfolding need ◌>>◌
in_size n K tag len x {size} true f refusal q z l k c few e = (entry_from (edition n) K x f.contents, e ∙ rw (l, z, q), k f.contents, rw c (omega (arith, few, eqb-true len size q)))
in_size n K tag len x false f refusal q z l k c few e = e ∙ rw (l, z, q)

module _ {n K tag len : ℕ} {made : Bool} where
  lays : (x : EntryTag) (t : ℕ) {size : ℕ} {m : Bool} {r : code.Result Bool Refusal} → tag ≡ t → known FileKind.Proof t ≡ true → entry_tagged t ≡ some x → in_place made x ≡ true → size_of (edition n) K x ≡ size
      → ((bs : List ℕ) → makes_line (entry_from (edition n) K x bs) ≡ m) → (shape x).line_numbers * (edition n).line_width ≤ size → r ≡ sized_as len size m → FieldLaid n K tag len made r
  lays x t {size} {m} e k g p z s few q = rw q (record {
    is = λ refusal f tagged l.
        in_size n K tag len x (eqb len size) f refusal refl z l s (ap line_count (ap entry_tagged e ∙ g)) few
        (entry_in (edition n) K refusal made f x (ap (known FileKind.Proof) (tagged ∙ e) ∙ k) (ap entry_tagged (tagged ∙ e) ∙ g) p);
  })

  module _ {w : ℕ} (width : w ≡ (edition n).line_width) {r : code.Result Bool Refusal} where
    pub combine-laid : tag ≡ 0x10 → r ≡ sized_as len (2 * w + 4) true → FieldLaid n K tag len made r
    unfolding known header_tag entry_tagged in_place size_of entry_from makes_line
    combine-laid e q = lays combine_tag 0x10 e refl refl refl (omega (arith, width)) (λ bs. refl) (omega (arith, width)) q

    pub reduce-laid : tag ≡ 0x11 → r ≡ sized_as len (2 * w + 2) true → FieldLaid n K tag len made r
    unfolding known header_tag entry_tagged in_place size_of entry_from makes_line
    reduce-laid e q = lays reduce_tag 0x11 e refl refl refl (omega (arith, width)) (λ bs. refl) (omega (arith, width)) q

    pub scale-laid : tag ≡ 0x12 → r ≡ sized_as len (w + 2) true → FieldLaid n K tag len made r
    unfolding known header_tag entry_tagged in_place size_of entry_from makes_line
    scale-laid e q = lays scale_tag 0x12 e refl refl refl (omega (arith, width)) (λ bs. refl) (omega (arith, width)) q

    pub strengthen-laid : tag ≡ 0x13 → r ≡ sized_as len w false → FieldLaid n K tag len made r
    unfolding known header_tag entry_tagged in_place size_of entry_from makes_line
    strengthen-laid e q = lays strengthen_tag 0x13 e refl refl refl (omega (arith, width)) (λ bs. refl) (omega (arith, width)) q

    pub number-laid : tag ≡ 0x14 → r ≡ sized_as len w false → FieldLaid n K tag len made r
    unfolding known header_tag entry_tagged in_place size_of entry_from makes_line
    number-laid e q = lays number_tag 0x14 e refl refl refl (omega (arith, width)) (λ bs. refl) (omega (arith, width)) q

    pub stride-laid : tag ≡ 0x15 → r ≡ sized_as len (w + 2) false → FieldLaid n K tag len made r
    unfolding known header_tag entry_tagged in_place size_of entry_from makes_line
    stride-laid e q = lays stride_tag 0x15 e refl refl refl (omega (arith, width)) (λ bs. refl) (omega (arith, width)) q

    pub round-laid : tag ≡ 0x16 → r ≡ sized_as len (w + 4) false → FieldLaid n K tag len made r
    unfolding known header_tag entry_tagged in_place size_of entry_from makes_line
    round-laid e q = lays round_tag 0x16 e refl refl refl (omega (arith, width)) (λ bs. refl) (omega (arith, width)) q

    pub split-laid : tag ≡ 0x17 → r ≡ sized_as len w false → FieldLaid n K tag len made r
    unfolding known header_tag entry_tagged in_place size_of entry_from makes_line
    split-laid e q = lays split_tag 0x17 e refl refl refl (omega (arith, width)) (λ bs. refl) (omega (arith, width)) q

  pub claim-laid : {r : code.Result Bool Refusal} → tag ≡ 0x20 → made ≡ true → r ≡ sized_as len (8 * (K + 1)) false → FieldLaid n K tag len made r
  unfolding known header_tag entry_tagged in_place size_of entry_from makes_line
  claim-laid e h q = lays claim_tag 0x20 e refl refl h (omega arith) (λ bs. refl) (omega arith) q

  pub claim-out : tag ≡ 0x20 → made ≡ false → FieldLaid n K tag len made (Err Refusal.MisplacedTag)
  unfolding known header_tag entry_tagged in_place
  claim-out e h = record { is = λ refusal f tagged l. entry-out (edition n) K refusal made f claim_tag (rw (tagged, e)) (rw (tagged, e)) h }

  pub first_out : tag ≡ 0x01 → FieldLaid n K tag len made (Err Refusal.MisplacedTag)
  unfolding known header_tag entry_tagged
  first_out e = record { is = λ refusal f tagged l. entry-none (edition n) K refusal made f (rw (tagged, e)) (rw (tagged, e)) }

  pub second-out : tag ≡ 0x02 → FieldLaid n K tag len made (Err Refusal.MisplacedTag)
  unfolding known header_tag entry_tagged
  second-out e = record { is = λ refusal f tagged l. entry-none (edition n) K refusal made f (rw (tagged, e)) (rw (tagged, e)) }

  pub unknown-out : known FileKind.Proof tag ≡ false → FieldLaid n K tag len made (Err Refusal.UnknownTag)
  unknown-out k = record { is = λ refusal f tagged l. entry-unknown (edition n) K refusal made f (ap (known FileKind.Proof) tagged ∙ k) }

-- ---- the entries
module _ (n K : ℕ) where
  abbrev pub read : (made : Bool) → Fields → Result (Unit {0})
  read = entries_read (edition n) K

  module _ {s : List ℕ} {at a t start len next : ℕ} (k : Starts s at a t start len next) (made : Bool) where
    abbrev field : Field
    field = record { at = a; tag = t; contents = take len (drop start s) }

    entries-here : read made (fields_at s at) ≡ (entry (edition n) K (λ m. answer m file_proof a) made field >>= λ x. read (makes_line x) (fields_at s next))
    unfolding entries_read
    entries-here = rw k.is

    laid-here : {x : code.Result Bool Refusal} → FieldLaid n K t len made x → AnswersOf (λ m. answer m file_proof a) (edition n).line_width t len x (entry (edition n) K (λ m. answer m file_proof a) made field)
    laid-here e = e.is (λ m. answer m file_proof a) field refl (starts-size k)

    pub entries-on : {x : code.Result Bool Refusal} {m : Bool} → FieldLaid n K t len made x → x ≡ Ok m → read made (fields_at s at) ≡ read m (fields_at s next)
    entries-on e f =
        let (x, is, makes, few) = laid-here (rw f at e) in
        entries-here ∙ binds _ is ∙ ap (λ (m : Bool). read m (fields_at s next)) makes

    pub lines-here : {x : code.Result Bool Refusal} {m : Bool} → FieldLaid n K t len made x → x ≡ Ok m → line_count (entry_tagged t) * (edition n).line_width ≤ len
    lines-here e f = let (x, is, makes, few) = laid-here (rw f at e) in few

    pub entries-stop : {x : code.Result Bool Refusal} {e : Refusal} → FieldLaid n K t len made x → x ≡ Err e → read made (fields_at s at) ≡ refused (answer (number_of e) file_proof a)
    entries-stop e f = entries-here ∙ bind-refused _ (laid-here (rw f at e))

  pub entries-cut : (made : Bool) {fs : Fields} {a : ℕ} → fs ≡ cut a → read made fs ≡ refused (answer 2 file_proof a)
  unfolding entries_read
  entries-cut made e = rw e

  pub entries-ends : (made : Bool) {fs : Fields} {a : ℕ} → fs ≡ ends a → read made fs ≡ accepted tt
  unfolding entries_read
  entries-ends made e = rw e

-- ---- what a tag tells of line numbers
both_true : (a b : Bool) → (a && b) ≡ true → (a ≡ true) × (b ≡ true)
both_true true true e = (refl, refl)
both_true true false e = absurd (let z : ◌≡◌ {A = ℕ} 0 1 = cc in omega arith)
both_true false b e = absurd (let z : ◌≡◌ {A = ℕ} 0 1 = cc in omega arith)

and-true : (b : Bool) → b ≡ (b && true)
and-true true = refl
and-true false = refl

pub two-lines : (tag : ℕ) → 0x10 ≤ tag → tag ≤ 0x11 → 2 ≡ line_count (entry_tagged tag)
unfolding entry_tagged
two-lines tag low high = go (eqb tag 0x10) refl
  where
    go : (b : Bool) → eqb tag 0x10 ≡ b → 2 ≡ line_count (entry_tagged tag)
    go true e = rw (eqb-true tag 0x10 e)
    go false e = let z : tag ≡ 0x11 = omega (arith, low, high, eqb-false tag 0x10 e) in rw z

pub one_line : (tag : ℕ) → 0x12 ≤ tag → tag ≤ 0x17 → 1 ≡ line_count (entry_tagged tag)
unfolding entry_tagged
one_line tag low high = go (eqb tag 0x12) (eqb tag 0x13) (eqb tag 0x14) (eqb tag 0x15) (eqb tag 0x16) refl refl refl refl refl
  where
    go : (a b c d e : Bool) → eqb tag 0x12 ≡ a → eqb tag 0x13 ≡ b → eqb tag 0x14 ≡ c → eqb tag 0x15 ≡ d → eqb tag 0x16 ≡ e → 1 ≡ line_count (entry_tagged tag)
    go true b c d e p q s t u = rw (eqb-true tag 0x12 p)
    go false true c d e p q s t u = rw (eqb-true tag 0x13 q)
    go false false true d e p q s t u = rw (eqb-true tag 0x14 s)
    go false false false true e p q s t u = rw (eqb-true tag 0x15 t)
    go false false false false true p q s t u = rw (eqb-true tag 0x16 u)
    go false false false false false p q s t u =
        let z : tag ≡ 0x17 = omega (arith, low, high, eqb-false tag 0x12 p, eqb-false tag 0x13 q, eqb-false tag 0x14 s, eqb-false tag 0x15 t, eqb-false tag 0x16 u) in rw z

no-tag : (a b c d e f g h i : Bool) → a ≡ false → b ≡ false → c ≡ false → d ≡ false → e ≡ false → f ≡ false → g ≡ false → h ≡ false → 0 ≡ line_count (elim a as (λ _. Option EntryTag) [ true ↦ some combine_tag | false ↦ elim b as (λ _. Option EntryTag) [ true ↦ some reduce_tag | false ↦ elim c as (λ _. Option EntryTag) [ true ↦ some scale_tag | false ↦ elim d as (λ _. Option EntryTag) [ true ↦ some strengthen_tag | false ↦ elim e as (λ _. Option EntryTag) [ true ↦ some number_tag | false ↦ elim f as (λ _. Option EntryTag) [ true ↦ some stride_tag | false ↦ elim g as (λ _. Option EntryTag) [ true ↦ some round_tag | false ↦ elim h as (λ _. Option EntryTag) [ true ↦ some split_tag | false ↦ elim i [ true ↦ some claim_tag | false ↦ none ] ] ] ] ] ] ] ] ])
no-tag true b c d e f g h i e0 e1 e2 e3 e4 e5 e6 e7 = absurd (let z : ◌≡◌ {A = ℕ} 0 1 = cc in omega arith)
no-tag false true c d e f g h i e0 e1 e2 e3 e4 e5 e6 e7 = absurd (let z : ◌≡◌ {A = ℕ} 0 1 = cc in omega arith)
no-tag false false true d e f g h i e0 e1 e2 e3 e4 e5 e6 e7 = absurd (let z : ◌≡◌ {A = ℕ} 0 1 = cc in omega arith)
no-tag false false false true e f g h i e0 e1 e2 e3 e4 e5 e6 e7 = absurd (let z : ◌≡◌ {A = ℕ} 0 1 = cc in omega arith)
no-tag false false false false true f g h i e0 e1 e2 e3 e4 e5 e6 e7 = absurd (let z : ◌≡◌ {A = ℕ} 0 1 = cc in omega arith)
no-tag false false false false false true g h i e0 e1 e2 e3 e4 e5 e6 e7 = absurd (let z : ◌≡◌ {A = ℕ} 0 1 = cc in omega arith)
no-tag false false false false false false true h i e0 e1 e2 e3 e4 e5 e6 e7 = absurd (let z : ◌≡◌ {A = ℕ} 0 1 = cc in omega arith)
no-tag false false false false false false false true i e0 e1 e2 e3 e4 e5 e6 e7 = absurd (let z : ◌≡◌ {A = ℕ} 0 1 = cc in omega arith)
no-tag false false false false false false false false true e0 e1 e2 e3 e4 e5 e6 e7 = refl
no-tag false false false false false false false false false e0 e1 e2 e3 e4 e5 e6 e7 = refl

pub no_line : (tag : ℕ) → ((n : ℕ) → 0x10 ≤ n → n ≤ 0x17 → ¬ (tag ≡ n)) → 0 ≡ line_count (entry_tagged tag)
unfolding entry_tagged
no_line tag far = no-tag (eqb tag 0x10) (eqb tag 0x11) (eqb tag 0x12) (eqb tag 0x13) (eqb tag 0x14) (eqb tag 0x15) (eqb tag 0x16) (eqb tag 0x17) (eqb tag 0x20)
    (is-not 0x10 (omega arith) (omega arith)) (is-not 0x11 (omega arith) (omega arith)) (is-not 0x12 (omega arith) (omega arith)) (is-not 0x13 (omega arith) (omega arith))
    (is-not 0x14 (omega arith) (omega arith)) (is-not 0x15 (omega arith) (omega arith)) (is-not 0x16 (omega arith) (omega arith)) (is-not 0x17 (omega arith) (omega arith))
  where
    is-not : (n : ℕ) → 0x10 ≤ n → n ≤ 0x17 → eqb tag n ≡ false
    is-not n low high = ne_eqb tag n (far n low high)

-- ---- line numbers that are held
module _ (w w' : ℕ) where
  abbrev pub held : ℕ → Bool
  held m = ltb m (256 ^ w')

  pub unsigneds-take : (n m : ℕ) (bs : List ℕ) → n * w ≤ m → unsigneds w n (take m bs) ≡ unsigneds w n bs
  unfolding unsigneds
  unsigneds-take zero m bs h = refl
  unsigneds-take (suc n) m bs h =
      let e : suc n * w ≡ w + n * w = omega (arith, suc-mul n w) in
      ap₂ (λ (x : ℕ) (xs : List ℕ). x ∷ xs) (ap unsigned (take-take w m bs (omega arith)))
      (ap (unsigneds w n) (drop-take w m bs (omega arith)) ∙ unsigneds-take n (m - w) (drop w bs) (omega arith))

  module _ (n : ℕ) (p : List ℕ) (start : ℕ) where
    abbrev pub all : Bool
    all = every held (unsigneds w n (drop start p))

    pub held_none : n ≡ 0 → true ≡ all
    unfolding every unsigneds
    held_none e = rw e

    pub held_one : n ≡ 1 → held (unsigned (take w (drop start p))) ≡ true → true ≡ all
    unfolding every unsigneds
    held_one e h = rw (e, h)

    pub held_two : ¬ (n ≡ 0) → ¬ (n ≡ 1) → n ≤ 2 → held (unsigned (take w (drop start p))) ≡ true → held (unsigned (take w (drop (start + w) p))) ≡ all
    unfolding every unsigneds
    held_two a b c h =
        let z : n ≡ 2 = omega arith in
        rw (z, h, drop-drop w start p) (and-true (ltb (unsigned (take w (drop (start + w) p))) (256 ^ w')))

    pub held-not : ¬ (n ≡ 0) → n ≤ 2 → held (unsigned (take w (drop start p))) ≡ false → false ≡ all
    unfolding every unsigneds
    held-not a c h = go n a h
      where
        go : (n : ℕ) → ¬ (n ≡ 0) → held (unsigned (take w (drop start p))) ≡ false → false ≡ every held (unsigneds w n (drop start p))
        go zero a h = absurd (a refl)
        go (suc n) a h = rw h

-- ---- one field after the other
module _ (a b : ℕ) where
  abbrev pub fits : Fields → Result (Unit {0})
  fits = each_field 10 file_proof (lines_fit (edition a) (edition b))

  abbrev pub turned : Fields → List ℕ
  turned = fields_turned (lines_turned (edition a) (edition b))

  module _ {s : List ℕ} {at c t start len next : ℕ} (k : Starts s at c t start len next) where
    abbrev pub contents : List ℕ
    contents = take len (drop start s)

    pub fits_on : lines_fit (edition a) (edition b) (item t contents) ≡ true → fits (fields_at s at) ≡ fits (fields_at s next)
    unfolding each_field
    fits_on h = ap fits k.is ∙ needs _ _ _ (rw h tt)

    pub fits-stop : lines_fit (edition a) (edition b) (item t contents) ≡ false → fits (fields_at s at) ≡ refused (answer 10 file_proof c)
    unfolding each_field
    fits-stop h = ap fits k.is ∙ fail _ _ h

    pub fit_is : (n : ℕ) → n ≡ line_count (entry_tagged t) → n * (edition a).line_width ≤ len → lines_fit (edition a) (edition b) (item t contents) ≡ every (held (edition a).line_width (edition b).line_width) (unsigneds (edition a).line_width n (drop start s))
    unfolding lines_fit
    fit_is n e h = rw (← e) (ap (every (held (edition a).line_width (edition b).line_width)) (unsigneds-take (edition a).line_width (edition b).line_width n len (drop start s) h))

    -- the line numbers of one field, and those before it
    pub fit-step : {n : ℕ} {all fit r : Bool} → n ≡ line_count (entry_tagged t) → line_count (entry_tagged t) * (edition a).line_width ≤ len
        → all ≡ every (held (edition a).line_width (edition b).line_width) (unsigneds (edition a).line_width n (drop start s)) → r ≡ (fit && all) → {R : Result (Unit {0})} → (fit ≡ true → R ≡ fits (fields_at s at)) → r ≡ true
        → R ≡ fits (fields_at s next)
    fit-step {n} {all} {fit} e h x y before z =
        let (f, g) = both_true fit all (sym y ∙ z) in
        before f ∙ fits_on (fit_is n e (rw e h) ∙ sym x ∙ g)

    pub line-room : {n : ℕ} → n ≡ line_count (entry_tagged t) → line_count (entry_tagged t) * (edition a).line_width ≤ len → start + n * (edition a).line_width ≤ length s
    line-room e h = rw e (omega (arith, h, k.upto, k.next-is))

    there-both : {w : ℕ} → LinesThere w (fields_at s at) → (line_count (entry_tagged t) * w ≤ len) × LinesThere w (fields_at s next)
    there-both {w} h = go (subst (LinesThere w) k.is h)
      where
        go : LinesThere w ((record { at = c; tag = t; contents = take len (drop start s) }) ▸ fields_at s next) → (line_count (entry_tagged t) * w ≤ len) × LinesThere w (fields_at s next)
        go (at_field x y) = (subst (λ (m : ℕ). line_count (entry_tagged t) * w ≤ m) (starts-size k) x, y)

    pub there-here : {w : ℕ} → LinesThere w (fields_at s at) → line_count (entry_tagged t) * w ≤ len
    there-here h = (there-both h).0

    pub there-on : {w : ℕ} → LinesThere w (fields_at s at) → LinesThere w (fields_at s next)
    there-on h = (there-both h).1

    -- how long the field is, turned
    pub turned-size : length (lines_turned (edition a) (edition b) (item t contents)) ≡ line_count (entry_tagged t) * (edition b).line_width + (len - line_count (entry_tagged t) * (edition a).line_width)
    turned-size =
        let n = line_count (entry_tagged t) in
        ap length (turned-is a b (item t contents)) ∙ length-append (unsigneds_bytes (edition b).line_width (unsigneds (edition a).line_width n contents)) (drop (n * (edition a).line_width) contents) ∙ ap₂ (λ (x y : ℕ). x + y) (head-size (edition a).line_width (edition b).line_width n contents) (length-drop (n * (edition a).line_width) contents ∙ ap (λ (m : ℕ). m - n * (edition a).line_width) (starts-size k))

    pub turned_on : turned (fields_at s at) ≡ field_bytes t (lines_turned (edition a) (edition b) (item t contents)) ++ turned (fields_at s next)
    unfolding fields_turned
    turned_on = ap turned k.is

    pub size-on : length (turned (fields_at s at)) ≡ 3 + (line_count (entry_tagged t) * (edition b).line_width + (len - line_count (entry_tagged t) * (edition a).line_width)) + length (turned (fields_at s next))
    size-on = ap length turned_on ∙ length-append (field_bytes t (lines_turned (edition a) (edition b) (item t contents))) (turned (fields_at s next))
        ∙ ap (λ (n : ℕ). n + length (turned (fields_at s next))) (length-field_bytes t (lines_turned (edition a) (edition b) (item t contents)) ∙ ap (λ (n : ℕ). 3 + n) turned-size)

  pub fits-ends : {fs : Fields} {c : ℕ} → fs ≡ ends c → fits fs ≡ accepted tt
  unfolding each_field
  fits-ends e = rw e

  -- where no whole field is left
  pub fits-over : (fs : Fields) {r : code.Result WholeField End} → r ≡ next_of fs → ((f : WholeField) → ¬ (r ≡ Ok f)) → fits fs ≡ accepted tt
  unfolding each_field
  fits-over (ends c) q h = refl
  fits-over (cut c) q h = refl
  fits-over (f ▸ fs) q h = absurd (h _ q)

  pub turned-over : (fs : Fields) {r : code.Result WholeField End} → r ≡ next_of fs → ((f : WholeField) → ¬ (r ≡ Ok f)) → turned fs ≡ []
  unfolding fields_turned
  turned-over (ends c) q h = refl
  turned-over (cut c) q h = refl
  turned-over (f ▸ fs) q h = absurd (h _ q)

  pub turned-ends : {fs : Fields} {c : ℕ} → fs ≡ ends c → turned fs ≡ []
  unfolding fields_turned
  turned-ends e = rw e

-- ---- widths
pub first_fits : (n w start limit : ℕ) → ¬ (n ≡ 0) → start + n * w ≤ limit → start + w ≤ limit
first_fits zero w start limit h k = absurd (h refl)
first_fits (suc n) w start limit h k = omega (arith, suc-mul n w)

pub second_fits : (n w start limit : ℕ) → ¬ (n ≡ 0) → ¬ (n ≡ 1) → start + n * w ≤ limit → start + w + w ≤ limit
second_fits zero w start limit h l k = absurd (h refl)
second_fits (suc zero) w start limit h l k = absurd (l refl)
second_fits (suc (suc n)) w start limit h l k = omega (arith, suc-mul (suc n) w, suc-mul n w)

-- ---- the sizes of fields
module _ (a b : ℕ) {s : List ℕ} {at c t start len next : ℕ} (k : Starts s at c t start len next) where
  pub there-room : (n : ℕ) → n ≡ line_count (entry_tagged t) → LinesThere (edition a).line_width (fields_at s at) → start + n * (edition a).line_width ≤ length s
  there-room n e h = rw e (omega (arith, there-here a b k h, k.upto, k.next-is))

  pub size_step : (size r : ℕ) → r ≡ line_count (entry_tagged t) * (edition b).line_width + (len - line_count (entry_tagged t) * (edition a).line_width)
      → size + length (turned a b (fields_at s at)) ≡ size + (3 + r) + length (turned a b (fields_at s next))
  size_step size r e = omega (arith, size-on a b k)

  pub spare-step : (size r : ℕ) → r ≤ len + 2 → size + (length s - at) + (length s - at) ≤ 131_072 → size + (3 + r) + (length s - next) + (length s - next) ≤ 131_072
  spare-step size r h l = omega (arith, k.upto, k.next-is, k.start_is, k.from)

  pub len-most : length s ≤ 65_536 → len ≤ 65_536
  len-most h = omega (arith, k.upto, k.next-is)

pub size-ends : (a b : ℕ) {fs : Fields} {c : ℕ} {n size : ℕ} → n ≡ size + length (turned a b fs) → fs ≡ ends c → size ≡ n
size-ends a b {fs} e f = omega (arith, e, ap length (turned-ends a b f))
