-- The shorter table as a file: its fields are whole and no notes, its line numbers fit their bytes, and it is not longer than the proof. Assumes nothing.
use mathlib.Core.Path.{◌≡◌, refl, sym, ◌∙◌, ap}
use mathlib.Core.Option.{Option, none, some, map}
use mathlib.Core.Bool.{Bool, true, false, cond}
use mathlib.Core.List.{List, [], ◌∷◌, ◌++◌, append_assoc}
use Prim.Native.Nat.{ℕ, zero, suc, ◌+◌, ◌^◌, ◌≤◌, ◌<◌}
use native.Mathlib.Omega.{arith}
use lib.Dec.{eqb, leb}
use lib.Seq.{length-take-le}
use borrow.Author.Tests.{leb-true}
use lib.ListN.{length, take, drop, length-append, length-drop}
use Rattle.forms.specs.Edition.{Edition, edition, edition1}
use Rattle.forms.specs.Forms.{Form, Line, Formula, All, nil, cons}
use Rattle.calculus.specs.Rules.{◌▷◌, New, combine, reduce, scale, inference, Closed, derive, strengthen, round, split_eq, split_neq, number, stride, Rounded, last, more, Derive, Strengthen, Round, Split, CloseNumber, CloseStride, Entry, row, claim, claims, entries, entries_rounded}
use Rattle.number_bytes.specs.Numbers.{unsigned}
use Rattle.fields.specs.Fields.{Field, Front, whole, broken, nothing, front, Fields, ends, cut, ◌▸◌, note, unless_note, fields_from, fields, field_bytes, Item, item, items, Framed, file_of, unless_note_item, without_notes}
use Rattle.fields.specs.Header.{header_bytes}
use Rattle.fields.proofs.HeaderLaid.{by-tag}
use Rattle.fields.proofs.Framing.{length-field_bytes, from_nothing, from-broken, from-whole, items-file_of}
use Rattle.bundle.specs.Layout.{Each}
use Rattle.proof.specs.Entries.{EntryTag, combine_tag, reduce_tag, scale_tag, strengthen_tag, number_tag, stride_tag, round_tag, split_tag, claim_tag, entry_tagged, line_count, size_of}
use Rattle.proof.specs.Layout.{Enters}
use Rattle.shortening.specs.Passes.{Retention, goes, stays, remaining}
use Rattle.shortening.specs.Shorten.{list_of, renumber_item}
use Rattle.shortening.proofs.Renumbering.{Below, InferenceBelow, anew, length-put}
use Rattle.shortening.proofs.Without.{length-▷, nth-below}

-- ---- line numbers
inference-below : (n : ℕ) {ls : List Line} {l : Line} (s : New ls l) → length ls ≤ n → InferenceBelow n (inference s)
inference-below n {ls} (combine i j _ _ a b _ _) h = (omega (arith, h, nth-below ls _ i a), omega (arith, h, nth-below ls _ j b))
inference-below n {ls} (reduce i j _ a b _) h = (omega (arith, h, nth-below ls _ i a), omega (arith, h, nth-below ls _ j b))
inference-below n {ls} (scale i _ a _) h = omega (arith, h, nth-below ls _ i a)

claims-below : (n : ℕ) (claimed : Bool) (l : Line) {es : List Entry} → All (Below n) es → All (Below n) (claims claimed l es)
claims-below n true l h = cons {x = claim l.t l.t_A} tt h
claims-below n false l h = h

longer : {n : ℕ} (ls : List Line) (l : Line) → length ls < n → length (ls ▷ l) ≤ n
longer ls l h = omega (arith, h, length-▷ ls l)

module _ {e : Edition} {in_b : ℕ → Bool} where
  mutual
    -- every line number of a closed branch is that of one of its lines
    pub entries_below : {ls : List Line} {I : Formula} (p : Closed e in_b ls I) → length ls ≤ e.lines → (rest : List Entry) → All (Below e.lines) rest → All (Below e.lines) (entries p rest)
    entries_below (derive {ls = ls} {l = l} claimed n room p) h rest b = cons {x = row (Derive (inference n))} (inference-below e.lines n h) (claims-below e.lines claimed l (entries_below p (longer ls l room.below) rest b))
    entries_below (strengthen {ls = ls} i at room p1 pE p0) h rest b = cons {x = row (Strengthen i)} (omega (arith, h, nth-below ls _ i at))
        (entries_below p1 (longer ls _ room.below) _ (entries_below pE (longer ls _ room.below) _ (entries_below p0 (longer ls _ room.below) rest b)))
    entries_below (round {ls = ls} i g k r p ps) h rest b = cons {x = row (Round i g k)} (omega (arith, h, nth-below ls _ i r.at))
        (entries_below p (longer ls _ r.room.below) _ (rounded-below ps r.room.below rest b))
    entries_below (split_eq {ls = ls} i at room _ p q) h rest b = cons {x = row (Split i)} (omega (arith, h, nth-below ls _ i at))
        (entries_below p (longer ls _ room.below) _ (entries_below q (longer ls _ room.below) rest b))
    entries_below (split_neq {ls = ls} i at room _ p q) h rest b = cons {x = row (Split i)} (omega (arith, h, nth-below ls _ i at))
        (entries_below p (longer ls _ room.below) _ (entries_below q (longer ls _ room.below) rest b))
    entries_below (number {ls = ls} i at _ _) h rest b = cons {x = row (CloseNumber i)} (omega (arith, h, nth-below ls _ i at)) b
    entries_below (stride {ls = ls} i g at _ _ _ _) h rest b = cons {x = row (CloseStride i g)} (omega (arith, h, nth-below ls _ i at)) b

    rounded-below : {ls : List Line} {t t_A : Form} {g k j : ℕ} {I : Formula} (p : Rounded e in_b ls t t_A g k j I) → length ls < e.lines → (rest : List Entry) → All (Below e.lines) rest
        → All (Below e.lines) (entries_rounded p rest)
    rounded-below (last {ls = ls} _ _ p) h rest b = entries_below p (longer ls _ h) rest b
    rounded-below (more {ls = ls} _ _ p ps) h rest b = entries_below p (longer ls _ h) _ (rounded-below ps h rest b)

-- an edition's line numbers have room for its lines
pub lines_fit : (n : ℕ) → (edition n).lines ≤ 256 ^ (edition n).line_width
lines_fit n = by (eqb n 1)
  where
    by : (b : Bool) → cond b 128 1_000 ≤ 256 ^ cond b 1 2
    by true = omega arith
    by false = omega arith

-- ---- fields
entry-no-note : (tag : ℕ) (x : EntryTag) → entry_tagged tag ≡ some x → note tag ≡ false
unfolding entry_tagged note
entry-no-note tag x h =
    let P : ℕ → Type 0 = λ n. note n ≡ false in
    by-tag P tag 0x10 combine_tag refl (by-tag P tag 0x11 reduce_tag refl (by-tag P tag 0x12 scale_tag refl (by-tag P tag 0x13 strengthen_tag refl
    (by-tag P tag 0x14 number_tag refl (by-tag P tag 0x15 stride_tag refl (by-tag P tag 0x16 round_tag refl (by-tag P tag 0x17 split_tag refl
    (by-tag P tag 0x20 claim_tag refl (λ e. absurd (let z : ◌≡◌ {A = ℕ} 0 1 = cc in omega arith)))))))))) h

pub line-width : (n : ℕ) → (edition n).line_width ≤ 2
line-width n = by (eqb n 1)
  where
    by : (b : Bool) → cond b 1 2 ≤ 2
    by true = omega arith
    by false = omega arith

module _ (n K : ℕ) (high : K ≤ edition1.constants) where
  size-framed : (x : EntryTag) → size_of (edition n) K x < 0x10000
  unfolding size_of
  size-framed combine_tag = omega (arith, line-width n)
  size-framed reduce_tag = omega (arith, line-width n)
  size-framed scale_tag = omega (arith, line-width n)
  size-framed strengthen_tag = omega (arith, line-width n)
  size-framed number_tag = omega (arith, line-width n)
  size-framed stride_tag = omega (arith, line-width n)
  size-framed round_tag = omega (arith, line-width n)
  size-framed split_tag = omega (arith, line-width n)
  size-framed claim_tag = omega (arith, high)

  framed : {is : List Item} {es : List Entry} → Each (Enters (edition n) K) is es → All Framed is
  framed Each.nil = nil
  framed (Each.cons {x = i} h hs) = cons {x = i} (record { framed = omega (arith, h.size, size-framed h.tagged) }) (framed hs)

no_notes : {e : Edition} {K : ℕ} {is : List Item} {es : List Entry} → Each (Enters e K) is es → without_notes is ≡ is
unfolding without_notes unless_note_item
no_notes Each.nil = refl
no_notes (Each.cons {x = i} {xs = is} h hs) = ap (λ (b : Bool). unless_note_item b i (without_notes is)) (entry-no-note i.tag h.tagged h.tag) ∙ ap (λ (js : List Item). i ∷ js) (no_notes hs)

-- the header and fields that state entries, read back
pub table-items : (n K : ℕ) → K ≤ edition1.constants → {is : List Item} {es : List Entry} → Each (Enters (edition n) K) is es
    → items (fields (header_bytes n K ++ file_of is)) ≡ some (item 0x01 (n ∷ []) ∷ item 0x02 (K ∷ []) ∷ is)
unfolding header_bytes file_of without_notes unless_note_item note
table-items n K high {is} h =
    ap (λ (bs : List ℕ). items (fields bs)) (append_assoc (field_bytes 0x01 (n ∷ [])) (field_bytes 0x02 (K ∷ [])) (file_of is))
    ∙ items-file_of (item 0x01 (n ∷ []) ∷ item 0x02 (K ∷ []) ∷ is) (cons (record { framed = omega arith }) (cons (record { framed = omega arith }) (framed n K high h)))
    ∙ ap (λ (js : List Item). some (item 0x01 (n ∷ []) ∷ item 0x02 (K ∷ []) ∷ js)) (no_notes h)

-- the fields of a file, one by one
pub record Onward (f : Field) (fs : Fields) (is : List Item) : Type 0 where
  pub others : List Item
  pub rest : items fs ≡ some others
  pub are : is ≡ item f.tag f.contents ∷ others

pub onward : (f : Field) (fs : Fields) (is : List Item) → items (f ▸ fs) ≡ some is → Onward f fs is
unfolding items
onward f fs is h = go (items fs) refl h
  where
    go : (o : Option (List Item)) → items fs ≡ o → map (λ (js : List Item). item f.tag f.contents ∷ js) o ≡ some is → Onward f fs is
    go none q p = absurd (let z : ◌≡◌ {A = ℕ} 0 1 = cc in omega arith)
    go (some js) q p = record { others = js; rest = q; are = (let z : is ≡ item f.tag f.contents ∷ js = cc in z) }

pub ended : (at : ℕ) (is : List Item) → items (ends at) ≡ some is → is ≡ []
unfolding items
ended at is h = cc

pub never-cut : (at : ℕ) (is : List Item) → items (cut at) ≡ some is → ⊥
unfolding items
never-cut at is h = let z : ◌≡◌ {A = ℕ} 0 1 = cc in omega arith

pub listed-items : (fs : Fields) (is : List Item) → items fs ≡ some is → list_of fs ≡ is
listed-items (ends at) is h = sym (ended at is h)
listed-items (cut at) is h = absurd (never-cut at is h)
listed-items (f ▸ fs) is h =
    let x = onward f fs is h in
    ap (λ (js : List Item). item f.tag f.contents ∷ js) (listed-items fs x.others x.rest) ∙ sym x.are

-- ---- lengths
-- what follows a field, and the field, make up the bytes
abbrev AddsUp : Front → ℕ → Type 0
AddsUp (whole tag contents after) n = 3 + length contents + length after ≡ n
AddsUp broken n = Unit
AddsUp nothing n = Unit

adds_up : (bs : List ℕ) → AddsUp (front bs) (length bs)
unfolding front
adds_up [] = tt
adds_up (t ∷ []) = tt
adds_up (t ∷ h ∷ []) = tt
adds_up (t ∷ h ∷ l ∷ bs) = go (leb n (length bs)) refl
  where
    n : ℕ
    n = unsigned (h ∷ l ∷ [])

    go : (b : Bool) → leb n (length bs) ≡ b → AddsUp (elim b [ true ↦ whole t (take n bs) (drop n bs) | false ↦ broken ]) (length (t ∷ h ∷ l ∷ bs))
    go true e = rw (length-take-le n bs (leb-true n (length bs) e), length-drop) (omega (arith, leb-true n (length bs) e))
    go false e = tt

whole_length : (bs : List ℕ) {tag : ℕ} {contents after : List ℕ} → front bs ≡ whole tag contents after → 3 + length contents + length after ≡ length bs
whole_length bs e = rw e at (adds_up bs)

no_bytes : length (file_of []) ≡ 0
unfolding file_of
no_bytes = refl

pub more_bytes : (i : Item) (is : List Item) → length (file_of (i ∷ is)) ≡ 3 + length i.contents + length (file_of is)
unfolding file_of
more_bytes i is = length-append (field_bytes i.tag i.contents) (file_of is) ∙ ap (λ (n : ℕ). n + length (file_of is)) (length-field_bytes i.tag i.contents)

unless-length : (b : Bool) (f : Field) (fs : Fields) (n : ℕ) → ((is : List Item) → items fs ≡ some is → length (file_of is) ≤ n) → (is : List Item) → items (unless_note b f fs) ≡ some is
    → length (file_of is) ≤ 3 + length f.contents + n
unfolding unless_note
unless-length true f fs n k is h = omega (arith, k is h)
unless-length false f fs n k is h =
    let x = onward f fs is h in
    omega (arith, k x.others x.rest, ap (λ (js : List Item). length (file_of js)) x.are, more_bytes (item f.tag f.contents) x.others)

from_front : (fuel at : ℕ) (bs : List ℕ) (is : List Item) → ((at : ℕ) (after : List ℕ) (js : List Item) → items (fields_from fuel at after) ≡ some js → length (file_of js) ≤ length after)
    → items (fields_from (suc fuel) at bs) ≡ some is → (x : Front) → front bs ≡ x → length (file_of is) ≤ length bs
from_front fuel at bs is ih h nothing e = omega (arith, ap (λ (js : List Item). length (file_of js)) (ended at is (sym (ap items (from_nothing fuel at bs e)) ∙ h)), no_bytes)
from_front fuel at bs is ih h broken e = absurd (never-cut at is (sym (ap items (from-broken fuel at bs e)) ∙ h))
from_front fuel at bs is ih h (whole tag contents after) e = omega (
  arith,
  whole_length bs e,
  unless-length (note tag) (record { at = at; tag = tag; contents = contents }) (fields_from fuel (at + 3 + length contents) after) (length after)
      (λ js q. ih (at + 3 + length contents) after js q) is (sym (ap items (from-whole fuel at bs e)) ∙ h),
)

from-length : (fuel at : ℕ) (bs : List ℕ) (is : List Item) → items (fields_from fuel at bs) ≡ some is → length (file_of is) ≤ length bs
unfolding fields_from
from-length zero at bs is h = omega (arith, ap (λ (js : List Item). length (file_of js)) (ended at is h), no_bytes)
from-length (suc fuel) at bs is h = from_front fuel at bs is (λ at1 after js q. from-length fuel at1 after js q) h (front bs) refl

pub file-length : (file : List ℕ) (is : List Item) → items (fields file) ≡ some is → length (file_of is) ≤ length file
unfolding fields
file-length file is h = from-length (length file) 0 file is h

-- the fields that are left have no more bytes
pub left-length : (e : Edition) (K : ℕ) (ds : List Retention) {is : List Item} {es : List Entry} → Each (Enters e K) is es → length (file_of (remaining (renumber_item e) ds is)) ≤ length (file_of is)
left-length e K [] h = omega (arith, no_bytes)
left-length e K (d ∷ ds) Each.nil = omega (arith, no_bytes)
left-length e K (goes ∷ ds) (Each.cons {x = i} {xs = is} r h) = omega (arith, more_bytes i is, left-length e K ds h)
left-length e K (stays f ∷ ds) (Each.cons {x = i} {xs = is} r h) =
    let same : length (renumber_item e f i).contents ≡ length i.contents = ap (λ (o : Option EntryTag). length (anew e.line_width f (line_count o) i.contents)) r.tag ∙ length-put e K f r.tagged i.contents r.size ∙ sym r.size in
    omega (arith, more_bytes (renumber_item e f i) (remaining (renumber_item e) ds is), more_bytes i is, same, left-length e K ds h)

pub table-list : (n K : ℕ) (is : List Item) → header_bytes n K ++ file_of is ≡ file_of (item 0x01 (n ∷ []) ∷ item 0x02 (K ∷ []) ∷ is)
unfolding header_bytes file_of
table-list n K is = append_assoc (field_bytes 0x01 (n ∷ [])) (field_bytes 0x02 (K ∷ [])) (file_of is)

pub table-length : (n K : ℕ) (is : List Item) → length (header_bytes n K ++ file_of is) ≡ length (file_of (item 0x01 (n ∷ []) ∷ item 0x02 (K ∷ []) ∷ is))
table-length n K is = ap length (table-list n K is)
