-- Two fields of bytes that state the same row are the same. Assumes nothing.
use mathlib.Core.Path.{◌≡◌, refl, sym, ◌∙◌, ap, ap₂, subst}
use mathlib.Core.Option.{Option, some}
use mathlib.Core.List.{List, [], ◌∷◌, ◌++◌}
use Prim.Native.Nat.{ℕ, ◌+◌, ◌*◌}
use native.Mathlib.Omega.{arith}
use lib.ListN.{length, take, drop, length-take, length-drop, take-append-drop, drop_of_length-le}
use lib.Seq.{drop-drop}
use Rattle.forms.specs.Edition.{Edition, edition}
use Rattle.forms.specs.Forms.{All, nil, cons}
use Rattle.calculus.specs.Rules.{Combine, Reduce, Scale, Derive, Strengthen, CloseNumber, CloseStride, Round, Split, Entry, row, claim}
use Rattle.number_bytes.specs.Numbers.{Bytes, unsigned, signed, unsigned_bytes, signed_bytes}
use Rattle.number_bytes.proofs.Signed.{all_take, all_drop, unsigned_bytes-unsigned, signed_bytes-signed}
use Rattle.fields.specs.Fields.{Item, item}
use Rattle.fields.proofs.Contents.{ItemBytes}
use Rattle.fields.proofs.HeaderLaid.{by-tag}
use Rattle.bundle.specs.Layout.{Each, nil as nil-each, cons as cons-each}
use Rattle.proof.specs.Entries.{EntryTag, combine_tag, reduce_tag, scale_tag, strengthen_tag, number_tag, stride_tag, round_tag, split_tag, claim_tag, entry_tagged, line_number, multiplier, size_of, entry_from}
use Rattle.proof.specs.Layout.{Enters}

-- ---- a number's bytes
unsigned-same : (p q : List ℕ) → Bytes p → Bytes q → length p ≡ length q → unsigned p ≡ unsigned q → p ≡ q
unsigned-same p q h g l e = sym (unsigned_bytes-unsigned p h) ∙ ap₂ unsigned_bytes l e ∙ unsigned_bytes-unsigned q g

signed_same : (p q : List ℕ) → Bytes p → Bytes q → length p ≡ length q → signed p ≡ signed q → p ≡ q
signed_same p q h g l e = sym (signed_bytes-signed p h) ∙ ap₂ signed_bytes l e ∙ signed_bytes-signed q g

-- ---- parts that cover a list, one behind the other
record Part : Type 0 where
  at : ℕ
  wide : ℕ

abbrev Covers : ℕ → List Part → ℕ → Type 0
Covers s [] n = s ≡ n
Covers s (p ∷ ps) n = (p.at ≡ s) × Covers (s + p.wide) ps n

module _ (bs cs : List ℕ) (size : length bs ≡ length cs) where
  abbrev SamePart : Part → Type 0
  SamePart p = take p.wide (drop p.at bs) ≡ take p.wide (drop p.at cs)

  from_parts : (ps : List Part) (s : ℕ) → Covers s ps (length bs) → All SamePart ps → drop s bs ≡ drop s cs
  from_parts [] s e nil = drop_of_length-le bs {i = s} (omega arith) ∙ sym (drop_of_length-le cs {i = s} (omega arith))
  from_parts (p ∷ ps) s (e, c) (cons h hs) =
      let rest : drop (s + p.wide) bs ≡ drop (s + p.wide) cs = from_parts ps (s + p.wide) c hs in
      let own : take p.wide (drop s bs) ≡ take p.wide (drop s cs) = subst (λ (a : ℕ). take p.wide (drop a bs) ≡ take p.wide (drop a cs)) e h in
      sym (take-append-drop p.wide (drop s bs)) ∙ ap₂ ◌++◌ own (drop-drop p.wide s bs ∙ rest ∙ sym (drop-drop p.wide s cs)) ∙ take-append-drop p.wide (drop s cs)

  all-parts : (ps : List Part) → Covers 0 ps (length bs) → All SamePart ps → bs ≡ cs
  all-parts ps c h = from_parts ps 0 c h

  module _ (hb : Bytes bs) (hc : Bytes cs) where
    part_length : (a w : ℕ) → length (take w (drop a bs)) ≡ length (take w (drop a cs))
    part_length a w = omega (arith, length-take w (drop a bs), length-take w (drop a cs), length-drop a bs, length-drop a cs)

    by-unsigned : (a w : ℕ) → unsigned (take w (drop a bs)) ≡ unsigned (take w (drop a cs)) → take w (drop a bs) ≡ take w (drop a cs)
    by-unsigned a w e = unsigned-same _ _ (all_take w (all_drop a hb)) (all_take w (all_drop a hc)) (part_length a w) e

    by-signed : (a w : ℕ) → signed (take w (drop a bs)) ≡ signed (take w (drop a cs)) → take w (drop a bs) ≡ take w (drop a cs)
    by-signed a w e = signed_same _ _ (all_take w (all_drop a hb)) (all_take w (all_drop a hc)) (part_length a w) e

-- ---- a row's field
abbrev part : ℕ → ℕ → Part
part a w = record { at = a; wide = w }

abbrev pub IsRow : Entry → Type 0
IsRow (row r) = Unit
IsRow (claim t t_A) = ⊥

module _ (n K : ℕ) where
  abbrev w : ℕ
  w = (edition n).line_width

  module _ (bs cs : List ℕ) (hb : Bytes bs) (hc : Bytes cs) where
    contents-same : (x : EntryTag) → length bs ≡ size_of (edition n) K x → length cs ≡ size_of (edition n) K x → IsRow (entry_from (edition n) K x bs)
        → entry_from (edition n) K x bs ≡ entry_from (edition n) K x cs → bs ≡ cs
    unfolding size_of entry_from line_number multiplier
    contents-same combine_tag lb lc r e = all-parts bs cs (lb ∙ sym lc) (part (0 * w) w ∷ part (1 * w) w ∷ part (2 * w + 0 * 2) 2 ∷ part (2 * w + 1 * 2) 2 ∷ [])
        (omega arith, (omega arith, (omega arith, (omega arith, omega arith))))
        (cons (by-unsigned bs cs (lb ∙ sym lc) hb hc (0 * w) w cc) (cons (by-unsigned bs cs (lb ∙ sym lc) hb hc (1 * w) w cc) (cons (by-unsigned bs cs (lb ∙ sym lc) hb hc (2 * w + 0 * 2) 2 cc) (cons (by-unsigned bs cs (lb ∙ sym lc) hb hc (2 * w + 1 * 2) 2 cc) nil))))
    contents-same reduce_tag lb lc r e = all-parts bs cs (lb ∙ sym lc) (part (0 * w) w ∷ part (1 * w) w ∷ part (2 * w + 0 * 2) 2 ∷ [])
        (omega arith, (omega arith, (omega arith, omega arith)))
        (cons (by-unsigned bs cs (lb ∙ sym lc) hb hc (0 * w) w cc) (cons (by-unsigned bs cs (lb ∙ sym lc) hb hc (1 * w) w cc) (cons (by-signed bs cs (lb ∙ sym lc) hb hc (2 * w + 0 * 2) 2 cc) nil)))
    contents-same scale_tag lb lc r e = all-parts bs cs (lb ∙ sym lc) (part (0 * w) w ∷ part (1 * w + 0 * 2) 2 ∷ []) (omega arith, (omega arith, omega arith))
        (cons (by-unsigned bs cs (lb ∙ sym lc) hb hc (0 * w) w cc) (cons (by-unsigned bs cs (lb ∙ sym lc) hb hc (1 * w + 0 * 2) 2 cc) nil))
    contents-same strengthen_tag lb lc r e = all-parts bs cs (lb ∙ sym lc) (part (0 * w) w ∷ []) (omega arith, omega arith) (cons (by-unsigned bs cs (lb ∙ sym lc) hb hc (0 * w) w cc) nil)
    contents-same number_tag lb lc r e = all-parts bs cs (lb ∙ sym lc) (part (0 * w) w ∷ []) (omega arith, omega arith) (cons (by-unsigned bs cs (lb ∙ sym lc) hb hc (0 * w) w cc) nil)
    contents-same stride_tag lb lc r e = all-parts bs cs (lb ∙ sym lc) (part (0 * w) w ∷ part (1 * w + 0 * 2) 2 ∷ []) (omega arith, (omega arith, omega arith))
        (cons (by-unsigned bs cs (lb ∙ sym lc) hb hc (0 * w) w cc) (cons (by-unsigned bs cs (lb ∙ sym lc) hb hc (1 * w + 0 * 2) 2 cc) nil))
    contents-same round_tag lb lc r e = all-parts bs cs (lb ∙ sym lc) (part (0 * w) w ∷ part (1 * w + 0 * 2) 2 ∷ part (1 * w + 1 * 2) 2 ∷ []) (omega arith, (omega arith, (omega arith, omega arith)))
        (cons (by-unsigned bs cs (lb ∙ sym lc) hb hc (0 * w) w cc) (cons (by-unsigned bs cs (lb ∙ sym lc) hb hc (1 * w + 0 * 2) 2 cc) (cons (by-unsigned bs cs (lb ∙ sym lc) hb hc (1 * w + 1 * 2) 2 cc) nil)))
    contents-same split_tag lb lc r e = all-parts bs cs (lb ∙ sym lc) (part (0 * w) w ∷ []) (omega arith, omega arith) (cons (by-unsigned bs cs (lb ∙ sym lc) hb hc (0 * w) w cc) nil)
    contents-same claim_tag lb lc r e = absurd r

-- ---- its tag
abbrev tag_of : Entry → EntryTag
tag_of (row (Derive (Combine _ _ _ _))) = combine_tag
tag_of (row (Derive (Reduce _ _ _))) = reduce_tag
tag_of (row (Derive (Scale _ _))) = scale_tag
tag_of (row (Strengthen _)) = strengthen_tag
tag_of (row (CloseNumber _)) = number_tag
tag_of (row (CloseStride _ _)) = stride_tag
tag_of (row (Round _ _ _)) = round_tag
tag_of (row (Split _)) = split_tag
tag_of (claim _ _) = claim_tag

from-tag : (e : Edition) (K : ℕ) (x : EntryTag) (bs : List ℕ) → tag_of (entry_from e K x bs) ≡ x
unfolding entry_from
from-tag e K combine_tag bs = refl
from-tag e K reduce_tag bs = refl
from-tag e K scale_tag bs = refl
from-tag e K strengthen_tag bs = refl
from-tag e K number_tag bs = refl
from-tag e K stride_tag bs = refl
from-tag e K round_tag bs = refl
from-tag e K split_tag bs = refl
from-tag e K claim_tag bs = refl

abbrev number_of : EntryTag → ℕ
number_of combine_tag = 0x10
number_of reduce_tag = 0x11
number_of scale_tag = 0x12
number_of strengthen_tag = 0x13
number_of number_tag = 0x14
number_of stride_tag = 0x15
number_of round_tag = 0x16
number_of split_tag = 0x17
number_of claim_tag = 0x20

is_number : (x y : EntryTag) → ◌≡◌ {A = Option EntryTag} (some x) (some y) → number_of x ≡ number_of y
is_number x y e = ap number_of (let q : x ≡ y = cc in q)

tag-number : (tag : ℕ) (x : EntryTag) → entry_tagged tag ≡ some x → tag ≡ number_of x
unfolding entry_tagged
tag-number tag x h =
    let P : ℕ → Type 0 = λ n. entry_tagged n ≡ some x → n ≡ number_of x in
    by-tag P tag 0x10 combine_tag (is_number combine_tag x) (by-tag P tag 0x11 reduce_tag (is_number reduce_tag x) (by-tag P tag 0x12 scale_tag (is_number scale_tag x) (by-tag P tag 0x13 strengthen_tag (is_number strengthen_tag x)
    (by-tag P tag 0x14 number_tag (is_number number_tag x) (by-tag P tag 0x15 stride_tag (is_number stride_tag x) (by-tag P tag 0x16 round_tag (is_number round_tag x) (by-tag P tag 0x17 split_tag (is_number split_tag x)
    (by-tag P tag 0x20 claim_tag (is_number claim_tag x) (λ e. absurd (let z : ◌≡◌ {A = ℕ} 0 1 = cc in omega arith)))))))))) h h

-- ---- the field
-- A field of bytes that states an entry.
pub record EntersBytes (n K : ℕ) (i : Item) (x : Entry) : Type 0 where
  pub enters : Enters (edition n) K i x
  pub bytes : ItemBytes i

one_field : (n K : ℕ) (i j : Item) (x : Entry) → IsRow x → EntersBytes n K i x → EntersBytes n K j x → i ≡ j
one_field n K i j x r p q =
    let h = p.enters in
    let g = q.enters in
    let s : h.tagged ≡ g.tagged = sym (from-tag (edition n) K h.tagged i.contents) ∙ ap tag_of h.entry ∙ sym (ap tag_of g.entry) ∙ from-tag (edition n) K g.tagged j.contents in
    let tags : i.tag ≡ j.tag = tag-number i.tag h.tagged h.tag ∙ ap number_of s ∙ sym (tag-number j.tag g.tagged g.tag) in
    let size : length j.contents ≡ size_of (edition n) K h.tagged = g.size ∙ ap (size_of (edition n) K) (sym s) in
    let same : entry_from (edition n) K h.tagged i.contents ≡ entry_from (edition n) K h.tagged j.contents = h.entry ∙ sym g.entry ∙ ap (λ (t : EntryTag). entry_from (edition n) K t j.contents) (sym s) in
    ap₂ item tags (contents-same n K i.contents j.contents p.bytes.bytes q.bytes.bytes h.tagged h.size size (subst IsRow (sym h.entry) r) same)

pub one_list : (n K : ℕ) {is js : List Item} {es : List Entry} → All IsRow es → Each (EntersBytes n K) is es → Each (EntersBytes n K) js es → is ≡ js
one_list n K nil nil-each nil-each = refl
one_list n K (cons {x = x} r rs) (cons-each {x = i} p ps) (cons-each {x = j} q qs) = ap₂ ◌∷◌ (one_field n K i j x r p q) (one_list n K rs ps qs)
