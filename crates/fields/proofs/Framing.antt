-- A file is read back as the fields of which it was made. Assumes nothing.
use mathlib.Core.Path.{◌≡◌, refl, sym, ap, ◌∙◌}
use mathlib.Core.Option.{some}
use mathlib.Core.Bool.{Bool, true, false}
use mathlib.Core.List.{List, [], ◌∷◌, ◌++◌}
use Prim.Native.Nat.{ℕ, zero, suc, ◌+◌, ◌/◌, ◌%◌, ◌≤◌, ◌<◌}
use native.Mathlib.Omega.{arith}
use lib.Dec.{leb}
use lib.ListN.{length, take, drop, length-append, length-drop}
use lib.Seq.{take_at, drop_at}
use borrow.Author.Tests.{le-leb}
use Rattle.forms.specs.Forms.{All, nil, cons}
use Rattle.number_bytes.specs.Numbers.{unsigned, unsigned_bytes}
use Rattle.number_bytes.proofs.Signed.{unsigned-unsigned_bytes}
use Rattle.fields.specs.Fields.{Field, Front, whole, broken, nothing, front, Fields, ends, cut, note, unless_note, fields_from, fields, field_bytes, Item, item, items, Framed, file_of, unless_note_item, without_notes}

-- ---- what a list of bytes begins with
-- What follows three header bytes, where the length stated is n.
contained : (tag n : ℕ) → List ℕ → Front
contained tag n bs = elim (leb n (length bs)) [ true ↦ whole tag (take n bs) (drop n bs) | false ↦ broken ]

front-header : (t h l : ℕ) (bs : List ℕ) → front (t ∷ h ∷ l ∷ bs) ≡ contained t (unsigned (h ∷ l ∷ [])) bs
unfolding front contained
front-header t h l bs = refl

contained-whole : (tag n : ℕ) (contents bs : List ℕ) → length contents ≡ n → contained tag n (contents ++ bs) ≡ whole tag contents bs
unfolding contained
contained-whole tag n contents bs e =
    let fits : n ≤ length (contents ++ bs) = rw length-append (omega arith) in
    rw (le-leb _ _ fits, contained) (rw (take_at contents bs n e, drop_at contents bs n e))

-- A whole field in front.
pub front-whole : (tag : ℕ) (contents bs : List ℕ) → length contents < 0x10000 → front (field_bytes tag contents ++ bs) ≡ whole tag contents bs
unfolding field_bytes unsigned_bytes
front-whole tag contents bs h =
    let n = length contents in
    front-header tag (n / 256 % 256) (n % 256) (contents ++ bs)
    ∙ contained-whole tag _ contents bs (sym (unsigned-unsigned_bytes 2 n h))

-- What follows the field, if one is in front, has less than n bytes.
abbrev Shorter : Front → ℕ → Type 0
Shorter (whole tag contents after) n = length after < n
Shorter broken n = Unit
Shorter nothing n = Unit

shorter : (bs : List ℕ) → Shorter (front bs) (length bs)
unfolding front
shorter [] = tt
shorter (t ∷ []) = tt
shorter (t ∷ h ∷ []) = tt
shorter (t ∷ h ∷ l ∷ bs) = go (leb n (length bs))
  where
    n : ℕ
    n = unsigned (h ∷ l ∷ [])

    go : (b : Bool) → Shorter (elim b [ true ↦ whole t (take n bs) (drop n bs) | false ↦ broken ]) (length (t ∷ h ∷ l ∷ bs))
    go true = rw length-drop (omega arith)
    go false = tt

pub length-field_bytes : (tag : ℕ) (contents : List ℕ) → length (field_bytes tag contents) ≡ 3 + length contents
unfolding field_bytes unsigned_bytes
length-field_bytes tag contents = omega arith

-- What follows a whole field is shorter.
pub front-shorter : (bs : List ℕ) {tag : ℕ} {contents after : List ℕ} → front bs ≡ whole tag contents after → length after < length bs
front-shorter bs e = rw e at (shorter bs)

-- ---- the fields of a file
module _ (fuel at : ℕ) (bs : List ℕ) where
  pub from_nothing : front bs ≡ nothing → fields_from (suc fuel) at bs ≡ ends at
  unfolding fields_from
  from_nothing e = rw (e, fields_from)

  pub from-broken : front bs ≡ broken → fields_from (suc fuel) at bs ≡ cut at
  unfolding fields_from
  from-broken e = rw (e, fields_from)

  pub from-whole : {tag : ℕ} {contents after : List ℕ} → front bs ≡ whole tag contents after
      → fields_from (suc fuel) at bs ≡ unless_note (note tag) (record { at = at; tag = tag; contents = contents }) (fields_from fuel (at + 3 + length contents) after)
  unfolding fields_from
  from-whole e = rw (e, fields_from)

fuel-step : (n m at : ℕ) (bs : List ℕ) → ((at : ℕ) (after : List ℕ) → length after < length bs → fields_from n at after ≡ fields_from m at after)
    → (x : Front) → front bs ≡ x → fields_from (suc n) at bs ≡ fields_from (suc m) at bs
fuel-step n m at bs ih nothing e = from_nothing n at bs e ∙ sym (from_nothing m at bs e)
fuel-step n m at bs ih broken e = from-broken n at bs e ∙ sym (from-broken m at bs e)
fuel-step n m at bs ih (whole tag contents after) e =
    from-whole n at bs e ∙ ap (unless_note (note tag) _) (ih _ after (front-shorter bs e)) ∙ sym (from-whole m at bs e)

-- The fuel does not matter where it is enough.
pub fuel-irrelevant : (n m at : ℕ) (bs : List ℕ) → length bs ≤ n → length bs ≤ m → fields_from n at bs ≡ fields_from m at bs
unfolding fields_from front
fuel-irrelevant zero zero at bs h l = refl
fuel-irrelevant zero (suc m) at [] h l = refl
fuel-irrelevant zero (suc m) at (b ∷ bs) h l = absurd (omega arith)
fuel-irrelevant (suc n) zero at [] h l = refl
fuel-irrelevant (suc n) zero at (b ∷ bs) h l = absurd (omega arith)
fuel-irrelevant (suc n) (suc m) at bs h l =
    fuel-step n m at bs (λ at₁ after s. fuel-irrelevant n m at₁ after (omega arith) (omega arith)) (front bs) refl

-- The fields of these bytes, which start at a place.
abbrev pub fields_starting : (at : ℕ) → List ℕ → Fields
fields_starting at bs = fields_from (length bs) at bs

module _ (at : ℕ) (bs : List ℕ) where
  more-fuel : fields_starting at bs ≡ fields_from (suc (length bs)) at bs
  more-fuel = fuel-irrelevant (length bs) (suc (length bs)) at bs (omega arith) (omega arith)

  pub fields_at-whole : {tag : ℕ} {contents after : List ℕ} → front bs ≡ whole tag contents after
      → fields_starting at bs ≡ unless_note (note tag) (record { at = at; tag = tag; contents = contents }) (fields_starting (at + 3 + length contents) after)
  fields_at-whole {tag} {contents} {after} e =
      let s : length after < length bs = front-shorter bs e in
      more-fuel
      ∙ from-whole (length bs) at bs e
      ∙ ap (unless_note (note tag) _) (fuel-irrelevant (length bs) (length after) (at + 3 + length contents) after (omega arith) (omega arith))

-- A field as its writer puts it, and then anything.
pub fields_at-field : (at : ℕ) (i : Item) → Framed i → (bs : List ℕ)
    → fields_starting at (field_bytes i.tag i.contents ++ bs)
    ≡ unless_note (note i.tag) (record { at = at; tag = i.tag; contents = i.contents }) (fields_starting (at + 3 + length i.contents) bs)
fields_at-field at i h bs = fields_at-whole at _ (front-whole i.tag i.contents bs h.framed)

-- ---- the fields of a file are those that its writer listed, notes left out
items-unless_note : (b : Bool) (f : Field) (fs : Fields) (is : List Item) → items fs ≡ some is
    → items (unless_note b f fs) ≡ some (unless_note_item b (item f.tag f.contents) is)
unfolding items unless_note unless_note_item
items-unless_note true f fs is e = e
items-unless_note false f fs is e = rw e

items-from : (at : ℕ) {F : List Item} → All Framed F → items (fields_starting at (file_of F)) ≡ some (without_notes F)
unfolding items fields_from file_of without_notes
items-from at nil = refl
items-from at (cons {x = i} {xs = is} h hs) =
    ap items (fields_at-field at i h (file_of is)) ∙ items-unless_note (note i.tag) _ _ _ (items-from (at + 3 + length i.contents) hs)

pub items-file_of : (F : List Item) → All Framed F → items (fields (file_of F)) ≡ some (without_notes F)
unfolding fields
items-file_of F h = items-from 0 h
