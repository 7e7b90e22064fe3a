-- The contents of a file's fields are bytes if the file is. Assumes nothing.
use mathlib.Core.Path.{◌≡◌, refl, subst}
use mathlib.Core.Option.{Option, none, some, map}
use mathlib.Core.Bool.{Bool, true, false}
use mathlib.Core.List.{List, [], ◌∷◌}
use Prim.Native.Nat.{ℕ, zero, suc, ◌+◌}
use native.Mathlib.Omega.{arith}
use lib.Dec.{leb}
use lib.ListN.{length, take, drop}
use Rattle.forms.specs.Forms.{All, nil, cons}
use Rattle.number_bytes.specs.Numbers.{Bytes, unsigned}
use Rattle.number_bytes.proofs.Signed.{all_take, all_drop}
use Rattle.fields.specs.Fields.{Field, Front, whole, broken, nothing, front, Fields, ends, cut, ◌▸◌, note, unless_note, fields_from, fields, Item, item, items}

abbrev FrontBytes : Front → Type 0
FrontBytes (whole t c after) = Bytes c × Bytes after
FrontBytes broken = Unit {0}
FrontBytes nothing = Unit {0}

abbrev FieldsBytes : Fields → Type 0
FieldsBytes (ends at) = Unit {0}
FieldsBytes (cut at) = Unit {0}
FieldsBytes (f ▸ fs) = Bytes f.contents × FieldsBytes fs

split-bytes : (b : Bool) (t n : ℕ) (bs : List ℕ) → Bytes bs → FrontBytes (elim b [ true ↦ whole t (take n bs) (drop n bs) | false ↦ broken ])
split-bytes true t n bs h = (all_take n h, all_drop n h)
split-bytes false t n bs h = tt

front_bytes : (bs : List ℕ) → Bytes bs → FrontBytes (front bs)
unfolding front
front_bytes [] h = tt
front_bytes (t ∷ []) h = tt
front_bytes (t ∷ h ∷ []) k = tt
front_bytes (t ∷ h ∷ l ∷ bs) k = split-bytes (leb (unsigned (h ∷ l ∷ [])) (length bs)) t (unsigned (h ∷ l ∷ [])) bs (all_drop 3 k)

unless-bytes : (b : Bool) (f : Field) (fs : Fields) → Bytes f.contents → FieldsBytes fs → FieldsBytes (unless_note b f fs)
unfolding unless_note
unless-bytes true f fs h k = k
unless-bytes false f fs h k = (h, k)

fields-step : (fuel at : ℕ) (bs : List ℕ) → ((p : ℕ) (cs : List ℕ) → Bytes cs → FieldsBytes (fields_from fuel p cs)) → (r : Front) → front bs ≡ r → FrontBytes r → FieldsBytes (fields_from (suc fuel) at bs)
unfolding fields_from
fields-step fuel at bs ih (whole t c after) e h = rw (e, fields_from) (unless-bytes (note t) _ _ h.0 (ih (at + 3 + length c) after h.1))
fields-step fuel at bs ih broken e h = rw (e, fields_from) tt
fields-step fuel at bs ih nothing e h = rw (e, fields_from) tt

fields-bytes : (fuel at : ℕ) (bs : List ℕ) → Bytes bs → FieldsBytes (fields_from fuel at bs)
unfolding fields_from
fields-bytes zero at bs h = tt
fields-bytes (suc fuel) at bs h = fields-step fuel at bs (fields-bytes fuel) (front bs) refl (front_bytes bs h)

-- The contents of an item are bytes.
pub record ItemBytes (i : Item) : Type 0 where
  pub bytes : Bytes i.contents

items-bytes : (fs : Fields) → FieldsBytes fs → (list : List Item) → items fs ≡ some list → All ItemBytes list
unfolding items
items-bytes (ends at) h list e = let none_left : [] ≡ list = cc in subst (All ItemBytes) none_left nil
items-bytes (cut at) h list e = absurd (let z : ◌≡◌ {A = ℕ} 0 1 = cc in omega arith)
items-bytes (f ▸ fs) h list e = go (items-bytes fs h.1) (items fs) refl e
  where
    go : ((is : List Item) → items fs ≡ some is → All ItemBytes is) → (o : Option (List Item)) → items fs ≡ o → map (λ is. item f.tag f.contents ∷ is) o ≡ some list → All ItemBytes list
    go ih none p q = absurd (let z : ◌≡◌ {A = ℕ} 0 1 = cc in omega arith)
    go ih (some is) p q = let same : item f.tag f.contents ∷ is ≡ list = cc in subst (All ItemBytes) same (cons (record { bytes = h.0 }) (ih is p))

pub contents-bytes : (file : List ℕ) → Bytes file → {list : List Item} → items (fields file) ≡ some list → All ItemBytes list
unfolding fields
contents-bytes file h {list} e = items-bytes (fields_from (length file) 0 file) (fields-bytes (length file) 0 file h) list e
