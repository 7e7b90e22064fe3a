-- A file as its fields. Notes are dealt with here, and nothing above ever sees one. docs/FORMAT.md, "Bytes and fields". Assumes nothing.
use Rattle.std.specs.Prelude.{◌≡◌, ◌⊎◌, Bool, true, false, List, [], ◌∷◌, ◌++◌, ℕ, zero, suc, ◌+◌, ◌<◌, ◌≤◌, leb, length, take, drop}
use Rattle.std.proofs.Math.Option.{Option, none, some, map}
use Rattle.number_bytes.specs.Numbers.{unsigned, unsigned_bytes}

-- Every file is fields: one-byte tag, two-byte length, contents. `at` is the byte at which the field starts.
pub record Field : Type 0 where
  pub at : ℕ
  pub tag : ℕ
  pub contents : List ℕ

-- What a list of bytes begins with: a whole field and what follows it, bytes that are no whole field, or nothing.
pub data Front : Type 0 where
  whole : (tag : ℕ) (contents after : List ℕ) → Front
  broken : Front
  nothing : Front

-- A field is whole if its three header bytes and all its contents are there.
unfoldable pub front : List ℕ → Front
front [] = nothing
front (t ∷ []) = broken
front (t ∷ h ∷ []) = broken
front (t ∷ h ∷ l ∷ bs) =
    let n : ℕ = unsigned (h ∷ l ∷ []) in
    elim (leb n (length bs)) [ true ↦ whole t (take n bs) (drop n bs) | false ↦ broken ]

-- The fields of a file from a place on, notes left out: up to its end, or up to bytes that are no whole field.
infixr 5 ◌▸◌
pub data Fields : Type 0 where
  ends : (at : ℕ) → Fields
  cut : (at : ℕ) → Fields
  ◌▸◌ : Field → Fields → Fields

-- Tags 0x80 to 0xFF are notes, allowed anywhere and passed over.
unfoldable pub note : ℕ → Bool
note tag = leb 0x80 tag

unfoldable pub unless_note : Bool → Field → Fields → Fields
unless_note true f fs = fs
unless_note false f fs = f ▸ fs

-- (`fuel` bounds the number of fields by that of bytes.)
unfoldable pub fields_from : (fuel at : ℕ) → List ℕ → Fields
fields_from zero at bs = ends at
fields_from (suc fuel) at bs = elim (front bs) [
  | nothing ↦ ends at
  | broken ↦ cut at
  | whole tag contents after ↦ unless_note (note tag) (record { at = at; tag = tag; contents = contents }) (fields_from fuel (at + 3 + length contents) after)
]

unfoldable pub fields : List ℕ → Fields
fields file = fields_from (length file) 0 file

-- The bytes of a field.
unfoldable pub field_bytes : (tag : ℕ) → List ℕ → List ℕ
field_bytes tag contents = tag ∷ unsigned_bytes 2 (length contents) ++ contents

-- The i-th field.
unfoldable pub nth : ℕ → Fields → Option Field
nth i (ends at) = none
nth i (cut at) = none
nth zero (f ▸ fs) = some f
nth (suc i) (f ▸ fs) = nth i fs

-- ---- a file as its writer lists it
-- A field apart from its place.
pub record Item : Type 0 where
  pub tag : ℕ
  pub contents : List ℕ

abbrev pub item : ℕ → List ℕ → Item
item tag contents = record { tag = tag; contents = contents }

-- The fields of a file that is whole fields to its end; none of any other file.
unfoldable pub items : Fields → Option (List Item)
items (ends at) = some []
items (cut at) = none
items (f ▸ fs) = map (λ is. item f.tag f.contents ∷ is) (items fs)

-- The framing is kept: the length fits its two bytes.
pub record Framed (i : Item) : Type 0 where
  pub framed : length i.contents < 0x10000

-- His file is these fields, whole, end to end.
unfoldable pub file_of : List Item → List ℕ
file_of [] = []
file_of (i ∷ is) = field_bytes i.tag i.contents ++ file_of is

-- The list without notes.
unfoldable pub unless_note_item : Bool → Item → List Item → List Item
unless_note_item true i is = is
unless_note_item false i is = i ∷ is

unfoldable pub without_notes : List Item → List Item
without_notes [] = []
without_notes (i ∷ is) = unless_note_item (note i.tag) i (without_notes is)

-- ys is xs with whole notes put in wherever the file so far is whole fields only, or nothing.
pub data Noted : List ℕ → List ℕ → Type 0 where
  same : {xs : List ℕ} → Noted xs xs
  noted : {xs ys : List ℕ} (i : Item) → Framed i → 0x80 ≤ i.tag → Noted xs ys → Noted xs (field_bytes i.tag i.contents ++ ys)
  passed : {xs ys : List ℕ} (i : Item) → Framed i → Noted xs ys → Noted (field_bytes i.tag i.contents ++ xs) (field_bytes i.tag i.contents ++ ys)

-- A file that gets notes stays within its length: ys is xs, or not longer than the limit.
abbrev pub Kept : (limit : ℕ) (xs ys : List ℕ) → Type 0
Kept limit xs ys = (ys ≡ xs) ⊎ (length ys ≤ limit)
