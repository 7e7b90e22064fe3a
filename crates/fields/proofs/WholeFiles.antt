-- A file of bytes that is whole fields is the file of a list of framed fields. Assumes nothing.
use mathlib.Core.Path.{◌≡◌, refl, sym, ◌∙◌, ap, subst}
use mathlib.Core.Option.{Option, none, some, map}
use mathlib.Core.Bool.{Bool, true, false}
use mathlib.Core.List.{List, [], ◌∷◌, ◌++◌}
use Prim.Native.Nat.{ℕ, zero, suc, ◌+◌, ◌≤◌, ◌<◌}
use native.Mathlib.Omega.{arith}
use lib.Dec.{leb}
use lib.ListN.{length, take, drop, take-append-drop}
use lib.Seq.{length-take-le}
use borrow.Author.Tests.{leb-true}
use Rattle.forms.specs.Forms.{All, nil, cons}
use Rattle.number_bytes.specs.Numbers.{Bytes, unsigned, unsigned_bytes}
use Rattle.number_bytes.proofs.Signed.{all_take, all_drop, unsigned-below, unsigned_bytes-unsigned}
use Rattle.fields.specs.Fields.{Field, Front, whole, broken, nothing, front, Fields, note, unless_note, fields_from, fields, field_bytes, Item, item, items, Framed, file_of}
use Rattle.fields.proofs.Framing.{front-shorter, from-broken, from-whole}
use Rattle.fields.proofs.Contents.{ItemBytes}

-- ---- what bytes begin with
-- These bytes are a framed field, and then others.
pub record Begins (bs : List ℕ) (tag : ℕ) (contents after : List ℕ) : Type 0 where
  pub are : bs ≡ field_bytes tag contents ++ after
  pub framed : length contents < 0x10000
  pub bytes : Bytes contents
  pub rest : Bytes after

abbrev OnFront : List ℕ → Front → Type 0
OnFront bs (whole tag contents after) = Begins bs tag contents after
OnFront bs broken = Unit {0}
OnFront bs nothing = bs ≡ []

-- Where the length stated is there.
header-begins : (t h l : ℕ) (bs : List ℕ) → Bytes (t ∷ h ∷ l ∷ bs) → (n : ℕ) → unsigned (h ∷ l ∷ []) ≡ n → n ≤ length bs → Begins (t ∷ h ∷ l ∷ bs) t (take n bs) (drop n bs)
unfolding field_bytes
header-begins t h l bs (cons _ k) n e f =
    let two : Bytes (h ∷ l ∷ []) = all_take 2 k in
    let own : length (take n bs) ≡ n = length-take-le n bs f in
    let below : unsigned (h ∷ l ∷ []) < 0x10000 = unsigned-below (h ∷ l ∷ []) two in
    let size : unsigned_bytes 2 (length (take n bs)) ≡ h ∷ l ∷ [] = ap (unsigned_bytes 2) (own ∙ sym e) ∙ unsigned_bytes-unsigned (h ∷ l ∷ []) two in
    record {
      are = sym (ap (λ (hl : List ℕ). t ∷ ((hl ++ take n bs) ++ drop n bs)) size ∙ ap (λ (xs : List ℕ). t ∷ h ∷ l ∷ xs) (take-append-drop n bs));
      framed = omega arith;
      bytes = all_take n (all_drop 2 k);
      rest = all_drop n (all_drop 2 k);
    }

front-begins : (bs : List ℕ) → Bytes bs → OnFront bs (front bs)
unfolding front
front-begins [] k = refl
front-begins (t ∷ []) k = tt
front-begins (t ∷ h ∷ []) k = tt
front-begins (t ∷ h ∷ l ∷ bs) k = go (leb n (length bs)) refl
  where
    n : ℕ
    n = unsigned (h ∷ l ∷ [])

    go : (b : Bool) → leb n (length bs) ≡ b → OnFront (t ∷ h ∷ l ∷ bs) (elim b [ true ↦ whole t (take n bs) (drop n bs) | false ↦ broken ])
    go true e = header-begins t h l bs k n refl (leb-true n (length bs) e)
    go false e = tt

-- A whole field in front, the other way: it is what its writer puts.
pub whole-front : (bs : List ℕ) → Bytes bs → {tag : ℕ} {contents after : List ℕ} → front bs ≡ whole tag contents after → Begins bs tag contents after
whole-front bs k e = subst (OnFront bs) e (front-begins bs k)

-- ---- the fields of a file
-- The file is the list's, end to end.
pub record FileOf (file : List ℕ) : Type 0 where
  pub list : List Item
  pub are : file ≡ file_of list
  pub framed : All Framed list
  pub bytes : All ItemBytes list

-- What follows whole fields is whole fields.
items-rest : (b : Bool) (f : Field) (fs : Fields) {is : List Item} → items (unless_note b f fs) ≡ some is → (js : List Item) × (items fs ≡ some js)
unfolding items unless_note
items-rest true f fs {is} e = (is, e)
items-rest false f fs {is} e = go (items fs) refl e
  where
    go : (o : Option (List Item)) → items fs ≡ o → map (λ (js : List Item). item f.tag f.contents ∷ js) o ≡ some is → (js : List Item) × (items fs ≡ some js)
    go none q p = absurd (let z : ◌≡◌ {A = ℕ} 0 1 = cc in omega arith)
    go (some js) q p = (js, q)

no_fields : FileOf []
unfolding file_of
no_fields = record { list = []; are = refl; framed = nil; bytes = nil }

one_more : (bs : List ℕ) {tag : ℕ} {contents after : List ℕ} → Begins bs tag contents after → FileOf after → FileOf bs
unfolding file_of
one_more bs {tag} {contents} {after} b r = record {
  list = item tag contents ∷ r.list;
  are = b.are ∙ ap (λ (rest : List ℕ). field_bytes tag contents ++ rest) r.are;
  framed = cons (record { framed = b.framed }) r.framed;
  bytes = cons (record { bytes = b.bytes }) r.bytes;
}

module _ (fuel at : ℕ) (bs : List ℕ) (k : Bytes bs) where
  file-step : ((at : ℕ) (after : List ℕ) → length after < length bs → Bytes after → (is : List Item) → items (fields_from fuel at after) ≡ some is → FileOf after)
      → (x : Front) → front bs ≡ x → (is : List Item) → items (fields_from (suc fuel) at bs) ≡ some is → FileOf bs
  unfolding items
  file-step ih nothing e is h = subst FileOf (sym (subst (OnFront bs) e (front-begins bs k))) no_fields
  file-step ih broken e is h = absurd (let q = ap items (from-broken fuel at bs e) in let z : ◌≡◌ {A = ℕ} 0 1 = cc in omega arith)
  file-step ih (whole tag contents after) e is h =
      let b = whole-front bs k e in
      let (js, q) = items-rest (note tag) _ _ (rw (from-whole fuel at bs e) at h) in
      one_more bs b (ih (at + 3 + length contents) after (front-shorter bs e) b.rest js q)

file-from : (fuel at : ℕ) (bs : List ℕ) → length bs ≤ fuel → Bytes bs → (is : List Item) → items (fields_from fuel at bs) ≡ some is → FileOf bs
file-from zero at [] l k is h = no_fields
file-from zero at (b ∷ bs) l k is h = absurd (omega arith)
file-from (suc fuel) at bs l k is h = file-step fuel at bs k (λ at₁ after s k₁ is₁ h₁. file-from fuel at₁ after (omega arith) k₁ is₁ h₁) (front bs) refl is h

pub whole-file : (file : List ℕ) → Bytes file → (is : List Item) → items (fields file) ≡ some is → FileOf file
unfolding fields
whole-file file k is h = file-from (length file) 0 file (omega arith) k is h
