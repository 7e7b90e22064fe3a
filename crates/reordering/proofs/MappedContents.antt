-- The fields of a file with other contents in its fields are its fields with these contents. Assumes nothing.
use mathlib.Core.Path.{◌≡◌, refl, sym, ap, ap₂, ◌∙◌}
use mathlib.Core.Bool.{Bool, true, false}
use mathlib.Core.List.{List, [], ◌∷◌, ◌++◌}
use Prim.Native.Nat.{ℕ, zero, suc, ◌+◌, ◌-◌, ◌≤◌}
use native.Mathlib.Omega.{arith}
use lib.Dec.{leb, leb→le}
use lib.ListN.{length, take, drop, length-append, length-drop}
use lib.Seq.{take_at, drop_at, length-take-le}
use borrow.Author.Tests.{le-leb}
use Rattle.number_bytes.specs.Numbers.{unsigned}
use Rattle.fields.specs.Fields.{Field, Front, whole, broken, nothing, front, Fields, ends, cut, ◌▸◌, note, unless_note, fields_from, fields}
use Rattle.fields.proofs.Framing.{from_nothing, from-broken, from-whole}
use Rattle.reordering.specs.Reordering.{map_contents_from, map_contents}

-- ---- what a list of bytes begins with
contained : (tag n : ℕ) → List ℕ → Bool → Front
contained tag n bs b = elim b [ true ↦ whole tag (take n bs) (drop n bs) | false ↦ broken ]

front-header : (t h l : ℕ) (bs : List ℕ) → front (t ∷ h ∷ l ∷ bs) ≡ contained t (unsigned (h ∷ l ∷ [])) bs (leb (unsigned (h ∷ l ∷ [])) (length bs))
unfolding front contained
front-header t h l bs = refl

-- What is known of a whole field in front.
pub record Headed (bs : List ℕ) (tag : ℕ) (c after : List ℕ) : Type 0 where
  pub size : length bs ≡ 3 + length c + length after
  pub again : (c' after' : List ℕ) → length c' ≡ length c → front (take 3 bs ++ (c' ++ after')) ≡ whole tag c' after'

headed-again : (t h l : ℕ) (c after : List ℕ) → length c ≡ unsigned (h ∷ l ∷ []) → front (t ∷ h ∷ l ∷ (c ++ after)) ≡ whole t c after
unfolding contained
headed-again t h l c after e =
    let n = unsigned (h ∷ l ∷ []) in
    let fits : n ≤ length (c ++ after) = rw length-append (omega arith) in
    front-header t h l (c ++ after)
    ∙ ap (contained t n (c ++ after)) (le-leb _ _ fits)
    ∙ ap₂ (whole t) (take_at c after n e) (drop_at c after n e)

headed-of : (t h l : ℕ) (bs : List ℕ) (b : Bool) → leb (unsigned (h ∷ l ∷ [])) (length bs) ≡ b → {tag : ℕ} {c after : List ℕ}
    → contained t (unsigned (h ∷ l ∷ [])) bs b ≡ whole tag c after → Headed (t ∷ h ∷ l ∷ bs) tag c after
unfolding contained
headed-of t h l bs true p {tag} {c} {after} q =
    let n = unsigned (h ∷ l ∷ []) in
    let fits : n ≤ length bs = leb→le n (length bs) (rw p tt) in
    let own : length (take n bs) ≡ n = length-take-le n bs fits in
    let left : length (drop n bs) ≡ length bs - n = length-drop n bs in
    let tags : t ≡ tag = cc in
    let cs : take n bs ≡ c = cc in
    let rests : drop n bs ≡ after = cc in
    let c-size : length c ≡ n = sym (ap length cs) ∙ own in
    let after-size : length after ≡ length bs - n = sym (ap length rests) ∙ left in
    record { size = omega arith; again = λ c' after' s. headed-again t h l c' after' (s ∙ c-size) ∙ ap (λ (x : ℕ). whole x c' after') tags }
headed-of t h l bs false p q = absurd (let z : ◌≡◌ {A = ℕ} 0 1 = cc in omega arith)

pub headed : (bs : List ℕ) {tag : ℕ} {c after : List ℕ} → front bs ≡ whole tag c after → Headed bs tag c after
unfolding front
headed [] e = absurd (let z : ◌≡◌ {A = ℕ} 0 1 = cc in omega arith)
headed (t ∷ []) e = absurd (let z : ◌≡◌ {A = ℕ} 0 1 = cc in omega arith)
headed (t ∷ h ∷ []) e = absurd (let z : ◌≡◌ {A = ℕ} 0 1 = cc in omega arith)
headed (t ∷ h ∷ l ∷ bs) e = headed-of t h l bs _ refl (sym (front-header t h l bs) ∙ e)

-- ---- a file with other contents
abbrev pub ContentsMap : Type 0
ContentsMap = (tag : ℕ) → List ℕ → List ℕ

module _ (m : ContentsMap) (fuel : ℕ) (bs : List ℕ) where
  pub map_contents-nothing : front bs ≡ nothing → map_contents_from m (suc fuel) bs ≡ bs
  unfolding map_contents_from
  map_contents-nothing e = rw (e, map_contents_from)

  pub map_contents-broken : front bs ≡ broken → map_contents_from m (suc fuel) bs ≡ bs
  unfolding map_contents_from
  map_contents-broken e = rw (e, map_contents_from)

  pub map_contents-whole : {tag : ℕ} {c after : List ℕ} → front bs ≡ whole tag c after → map_contents_from m (suc fuel) bs ≡ take 3 bs ++ (m tag c ++ map_contents_from m fuel after)
  unfolding map_contents_from
  map_contents-whole e = rw (e, map_contents_from)

-- Every length is kept.
pub record KeepsLength (m : ContentsMap) : Type 0 where
  pub keeps : (tag : ℕ) (c : List ℕ) → length (m tag c) ≡ length c

-- The fields with these contents.
abbrev pub map_fields : ContentsMap → Fields → Fields
map_fields m (ends at) = ends at
map_fields m (cut at) = cut at
map_fields m (f ▸ fs) = record { at = f.at; tag = f.tag; contents = m f.tag f.contents } ▸ map_fields m fs

module _ {m : ContentsMap} (keeping : KeepsLength m) where
  length_from : (fuel : ℕ) (bs : List ℕ) → length (map_contents_from m fuel bs) ≡ length bs
  unfolding map_contents_from
  length_from zero bs = refl
  length_from (suc fuel) bs = go (front bs) refl (length_from fuel)
    where
      go : (x : Front) → front bs ≡ x → ((bs : List ℕ) → length (map_contents_from m fuel bs) ≡ length bs) → length (map_contents_from m (suc fuel) bs) ≡ length bs
      go nothing e ih = ap length (map_contents-nothing m fuel bs e)
      go broken e ih = ap length (map_contents-broken m fuel bs e)
      go (whole tag c after) e ih =
          let h = headed bs e in
          let three : length (take 3 bs) ≡ 3 = length-take-le 3 bs (omega (arith, h.size)) in
          ap length (map_contents-whole m fuel bs e) ∙ rw (length-append, length-append, three, keeping.keeps tag c, ih after) (omega (arith, h.size))

  pub length-map_contents : (file : List ℕ) → length (map_contents m file) ≡ length file
  unfolding map_contents
  length-map_contents file = length_from (length file) file

  unless-map_fields : (b : Bool) (f : Field) (fs gs : Fields) → fs ≡ map_fields m gs
      → unless_note b (record { at = f.at; tag = f.tag; contents = m f.tag f.contents }) fs ≡ map_fields m (unless_note b f gs)
  unfolding unless_note
  unless-map_fields true f fs gs e = e
  unless-map_fields false f fs gs e = rw e

  fields-from : (fuel at : ℕ) (bs : List ℕ) → fields_from fuel at (map_contents_from m fuel bs) ≡ map_fields m (fields_from fuel at bs)
  unfolding fields_from map_contents_from
  fields-from zero at bs = refl
  fields-from (suc fuel) at bs = go (front bs) refl (fields-from fuel)
    where
      go : (x : Front) → front bs ≡ x → ((at : ℕ) (bs : List ℕ) → fields_from fuel at (map_contents_from m fuel bs) ≡ map_fields m (fields_from fuel at bs))
          → fields_from (suc fuel) at (map_contents_from m (suc fuel) bs) ≡ map_fields m (fields_from (suc fuel) at bs)
      go nothing e ih = ap (fields_from (suc fuel) at) (map_contents-nothing m fuel bs e) ∙ from_nothing fuel at bs e ∙ sym (ap (map_fields m) (from_nothing fuel at bs e))
      go broken e ih = ap (fields_from (suc fuel) at) (map_contents-broken m fuel bs e) ∙ from-broken fuel at bs e ∙ sym (ap (map_fields m) (from-broken fuel at bs e))
      go (whole tag c after) e ih =
          ap (fields_from (suc fuel) at) (map_contents-whole m fuel bs e)
          ∙ from-whole fuel at _ ((headed bs e).again (m tag c) (map_contents_from m fuel after) (keeping.keeps tag c))
          ∙ unless-map_fields (note tag) (record { at = at; tag = tag; contents = c }) _ (fields_from fuel (at + 3 + length c) after)
          (ap (λ (n : ℕ). fields_from fuel (at + 3 + n) (map_contents_from m fuel after)) (keeping.keeps tag c) ∙ ih (at + 3 + length c) after)
          ∙ sym (ap (map_fields m) (from-whole fuel at bs e))

  -- Whatever the file.
  pub fields-map_contents : (file : List ℕ) → fields (map_contents m file) ≡ map_fields m (fields file)
  unfolding fields map_contents
  fields-map_contents file = ap (λ (n : ℕ). fields_from n 0 (map_contents_from m (length file) file)) (length_from (length file) file) ∙ fields-from (length file) 0 file
