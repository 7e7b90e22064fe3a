-- Places moved, each by its own number: the header and the end of a file move with their fields. Where every place becomes 0, notes change no field. Assumes nothing.
use mathlib.Core.Path.{◌≡◌, refl, sym, ap, ◌∙◌}
use mathlib.Core.Logic.{inl, inr}
use mathlib.Core.Option.{Option, none, some}
use mathlib.Core.Bool.{Bool, true, false}
use mathlib.Core.List.{List}
use Prim.Native.Nat.{ℕ, zero, suc, ◌+◌, ◌≤◌}
use native.Mathlib.Omega.{arith}
use lib.Dec.{T, leb}
use lib.ListN.{length, length-append}
use borrow.Author.Tests.{le-leb}
use Rattle.answers.specs.declared.Answer.{Answer}
use Rattle.answers.specs.Answers.{Result, refused, accepted, ◌>>=◌, ◌>>◌, need, found}
use Rattle.fields.specs.declared.FileKind.{FileKind}
use Rattle.fields.specs.Fields.{Field, Front, whole, broken, nothing, front, Fields, ends, cut, ◌▸◌, note, unless_note, fields_from, fields, Noted, same, noted, passed, Kept}
use Rattle.fields.specs.Header.{Header, header_field, edition_field, constants_field, header, finished}
use Rattle.fields.proofs.Notes.{note-tags}
use Rattle.fields.proofs.Framing.{from_nothing, from-broken, from-whole, fields_starting, fields_at-field}

-- ---- what is moved
module _ (φ : ℕ → ℕ) where
  abbrev pub move_field : Field → Field
  move_field f = record { at = φ f.at; tag = f.tag; contents = f.contents }

  abbrev pub move : Fields → Fields
  move (ends at) = ends (φ at)
  move (cut at) = cut (φ at)
  move (f ▸ fs) = move_field f ▸ move fs

  abbrev pub move_answer : Answer → Answer
  move_answer a = record { number = a.number; file = a.file; place = φ a.place; row = a.row; step = a.step; branch = a.branch }

  -- f moves the places in what is accepted.
  abbrev pub move_result : {X Y : Type 0} → (X → Y) → Result X → Result Y
  move_result f (refused a) = refused (move_answer a)
  move_result f (accepted x) = accepted (f x)

  -- r' is r with its places moved. (A record, as `Same`, so that r and r' are found from a proof.)
  pub record Moved {X Y : Type 0} (f : X → Y) (r : Result X) (r' : Result Y) : Type 0 where
    pub equal : move_result f r ≡ r'

  abbrev pub move_header : Header → Header
  move_header h = record { number = h.number; K = h.K; rest = move h.rest }

  abbrev move_header_field : ℕ × ℕ × Fields → ℕ × ℕ × Fields
  move_header_field x = (φ x.0, x.1, move x.2)

  -- What is read, and the fields after it.
  abbrev pub move_read : {X : Type 0} → X × Fields → X × Fields
  move_read x = (x.0, move x.1)

-- What is known of something that may be missing.
abbrev pub Known : {Z : Type 0} → (Z → Type 0) → Option Z → Type 0
Known P none = Unit
Known P (some z) = P z

-- The rules by which a block's proof reads like the block.
module _ {φ : ℕ → ℕ} where
  -- A test at the end of a block.
  pub test-moved : (a : Answer) (t : Bool) → Moved φ (λ x. x) (need a t) (need (move_answer φ a) t)
  unfolding need
  test-moved a true = record { equal = refl }
  test-moved a false = record { equal = refl }

  module _ {X Y : Type 0} {f : X → Y} where
    -- By computation.
    pub computed : {r : Result X} → Moved φ f r (move_result φ f r)
    computed = record { equal = refl }

    pub need-moved : (a : Answer) (t : Bool) {r : Result X} {r' : Result Y} → Moved φ f r r' → Moved φ f (need a t >> r) (need (move_answer φ a) t >> r')
    unfolding need ◌>>◌
    need-moved a true e = e
    need-moved a false e = computed

    pub found-moved : {Z : Type 0} (a : Answer) (o : Option Z) {k : Z → Result X} {k' : Z → Result Y} → ((z : Z) → Moved φ f (k z) (k' z))
        → Moved φ f (found a o >>= k) (found (move_answer φ a) o >>= k')
    unfolding found ◌>>=◌
    found-moved a none e = computed
    found-moved a (some z) e = e z

    pub known-moved : {Z : Type 0} (P : Z → Type 0) (a : Answer) (o : Option Z) → Known P o → {k : Z → Result X} {k' : Z → Result Y} → ((z : Z) → P z → Moved φ f (k z) (k' z))
        → Moved φ f (found a o >>= k) (found (move_answer φ a) o >>= k')
    unfolding found ◌>>=◌
    known-moved P a none p e = computed
    known-moved P a (some z) p e = e z p

    pub bind-moved : {Z W : Type 0} {g : Z → W} {r : Result Z} {r' : Result W} {k : Z → Result X} (k' : W → Result Y)
        → Moved φ g r r' → ((z : Z) → Moved φ f (k z) (k' (g z))) → Moved φ f (r >>= k) (r' >>= k')
    unfolding ◌>>=◌
    bind-moved {r = refused a} k' d e = record { equal = ap (λ s. s >>= k') d.equal }
    bind-moved {r = accepted z} k' d e = record { equal = (e z).equal ∙ ap (λ s. s >>= k') d.equal }

    pub then-moved : {r r' : Result (Unit {0})} {s : Result X} {s' : Result Y} → Moved φ (λ x. x) r r' → Moved φ f s s' → Moved φ f (r >> s) (r' >> s')
    unfolding ◌>>◌
    then-moved {r = refused a} {s' = s'} d e = record { equal = ap (λ t. t >> s') d.equal }
    then-moved {r = accepted u} {s' = s'} d e = record { equal = e.equal ∙ ap (λ t. t >> s') d.equal }

  -- ---- the header and the end of a file
  module _ (kind : FileKind) (file : ℕ) where
    header_field-moved : (tag : ℕ) (fs : Fields) → Moved φ (move_header_field φ) (header_field kind file tag fs) (header_field kind file tag (move φ fs))
    unfolding header_field
    header_field-moved tag (ends at) = computed
    header_field-moved tag (cut at) = computed
    header_field-moved tag (f ▸ fs) = need-moved _ _ (need-moved _ _ (need-moved _ _ computed))

    pub edition-moved : (newest : ℕ) (fs : Fields) → Moved φ (move_read φ) (edition_field kind file newest fs) (edition_field kind file newest (move φ fs))
    unfolding edition_field
    edition-moved newest fs = bind-moved _ (header_field-moved 0x01 fs) λ x. need-moved _ _ computed

    pub constants-moved : (given : Option ℕ) (fs : Fields) → Moved φ (move_read φ) (constants_field kind file given fs) (constants_field kind file given (move φ fs))
    unfolding constants_field
    constants-moved given fs = bind-moved _ (header_field-moved 0x02 fs) λ x. need-moved _ _ (need-moved _ _ computed)

    pub header-moved : (newest : ℕ) (given : Option ℕ) (fs : Fields) → Moved φ (move_header φ) (header kind file newest given fs) (header kind file newest given (move φ fs))
    unfolding header
    header-moved newest given fs = bind-moved _ (edition-moved newest fs) λ x. bind-moved _ (constants-moved given x.1) λ y. computed

    pub finished-moved : (fs : Fields) → Moved φ (λ x. x) (finished kind file fs) (finished kind file (move φ fs))
    unfolding finished
    finished-moved (ends at) = computed
    finished-moved (cut at) = computed
    finished-moved (f ▸ fs) = need-moved _ _ computed

-- ---- places aside: every place becomes 0
abbrev pub erase : ℕ → ℕ
erase at = 0

module _ (tag : ℕ) (contents : List ℕ) (a b : ℕ) where
  unless_note-erased : (t : Bool) (fs gs : Fields) → move erase fs ≡ move erase gs
      → move erase (unless_note t (record { at = a; tag = tag; contents = contents }) fs)
      ≡ move erase (unless_note t (record { at = b; tag = tag; contents = contents }) gs)
  unfolding unless_note
  unless_note-erased true fs gs e = e
  unless_note-erased false fs gs e = rw e

-- It does not matter where the bytes start.
from-erased : (fuel a b : ℕ) (bs : List ℕ) → move erase (fields_from fuel a bs) ≡ move erase (fields_from fuel b bs)
unfolding fields_from
from-erased zero a b bs = refl
from-erased (suc fuel) a b bs = go (front bs) refl (from-erased fuel)
  where
    go : (x : Front) → front bs ≡ x → ((a b : ℕ) (bs : List ℕ) → move erase (fields_from fuel a bs) ≡ move erase (fields_from fuel b bs))
        → move erase (fields_from (suc fuel) a bs) ≡ move erase (fields_from (suc fuel) b bs)
    go nothing e ih = ap (move erase) (from_nothing fuel a bs e) ∙ sym (ap (move erase) (from_nothing fuel b bs e))
    go broken e ih = ap (move erase) (from-broken fuel a bs e) ∙ sym (ap (move erase) (from-broken fuel b bs e))
    go (whole tag contents after) e ih =
        ap (move erase) (from-whole fuel a bs e)
        ∙ unless_note-erased tag contents a b (note tag) _ _ (ih _ _ after)
        ∙ sym (ap (move erase) (from-whole fuel b bs e))

-- A note is passed over.
unless-true : (t : Bool) → T t → (f : Field) (fs : Fields) → unless_note t f fs ≡ fs
unfolding unless_note
unless-true true h f fs = refl
unless-true false h f fs = absurd h

noted-from : (a b : ℕ) {xs ys : List ℕ} → Noted xs ys → move erase (fields_starting a xs) ≡ move erase (fields_starting b ys)
noted-from a b (same {xs = xs}) = from-erased (length xs) a b xs
noted-from a b (noted {ys = ys} i h n r) =
    noted-from a (b + 3 + length i.contents) r ∙ ap (move erase) (sym (fields_at-field b i h ys ∙ unless-true (note i.tag) ((note-tags i.tag).1 n) _ _))
noted-from a b (passed {xs = xs} {ys = ys} i h r) =
    ap (move erase) (fields_at-field a i h xs)
    ∙ unless_note-erased i.tag i.contents a b (note i.tag) _ _ (noted-from (a + 3 + length i.contents) (b + 3 + length i.contents) r)
    ∙ sym (ap (move erase) (fields_at-field b i h ys))

-- Notes change no field, places aside.
pub noted-erased : {xs ys : List ℕ} → Noted xs ys → move erase (fields xs) ≡ move erase (fields ys)
unfolding fields
noted-erased r = noted-from 0 0 r

-- Notes make no file shorter.
pub noted-longer : {xs ys : List ℕ} → Noted xs ys → length xs ≤ length ys
noted-longer same = omega arith
noted-longer (noted i h n r) = let l = noted-longer r in rw length-append (omega arith)
noted-longer (passed i h r) = let l = noted-longer r in simp length-append (omega arith)

-- Whether a file is too long does not change then.
pub kept-length : (limit : ℕ) {xs ys : List ℕ} → Noted xs ys → Kept limit xs ys → leb (length ys) limit ≡ leb (length xs) limit
kept-length limit r (inl e) = rw e
kept-length limit {xs} {ys} r (inr h) =
    let l = noted-longer r in
    le-leb (length ys) limit (omega arith) ∙ sym (le-leb (length xs) limit (omega arith))

-- Of a value without places.
abbrev pub erase_of : {X : Type 0} → Result X → Result X
erase_of = move_result erase (λ x. x)

-- The same, the refusal's place aside.
pub record Same {X : Type 0} (r s : Result X) : Type 0 where
  pub equal : erase_of r ≡ erase_of s

-- Of two blocks behind one test.
module _ {X : Type 0} where
  pub then_same : (r : Result (Unit {0})) {s t : Result X} → Same s t → Same (r >> s) (r >> t)
  unfolding ◌>>◌
  then_same (refused a) e = record { equal = refl }
  then_same (accepted u) e = e

  -- What moves with the fields does not depend on notes.
  pub noted-same : {g : Fields → Result X} → ((fs : Fields) → Moved erase (λ x. x) (g fs) (g (move erase fs))) → {xs ys : List ℕ} → Noted xs ys → Same (g (fields ys)) (g (fields xs))
  noted-same {g} e {xs} {ys} r = record { equal = (e (fields ys)).equal ∙ ap g (sym (noted-erased r)) ∙ sym (e (fields xs)).equal }

  -- What is left of a result, where it takes nothing from the refusal's place.
  pub left-same : {Y : Type 0} (left : Result X → Y) → ((r : Result X) → left r ≡ left (erase_of r)) → {r s : Result X} → Same r s → left r ≡ left s
  left-same left h {r} {s} e = h r ∙ ap left e.equal ∙ sym (h s)
