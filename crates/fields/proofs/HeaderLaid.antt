-- What the header of a file is and what ends it, beside the reading of them. Assumes nothing.
use mathlib.Core.Path.{◌≡◌, refl, ◌∙◌, ap, ap₂}
use mathlib.Core.Option.{Option, none, some, map}
use mathlib.Core.Bool.{Bool, true, false, ◌&&◌, ◌||◌}
use mathlib.Core.List.{List, [], ◌∷◌}
use Prim.Native.Nat.{ℕ, ◌≤◌}
use native.Mathlib.Omega.{arith}
use lib.Dec.{T, leb, eqb, leb→le, le→leb, eqb→eq, eqb_refl}
use lib.ListN.{length, get_or}
use mir.Facts.{and_yes, yes_and}
use Rattle.forms.specs.Edition.{edition1}
use Rattle.answers.specs.Answers.{Result, accepted}
use Rattle.answers.proofs.Results.{Gives, gives-refused, gives-accepted, bind, test, binds, needs}
use Rattle.fields.specs.declared.FileKind.{FileKind}
use Rattle.fields.specs.declared.FileKind.TheVariants.{Bundle, Proof, Formula}
use Rattle.fields.specs.Fields.{Field, Fields, ends, cut, ◌▸◌, Item, item, items}
use Rattle.fields.specs.Header.{header_tag, known, Header, agrees, header_field, edition_field, constants_field, header, finished}

or_left : (a b : Bool) → T a → T (a || b)
or_left true b t = tt
or_left false b t = absurd t

-- what a list of tags gives: P holds of the tag n, and of the tags that the rest of the list gives
pub by-tag : {X : Type 0} (P : ℕ → Type 0) (tag n : ℕ) (x : X) {y : X} {o : Option X} → P n → (o ≡ some y → P tag) → elim (eqb tag n) as (λ _. Option X) [ true ↦ some x | false ↦ o ] ≡ some y → P tag
by-tag {X} P tag n x {y} {o} p k h = go (eqb tag n) refl h
  where
    go : (b : Bool) → eqb tag n ≡ b → elim b as (λ _. Option X) [ true ↦ some x | false ↦ o ] ≡ some y → P tag
    go true t q = rw (eqb→eq tag n (rw t tt)) p
    go false t q = k q

-- ---- the first field of a file
one_byte : (bs : List ℕ) → length bs ≡ 1 → bs ≡ get_or bs 0 0 ∷ []
one_byte [] h = absurd (omega arith)
one_byte (b ∷ []) h = refl
one_byte (b ∷ c ∷ bs) h = absurd (omega arith)

pub next-items : (f : Field) (fs : Fields) {is : List Item} → items fs ≡ some is → items (f ▸ fs) ≡ some (item f.tag f.contents ∷ is)
unfolding items
next-items f fs h = rw h

-- the fields fs are that of item i, and then those of is
pub record First (fs : Fields) (i : Item) (is : List Item) : Type 0 where
  pub first : Field
  pub after : Fields
  pub are : fs ≡ first ▸ after
  pub tag : first.tag ≡ i.tag
  pub contents : first.contents ≡ i.contents
  pub rest : items after ≡ some is

pub first_of : (fs : Fields) (i : Item) (is : List Item) → items fs ≡ some (i ∷ is) → First fs i is
unfolding items
first_of (ends at) i is h = absurd (let z : ◌≡◌ {A = ℕ} 0 1 = cc in omega arith)
first_of (cut at) i is h = absurd (let z : ◌≡◌ {A = ℕ} 0 1 = cc in omega arith)
first_of (f ▸ fs) i is h = go (items fs) refl h
  where
    go : (o : Option (List Item)) → items fs ≡ o → map (λ (js : List Item). item f.tag f.contents ∷ js) o ≡ some (i ∷ is) → First (f ▸ fs) i is
    go none q p = absurd (let z : ◌≡◌ {A = ℕ} 0 1 = cc in omega arith)
    go (some js) q p =
        let same : item f.tag f.contents ≡ i = cc in
        let rest : js ≡ is = cc in
        record { first = f; after = fs; are = refl; tag = ap (λ (i : Item). i.tag) same; contents = ap (λ (i : Item). i.contents) same; rest = q ∙ ap some rest }

pub not-empty : (f : Field) (fs : Fields) → items (f ▸ fs) ≡ some [] → ⊥
unfolding items
not-empty f fs h = go (items fs) h
  where
    go : (o : Option (List Item)) → map (λ (js : List Item). item f.tag f.contents ∷ js) o ≡ some [] → ⊥
    go none p = let z : ◌≡◌ {A = ℕ} 0 1 = cc in omega arith
    go (some js) p = let z : ◌≡◌ {A = ℕ} 0 1 = cc in omega arith

-- ---- a header field
header-known : (kind : FileKind) (tag : ℕ) → T (header_tag tag) → T (known kind tag)
unfolding known
header-known Bundle tag t = or_left (header_tag tag) _ t
header-known Proof tag t = or_left (header_tag tag || leb 0x10 tag && leb tag 0x17) (eqb tag 0x20) (or_left (header_tag tag) (leb 0x10 tag && leb tag 0x17) t)
header-known Formula tag t = or_left (header_tag tag) _ t

-- the fields fs are the header field of that tag, whose one byte is x.1, and then x.2
pub record LaidHeaderField (tag : ℕ) (fs : Fields) (x : ℕ × ℕ × Fields) : Type 0 where
  pub from : (is : List Item) → items x.2 ≡ some is → items fs ≡ some (item tag (x.1 ∷ []) ∷ is)

-- the fields fs are 0x01 of an edition up to the newest, and then x.1
pub record LaidEdition (newest : ℕ) (fs : Fields) (x : ℕ × Fields) : Type 0 where
  pub first : 1 ≤ x.0
  pub last : x.0 ≤ newest
  pub from : (is : List Item) → items x.1 ≡ some is → items fs ≡ some (item 0x01 (x.0 ∷ []) ∷ is)

-- they are 0x02 with K from 1 to 16 and as given, and then x.1
pub record LaidConstants (given : Option ℕ) (fs : Fields) (x : ℕ × Fields) : Type 0 where
  pub low : 1 ≤ x.0
  pub high : x.0 ≤ edition1.constants
  pub agree : T (agrees given x.0)
  pub from : (is : List Item) → items x.1 ≡ some is → items fs ≡ some (item 0x02 (x.0 ∷ []) ∷ is)

-- they are both, and then h.rest
pub record LaidHeader (newest : ℕ) (given : Option ℕ) (fs : Fields) (h : Header) : Type 0 where
  pub first : 1 ≤ h.number
  pub last : h.number ≤ newest
  pub low : 1 ≤ h.K
  pub high : h.K ≤ edition1.constants
  pub agree : T (agrees given h.K)
  pub from : (is : List Item) → items h.rest ≡ some is → items fs ≡ some (item 0x01 (h.number ∷ []) ∷ item 0x02 (h.K ∷ []) ∷ is)

module _ (kind : FileKind) (file : ℕ) where
  header-field : (tag : ℕ) (fs : Fields) → Gives (header_field kind file tag fs) (LaidHeaderField tag fs)
  unfolding header_field
  header-field tag (ends at) = gives-refused _ tt
  header-field tag (cut at) = gives-refused _ tt
  header-field tag (f ▸ fs) = test _ _ tt λ _. test _ _ tt λ t. test _ _ tt λ n. gives-accepted (record {
    from = λ is h. next-items f fs h ∙ ap₂ (λ (t : ℕ) (bs : List ℕ). some (item t bs ∷ is)) (eqb→eq f.tag tag t) (one_byte f.contents (eqb→eq (length f.contents) 1 n));
  })

  -- the other way: such a field is read
  pub record FieldRead (tag x : ℕ) (fs : Fields) (is : List Item) : Type 0 where
    pub at : ℕ
    pub after : Fields
    pub rest : items after ≡ some is
    pub reads : header_field kind file tag fs ≡ accepted (at, x, after)

  field-read : (tag x : ℕ) (fs : Fields) (is : List Item) → T (known kind tag) → items fs ≡ some (item tag (x ∷ []) ∷ is) → FieldRead tag x fs is
  unfolding header_field
  field-read tag x fs is k h =
      let f = first_of fs (item tag (x ∷ [])) is h in
      record {
        at = f.first.at;
        after = f.after;
        rest = f.rest;
        reads = ap (header_field kind file tag) f.are ∙ needs _ _ _ (rw f.tag k) ∙ needs _ _ _ (rw f.tag (eqb_refl tag)) ∙ needs _ _ _ (rw f.contents tt)
            ∙ ap (λ (bs : List ℕ). accepted (f.first.at, get_or bs 0 0, f.after)) f.contents;
      }

  -- ---- the two fields of the header, and both
  pub edition-gives : (newest : ℕ) (fs : Fields) → Gives (edition_field kind file newest fs) (LaidEdition newest fs)
  unfolding edition_field
  edition-gives newest fs = bind (header-field 0x01 fs) λ (at, n, fs1) h. test _ _ tt λ b.
      let (l, m) = and_yes (leb 1 n) (leb n newest) b in
      gives-accepted (record { first = leb→le 1 n l; last = leb→le n newest m; from = h.from })

  pub constants-gives : (given : Option ℕ) (fs : Fields) → Gives (constants_field kind file given fs) (LaidConstants given fs)
  unfolding constants_field
  constants-gives given fs = bind (header-field 0x02 fs) λ (at, K, fs1) h. test _ _ tt λ b. test _ _ tt λ a.
      let (l, m) = and_yes (leb 1 K) (leb K edition1.constants) b in
      gives-accepted (record { low = leb→le 1 K l; high = leb→le K edition1.constants m; agree = a; from = h.from })

  pub header-gives : (newest : ℕ) (given : Option ℕ) (fs : Fields) → Gives (header kind file newest given fs) (LaidHeader newest given fs)
  unfolding header
  header-gives newest given fs = bind (edition-gives newest fs) λ (n, fs1) h1. bind (constants-gives given fs1) λ (K, fs2) h2.
      gives-accepted (record { first = h1.first; last = h1.last; low = h2.low; high = h2.high; agree = h2.agree; from = λ is h. h1.from _ (h2.from is h) })

  -- the other way: such fields are read
  pub record NumberRead (r : Fields → Result (ℕ × Fields)) (fs : Fields) (x : ℕ) (is : List Item) : Type 0 where
    pub after : Fields
    pub rest : items after ≡ some is
    pub reads : r fs ≡ accepted (x, after)

  pub edition-read : (newest : ℕ) (fs : Fields) (n : ℕ) (is : List Item) → items fs ≡ some (item 0x01 (n ∷ []) ∷ is) → 1 ≤ n → n ≤ newest
      → NumberRead (edition_field kind file newest) fs n is
  unfolding edition_field header_tag
  edition-read newest fs n is h l m =
      let r = field-read 0x01 n fs is (header-known kind 0x01 tt) h in
      record { after = r.after; rest = r.rest; reads = binds _ r.reads ∙ needs _ _ _ (yes_and (leb 1 n) (leb n newest) (le→leb 1 n l) (le→leb n newest m)) }

  pub constants-read : (given : Option ℕ) (fs : Fields) (K : ℕ) (is : List Item) → items fs ≡ some (item 0x02 (K ∷ []) ∷ is)
      → 1 ≤ K → K ≤ edition1.constants → T (agrees given K) → NumberRead (constants_field kind file given) fs K is
  unfolding constants_field header_tag
  constants-read given fs K is h l m a =
      let r = field-read 0x02 K fs is (header-known kind 0x02 tt) h in
      record {
        after = r.after;
        rest = r.rest;
        reads = binds _ r.reads ∙ needs _ _ _ (yes_and (leb 1 K) (leb K edition1.constants) (le→leb 1 K l) (le→leb K edition1.constants m)) ∙ needs _ _ _ a;
      }

  pub record HeaderRead (newest : ℕ) (given : Option ℕ) (fs : Fields) (n K : ℕ) (is : List Item) : Type 0 where
    pub after : Fields
    pub rest : items after ≡ some is
    pub reads : header kind file newest given fs ≡ accepted (record { number = n; K = K; rest = after })

  pub header_read : (newest : ℕ) (given : Option ℕ) (fs : Fields) (n K : ℕ) (is : List Item) → items fs ≡ some (item 0x01 (n ∷ []) ∷ item 0x02 (K ∷ []) ∷ is)
      → 1 ≤ n → n ≤ newest → 1 ≤ K → K ≤ edition1.constants → T (agrees given K) → HeaderRead newest given fs n K is
  unfolding header
  header_read newest given fs n K is h f g l m a =
      let r1 = edition-read newest fs n (item 0x02 (K ∷ []) ∷ is) h f g in
      let r2 = constants-read given r1.after K is r1.rest l m a in
      record { after = r2.after; rest = r2.rest; reads = binds _ r1.reads ∙ binds _ r2.reads }

  -- ---- the end of the file
  pub finished-gives : (fs : Fields) → Gives (finished kind file fs) (λ _. items fs ≡ some [])
  unfolding finished items
  finished-gives (ends at) = gives-accepted refl
  finished-gives (cut at) = gives-refused _ tt
  finished-gives (f ▸ fs) = test _ _ tt λ _. gives-refused _ tt

  pub finished-ends : (fs : Fields) → items fs ≡ some [] → finished kind file fs ≡ accepted tt
  unfolding finished items
  finished-ends (ends at) h = refl
  finished-ends (cut at) h = absurd (let z : ◌≡◌ {A = ℕ} 0 1 = cc in omega arith)
  finished-ends (f ▸ fs) h = absurd (not-empty f fs h)
