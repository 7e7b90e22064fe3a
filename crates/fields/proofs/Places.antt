-- The fields of a file by place: what the code's tests say of `front`, and the fields at a place in terms of the field found there. Assumes nothing.
use mathlib.Core.Path.{◌≡◌, refl, sym, ap, ◌∙◌, subst}
use mathlib.Core.Bool.{Bool, true, false}
use mathlib.Core.List.{List, [], ◌∷◌}
use Prim.Native.Nat.{ℕ, zero, suc, ◌+◌, ◌*◌, ◌-◌, ◌≤◌, ◌<◌}
use native.Mathlib.Omega.{arith}
use lib.Dec.{leb}
use lib.ListN.{length, get_or, take, drop, length-drop, drop_of_length-le}
use lib.Seq.{drop-cons, drop-drop, length-take-le}
use borrow.Author.Tests.{le-leb, lt-leb, leb-true, leb-false}
use Rattle.number_bytes.specs.Numbers.{unsigned}
use Rattle.fields.specs.Fields.{Front, whole, broken, nothing, front, Fields, ends, cut, ◌▸◌, note, unless_note, fields_from, fields}
use Rattle.std.specs.Prelude.{Ok, Err, Some, None}
use Rattle.std.specs.declared.result.Result as code
use Rattle.std.specs.declared.option.Option as opt
use Rattle.fields.specs.Places.{whole_field, found_in, found_at, fields_at, field_count, fields_left, next_of, required, next_or_fault}
use Rattle.answers.specs.Refusals.{fault}
use Rattle.answers.specs.declared.refusals.Refusal.{Refusal}
use Rattle.answers.specs.declared.refusals.Fault.{Fault}
use Rattle.fields.specs.declared.WholeField.{WholeField}
use Rattle.fields.specs.declared.Broken.{Broken}
use Rattle.fields.specs.declared.End.{End}
use Rattle.fields.proofs.Framing.{fuel-irrelevant}

-- ---- what the tests of `field_at` say
pub found-end : (s : List ℕ) (at : ℕ) → length s ≤ at → found_at s at ≡ Ok None
unfolding found_at front
found-end s at h = rw (drop_of_length-le s h)

pub found-short : (s : List ℕ) (at : ℕ) → at < length s → length s - at < 3 → found_at s at ≡ Err (record {})
unfolding found_at front
found-short s at h l = ap (found_in at) (go (drop at s) (simp length-drop (omega arith)) (simp length-drop (omega arith)))
  where
    go : (bs : List ℕ) → 0 < length bs → length bs < 3 → front bs ≡ broken
    go [] h l = absurd (omega arith)
    go (t ∷ []) h l = refl
    go (t ∷ u ∷ []) h l = refl
    go (t ∷ u ∷ v ∷ bs) h l = absurd (omega arith)

-- the two bytes of a field's length, the high one first
abbrev pub len_at : List ℕ → ℕ → ℕ
len_at s at = get_or s (at + 1) 0 * 256 + get_or s (at + 2) 0

-- the three header bytes are there
head : (s : List ℕ) (at : ℕ) → at + 2 < length s
    → drop at s ≡ get_or s at 0 ∷ get_or s (at + 1) 0 ∷ get_or s (at + 2) 0 ∷ drop (at + 3) s
head s at h =
    let h₀ : at < length s = omega arith in
    let h₁ : at + 1 < length s = omega arith in
    let e₁ : suc at ≡ at + 1 = omega arith in
    let e₂ : suc (at + 1) ≡ at + 2 = omega arith in
    let e₃ : suc (at + 2) ≡ at + 3 = omega arith in
    rw (drop-cons s at 0, e₁, drop-cons s (at + 1) 0, e₂, drop-cons s (at + 2) 0, e₃)

two_bytes : (h l : ℕ) → unsigned (h ∷ l ∷ []) ≡ h * 256 + l
unfolding unsigned
two_bytes h l = omega arith

-- the field of n bytes of contents, if there are so many
abbrev sized : Bool → ℕ → ℕ → List ℕ → Front
sized true t n bs = whole t (take n bs) (drop n bs)
sized false t n bs = broken

module _ (t h l : ℕ) (bs : List ℕ) where
  front-is : front (t ∷ h ∷ l ∷ bs) ≡ sized (leb (h * 256 + l) (length bs)) t (h * 256 + l) bs
  unfolding front
  front-is = go (leb (unsigned (h ∷ l ∷ [])) (length bs)) ∙ rw (two_bytes h l)
    where
      go : (b : Bool) → elim b [ true ↦ whole t (take (unsigned (h ∷ l ∷ [])) bs) (drop (unsigned (h ∷ l ∷ [])) bs) | false ↦ broken ] ≡ sized b t (unsigned (h ∷ l ∷ [])) bs
      go true = refl
      go false = refl

  front_cut : length bs < h * 256 + l → front (t ∷ h ∷ l ∷ bs) ≡ broken
  front_cut e = front-is ∙ rw (lt-leb _ _ e)

  front-whole : h * 256 + l ≤ length bs → front (t ∷ h ∷ l ∷ bs) ≡ whole t (take (h * 256 + l) bs) (drop (h * 256 + l) bs)
  front-whole e = front-is ∙ rw (le-leb _ _ e)

module _ (s : List ℕ) (at : ℕ) (h : at < length s) (k : 3 ≤ length s - at) where
  pub found-cut : length s - at - 3 < len_at s at → found_at s at ≡ Err (record {})
  unfolding found_at
  found-cut l = ap (found_in at) (ap front (head s at (omega arith)) ∙ front_cut _ _ _ _ (simp length-drop (omega arith)))

  pub found-whole : len_at s at ≤ length s - at - 3 → found_at s at ≡ Ok (Some (whole_field at (get_or s at 0) (len_at s at)))
  unfolding found_at
  found-whole l =
      let e : len_at s at ≤ length (drop (at + 3) s) = simp length-drop (omega arith) in
      ap (found_in at) (ap front (head s at (omega arith)) ∙ front-whole _ _ _ _ e)
      ∙ ap (λ (n : ℕ). Ok (Some (whole_field at (get_or s at 0) n))) (length-take-le (len_at s at) (drop (at + 3) s) e)

-- ---- a field as a part of its file
pub record FieldIn (bs contents after : List ℕ) : Type 0 where
  pub size : 3 + length contents ≤ length bs
  pub is : contents ≡ take (length contents) (drop 3 bs)
  pub rest : after ≡ drop (3 + length contents) bs

abbrev Parts : List ℕ → Front → Type 0
Parts bs nothing = length bs ≡ 0
Parts bs broken = Unit {0}
Parts bs (whole tag contents after) = FieldIn bs contents after

parts : (bs : List ℕ) → Parts bs (front bs)
unfolding front
parts [] = refl
parts (t ∷ []) = tt
parts (t ∷ h ∷ []) = tt
parts (t ∷ h ∷ l ∷ bs) = go (leb n (length bs)) refl
  where
    n : ℕ
    n = unsigned (h ∷ l ∷ [])

    go : (b : Bool) → leb n (length bs) ≡ b → Parts (t ∷ h ∷ l ∷ bs) (elim b [ true ↦ whole t (take n bs) (drop n bs) | false ↦ broken ])
    go true e =
        let m : length (take n bs) ≡ n = length-take-le n bs (leb-true n (length bs) e) in
        record {
          size = omega (arith, leb-true n (length bs) e);
          is = rw m;
          rest = rw m (let z : 3 + n ≡ suc (suc (suc n)) = omega arith in rw z);
        }
    go false e = tt

-- The fields at a place by what stands there, with the fields after it.
abbrev pub fields_in : ℕ → (ℕ → List ℕ → Fields) → Front → Fields
fields_in at rest nothing = ends at
fields_in at rest broken = cut at
fields_in at rest (whole tag contents after) =
    unless_note (note tag) (record { at = at; tag = tag; contents = contents }) (rest (at + 3 + length contents) after)

fields-suc : (k at : ℕ) (bs : List ℕ) → fields_from (suc k) at bs ≡ fields_in at (fields_from k) (front bs)
unfolding fields_from
fields-suc k at bs = go (front bs)
  where
    go : (x : Front) → elim x [
      | nothing ↦ ends at
      | broken ↦ cut at
      | whole tag contents after ↦ unless_note (note tag) (record { at = at; tag = tag; contents = contents }) (fields_from k (at + 3 + length contents) after)
    ] ≡ fields_in at (fields_from k) x
    go nothing = refl
    go broken = refl
    go (whole tag contents after) = refl

-- the fields after agree, so those at the place do
same_rest : (f g : ℕ → List ℕ → Fields) (at : ℕ) (bs : List ℕ) (x : Front) → Parts bs x
    → ((n : ℕ) (after : List ℕ) → after ≡ drop (3 + n) bs → 3 + n ≤ length bs → f (at + 3 + n) after ≡ g (at + 3 + n) after)
    → fields_in at f x ≡ fields_in at g x
same_rest f g at bs nothing p e = refl
same_rest f g at bs broken p e = refl
same_rest f g at bs (whole tag contents after) p e =
    ap (unless_note (note tag) (record { at = at; tag = tag; contents = contents })) (e (length contents) after p.rest p.size)

-- ---- the fields at a place, by what stands there
pub fields-at : (s : List ℕ) (at : ℕ) → fields_at s at ≡ fields_in at (λ n after. fields_at s n) (front (drop at s))
unfolding fields_at
fields-at s at =
    fuel-irrelevant (length s) (suc (length s)) at (drop at s) (simp length-drop (omega arith)) (simp length-drop (omega arith))
    ∙ fields-suc (length s) at (drop at s)
    ∙ same_rest (fields_from (length s)) (λ n after. fields_at s n) at (drop at s) (front (drop at s)) (parts (drop at s))
    (λ n after e m. ap (fields_from (length s) (at + 3 + n)) (let z : at + (3 + n) ≡ at + 3 + n = omega arith in e ∙ drop-drop (3 + n) at s ∙ rw z))

pub fields-whole-file : (s : List ℕ) → fields s ≡ fields_at s 0
unfolding fields fields_at
fields-whole-file s = refl

-- what the code learns of a place by `field_at`, for callers that loop
pub record Took (s : List ℕ) (at tag start len next : ℕ) : Type 0 where
  pub is : fields_at s at ≡ unless_note (note tag) (record { at = at; tag = tag; contents = take len (drop start s) }) (fields_at s next)
  pub start_is : start ≡ at + 3
  pub next-is : next ≡ start + len
  pub upto : next ≤ length s

took_of : (s : List ℕ) (at : ℕ) (f : WholeField) (x : Front) → Parts (drop at s) x → fields_at s at ≡ fields_in at (λ n after. fields_at s n) x
    → found_in at x ≡ Ok (Some f) → Took s at f.tag f.start f.len f.next
took_of s at f nothing p e q = absurd (let z : ◌≡◌ {A = ℕ} 0 1 = cc in omega arith)
took_of s at f broken p e q = absurd (let z : ◌≡◌ {A = ℕ} 0 1 = cc in omega arith)
took_of s at f (whole t contents after) p e q =
    let g : whole_field at t (length contents) ≡ f = cc in
    let q₁ : t ≡ f.tag = ap (λ (f : WholeField). f.tag) g in
    let q₂ : at + 3 ≡ f.start = ap (λ (f : WholeField). f.start) g in
    let q₃ : length contents ≡ f.len = ap (λ (f : WholeField). f.len) g in
    let q₄ : at + 3 + length contents ≡ f.next = ap (λ (f : WholeField). f.next) g in
    let c : contents ≡ take f.len (drop f.start s) = p.is ∙ rw (q₃, drop-drop 3 at s, q₂) in
    record {
      is = e ∙ rw (q₄, q₁, c);
      start_is = omega arith;
      next-is = omega arith;
      upto = omega (arith, p.size, length-drop at s);
    }

pub took : {s : List ℕ} {at : ℕ} {f : WholeField} {r : code.Result (opt.Option WholeField) Broken} → r ≡ found_at s at → r ≡ Ok (Some f)
    → Took s at f.tag f.start f.len f.next
unfolding found_at
took {s} {at} {f} e q = took_of s at f (front (drop at s)) (parts (drop at s)) (fields-at s at) (sym e ∙ q)

-- the field found is told with its place
pub took-at : (s : List ℕ) (at : ℕ) {f : WholeField} {r : code.Result (opt.Option WholeField) Broken} → r ≡ found_at s at → r ≡ Ok (Some f) → f.at ≡ at
unfolding found_at
took-at s at {f} e q = go (front (drop at s)) (sym e ∙ q)
  where
    go : (x : Front) → found_in at x ≡ Ok (Some f) → f.at ≡ at
    go nothing q = absurd (let z : ◌≡◌ {A = ℕ} 0 1 = cc in omega arith)
    go broken q = absurd (let z : ◌≡◌ {A = ℕ} 0 1 = cc in omega arith)
    go (whole t c a) q = let g : whole_field at t (length c) ≡ f = cc in sym (ap (λ (f : WholeField). f.at) g)

pub cut_at : (s : List ℕ) (at : ℕ) {b : Broken} {r : code.Result (opt.Option WholeField) Broken} → r ≡ found_at s at → r ≡ Err b → fields_at s at ≡ cut at
unfolding found_at
cut_at s at {b} e q = fields-at s at ∙ go (front (drop at s)) (sym e ∙ q)
  where
    go : (x : Front) → found_in at x ≡ Err b → fields_in at (λ n after. fields_at s n) x ≡ cut at
    go nothing q = absurd (let z : ◌≡◌ {A = ℕ} 0 1 = cc in omega arith)
    go broken q = refl
    go (whole t c a) q = absurd (let z : ◌≡◌ {A = ℕ} 0 1 = cc in omega arith)

pub ends_at : (s : List ℕ) (at : ℕ) {r : code.Result (opt.Option WholeField) Broken} → r ≡ found_at s at → r ≡ Ok None → fields_at s at ≡ ends at
unfolding found_at
ends_at s at e q = fields-at s at ∙ go (front (drop at s)) (sym e ∙ q)
  where
    go : (x : Front) → found_in at x ≡ Ok None → fields_in at (λ n after. fields_at s n) x ≡ ends at
    go nothing q = refl
    go broken q = absurd (let z : ◌≡◌ {A = ℕ} 0 1 = cc in omega arith)
    go (whole t c a) q = absurd (let z : ◌≡◌ {A = ℕ} 0 1 = cc in omega arith)

module _ {s : List ℕ} {at tag start len next : ℕ} (k : Took s at tag start len next) where
  pub took-size : length (take len (drop start s)) ≡ len
  took-size = length-take-le len (drop start s) (simp length-drop (omega arith))

  pub took-less : length s - next < length s - at
  took-less = omega arith

  pub took-note : 0x80 ≤ tag → fields_at s at ≡ fields_at s next
  unfolding note unless_note
  took-note h = k.is ∙ rw (le-leb 0x80 tag h)

  pub took-field : tag < 0x80 → fields_at s at ≡ (record { at = at; tag = tag; contents = take len (drop start s) }) ▸ fields_at s next
  unfolding note unless_note
  took-field h = k.is ∙ rw (lt-leb 0x80 tag h)

  pub took-next : tag < 0x80 → next_of (fields_at s at) ≡ Ok (record { at = at; tag = tag; start = start; len = len; next = next })
  took-next h =
      let e : at + 3 ≡ start = omega arith in
      let f : start + len ≡ next = omega arith in
      rw (took-field h, took-size, e, f)

-- where the fields from a place on neither end there nor are cut there, a whole field stands
pub took-here : (s : List ℕ) (at : ℕ) → (fields_at s at ≡ cut at → ⊥) → (fields_at s at ≡ ends at → ⊥) → Took s at (get_or s at 0) (at + 3) (len_at s at) (at + 3 + len_at s at)
took-here s at no_cut no_end = started (leb (length s) at) refl
  where
    whole_by : at < length s → 3 ≤ length s - at → (b : Bool) → leb (len_at s at) (length s - at - 3) ≡ b → Took s at (get_or s at 0) (at + 3) (len_at s at) (at + 3 + len_at s at)
    whole_by h k true e = took refl (found-whole s at h k (leb-true (len_at s at) (length s - at - 3) e))
    whole_by h k false e = absurd (no_cut (cut_at s at refl (found-cut s at h k (leb-false (len_at s at) (length s - at - 3) e))))

    headed : at < length s → (b : Bool) → leb 3 (length s - at) ≡ b → Took s at (get_or s at 0) (at + 3) (len_at s at) (at + 3 + len_at s at)
    headed h true e = whole_by h (leb-true 3 (length s - at) e) (leb (len_at s at) (length s - at - 3)) refl
    headed h false e = absurd (no_cut (cut_at s at refl (found-short s at h (leb-false 3 (length s - at) e))))

    started : (b : Bool) → leb (length s) at ≡ b → Took s at (get_or s at 0) (at + 3) (len_at s at) (at + 3 + len_at s at)
    started true e = absurd (no_end (ends_at s at refl (found-end s at (leb-true (length s) at e))))
    started false e = headed (leb-false (length s) at e) (leb 3 (length s - at)) refl

-- the length, as a number of two bytes
pub len_is : (s : List ℕ) (at : ℕ) → at + 2 < length s → unsigned (take 2 (drop (at + 1) s)) ≡ len_at s at
len_is s at h =
    let h₁ : at + 1 < length s = omega arith in
    let e₁ : suc (at + 1) ≡ at + 2 = omega arith in
    let d : drop (at + 1) s ≡ get_or s (at + 1) 0 ∷ get_or s (at + 2) 0 ∷ drop (suc (at + 2)) s = rw (drop-cons s (at + 1) 0, e₁, drop-cons s (at + 2) 0) in
    ap (λ (bs : List ℕ). unsigned (take 2 bs)) d ∙ two_bytes (get_or s (at + 1) 0) (get_or s (at + 2) 0)

-- ---- what a caller of `next_field` knows
-- The fields from `at` on start with the field at a, and go on at n.
pub record Starts (s : List ℕ) (at a tag start len next : ℕ) : Type 0 where
  pub is : fields_at s at ≡ (record { at = a; tag = tag; contents = take len (drop start s) }) ▸ fields_at s next
  pub start_is : start ≡ a + 3
  pub next-is : next ≡ start + len
  pub upto : next ≤ length s
  pub from : at ≤ a
  pub below : tag < 0x80

pub took-starts : {s : List ℕ} {at tag start len next : ℕ} → Took s at tag start len next → tag < 0x80 → Starts s at at tag start len next
took-starts k h = record { is = took-field k h; start_is = k.start_is; next-is = k.next-is; upto = k.upto; from = omega arith; below = h }

module _ (s : List ℕ) (f : WholeField) where
  starts_by : (at : ℕ) → next_of (fields_at s at) ≡ Ok f
      → ((n : ℕ) → at < n → n ≤ length s → next_of (fields_at s n) ≡ Ok f → Starts s n f.at f.tag f.start f.len f.next)
      → (x : code.Result (opt.Option WholeField) Broken) → x ≡ found_at s at → Starts s at f.at f.tag f.start f.len f.next
  starts_by at e go (Ok None) x = absurd (let q = sym e ∙ ap next_of (ends_at s at x refl) in let z : ◌≡◌ {A = ℕ} 0 1 = cc in omega arith)
  starts_by at e go (Err b) x = absurd (let q = sym e ∙ ap next_of (cut_at s at x refl) in let z : ◌≡◌ {A = ℕ} 0 1 = cc in omega arith)
  starts_by at e go (Ok (Some g)) x = by (leb 0x80 g.tag) refl
    where
      k : Took s at g.tag g.start g.len g.next
      k = took x refl

      by : (b : Bool) → leb 0x80 g.tag ≡ b → Starts s at f.at f.tag f.start f.len f.next
      by true h =
          let m = took-note k (leb-true 0x80 g.tag h) in
          let r = go g.next (omega (arith, k.start_is, k.next-is)) k.upto (ap next_of (sym m) ∙ e) in
          record { is = m ∙ r.is; start_is = r.start_is; next-is = r.next-is; upto = r.upto; from = omega (arith, r.from, k.start_is, k.next-is); below = r.below }
      by false h =
          let q = sym (took-next k (leb-false 0x80 g.tag h)) ∙ e in
          let q₀ : (record { at = at; tag = g.tag; start = g.start; len = g.len; next = g.next }) ≡ f = cc in
          let q₁ : at ≡ f.at = ap (λ (f : WholeField). f.at) q₀ in
          let q₂ : g.tag ≡ f.tag = ap (λ (f : WholeField). f.tag) q₀ in
          let q₃ : g.start ≡ f.start = ap (λ (f : WholeField). f.start) q₀ in
          let q₄ : g.len ≡ f.len = ap (λ (f : WholeField). f.len) q₀ in
          let q₅ : g.next ≡ f.next = ap (λ (f : WholeField). f.next) q₀ in
          record {
            is = took-field k (leb-false 0x80 g.tag h) ∙ rw (q₁, q₂, q₃, q₄, q₅);
            start_is = omega (arith, k.start_is);
            next-is = omega (arith, k.next-is);
            upto = omega (arith, k.upto);
            from = omega arith;
            below = omega (arith, leb-false 0x80 g.tag h);
          }

  starts_from : (fuel at : ℕ) → length s - at ≤ fuel → next_of (fields_at s at) ≡ Ok f → Starts s at f.at f.tag f.start f.len f.next
  starts_from zero at h e = starts_by at e (λ n l m q. absurd (omega arith)) (found_at s at) refl
  starts_from (suc fuel) at h e = starts_by at e (λ n l m q. starts_from fuel n (omega arith) q) (found_at s at) refl

-- what `next_field` answers, and what that says of the fields from the place on
pub starts : {s : List ℕ} {at : ℕ} {f : WholeField} {r : code.Result WholeField End} → r ≡ next_of (fields_at s at) → r ≡ Ok f
    → Starts s at f.at f.tag f.start f.len f.next
starts {s} {at} {f} e q = starts_from s f (length s - at) at (omega arith) (sym e ∙ q)

pub next-cut : (fs : Fields) {a : ℕ} {r : code.Result WholeField End} → r ≡ next_of fs → r ≡ Err (End.Cut a) → fs ≡ cut a
next-cut (ends at) e q = absurd (let z : ◌≡◌ {A = ℕ} 0 1 = cc in omega arith)
next-cut (cut at) e q = cc
next-cut (f ▸ fs) e q = absurd (let z : ◌≡◌ {A = ℕ} 0 1 = cc in omega arith)

pub next-ends : (fs : Fields) {a : ℕ} {r : code.Result WholeField End} → r ≡ next_of fs → r ≡ Err (End.Ends a) → fs ≡ ends a
next-ends (ends at) e q = cc
next-ends (cut at) e q = absurd (let z : ◌≡◌ {A = ℕ} 0 1 = cc in omega arith)
next-ends (f ▸ fs) e q = absurd (let z : ◌≡◌ {A = ℕ} 0 1 = cc in omega arith)

-- where a field must follow
pub starts-required : {s : List ℕ} {at : ℕ} {f : WholeField} {r : code.Result WholeField Fault} → r ≡ next_or_fault (fields_at s at) → r ≡ Ok f
    → Starts s at f.at f.tag f.start f.len f.next
starts-required {s} {at} {f} e q = starts refl (go (next_of (fields_at s at)) (sym e ∙ q))
  where
    go : (x : code.Result WholeField End) → required x ≡ Ok f → x ≡ Ok f
    go (Ok g) q = cc
    go (Err g) q = absurd (let z : ◌≡◌ {A = ℕ} 0 1 = cc in omega arith)

-- there is none: the fields end, whole or cut, at the place at fault
pub data Ended (fs : Fields) (a : ℕ) : Type 0 where
  whole-to-end : fs ≡ ends a → Ended fs a
  cut-before : fs ≡ cut a → Ended fs a

pub ended : (fs : Fields) {e : Fault} {r : code.Result WholeField Fault} → r ≡ next_or_fault fs → r ≡ Err e
    → (e ≡ fault Refusal.Truncated e.place) × Ended fs e.place
ended (ends at) {e} p q =
    let g : fault Refusal.Truncated at ≡ e = cc in
    subst (λ (e : Fault). (e ≡ fault Refusal.Truncated e.place) × Ended (ends at) e.place) g (refl, whole-to-end refl)
ended (cut at) {e} p q =
    let g : fault Refusal.Truncated at ≡ e = cc in
    subst (λ (e : Fault). (e ≡ fault Refusal.Truncated e.place) × Ended (cut at) e.place) g (refl, cut-before refl)
ended (f ▸ fs) p q = absurd (let z : ◌≡◌ {A = ℕ} 0 1 = cc in omega arith)

module _ {s : List ℕ} {at a tag start len next : ℕ} (k : Starts s at a tag start len next) where
  pub starts-size : length (take len (drop start s)) ≡ len
  starts-size = length-take-le len (drop start s) (simp length-drop (omega arith))

  pub starts-less : length s - next < length s - at
  starts-less = omega arith

-- ---- the fields that are left, counted
pub count-ends : {fs : Fields} {a : ℕ} → fs ≡ ends a → field_count fs ≡ 0
unfolding field_count
count-ends e = rw e

pub count_cut : {fs : Fields} {a : ℕ} → fs ≡ cut a → field_count fs ≡ 0
unfolding field_count
count_cut e = rw e

pub count-starts : {s : List ℕ} {at a tag start len next : ℕ} → Starts s at a tag start len next → fields_left s at ≡ suc (fields_left s next)
unfolding field_count
count-starts k = rw k.is

-- A note is not counted.
pub count-took : {s : List ℕ} {at tag start len next : ℕ} → Took s at tag start len next → fields_left s at ≤ suc (fields_left s next)
count-took {s} {at} {tag} {next = next} k = by (leb 0x80 tag) refl
  where
    by : (b : Bool) → leb 0x80 tag ≡ b → fields_left s at ≤ suc (fields_left s next)
    by true h = rw (took-note k (leb-true 0x80 tag h)) (omega arith)
    by false h = omega (arith, count-starts (took-starts k (leb-false 0x80 tag h)))
