-- Where a bundle is refused by 13, for a number that its edition does not hold, and by 8 before it; and in writing by 13, and by 24 before it. Assumes nothing.
use mathlib.Core.Path.{◌≡◌, refl, sym, ◌∙◌, ap, subst}
use mathlib.Core.Logic.{◌⊎◌, inl, inr}
use mathlib.Core.Option.{Option, some}
use mathlib.Core.Bool.{Bool, true, false, ◌&&◌}
use mathlib.Core.List.{List, [], ◌∷◌, ◌++◌}
use Prim.Native.Nat.{ℕ, zero, suc, ◌+◌, ◌*◌, ◌≤◌, ◌<◌}
use native.Mathlib.Nat.{zero-add}
use native.Mathlib.Omega.{arith}
use borrow.Author.Tests.{lt-leb, le-ltb, ne_eqb}
use lib.Dec.{T, leb, ltb, eqb_refl, le→leb, lt→ltb}
use lib.IntN.{ℤ, pos, nat_abs}
use lib.ListN.{length, get_or}
use lib.Signed.{mag}
use mir.Facts.{yes_and}
use Rattle.forms.specs.Edition.{Edition, edition, newest_edition}
use Rattle.forms.specs.Forms.{All, nil, cons, Form, Constraint, small, every}
use Rattle.answers.specs.declared.Answer.{Answer}
use Rattle.answers.specs.declared.WriteResult.{WriteResult}
use Rattle.answers.specs.Answers.{answer, file_lent, Result, refused, accepted, each, Written, written}
use Rattle.answers.proofs.Results.{binds, passes, needs, fail, found_some, bind-refused, then-refused, each-accepted}
use Rattle.number_bytes.specs.Numbers.{flat, form_width}
use Rattle.number_bytes.proofs.Signed.{all-weaken}
use Rattle.fields.specs.declared.FileKind.{FileKind}
use Rattle.fields.specs.Fields.{Field, Fields, ◌▸◌, fields, nth, Item, item}
use Rattle.fields.specs.Header.{header_tag, known, agrees, header_field, constants_field}
use Rattle.bundle.specs.Bundle.{form_small, constraints, bundle_header, bundle}
use Rattle.bundle.specs.Layout.{Each, States, StatesAll}
use Rattle.bundle.specs.Read.{numbers_of}
use Rattle.bundle.specs.Write.{holdable, encode_bundle, write_bundle}
use Rattle.bundle.proofs.Laid.{kind-known, AllSmall, short-accepted}
use Rattle.bundle.proofs.Every.{every_of}
use Rattle.bundle_write.specs.Promises.{Writes}
use Rattle.proof.proofs.Editions.{Starting, field-said}
use Rattle.guarantee.specs.Editions.{Starts, HasLowest, HasMore, InLimits, WellCounted}
use Rattle.guarantee.proofs.Acceptance.{two-held, four-held}

-- ---- in a bundle
-- one that is out of range stops the test of a form
stopped : (a : Bool) {b : Bool} → b ≡ false → (a && b) ≡ false
stopped true e = e
stopped false e = refl

not-every : (p : ℤ → Bool) (zs : List ℤ) (i : ℕ) → p (pos 0) ≡ true → p (get_or zs i (pos 0)) ≡ false → every p zs ≡ false
unfolding every
not-every p [] i good bad = absurd (let z : true ≡ false = sym good ∙ bad in let e : ◌≡◌ {A = ℕ} 0 1 = cc in omega arith)
not-every p (z ∷ zs) zero good bad = rw bad
not-every p (z ∷ zs) (suc i) good bad = stopped (p z) (not-every p zs i good bad)

all_left : {X : Type 0} {P : X → Type 0} (xs ys : List X) → All P (xs ++ ys) → All P xs × All P ys
all_left [] ys h = (nil, h)
all_left (x ∷ xs) ys (cons p h) = let (a, b) = all_left xs ys h in (cons p a, b)

all_small : (cs : List Constraint) → All (λ z. nat_abs z ≤ 2_147_483_647) (numbers_of cs) → AllSmall 2_147_483_647 cs
unfolding numbers_of form_small small
all_small [] h = nil
all_small (c ∷ cs) h =
    let (own, rest) = all_left (flat c.form) (numbers_of cs) h in
    cons (every_of (λ z. leb (nat_abs z) 2_147_483_647) (all-weaken (λ z k. le→leb (nat_abs z) 2_147_483_647 k) own)) (all_small cs rest)

-- ---- what starts as a bundle
-- the fields fs are that of item i, and then what starts with is
record Front (fs : Fields) (i : Item) (is : List Item) : Type 0 where
  first : Field
  after : Fields
  are : fs ≡ first ▸ after
  tag : first.tag ≡ i.tag
  contents : first.contents ≡ i.contents
  rest : Starts after is

front_of : {fs : Fields} {js : List Item} → Starts fs js → (i : Item) (is : List Item) → js ≡ i ∷ is → Front fs i is
front_of Starts.nil i is e = absurd (let z : ◌≡◌ {A = ℕ} 0 1 = cc in omega arith)
front_of (Starts.cons {f} {fs} {is = js} s) i is e =
    let same : item f.tag f.contents ≡ i = cc in
    let rest : js ≡ is = cc in
    record { first = f; after = fs; are = refl; tag = ap (λ (i : Item). i.tag) same; contents = ap (λ (i : Item). i.contents) same; rest = subst (Starts fs) rest s }

-- the fields behind `before` are read: the next one states c, and what it is refused by the whole is
module _ (file : ℕ) (e : Edition) (K : ℕ) (c : Constraint) where
  record Past (n : ℕ) (fs : Fields) (before : List Constraint) : Type 0 where
    next : Field
    after : Fields
    there : nth (length before) fs ≡ some next
    states : States e K (item next.tag next.contents) c
    refuses : {a : Answer} → constraints file e K (n + length before) (next ▸ after) ≡ refused a → constraints file e K n fs ≡ refused a

  past : (n : ℕ) {fs : Fields} {is : List Item} (before : List Constraint) → Starts fs is → Each (States e K) is (before ++ c ∷ []) → n + length before ≤ e.constraints → AllSmall e.range before → Past n fs before
  unfolding constraints nth
  past n [] Starts.nil e h _ = elim e [ ]
  past n (b ∷ before) Starts.nil e h _ = elim e [ ]
  past n [] (Starts.cons {f} {fs} s) (Each.cons t l) h nil = record {
    next = f;
    after = fs;
    there = refl;
    states = t;
    refuses = λ q. ap (λ (m : ℕ). constraints file e K m (f ▸ fs)) (omega arith) ∙ q;
  }
  past n (b ∷ before) (Starts.cons {f} s) (Each.cons t l) h (cons r rs) =
      let p = past (suc n) before s l (omega arith) rs in
      record {
        next = p.next;
        after = p.after;
        there = p.there;
        states = p.states;
        refuses = λ q.
            needs _ _ _ (kind-known f.tag b.kind t.kind) ∙ binds _ (found_some _ t.kind) ∙ needs _ _ _ (rw t.size (eqb_refl (form_width e.coefficient_width K)))
            ∙ needs _ _ _ (lt→ltb n e.constraints (omega arith)) ∙ needs _ _ _ (subst (λ (t : Form). T (form_small e.range t)) (sym t.form) r)
            ∙ bind-refused _ (p.refuses (ap (λ (m : ℕ). constraints file e K m (p.next ▸ p.after)) (omega arith) ∙ q));
      }

-- the header of such a file is read
constants-first : (file : ℕ) (given : Option ℕ) (fs : Fields) (K : ℕ) (is : List Item) (x : Front fs (item 0x02 (K ∷ [])) is) → 1 ≤ K → K ≤ 16 → T (agrees given K)
    → constants_field FileKind.Bundle file given fs ≡ accepted (K, x.after)
unfolding constants_field header_field known header_tag
constants-first file given fs K is x low high agree =
    let f = x.first in
    ap (constants_field FileKind.Bundle file given) x.are
    ∙ binds _ (needs _ _ _ (rw x.tag tt) ∙ needs _ _ _ (rw x.tag tt) ∙ needs _ _ _ (rw x.contents tt) ∙ ap (λ (bs : List ℕ). accepted (f.at, get_or bs 0 0, x.after)) x.contents)
    ∙ needs _ _ _ (yes_and (leb 1 K) (leb K 16) (le→leb 1 K low) (le→leb K 16 high))
    ∙ needs _ _ _ agree

-- and so is what stands before c
module _ (file : ℕ) (given : Option ℕ) (bytes : List ℕ) (n K : ℕ) (before : List Constraint) (c : Constraint) where
  record Reached : Type 0 where
    next : Field
    after : Fields
    there : nth (length before + 2) (fields bytes) ≡ some next
    states : States (edition n) K (item next.tag next.contents) c
    refuses : {a : Answer} → constraints file (edition n) K (length before) (next ▸ after) ≡ refused a → bundle newest_edition file given bytes ≡ refused a

  reached : (list : List Item) → 1 ≤ n → n ≤ 2 → T (agrees given K) → length bytes ≤ (edition n).bundle_bytes → Starts (fields bytes) list → StatesAll n list K (before ++ c ∷ [])
      → length before ≤ 32 → All (λ z. nat_abs z ≤ 2_147_483_647) (numbers_of before) → Reached
  unfolding bundle bundle_header known header_tag nth
  reached list first last agree short starts l few within =
      let x = front_of starts (item 0x01 (n ∷ [])) (item 0x02 (K ∷ []) ∷ l.body) l.are in
      let y = front_of x.rest (item 0x02 (K ∷ [])) l.body refl in
      let s : Starting (fields bytes) n = record { first = x.first; after = x.after; are = x.are; tag = x.tag; size = ap length x.contents; says = ap (λ (bs : List ℕ). get_or bs 0 0) x.contents } in
      let p = past file (edition n) K c 0 before y.rest l.states (omega arith) (all_small before within) in
      let two : suc (suc (length before)) ≡ length before + 2 = omega arith in
      record {
        next = p.next;
        after = p.after;
        there = ap (λ (i : ℕ). nth i (fields bytes)) (sym two) ∙ ap (nth (suc (suc (length before)))) x.are ∙ ap (nth (suc (length before))) y.are ∙ p.there;
        states = p.states;
        refuses = λ q.
            binds _ (binds _ (field-said FileKind.Bundle file tt s 2 ∙ needs _ _ _ (yes_and (leb 1 n) (leb n 2) (le→leb 1 n first) (le→leb n 2 last))) ∙ passes _ (short-accepted (edition n).bundle_bytes file bytes short)
            ∙ binds _ (constants-first file given x.after K l.body y l.low l.high agree))
            ∙ bind-refused _ (p.refuses (ap (λ (m : ℕ). constraints file (edition n) K m (p.next ▸ p.after)) (zero-add (length before)) ∙ q));
      }

one_field : {o : Option Field} {f g : Field} → o ≡ some f → o ≡ some g → f ≡ g
one_field p q = cc

-- 13 at the field of the number
pub bundle-lowest : (file : ℕ) (given : Option ℕ) (bytes : List ℕ) {K at : ℕ} → T (agrees given K) → length bytes ≤ 8_192 → HasLowest bytes K at → bundle newest_edition file given bytes ≡ refused (answer 13 file at)
unfolding constraints form_small small
bundle-lowest file given bytes {K} {at} agree short h =
    let c = h.own in
    let r = reached file given bytes 2 K h.before c h.list (omega arith) (omega arith) agree short h.starts h.laid (omega (arith, h.few)) h.within in
    let s = r.states in
    let bad : form_small 2_147_483_647 c.form ≡ false =
    not-every (λ z. leb (nat_abs z) 2_147_483_647) (flat c.form) h.index refl (ap (λ (z : ℤ). leb (nat_abs z) 2_147_483_647) h.lowest) in
    r.refuses (needs _ _ _ (kind-known r.next.tag c.kind s.kind) ∙ binds _ (found_some _ s.kind) ∙ needs _ _ _ (rw s.size (eqb_refl (form_width 4 K)))
    ∙ needs _ _ _ (lt→ltb (length h.before) 32 h.few) ∙ fail _ _ (ap (form_small 2_147_483_647) s.form ∙ bad))
    ∙ ap (λ (p : ℕ). refused (answer 13 file p)) (ap (λ (f : Field). f.at) (one_field r.there h.there) ∙ h.place)

-- 8 at the field of a 33rd constraint
up-to-2 : {n : ℕ} → (n ≡ 1) ⊎ (n ≡ 2) → (1 ≤ n) × (n ≤ 2)
up-to-2 (inl e) = (omega arith, omega arith)
up-to-2 (inr e) = (omega arith, omega arith)

pub bundle-more : (file : ℕ) (given : Option ℕ) (bytes : List ℕ) {n K at : ℕ} → T (agrees given K) → HasMore bytes n K at → bundle newest_edition file given bytes ≡ refused (answer 8 file at)
unfolding constraints
bundle-more file given bytes {n} {K} {at} agree h =
    let c = h.own in
    let (first, last) = up-to-2 h.one_or_two in
    let r = reached file given bytes n K h.before c h.list first last agree h.short h.starts h.laid (omega (arith, h.many)) h.within in
    let s = r.states in
    r.refuses (needs _ _ _ (kind-known r.next.tag c.kind s.kind) ∙ binds _ (found_some _ s.kind) ∙ needs _ _ _ (rw s.size (eqb_refl (form_width (edition n).coefficient_width K)))
    ∙ fail _ _ (le-ltb (length h.before) 32 (omega (arith, h.many))))
    ∙ ap (λ (p : ℕ). refused (answer 8 file p)) (ap (λ (f : Field). f.at) (one_field r.there h.there) ∙ h.place)

-- ---- in what is to be written
module _ {X : Type 0} (at : ℕ → Answer) (p : X → Bool) where
  each-fails : (i : ℕ) {before : List X} (x : X) (after : List X) → All (λ y. T (p y)) before → p x ≡ false → each at p i (before ++ x ∷ after) ≡ refused (at (i + length before))
  unfolding each
  each-fails i x after nil bad = fail _ _ bad ∙ ap (λ (k : ℕ). refused (at k)) (omega arith)
  each-fails i x after (cons {xs = ys} h hs) bad = needs _ _ _ h ∙ each-fails (suc i) x after hs bad ∙ ap (λ (k : ℕ). refused (at k)) (omega arith)

-- 24, for a kind and for the count of numbers
module _ {n K : ℕ} {kinds : List ℕ} {numbers : List ℤ} {output left : List ℕ} {r : WriteResult} (c : Writes n K kinds numbers output left r) (k : InLimits n K kinds) where
  written-refused : {a : Answer} → encode_bundle newest_edition n K kinds numbers ≡ refused a → r.answer ≡ a
  unfolding write_bundle written
  written-refused e = ap (λ (w : Written). w.answer) c.is ∙ ap (λ (x : Result (List ℕ)). (written x output).answer) e

  pub write_kind : (before after : List ℕ) (kind : ℕ) → kinds ≡ before ++ kind ∷ after → All (λ k. k ≤ 2) before → 2 < kind → r.answer ≡ answer 24 file_lent (length before)
  unfolding encode_bundle
  write_kind before after kind are held h =
      let (first, last) = up-to-2 k.one_or_two in
      written-refused (needs _ _ _ (yes_and (leb 1 n) (leb n 2) (le→leb 1 n first) (le→leb n 2 last))
      ∙ needs _ _ _ (yes_and (leb 1 K) (leb K 16) (le→leb 1 K k.low) (le→leb K 16 k.high))
      ∙ needs _ _ _ (le→leb (length kinds) 32 k.few)
      ∙ then-refused _ (ap (each (λ i. answer 24 file_lent i) (λ kind. leb kind 2) 0) are
      ∙ each-fails (λ i. answer 24 file_lent i) (λ kind. leb kind 2) 0 kind after (all-weaken (λ kind q. le→leb kind 2 q) held) (lt-leb kind 2 h))
      ∙ ap (λ (i : ℕ). refused (answer 24 file_lent i)) (zero-add (length before)))

  pub write_count : All (λ k. k ≤ 2) kinds → ¬ (length numbers ≡ length kinds * suc K) → r.answer ≡ answer 24 file_lent (length kinds)
  unfolding encode_bundle
  write_count valid h =
      let (first, last) = up-to-2 k.one_or_two in
      written-refused (needs _ _ _ (yes_and (leb 1 n) (leb n 2) (le→leb 1 n first) (le→leb n 2 last))
      ∙ needs _ _ _ (yes_and (leb 1 K) (leb K 16) (le→leb 1 K k.low) (le→leb K 16 k.high))
      ∙ needs _ _ _ (le→leb (length kinds) 32 k.few)
      ∙ passes _ (each-accepted _ _ 0 (all-weaken (λ kind q. le→leb kind 2 q) valid))
      ∙ fail _ _ (ne_eqb (length numbers) (length kinds * suc K) h))

no-two : (z : ℤ) → 32_767 < mag z → holdable 2 z ≡ false
unfolding holdable
no-two z h = rw (le-ltb (mag z + mag z) 65_536 (omega arith))

no-four : (z : ℤ) → 2_147_483_647 < nat_abs z → holdable 4 z ≡ false
unfolding holdable small
no-four z h = stopped (ltb (mag z + mag z) 4_294_967_296) (lt-leb (nat_abs z) 2_147_483_647 h)

module _ (n : ℕ) {K : ℕ} {kinds : List ℕ} {numbers : List ℤ} {output left : List ℕ} {r : WriteResult} (c : Writes n K kinds numbers output left r) (k : WellCounted n K kinds numbers) where
  write-wide : {before : List ℤ} (after : List ℤ) (z : ℤ) → numbers ≡ before ++ z ∷ after → All (λ y. T (holdable (edition n).coefficient_width y)) before → holdable (edition n).coefficient_width z ≡ false
      → r.answer ≡ answer 13 file_lent (length before)
  unfolding write_bundle encode_bundle written
  write-wide {before} after z are held bad =
      let l = k.limits in
      let (first, last) = up-to-2 l.one_or_two in
      let e : encode_bundle newest_edition n K kinds numbers ≡ refused (answer 13 file_lent (length before)) =
      needs _ _ _ (yes_and (leb 1 n) (leb n 2) (le→leb 1 n first) (le→leb n 2 last))
      ∙ needs _ _ _ (yes_and (leb 1 K) (leb K 16) (le→leb 1 K l.low) (le→leb K 16 l.high))
      ∙ needs _ _ _ (le→leb (length kinds) 32 l.few)
      ∙ passes _ (each-accepted _ _ 0 (all-weaken (λ kind h. le→leb kind 2 h) k.valid))
      ∙ needs _ _ _ (rw k.size (eqb_refl (length kinds * suc K)))
      ∙ then-refused _ (ap (each (λ i. answer 13 file_lent i) (holdable (edition n).coefficient_width) 0) are ∙ each-fails (λ i. answer 13 file_lent i) (holdable (edition n).coefficient_width) 0 z after held bad)
      ∙ ap (λ (i : ℕ). refused (answer 13 file_lent i)) (zero-add (length before)) in
      ap (λ (w : Written). w.answer) c.is ∙ ap (λ (x : Result (List ℕ)). (written x output).answer) e

module _ {K : ℕ} {kinds : List ℕ} {numbers : List ℤ} {output left : List ℕ} {r : WriteResult} (before after : List ℤ) (z : ℤ) (are : numbers ≡ before ++ z ∷ after) where
  pub wide-1 : Writes 1 K kinds numbers output left r → WellCounted 1 K kinds numbers → All (λ y. mag y ≤ 32_767) before → 32_767 < mag z → r.answer ≡ answer 13 file_lent (length before)
  wide-1 c k held h = write-wide 1 c k after z are (all-weaken two-held held) (no-two z h)

  pub wide-2 : Writes 2 K kinds numbers output left r → WellCounted 2 K kinds numbers → All (λ y. nat_abs y ≤ 2_147_483_647) before → 2_147_483_647 < nat_abs z → r.answer ≡ answer 13 file_lent (length before)
  wide-2 c k held h = write-wide 2 c k after z are (all-weaken four-held held) (no-four z h)
