-- Going over a bundle: the code's count and faults are those of the definitions. Assumes nothing.
use mathlib.Core.Path.{◌≡◌, refl, sym, ap, ◌∙◌}
use mathlib.Core.Option.{Option, none, some}
use mathlib.Core.Bool.{Bool, true, false, cond, ◌||◌, ◌&&◌}
use mathlib.Core.List.{List, ◌∷◌}
use Prim.Native.Nat.{ℕ, suc, ◌+◌, ◌-◌, ◌*◌, ◌<◌, ◌≤◌}
use native.Mathlib.Omega.{arith}
use lib.Dec.{leb, ltb, eqb}
use lib.ListN.{length, take, drop}
use borrow.Author.Tests.{ltb-true, ltb-false, eqb-true, eqb-false, leb-true, leb-false, ne_eqb, le-leb, lt-leb, le-ltb}
use Rattle.forms.specs.Edition.{edition, newest_edition}
use Rattle.forms.specs.Forms.{≤0, =0, ConstraintKind, says, ≠0, Form, Constraint}
use Rattle.forms.specs.Flat.{kind_of, constraint_kind_of}
use Rattle.answers.specs.Answers.{answer, Result, refused, accepted, ◌>>=◌, ◌>>◌, need, found}
use Rattle.answers.proofs.Results.{Gives, gives-refused, gives-accepted, bind, test}
use Rattle.number_bytes.specs.Numbers.{form_from, form_width}
use Rattle.fields.specs.declared.FileKind.{FileKind}
use Rattle.fields.specs.declared.header.Numbered.{Numbered}
use Rattle.std.specs.Prelude.{Ok, Err}
use Rattle.std.specs.declared.result.Result as code
use Rattle.answers.specs.Refusals.{fault, number_of}
use Rattle.answers.specs.declared.refusals.Refusal.{Refusal}
use Rattle.answers.specs.declared.refusals.Fault.{Fault}
use Rattle.fields.specs.declared.header.Headed.{Headed}
use Rattle.fields.specs.Fields.{Field, Fields, ends, cut, ◌▸◌, fields, nth}
use Rattle.fields.specs.Header.{header_tag, known, header_field, edition_field, constants_field}
use Rattle.fields.specs.Places.{fields_at, given_k, IsEdition, IsConstants}
use Rattle.fields.proofs.Places.{Starts, starts-size, starts-less}
use Rattle.bundle.specs.Bundle.{kind_tagged, at_most, form_small, constraints, bundle_header, bundle}
use Rattle.bundle_scan.specs.Scan.{IsBundleHeader, fault_of, unless_fault, counted, stated, counted_of, start_of, constraint_start, sought_of, IsBundle, Scans}
use Rattle.bundle_scan.specs.declared.constraints.Sought.{Sought}
use Rattle.bundle_scan.specs.declared.Scanned.{Scanned}

-- ---- one turn
module _ {s : List ℕ} {at a t start len next : ℕ} (k : Starts s at a t start len next) (w K n : ℕ) where
  pub counted-on : counted w K n (fields_at s at) ≡ unless_fault (fault_of w K n t (take len (drop start s))) a (counted w K (suc n) (fields_at s next))
  unfolding counted
  counted-on = rw k.is

  pub counted-fault : {e : Refusal} → Err e ≡ fault_of w K n t (take len (drop start s)) → counted w K n (fields_at s at) ≡ Err (fault e a)
  counted-fault f = counted-on ∙ rw (← f)

  pub counted_next : Ok tt ≡ fault_of w K n t (take len (drop start s)) → counted w K n (fields_at s at) ≡ counted w K (n + 1) (fields_at s next)
  counted_next f =
      let z : suc n ≡ n + 1 = omega arith in
      counted-on ∙ rw (← f, z)

pub counted-cut : (w K n : ℕ) {fs : Fields} {a : ℕ} → fs ≡ cut a → counted w K n fs ≡ Err (fault Refusal.Truncated a)
unfolding counted
counted-cut w K n e = rw e

pub counted-ends : (w K n : ℕ) {fs : Fields} {a : ℕ} → fs ≡ ends a → counted w K n fs ≡ Ok n
unfolding counted
counted-ends w K n e = rw e

-- ---- a field without fault
-- the fault by its tests
abbrev pub by_tests : (p q r u v : Bool) → code.Result (Unit {0}) Refusal
by_tests p q r u v =
    cond p (cond q (Err Refusal.MisplacedTag) (cond r (cond u (cond v (Ok tt) (Err Refusal.OutOfRange)) (Err Refusal.TooManyConstraints)) (Err Refusal.WrongLength))) (Err Refusal.UnknownTag)

err_ok : {T E : Type 0} {e : E} {x : T} → ◌≡◌ {A = code.Result T E} (Err e) (Ok x) → ⊥
err_ok q = let z : ◌≡◌ {A = ℕ} 0 1 = cc in omega arith

pub record Proper (w K n tag : ℕ) (contents : List ℕ) : Type 0 where
  pub has : known FileKind.Bundle tag ≡ true
  pub from : ltb tag 0x03 ≡ false
  pub size : eqb (length contents) (form_width w K) ≡ true
  pub room : ltb n 32 ≡ true
  pub range : form_small 2_147_483_647 (form_from w K contents) ≡ true

-- the fault by its tests, each with its equation
pub proper-of : (w K n tag : ℕ) (contents : List ℕ) → fault_of w K n tag contents ≡ Ok tt → Proper w K n tag contents
proper-of w K n tag bs e = go (known FileKind.Bundle tag) (ltb tag 0x03) (eqb (length bs) (form_width w K)) (ltb n 32) (form_small 2_147_483_647 (form_from w K bs)) refl refl refl refl refl e
  where
    go : (p q r u v : Bool) → known FileKind.Bundle tag ≡ p → ltb tag 0x03 ≡ q → eqb (length bs) (form_width w K) ≡ r → ltb n 32 ≡ u → form_small 2_147_483_647 (form_from w K bs) ≡ v
        → by_tests p q r u v ≡ Ok tt → Proper w K n tag bs
    go true false true true true a b c d f e = record { has = a; from = b; size = c; room = d; range = f }
    go true false true true false a b c d f e = absurd (err_ok e)
    go true false true false v a b c d f e = absurd (err_ok e)
    go true false false u v a b c d f e = absurd (err_ok e)
    go true true r u v a b c d f e = absurd (err_ok e)
    go false q r u v a b c d f e = absurd (err_ok e)

-- such a field has one size, so the next one stands where that ends
module _ {s : List ℕ} {at a t start len next : ℕ} (k : Starts s at a t start len next) (w K n : ℕ) (f : Ok tt ≡ fault_of w K n t (take len (drop start s))) where
  pub sized-next : next ≡ start + (K + 1) * w
  sized-next =
      let z : suc K ≡ K + 1 = omega arith in
      let l : len ≡ suc K * w = sym (starts-size k) ∙ eqb-true (length (take len (drop start s))) (suc K * w) (proper-of w K n t (take len (drop start s)) (sym f)).size in
      let m = rw z at l in
      omega (arith, k.next-is, m)

  pub counted-sized : counted w K n (fields_at s at) ≡ counted w K (n + 1) (fields_at s (start + (K + 1) * w))
  counted-sized = counted_next k w K n f ∙ ap (λ (x : ℕ). counted w K (n + 1) (fields_at s x)) sized-next

  pub sized-less : length s - (start + (K + 1) * w) < length s - at
  sized-less = omega (arith, sized-next, starts-less k)

-- ---- the constraint that is wanted
-- Of all the fields n are gone over and fs are left; the place kept is that of field `wanted`, 0 as long as it is not gone over.
pub record Seeking (all : Fields) (wanted n found : ℕ) (fs : Fields) : Type 0 where
  pub ahead : n ≤ wanted → nth wanted all ≡ nth (wanted - n) fs
  pub none_yet : n ≤ wanted → found ≡ 0
  pub behind : wanted < n → found ≡ start_of (nth wanted all)

pub seeking-start : (all : Fields) (wanted : ℕ) → Seeking all wanted 0 0 all
seeking-start all wanted = record {
  ahead = λ h. let z : wanted - 0 ≡ wanted = omega arith in rw z;
  none_yet = λ h. refl;
  behind = λ h. absurd (omega arith);
}

module _ {s : List ℕ} {at a t start len next : ℕ} (k : Starts s at a t start len next) {all : Fields} {wanted n found : ℕ} (g : Seeking all wanted n found (fields_at s at)) where
  wanted-here : n ≡ wanted → start_of (nth wanted all) ≡ a
  unfolding nth
  wanted-here w = let z : wanted - n ≡ 0 = omega arith in rw (g.ahead (omega arith), k.is, z)

  wanted-later : n + 1 ≤ wanted → nth wanted all ≡ nth (wanted - (n + 1)) (fields_at s next)
  unfolding nth
  wanted-later h = let z : wanted - n ≡ suc (wanted - (n + 1)) = omega arith in rw (g.ahead (omega arith), k.is, z)

  pub seeking-next : {place x : ℕ} → place ≡ cond (eqb n wanted) a found → next ≡ x → Seeking all wanted (n + 1) place (fields_at s x)
  seeking-next {place} e w = rw (← w) (go (eqb n wanted) refl e)
    where
      go : (p : Bool) → eqb n wanted ≡ p → place ≡ cond p a found → Seeking all wanted (n + 1) place (fields_at s next)
      go true q e =
          let w = eqb-true n wanted q in
          record { ahead = λ h. absurd (omega arith); none_yet = λ h. absurd (omega arith); behind = λ h. e ∙ sym (wanted-here w) }
      go false q e =
          let w = eqb-false n wanted q in
          record { ahead = wanted-later; none_yet = λ h. e ∙ g.none_yet (omega arith); behind = λ h. e ∙ g.behind (omega arith) }

pub seeking-end : (w K : ℕ) {all : Fields} {wanted n found : ℕ} {fs : Fields} {a : ℕ} → counted w K 0 all ≡ counted w K n fs → Seeking all wanted n found fs → fs ≡ ends a
    → Ok (record { count = n; start = found }) ≡ sought_of (start_of (nth wanted all)) (counted w K 0 all)
unfolding nth
seeking-end w K {all} {wanted} {n} {found} c g e = rw (c, counted-ends w K n e) (ap (λ (x : ℕ). Ok (record { count = n; start = x })) (go (ltb wanted n) refl))
  where
    go : (p : Bool) → ltb wanted n ≡ p → found ≡ start_of (nth wanted all)
    go true q = g.behind (ltb-true wanted n q)
    go false q = let h = ltb-false wanted n q in g.none_yet h ∙ rw (g.ahead h, e)

-- what is answered with the place is the count or the fault without it
module _ (start : ℕ) where
  sought-count : (c : code.Result ℕ Fault) {q : code.Result Sought Fault} {x : Sought} → q ≡ sought_of start c → q ≡ Ok x → (c ≡ Ok x.count) × (x.start ≡ start)
  sought-count (Ok m) {x = x} e f = let z : (record { count = m; start = start }) ≡ x = cc in (ap (λ (x : Sought). Ok x.count) z, sym (ap (λ (x : Sought). x.start) z))
  sought-count (Err x) e f = absurd (err_ok (sym e ∙ f))

  sought-refused : (c : code.Result ℕ Fault) {q : code.Result Sought Fault} {x : Fault} → q ≡ sought_of start c → q ≡ Err x → c ≡ Err x
  sought-refused (Ok m) e f = absurd (err_ok (sym f ∙ e))
  sought-refused (Err y) {x = x} e f = let z : y ≡ x = cc in rw z

-- ---- the definitions
-- a constraint's tag is 0x03, 0x04 or 0x05
pub tag-most : (tag : ℕ) → known FileKind.Bundle tag ≡ true → ltb tag 0x03 ≡ false → tag ≤ 5
unfolding known header_tag
tag-most tag h l = go (leb tag 5) refl
  where
    go : (p : Bool) → leb tag 5 ≡ p → tag ≤ 5
    go true e = leb-true tag 5 e
    go false e =
        let big = leb-false tag 5 e in
        let one : eqb tag 1 ≡ false = ne_eqb tag 1 (λ q. omega arith) in
        let two : eqb tag 2 ≡ false = ne_eqb tag 2 (λ q. omega arith) in
        let three : leb 3 tag ≡ true = le-leb 3 tag (omega arith) in
        absurd (let z : ◌≡◌ {A = Bool} true false = sym h ∙ rw (one, two, three, e) in let w : ◌≡◌ {A = ℕ} 0 1 = cc in omega arith)

-- what the one test of a constraint's tag says of the two of the definition
module _ (tag : ℕ) where
  pub constraint-known : (leb 0x03 tag && leb tag 0x05) ≡ true → known FileKind.Bundle tag ≡ true
  unfolding known
  constraint-known h = rw h (go (header_tag tag))
    where
      go : (b : Bool) → (b || true) ≡ true
      go true = refl
      go false = refl

  pub constraint-from : (leb 0x03 tag && leb tag 0x05) ≡ true → ltb tag 0x03 ≡ false
  constraint-from h = go (leb 3 tag) refl h
    where
      go : (b : Bool) → leb 3 tag ≡ b → (b && leb tag 5) ≡ true → ltb tag 3 ≡ false
      go true e q = le-ltb tag 3 (leb-true 3 tag e)
      go false e q = absurd (let z : ◌≡◌ {A = ℕ} 0 1 = cc in omega arith)

  pub header-below : (leb 0x03 tag && leb tag 0x05) ≡ false → known FileKind.Bundle tag ≡ true → ltb tag 0x03 ≡ true
  header-below h k = go (ltb tag 3) refl
    where
      go : (b : Bool) → ltb tag 3 ≡ b → b ≡ true
      go true e = refl
      go false e =
          let q : (leb 3 tag && leb tag 5) ≡ true = rw (le-leb 3 tag (ltb-false tag 3 e), le-leb tag 5 (tag-most tag k e)) in
          absurd (let z : ◌≡◌ {A = Bool} true false = sym q ∙ h in let w : ◌≡◌ {A = ℕ} 0 1 = cc in omega arith)

-- the kind that a tag names, by its number
kind-of : (tag : ℕ) → known FileKind.Bundle tag ≡ true → ltb tag 0x03 ≡ false → kind_tagged tag ≡ some (constraint_kind_of (tag - 3))
unfolding kind_tagged constraint_kind_of kind_of
kind-of tag h l = go (eqb tag 0x03) (eqb tag 0x04) (eqb tag 0x05) refl refl refl
  where
    go : (p q r : Bool) → eqb tag 0x03 ≡ p → eqb tag 0x04 ≡ q → eqb tag 0x05 ≡ r
        → ◌≡◌ {A = Option ConstraintKind} (elim p [ true ↦ some (says ≤0) | false ↦ elim q [ true ↦ some (says =0) | false ↦ elim r [ true ↦ some ≠0 | false ↦ none ] ] ]) (some (constraint_kind_of (tag - 3)))
    go true q r a b c = ap (λ (n : ℕ). some (constraint_kind_of (n - 3))) (sym (eqb-true tag 3 a))
    go false true r a b c = ap (λ (n : ℕ). some (constraint_kind_of (n - 3))) (sym (eqb-true tag 4 b))
    go false false true a b c = ap (λ (n : ℕ). some (constraint_kind_of (n - 3))) (sym (eqb-true tag 5 c))
    go false false false a b c = absurd (omega (arith, tag-most tag h l, ltb-false tag 3 l, eqb-false tag 3 a, eqb-false tag 4 b, eqb-false tag 5 c))

no_kind : (tag : ℕ) → ltb tag 0x03 ≡ true → kind_tagged tag ≡ none
unfolding kind_tagged
no_kind tag l =
    let small = ltb-true tag 3 l in
    go (eqb tag 0x03) (eqb tag 0x04) (eqb tag 0x05) (ne_eqb tag 3 (λ e. omega arith)) (ne_eqb tag 4 (λ e. omega arith)) (ne_eqb tag 5 (λ e. omega arith))
  where
    go : (p q r : Bool) → p ≡ false → q ≡ false → r ≡ false
        → ◌≡◌ {A = Option ConstraintKind} (elim p [ true ↦ some (says ≤0) | false ↦ elim q [ true ↦ some (says =0) | false ↦ elim r [ true ↦ some ≠0 | false ↦ none ] ] ]) none
    go true q r a b c = absurd (let z : ◌≡◌ {A = ℕ} 0 1 = cc in omega arith)
    go false true r a b c = absurd (let z : ◌≡◌ {A = ℕ} 0 1 = cc in omega arith)
    go false false true a b c = absurd (let z : ◌≡◌ {A = ℕ} 0 1 = cc in omega arith)
    go false false false a b c = refl

module _ (file number K : ℕ) where
  abbrev width : ℕ
  width = (edition number).coefficient_width

  -- the constraint of a field before those after it
  after : (f : Field) (fs : Fields) (r : code.Result ℕ Fault)
      → (counted_of file width K fs r >>= (λ (cs : List Constraint). accepted (record { kind = constraint_kind_of (f.tag - 3); form = form_from width K f.contents } ∷ cs)))
      ≡ counted_of file width K (f ▸ fs) r
  unfolding ◌>>=◌ stated
  after f fs (Ok n) = refl
  after f fs (Err e) = refl

  -- the tests of one field, each way
  tests : (a : ℕ) (form : Form) (fs : Fields) (κ : ConstraintKind) (o : Option ConstraintKind) (X : Result (List Constraint)) (c : code.Result ℕ Fault) (p q r u v : Bool)
      → (q ≡ true → o ≡ none) → (p ≡ true → q ≡ false → o ≡ some κ)
      → (X >>= (λ (cs : List Constraint). accepted (record { kind = κ; form = form } ∷ cs))) ≡ counted_of file width K fs c
      → (need (answer 3 file a) p >> (found (answer 4 file a) o >>= (λ (kind : ConstraintKind).
      need (answer 6 file a) r >> (need (answer 8 file a) u >> (need (answer 13 file a) v >> (X >>= (λ (cs : List Constraint). accepted (record { kind = kind; form = form } ∷ cs))))))))
      ≡ counted_of file width K fs (unless_fault (by_tests p q r u v) a c)
  unfolding need ◌>>◌ ◌>>=◌ found
  tests a form fs κ o X c false q r u v none-if some-if e = refl
  tests a form fs κ o X c true true r u v none-if some-if e = rw (none-if refl)
  tests a form fs κ o X c true false false u v none-if some-if e = rw (some-if refl refl)
  tests a form fs κ o X c true false true false v none-if some-if e = rw (some-if refl refl)
  tests a form fs κ o X c true false true true false none-if some-if e = rw (some-if refl refl)
  tests a form fs κ o X c true false true true true none-if some-if e = rw (some-if refl refl) e

  pub constraints-counted : (n : ℕ) (fs : Fields) → constraints file (edition number) K n fs ≡ counted_of file width K fs (counted width K n fs)
  unfolding constraints counted stated
  constraints-counted n (ends at) = refl
  constraints-counted n (cut at) = refl
  constraints-counted n (f ▸ fs) =
      tests f.at (form_from width K f.contents) (f ▸ fs) (constraint_kind_of (f.tag - 3)) (kind_tagged f.tag)
      (constraints file (edition number) K (suc n) fs) (counted width K (suc n) fs)
      (known FileKind.Bundle f.tag) (ltb f.tag 0x03) (eqb (length f.contents) (form_width width K)) (ltb n 32) (form_small 2_147_483_647 (form_from width K f.contents))
      (no_kind f.tag) (kind-of f.tag)
      (rw (constraints-counted (suc n) fs) (after f fs (counted width K (suc n) fs)))

pub passed-both : (x : code.Result (Unit {0}) Refusal) (a m : ℕ) (c : code.Result ℕ Fault) → unless_fault x a c ≡ Ok m → (x ≡ Ok tt) × (c ≡ Ok m)
passed-both (Ok u) a m c e = (refl, e)
passed-both (Err r) a m c e = absurd (err_ok e)

pub count_is : (w K n m : ℕ) (fs : Fields) → counted w K n fs ≡ Ok m → m ≡ n + length (stated w K fs)
unfolding counted stated
count_is w K n m (ends at) e = let q : n ≡ m = cc in omega arith
count_is w K n m (cut at) e = absurd (err_ok e)
count_is w K n m (f ▸ fs) e = omega (arith, count_is w K (suc n) m fs (passed-both (fault_of w K n f.tag f.contents) f.at m (counted w K (suc n) fs) e).1)

-- ---- a whole bundle
-- the fields after a header field, and after the header
field-rest : (file tag : ℕ) (fs : Fields) → Gives (header_field FileKind.Bundle file tag fs) (λ x. (i : ℕ) → nth (suc i) fs ≡ nth i x.2)
unfolding header_field nth
field-rest file tag (ends at) = gives-refused _ tt
field-rest file tag (cut at) = gives-refused _ tt
field-rest file tag (f ▸ fs) = test _ _ tt λ _. test _ _ tt λ _. test _ _ tt λ _. gives-accepted (λ i. refl)

header-rest : (newest file : ℕ) (given : Option ℕ) (bytes : List ℕ) → Gives (bundle_header newest file given bytes) (λ h. (i : ℕ) → nth (i + 2) (fields bytes) ≡ nth i h.rest)
unfolding bundle_header edition_field constants_field at_most
header-rest newest file given bytes =
    bind (bind (field-rest file 0x01 (fields bytes)) λ (at, n, fs1) h1. test _ _ tt λ _. gives-accepted {P = λ x. (i : ℕ) → nth (suc i) (fields bytes) ≡ nth i x.1} h1) λ (n, fs1) h1.
    test _ _ tt λ _.
    bind (bind (field-rest file 0x02 fs1) λ (at2, K, fs2) h2. test _ _ tt λ _. test _ _ tt λ _. gives-accepted {P = λ x. (i : ℕ) → nth (suc i) fs1 ≡ nth i x.1} h2) λ (K, fs2) h2.
    gives-accepted (λ i. let z : i + 2 ≡ suc (suc i) = omega arith in rw z (h1 (suc i) ∙ h2 i))

-- ---- each way through `scan`
module _ {given : ℕ} {s : List ℕ} {r : code.Result Headed Fault} (h : IsBundleHeader newest_edition given s r) where
  pub scan-header : {e : Fault} → r ≡ Err e → (file : ℕ) → bundle newest_edition file (given_k given) s ≡ refused (answer (number_of e.refusal) file e.place)
  unfolding bundle ◌>>=◌
  scan-header e file = rw (h.is file, e)

  module _ {x : Headed} (e : r ≡ Ok x) where
    header_is : IsBundleHeader newest_edition given s (Ok x)
    header_is = rw e at h

    start_is : (wanted : ℕ) → start_of (nth wanted (fields_at s x.next)) ≡ constraint_start s wanted
    start_is wanted = sym (ap start_of ((header-rest newest_edition 1 (given_k given) s).gives _ (header_is.is 1) wanted))

    module _ {w : ℕ} (v : w ≡ (edition x.edition).coefficient_width) where
      scan-fault : {e : Fault} → counted w x.k 0 (fields_at s x.next) ≡ Err e → (file : ℕ) → bundle newest_edition file (given_k given) s ≡ refused (answer (number_of e.refusal) file e.place)
      unfolding bundle ◌>>=◌
      scan-fault t file = let u = rw v at t in rw (header_is.is file, constraints-counted file x.edition x.k 0 (fields_at s x.next), u)

      module _ (wanted : ℕ) {q : code.Result Sought Fault} (c : q ≡ sought_of (start_of (nth wanted (fields_at s x.next))) (counted w x.k 0 (fields_at s x.next))) where
        pub seek-fault : {e : Fault} → q ≡ Err e → Scans given s wanted (Err e)
        seek-fault t = record { by = scan-fault (sought-refused _ _ c t) }

        pub seek-count : {y : Sought} → q ≡ Ok y → Scans given s wanted (Ok (record { k = x.k; body = record { edition = x.edition; at = x.next; count = y.count }; start = y.start }))
        seek-count t =
            let u = sought-count _ _ c t in
            record { by = (record { header = header_is; counts = rw (← v) u.0 }, u.1 ∙ start_is wanted) }

-- what `scan` tells, by its answer
module _ {given : ℕ} {s : List ℕ} {wanted : ℕ} {r : code.Result Scanned Fault} (h : Scans given s wanted r) where
  pub scanned-bundle : {x : Scanned} → r ≡ Ok x → IsBundle given s x.k x.body × (x.start ≡ constraint_start s wanted)
  scanned-bundle e = rw e at h.by

  pub scanned-refused : {e : Fault} → r ≡ Err e → (file : ℕ) → bundle newest_edition file (given_k given) s ≡ refused (answer (number_of e.refusal) file e.place)
  scanned-refused e = rw e at h.by

-- ---- opening: the two header fields, and the length between them
module _ {newest given : ℕ} {s : List ℕ} {r : code.Result Numbered Fault} (f : IsEdition FileKind.Bundle newest s r) where
  pub open-refused : {x : Fault} → r ≡ Err x → IsBundleHeader newest given s (Err x)
  unfolding bundle_header ◌>>=◌
  open-refused e = record { is = λ file. rw (f.is file, e) }

  module _ {v : Numbered} (e : r ≡ Ok v) where
    pub open-long : (edition v.value).bundle_bytes < length s → IsBundleHeader newest given s (Err (fault Refusal.TooLong 0))
    unfolding bundle_header at_most need ◌>>◌ ◌>>=◌
    open-long h = record { is = λ file. rw (f.is file, e, lt-leb (length s) (edition v.value).bundle_bytes h) }

    module _ (h : length s ≤ (edition v.value).bundle_bytes) {q : code.Result Numbered Fault} (k : IsConstants FileKind.Bundle given s v.next q) where
      pub open-k-refused : {x : Fault} → q ≡ Err x → IsBundleHeader newest given s (Err x)
      unfolding bundle_header at_most need ◌>>◌ ◌>>=◌
      open-k-refused d = record { is = λ file. rw (f.is file, e, le-leb (length s) (edition v.value).bundle_bytes h, k.is file, d) }

      pub open-value : {c : Numbered} → q ≡ Ok c → IsBundleHeader newest given s (Ok (record { edition = v.value; k = c.value; next = c.next }))
      unfolding bundle_header at_most need ◌>>◌ ◌>>=◌
      open-value d = record { is = λ file. rw (f.is file, e, le-leb (length s) (edition v.value).bundle_bytes h, k.is file, d) }
