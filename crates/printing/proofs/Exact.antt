-- The reader takes no text but that of the proposition that it reads. Assumes nothing.
use mathlib.Core.Path.{◌≡◌, refl, sym, ap, ◌∙◌}
use mathlib.Core.Logic.{◌⊎◌, inl, inr}
use mathlib.Core.Bool.{Bool, true, false, cond, ◌&&◌}
use mathlib.Core.List.{List, [], ◌∷◌, ◌++◌, append_assoc, append-nil}
use mathlib.Core.Option.{Option, none, some, some-injective}
use Prim.Native.Nat.{ℕ, zero, suc, ◌+◌, ◌*◌, ◌-◌, ◌/◌, ◌%◌, ◌≤◌}
use native.Mathlib.Omega.{arith}
use lib.Dec.{eqb, leb}
use lib.ListN.{length}
use borrow.Author.Tests.{eqb-true, eqb-false, leb-true}
use Rattle.printing.specs.Smt.{Term, Terms, Prop, numeral, register, minus, times, modulo, plus, final, also, at_most, equals, conj, disj}
use Rattle.printing.specs.Text.{ascii, decimal, term_text, terms_text, prop_text, whether}
use Rattle.printing.specs.Reading.{◌>>=◌, if_some, expect, digit, digits_from, read_number, TextReader, read_one, read_two, mapped, read_term, read_terms, read_prop, to_end, parse_prop}
use Rattle.printing.proofs.Decimal.{decimal-short, decimal-long}
use Rattle.printing.proofs.Unique.{one-laid, two-laid}

none-some : {X : Type 0} {x : X} → none ≡ some x → ⊥
none-some e = let z : ◌≡◌ {A = ℕ} 0 1 = cc in omega arith

-- ---- what a reading that succeeds is made of
record Then {X Y : Type 0} (m : Option X) (k : X → Option Y) (y : Y) : Type 0 where
  value : X
  is : m ≡ some value
  next : k value ≡ some y

bound : {X Y : Type 0} (m : Option X) {k : X → Option Y} {y : Y} → (m >>= k) ≡ some y → Then m k y
bound none e = absurd (none-some e)
bound (some x) e = record { value = x; is = refl; next = e }

record Else {Y : Type 0} (g : Unit {0} → Option Y) (y : Y) : Type 0 where
  next : g tt ≡ some y

chosen : {X Y : Type 0} (m : Option X) {f : X → Option Y} {g : Unit {0} → Option Y} {y : Y} → if_some m f g ≡ some y → Then m f y ⊎ Else g y
chosen none e = inr (record { next = e })
chosen (some x) e = inl (record { value = x; is = refl; next = e })

cases : {A B C : Type 0} → A ⊎ B → (A → C) → (B → C) → C
cases (inl a) f g = f a
cases (inr b) f g = g b

expected : (ps bs : List ℕ) {rest : List ℕ} → expect ps bs ≡ some rest → bs ≡ ps ++ rest
unfolding expect
expected [] bs {rest} e = some-injective bs rest e
expected (p ∷ ps) [] e = absurd (none-some e)
expected (p ∷ ps) (b ∷ bs) {rest} e = go (eqb p b) refl e (λ k. expected ps bs k)
  where
    go : (t : Bool) → eqb p b ≡ t → cond t (expect ps bs) none ≡ some rest → (expect ps bs ≡ some rest → bs ≡ ps ++ rest) → b ∷ bs ≡ p ∷ (ps ++ rest)
    go true f k ih = rw (eqb-true p b f, ih k)
    go false f k ih = absurd (none-some k)

-- ---- numbers
digit-range : (b : ℕ) → digit b ≡ true → (48 ≤ b) × (b ≤ 57)
unfolding digit
digit-range b e = go (leb 48 b) refl (leb b 57) refl e
  where
    go : (s : Bool) → leb 48 b ≡ s → (t : Bool) → leb b 57 ≡ t → (s && t) ≡ true → (48 ≤ b) × (b ≤ 57)
    go true f true g k = (leb-true 48 b f, leb-true b 57 g)
    go true f false g k = absurd (let z : ◌≡◌ {A = ℕ} 0 1 = cc in omega arith)
    go false f t g k = absurd (let z : ◌≡◌ {A = ℕ} 0 1 = cc in omega arith)

one_more : (m b : ℕ) → 1 ≤ m → 48 ≤ b → b ≤ 57 → decimal (m * 10 + (b - 48)) ≡ decimal m ++ (b ∷ [])
one_more m b h l k =
    let q : (m * 10 + (b - 48)) / 10 ≡ m = omega arith in
    let r : 48 + (m * 10 + (b - 48)) % 10 ≡ b = omega arith in
    decimal-long {n = m * 10 + (b - 48)} (omega arith) ∙ rw (q, r)

digits-exact : (m : ℕ) (bs : List ℕ) → 1 ≤ m → decimal m ++ bs ≡ decimal (digits_from m bs).0 ++ (digits_from m bs).1
unfolding digits_from
digits-exact m [] h = refl
digits-exact m (b ∷ bs) h = go (digit b) refl (digits-exact (m * 10 + (b - 48)) bs)
  where
    go : (t : Bool) → digit b ≡ t
        → (1 ≤ m * 10 + (b - 48) → decimal (m * 10 + (b - 48)) ++ bs ≡ decimal (digits_from (m * 10 + (b - 48)) bs).0 ++ (digits_from (m * 10 + (b - 48)) bs).1)
        → decimal m ++ (b ∷ bs) ≡ decimal (digits_from m (b ∷ bs)).0 ++ (digits_from m (b ∷ bs)).1
    go true e ih =
        let d : (48 ≤ b) × (b ≤ 57) = digit-range b e in
        rw e (sym (ap (λ (l : List ℕ). l ++ bs) (one_more m b h d.0 d.1) ∙ append_assoc (decimal m) (b ∷ []) bs) ∙ ih (omega arith))
    go false e ih = rw e

number-exact : (bs : List ℕ) (n : ℕ) (rest : List ℕ) → read_number bs ≡ some (n, rest) → bs ≡ decimal n ++ rest
unfolding read_number digits_from
number-exact [] n rest e = absurd (none-some e)
number-exact (b ∷ bs) n rest e = go (eqb b 48) refl (digit b) refl e
  where
    go : (s : Bool) → eqb b 48 ≡ s → (t : Bool) → digit b ≡ t
        → whether s (λ _. some (0, bs)) (λ _. cond t (some (digits_from 0 (b ∷ bs))) none) ≡ some (n, rest) → b ∷ bs ≡ decimal n ++ rest
    go true f t g k =
        let q : ◌≡◌ {A = ℕ × List ℕ} (0, bs) (n, rest) = some-injective (0, bs) (n, rest) k in
        rw (eqb-true b 48 f) (ap (λ (l : List ℕ). l ++ bs) (sym (decimal-short {n = 0} (omega arith))) ∙ ap (λ (x : ℕ × List ℕ). decimal x.0 ++ x.1) q)
    go false f true g k =
        let d : (48 ≤ b) × (b ≤ 57) = digit-range b g in
        let q : ◌≡◌ {A = ℕ × List ℕ} (digits_from 0 (b ∷ bs)) (n, rest) = some-injective (digits_from 0 (b ∷ bs)) (n, rest) k in
        let z : 0 * 10 + (b - 48) ≡ b - 48 = omega arith in
        let m : 48 + (b - 48) ≡ b = omega arith in
        let one : decimal (b - 48) ≡ b ∷ [] = decimal-short {n = b - 48} (omega arith) ∙ rw m in
        let first : digits_from 0 (b ∷ bs) ≡ digits_from (b - 48) bs = rw (g, z) in
        ap (λ (l : List ℕ). l ++ bs) (sym one) ∙ digits-exact (b - 48) bs (omega (arith, eqb-false b 48 f))
        ∙ ap (λ (x : ℕ × List ℕ). decimal x.0 ++ x.1) (sym first ∙ q)
    go false f false g k = absurd (none-some k)

-- ---- one part, and two
abbrev Exact : {X : Type 0} → (X → List ℕ) → TextReader X → Type 0
Exact {X} text read = (bs : List ℕ) (x : X) (rest : List ℕ) → read bs ≡ some (x, rest) → bs ≡ text x ++ rest

record One {X Z : Type 0} (f : X → Z) (text : X → List ℕ) (bs : List ℕ) (z : Z) (rest : List ℕ) : Type 0 where
  x : X
  is : f x ≡ z
  laid : bs ≡ text x ++ rest

record Two {X Y Z : Type 0} (f : X → Y → Z) (first : X → List ℕ) (second : Y → List ℕ) (bs : List ℕ) (z : Z) (rest : List ℕ) : Type 0 where
  x : X
  y : Y
  is : f x y ≡ z
  laid : bs ≡ first x ++ (32 ∷ (second y ++ (41 ∷ rest)))

mapped-exact : {X Z : Type 0} (f : X → Z) (read : TextReader X) (text : X → List ℕ) → Exact text read → (bs : List ℕ) (z : Z) (rest : List ℕ) → mapped f read bs ≡ some (z, rest) → One f text bs z rest
unfolding mapped
mapped-exact {X} {Z} f read text h bs z rest e =
    let a = bound (read bs) e in
    let q : ◌≡◌ {A = Z × List ℕ} (f a.value.0, a.value.1) (z, rest) = some-injective (f a.value.0, a.value.1) (z, rest) a.next in
    record {
      x = a.value.0;
      is = ap (λ (p : Z × List ℕ). p.0) q;
      laid = h bs a.value.0 a.value.1 a.is ∙ ap (λ (p : Z × List ℕ). text a.value.0 ++ p.1) q;
    }

one-exact : {X Z : Type 0} (f : X → Z) (part : TextReader X) (text : X → List ℕ) → Exact text part → (bs : List ℕ) (z : Z) (rest : List ℕ) → read_one f part bs ≡ some (z, rest) → One f text bs z (41 ∷ rest)
unfolding read_one
one-exact {X} {Z} f part text h bs z rest e =
    let a = bound (part bs) e in
    let b = bound (expect (ascii ")") a.value.1) a.next in
    let q : ◌≡◌ {A = Z × List ℕ} (f a.value.0, b.value) (z, rest) = some-injective (f a.value.0, b.value) (z, rest) b.next in
    record {
      x = a.value.0;
      is = ap (λ (p : Z × List ℕ). p.0) q;
      laid = h bs a.value.0 a.value.1 a.is ∙ ap (λ (l : List ℕ). text a.value.0 ++ l) (expected (ascii ")") a.value.1 b.is ∙ ap (λ (p : Z × List ℕ). 41 ∷ p.1) q);
    }

two-exact : {X Y Z : Type 0} (f : X → Y → Z) (one : TextReader X) (two : TextReader Y) (first : X → List ℕ) (second : Y → List ℕ) → Exact first one → Exact second two → (bs : List ℕ) (z : Z) (rest : List ℕ)
    → read_two f one two bs ≡ some (z, rest) → Two f first second bs z rest
unfolding read_two
two-exact {X} {Y} {Z} f one two first second h k bs z rest e =
    let a = bound (one bs) e in
    let b = bound (expect (ascii " ") a.value.1) a.next in
    let c = bound (two b.value) b.next in
    let d = bound (expect (ascii ")") c.value.1) c.next in
    let q : ◌≡◌ {A = Z × List ℕ} (f a.value.0 c.value.0, d.value) (z, rest) = some-injective (f a.value.0 c.value.0, d.value) (z, rest) d.next in
    let last : b.value ≡ second c.value.0 ++ (41 ∷ rest) =
    k b.value c.value.0 c.value.1 c.is
    ∙ ap (λ (l : List ℕ). second c.value.0 ++ l) (expected (ascii ")") c.value.1 d.is ∙ ap (λ (p : Z × List ℕ). 41 ∷ p.1) q)
    in
    record {
      x = a.value.0;
      y = c.value.0;
      is = ap (λ (p : Z × List ℕ). p.0) q;
      laid = h bs a.value.0 a.value.1 a.is ∙ ap (λ (l : List ℕ). first a.value.0 ++ l) (expected (ascii " ") a.value.1 b.is ∙ ap (λ (l : List ℕ). 32 ∷ l) last);
    }

-- behind its operator
behind : (a bs : List ℕ) {r s : List ℕ} → expect a bs ≡ some r → r ≡ s → bs ≡ a ++ s
behind a bs e l = expected a bs e ∙ ap (λ (x : List ℕ). a ++ x) l

-- ---- terms
abbrev closed_terms : Terms → List ℕ
closed_terms ts = terms_text ts ++ ascii ")"

module _ (f : ℕ) (h : Exact term_text (read_term f)) (bs r : List ℕ) (t : Term) (rest : List ℕ) where
  minus-exact : expect (ascii "(- ") bs ≡ some r → read_one minus (read_term f) r ≡ some (t, rest) → bs ≡ term_text t ++ rest
  unfolding term_text
  minus-exact e k =
      let m = one-exact minus (read_term f) term_text h r t rest k in
      behind (ascii "(- ") bs e m.laid ∙ sym (one-laid (ascii "(- ") (term_text m.x) (ascii ")") rest) ∙ ap (λ (u : Term). term_text u ++ rest) m.is

  times-exact : expect (ascii "(* ") bs ≡ some r → read_two times (read_term f) (read_term f) r ≡ some (t, rest) → bs ≡ term_text t ++ rest
  unfolding term_text
  times-exact e k =
      let m = two-exact times (read_term f) (read_term f) term_text term_text h h r t rest k in
      behind (ascii "(* ") bs e m.laid ∙ sym (two-laid (ascii "(* ") (term_text m.x) (ascii " ") (term_text m.y) (ascii ")") rest) ∙ ap (λ (u : Term). term_text u ++ rest) m.is

  modulo-exact : expect (ascii "(mod ") bs ≡ some r → read_two modulo (read_term f) read_number r ≡ some (t, rest) → bs ≡ term_text t ++ rest
  unfolding term_text
  modulo-exact e k =
      let m = two-exact modulo (read_term f) read_number term_text decimal h number-exact r t rest k in
      behind (ascii "(mod ") bs e m.laid ∙ sym (two-laid (ascii "(mod ") (term_text m.x) (ascii " ") (decimal m.y) (ascii ")") rest) ∙ ap (λ (u : Term). term_text u ++ rest) m.is

register-exact : (bs r : List ℕ) (t : Term) (rest : List ℕ) → expect (ascii "r") bs ≡ some r → mapped register read_number r ≡ some (t, rest) → bs ≡ term_text t ++ rest
unfolding term_text
register-exact bs r t rest e k =
    let m = mapped-exact register read_number decimal number-exact r t rest k in
    behind (ascii "r") bs e m.laid ∙ ap (λ (u : Term). term_text u ++ rest) m.is

numeral-exact : (bs : List ℕ) (t : Term) (rest : List ℕ) → mapped numeral read_number bs ≡ some (t, rest) → bs ≡ term_text t ++ rest
unfolding term_text
numeral-exact bs t rest k =
    let m = mapped-exact numeral read_number decimal number-exact bs t rest k in
    m.laid ∙ ap (λ (u : Term). term_text u ++ rest) m.is

plus-exact : (f : ℕ) → Exact closed_terms (read_terms f) → (bs r : List ℕ) (t : Term) (rest : List ℕ) → expect (ascii "(+") bs ≡ some r → mapped plus (read_terms f) r ≡ some (t, rest) → bs ≡ term_text t ++ rest
unfolding term_text
plus-exact f h bs r t rest e k =
    let m = mapped-exact plus (read_terms f) closed_terms h r t rest k in
    let l : ascii "(+" ++ ((terms_text m.x ++ ascii ")") ++ rest) ≡ ((ascii "(+" ++ terms_text m.x) ++ ascii ")") ++ rest = simp append_assoc in
    behind (ascii "(+") bs e m.laid ∙ l ∙ ap (λ (u : Term). term_text u ++ rest) m.is

module _ (bs r r' : List ℕ) (t : Term) (ts : Terms) (rest : List ℕ) (e : expect (ascii " ") bs ≡ some r) (h : r ≡ term_text t ++ r') where
  final-exact : (r'' : List ℕ) → expect (ascii ")") r' ≡ some r'' → ◌≡◌ {A = Option (Terms × List ℕ)} (some (final t, r'')) (some (ts, rest)) → bs ≡ closed_terms ts ++ rest
  unfolding term_text
  final-exact r'' k q =
      let p : ◌≡◌ {A = Terms × List ℕ} (final t, r'') (ts, rest) = some-injective (final t, r'') (ts, rest) q in
      behind (ascii " ") bs e (h ∙ ap (λ (l : List ℕ). term_text t ++ l) (expected (ascii ")") r' k)) ∙ sym (one-laid (ascii " ") (term_text t) (ascii ")") r'')
      ∙ ap (λ (x : Terms × List ℕ). closed_terms x.0 ++ x.1) p

  also-exact : (f : ℕ) → Exact closed_terms (read_terms f) → mapped (also t) (read_terms f) r' ≡ some (ts, rest) → bs ≡ closed_terms ts ++ rest
  unfolding term_text
  also-exact f k q =
      let m = mapped-exact (also t) (read_terms f) closed_terms k r' ts rest q in
      let l : ascii " " ++ (term_text t ++ ((terms_text m.x ++ ascii ")") ++ rest)) ≡ (((ascii " " ++ term_text t) ++ terms_text m.x) ++ ascii ")") ++ rest = simp append_assoc in
      behind (ascii " ") bs e (h ∙ ap (λ (l : List ℕ). term_text t ++ l) m.laid) ∙ l ∙ ap (λ (u : Terms). closed_terms u ++ rest) m.is

mutual
  unfolding read_term

  term-exact : (f : ℕ) → Exact term_text (read_term f)
  term-exact zero bs t rest e = absurd (none-some e)
  term-exact (suc f) bs t rest e =
      cases (chosen (expect (ascii "(+") bs) e) (λ x. plus-exact f (λ l x m k. terms-exact f l x m k) bs x.value t rest x.is x.next) λ e1.
      cases (chosen (expect (ascii "(- ") bs) e1.next) (λ x. minus-exact f (λ l x m k. term-exact f l x m k) bs x.value t rest x.is x.next) λ e2.
      cases (chosen (expect (ascii "(* ") bs) e2.next) (λ x. times-exact f (λ l x m k. term-exact f l x m k) bs x.value t rest x.is x.next) λ e3.
      cases (chosen (expect (ascii "(mod ") bs) e3.next) (λ x. modulo-exact f (λ l x m k. term-exact f l x m k) bs x.value t rest x.is x.next) λ e4.
      cases (chosen (expect (ascii "r") bs) e4.next) (λ x. register-exact bs x.value t rest x.is x.next) λ e5.
      numeral-exact bs t rest e5.next

  terms-exact : (f : ℕ) → Exact closed_terms (read_terms f)
  terms-exact zero bs ts rest e = absurd (none-some e)
  terms-exact (suc f) bs ts rest e =
      let a = bound (expect (ascii " ") bs) e in
      let b = bound (read_term f a.value) a.next in
      let h : a.value ≡ term_text b.value.0 ++ b.value.1 = term-exact f a.value b.value.0 b.value.1 b.is in
      cases (chosen (expect (ascii ")") b.value.1) b.next) (λ x. final-exact bs a.value b.value.1 b.value.0 ts rest a.is h x.value x.is x.next) λ y.
      also-exact bs a.value b.value.1 b.value.0 ts rest a.is h f (λ l x m k. terms-exact f l x m k) y.next

-- ---- propositions
two-parts : {X : Type 0} (make : X → X → Prop) (op : List ℕ) (text : X → List ℕ) (read : TextReader X)
    → ((x y : X) → prop_text (make x y) ≡ (((op ++ text x) ++ ascii " ") ++ text y) ++ ascii ")") → Exact text read
    → (bs r : List ℕ) (p : Prop) (rest : List ℕ) → expect op bs ≡ some r → read_two make read read r ≡ some (p, rest) → bs ≡ prop_text p ++ rest
two-parts make op text read made h bs r p rest e k =
    let m = two-exact make read read text text h h r p rest k in
    behind op bs e m.laid ∙ sym (two-laid op (text m.x) (ascii " ") (text m.y) (ascii ")") rest) ∙ ap (λ (l : List ℕ). l ++ rest) (sym (made m.x m.y)) ∙ ap (λ (u : Prop). prop_text u ++ rest) m.is

prop-exact : (f : ℕ) → Exact prop_text (read_prop f)
unfolding read_prop prop_text
prop-exact zero bs p rest e = absurd (none-some e)
prop-exact (suc f) bs p rest e =
    cases (chosen (expect (ascii "(<= ") bs) e) (λ x. two-parts at_most (ascii "(<= ") term_text (read_term f) (λ s t. refl) (λ l x m k. term-exact f l x m k) bs x.value p rest x.is x.next) λ e1.
    cases (chosen (expect (ascii "(= ") bs) e1.next) (λ x. two-parts equals (ascii "(= ") term_text (read_term f) (λ s t. refl) (λ l x m k. term-exact f l x m k) bs x.value p rest x.is x.next) λ e2.
    cases (chosen (expect (ascii "(and ") bs) e2.next) (λ x. two-parts conj (ascii "(and ") prop_text (read_prop f) (λ s t. refl) (λ l x m k. prop-exact f l x m k) bs x.value p rest x.is x.next) λ e3.
    cases (chosen (expect (ascii "(or ") bs) e3.next) (λ x. two-parts disj (ascii "(or ") prop_text (read_prop f) (λ s t. refl) (λ l x m k. prop-exact f l x m k) bs x.value p rest x.is x.next) λ e4.
    absurd (none-some e4.next)

pub exact : (bs : List ℕ) (p : Prop) → parse_prop bs ≡ some p → bs ≡ prop_text p
unfolding parse_prop to_end
exact bs p e = go (read_prop (length bs) bs) refl e
  where
    go : (o : Option (Prop × List ℕ)) → read_prop (length bs) bs ≡ o → to_end o ≡ some p → bs ≡ prop_text p
    go none f k = absurd (none-some k)
    go (some (q, [])) f k = prop-exact (length bs) bs q [] f ∙ append-nil (prop_text q) ∙ ap prop_text (some-injective q p k)
    go (some (q, b ∷ more)) f k = absurd (none-some k)
