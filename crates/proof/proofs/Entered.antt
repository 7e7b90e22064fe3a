-- A field is read as an entry just where it is laid out as one, and a claim is passed just where it states its line. Assumes nothing.
use mathlib.Core.Path.{◌≡◌, refl, sym, ◌∙◌, ap, ap₂}
use mathlib.Core.Option.{Option, none, some}
use mathlib.Core.Bool.{Bool, true, false, ◌&&◌}
use mathlib.Core.List.{List, [], ◌∷◌}
use Prim.Native.Nat.{ℕ, suc, ◌≤◌}
use native.Mathlib.Omega.{arith}
use lib.Dec.{T, leb, eqb, eqb→eq, eqb_refl}
use borrow.Author.Tests.{ne_eqb, leb-true}
use lib.ListN.{length}
use lib.IntN.{ℤ, pos, negsuc}
use mir.Facts.{and_yes, yes_and}
use Rattle.integers.specs.Linear.{eq_z}
use Rattle.forms.specs.Edition.{Edition}
use Rattle.forms.specs.Forms.{Form, Line}
use Rattle.calculus.specs.Rules.{Row, Entry, row, claim, claims}
use Rattle.answers.specs.declared.Position.{Position}
use Rattle.answers.specs.declared.Answer.{Answer}
use Rattle.answers.specs.Answers.{refusal_at, refused, accepted, ◌>>=◌, ◌>>◌, need, found}
use Rattle.answers.proofs.Results.{Gives, gives-accepted, bind, test, finds, binds, needs, found_some}
use Rattle.fields.specs.declared.FileKind.{FileKind}
use Rattle.fields.specs.Fields.{Field, item}
use Rattle.fields.specs.Header.{header_tag, known}
use Rattle.fields.proofs.HeaderLaid.{by-tag}
use Rattle.proof.specs.Entries.{EntryTag, combine_tag, reduce_tag, scale_tag, strengthen_tag, number_tag, stride_tag, round_tag, split_tag, claim_tag, entry_tagged, in_place, size_of, entry_from, entry}
use Rattle.proof.specs.Rows.{equals, same_form, states}
use Rattle.proof.specs.Layout.{Enters}

-- ---- entries
pub entry_known : (tag : ℕ) (x : EntryTag) → entry_tagged tag ≡ some x → T (known FileKind.Proof tag)
unfolding entry_tagged known header_tag
entry_known tag x h =
    let P : ℕ → Type 0 = λ n. T (known FileKind.Proof n) in
    by-tag P tag 0x10 combine_tag tt (by-tag P tag 0x11 reduce_tag tt (by-tag P tag 0x12 scale_tag tt (by-tag P tag 0x13 strengthen_tag tt
    (by-tag P tag 0x14 number_tag tt (by-tag P tag 0x15 stride_tag tt (by-tag P tag 0x16 round_tag tt (by-tag P tag 0x17 split_tag tt (by-tag P tag 0x20 claim_tag tt (λ e. absurd (let z : ◌≡◌ {A = ℕ} 0 1 = cc in omega arith)))))))))) h

above : (n : ℕ) {tag : ℕ} → n ≤ tag → (tag ≡ n → ⊥) → suc n ≤ tag
above n h k = omega arith

clash : {tag n : ℕ} {P : Type 0} → suc n ≤ tag → tag ≤ n → P
clash h k = absurd (omega arith)

between : (tag : ℕ) → (tag ≡ 0x10 → ⊥) → (tag ≡ 0x11 → ⊥) → (tag ≡ 0x12 → ⊥) → (tag ≡ 0x13 → ⊥) → (tag ≡ 0x14 → ⊥) → (tag ≡ 0x15 → ⊥) → (tag ≡ 0x16 → ⊥) → (tag ≡ 0x17 → ⊥)
    → leb 0x10 tag && leb tag 0x17 ≡ false
between tag a b c d e f g h = go (leb 0x10 tag) (leb tag 0x17) refl refl
  where
    go : (x y : Bool) → leb 0x10 tag ≡ x → leb tag 0x17 ≡ y → x && y ≡ false
    go true true p q = clash (above 0x17 (above 0x16 (above 0x15 (above 0x14 (above 0x13 (above 0x12 (above 0x11 (above 0x10 (leb-true 0x10 tag p) a) b) c) d) e) f) g) h) (leb-true tag 0x17 q)
    go true false p q = refl
    go false y p q = refl

-- every other tag is unknown to a proof
pub unknown : (tag : ℕ)
    → (tag ≡ 0x10 → ⊥) → (tag ≡ 0x11 → ⊥) → (tag ≡ 0x12 → ⊥) → (tag ≡ 0x13 → ⊥) → (tag ≡ 0x14 → ⊥) → (tag ≡ 0x15 → ⊥) → (tag ≡ 0x16 → ⊥) → (tag ≡ 0x17 → ⊥) → (tag ≡ 0x20 → ⊥)
    → (tag ≡ 0x01 → ⊥) → (tag ≡ 0x02 → ⊥) → known FileKind.Proof tag ≡ false
unfolding known header_tag
unknown tag a b c d e f g j i x y = rw (ne_eqb tag 0x01 x, ne_eqb tag 0x02 y, between tag a b c d e f g j, ne_eqb tag 0x20 i)

-- what a field's tag makes of it
module _ (e : Edition) (K : ℕ) (refusal : ℕ → Answer) (made : Bool) (f : Field) where
  pub entry-unknown : known FileKind.Proof f.tag ≡ false → entry e K refusal made f ≡ refused (refusal 3)
  unfolding entry ◌>>◌ need
  entry-unknown k = rw k

  pub entry-none : known FileKind.Proof f.tag ≡ true → entry_tagged f.tag ≡ none → entry e K refusal made f ≡ refused (refusal 4)
  unfolding entry ◌>>◌ ◌>>=◌ need found
  entry-none k t = rw (k, t)

  module _ (x : EntryTag) (k : known FileKind.Proof f.tag ≡ true) (t : entry_tagged f.tag ≡ some x) where
    pub entry-out : in_place made x ≡ false → entry e K refusal made f ≡ refused (refusal 4)
    unfolding entry ◌>>◌ ◌>>=◌ need found
    entry-out p = rw (k, t, p)

    pub entry_in : in_place made x ≡ true → entry e K refusal made f ≡ (need (refusal 6) (eqb (length f.contents) (size_of e K x)) >> accepted (entry_from e K x f.contents))
    unfolding entry ◌>>◌ ◌>>=◌ need found
    entry_in p = rw (k, t, p)

-- a row is in place anywhere, a claim where a line was made
row-in-place : (e : Edition) (K : ℕ) (made : Bool) (x : EntryTag) (bs : List ℕ) (r : Row) → entry_from e K x bs ≡ row r → T (in_place made x)
unfolding in_place entry_from
row-in-place e K made combine_tag bs r h = tt
row-in-place e K made reduce_tag bs r h = tt
row-in-place e K made scale_tag bs r h = tt
row-in-place e K made strengthen_tag bs r h = tt
row-in-place e K made number_tag bs r h = tt
row-in-place e K made stride_tag bs r h = tt
row-in-place e K made round_tag bs r h = tt
row-in-place e K made split_tag bs r h = tt
row-in-place e K made claim_tag bs r h = absurd (let z : ◌≡◌ {A = ℕ} 0 1 = cc in omega arith)

made-in-place : (x : EntryTag) → T (in_place true x)
unfolding in_place
made-in-place combine_tag = tt
made-in-place reduce_tag = tt
made-in-place scale_tag = tt
made-in-place strengthen_tag = tt
made-in-place number_tag = tt
made-in-place stride_tag = tt
made-in-place round_tag = tt
made-in-place split_tag = tt
made-in-place claim_tag = tt

module _ (e : Edition) (K : ℕ) (here : Position) (rows : ℕ) where
  pub entry_gives : (made : Bool) (f : Field) → Gives (entry e K (refusal_at here rows f.at) made f) (Enters e K (item f.tag f.contents))
  unfolding entry
  entry_gives made f = test _ _ tt λ _. bind (finds _ (entry_tagged f.tag) tt) λ x t. test _ _ tt λ _. test _ _ tt λ n.
      gives-accepted (record { tagged = x; tag = t; size = eqb→eq (length f.contents) (size_of e K x) n; entry = refl })

  entry-accepts : (made : Bool) (f : Field) {x : Entry} (h : Enters e K (item f.tag f.contents) x) → T (in_place made h.tagged) → entry e K (refusal_at here rows f.at) made f ≡ accepted x
  unfolding entry
  entry-accepts made f h p = needs _ _ _ (entry_known f.tag h.tagged h.tag) ∙ binds _ (found_some _ h.tag) ∙ needs _ _ _ p
      ∙ needs _ _ _ (rw h.size (eqb_refl (size_of e K h.tagged))) ∙ ap accepted h.entry

  pub row-accepted : (made : Bool) (f : Field) {r : Row} → Enters e K (item f.tag f.contents) (row r) → entry e K (refusal_at here rows f.at) made f ≡ accepted (row r)
  row-accepted made f {r} h = entry-accepts made f h (row-in-place e K made h.tagged f.contents r h.entry)

  pub claim-accepted : (f : Field) {x : Entry} → Enters e K (item f.tag f.contents) x → entry e K (refusal_at here rows f.at) true f ≡ accepted x
  claim-accepted f h = entry-accepts true f h (made-in-place h.tagged)

-- ---- claims
eq_z-is : (x y : ℤ) → T (eq_z x y) → x ≡ y
eq_z-is (pos a) (pos b) t = ap pos (eqb→eq a b t)
eq_z-is (pos a) (negsuc b) t = absurd t
eq_z-is (negsuc a) (pos b) t = absurd t
eq_z-is (negsuc a) (negsuc b) t = ap negsuc (eqb→eq a b t)

eq_z-refl : (x : ℤ) → T (eq_z x x)
eq_z-refl (pos a) = eqb_refl a
eq_z-refl (negsuc a) = eqb_refl a

equals-is : (xs ys : List ℤ) → T (equals xs ys) → xs ≡ ys
unfolding equals
equals-is [] [] t = refl
equals-is [] (y ∷ ys) t = absurd t
equals-is (x ∷ xs) [] t = absurd t
equals-is (x ∷ xs) (y ∷ ys) t = let (p, q) = and_yes (eq_z x y) (equals xs ys) t in ap₂ (λ (x : ℤ) (xs : List ℤ). x ∷ xs) (eq_z-is x y p) (equals-is xs ys q)

equals-refl : (xs : List ℤ) → T (equals xs xs)
unfolding equals
equals-refl [] = tt
equals-refl (x ∷ xs) = yes_and (eq_z x x) (equals xs xs) (eq_z-refl x) (equals-refl xs)

same_form-is : (s t : Form) → T (same_form s t) → s ≡ t
unfolding same_form
same_form-is s t h = let (p, q) = and_yes (equals s.coeffs t.coeffs) (eq_z s.d t.d) h in
    ap₂ (λ (cs : List ℤ) (d : ℤ). let f : Form = record { coeffs = cs; d = d } in f) (equals-is s.coeffs t.coeffs p) (eq_z-is s.d t.d q)

same_form-refl : (t : Form) → T (same_form t t)
unfolding same_form
same_form-refl t = yes_and (equals t.coeffs t.coeffs) (eq_z t.d t.d) (equals-refl t.coeffs) (eq_z-refl t.d)

-- the claim that may stand before the entries es, if a line was made
abbrev pub with_claim : Bool → Option Line → List Entry → List Entry
with_claim b none es = es
with_claim b (some l) es = claims b l es

pub states-is : (t t_A : Form) (l : Line) → T (states t t_A l) → (es : List Entry) → claims true l es ≡ claim t t_A ∷ es
unfolding states
states-is t t_A l h es =
    let (p, q) = and_yes (same_form t l.t) (same_form t_A l.t_A) h in
    ap₂ (λ (t t_A : Form). claim t t_A ∷ es) (sym (same_form-is t l.t p)) (sym (same_form-is t_A l.t_A q))

pub states-own : (l : Line) → T (states l.t l.t_A l)
unfolding states
states-own l = yes_and (same_form l.t l.t) (same_form l.t_A l.t_A) (same_form-refl l.t) (same_form-refl l.t_A)
