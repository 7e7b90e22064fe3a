-- A file reads as a formula just where it states that formula. Assumes nothing.
use mathlib.Core.Path.{◌≡◌, refl, sym, ◌∙◌, ap, ap₂, subst}
use mathlib.Core.Bool.{Bool, true, false}
use mathlib.Core.List.{List, [], ◌∷◌}
use mathlib.Core.Option.{Option, some}
use Prim.Native.Nat.{ℕ, zero, suc, ◌+◌, ◌*◌, ◌≤◌, max}
use native.Mathlib.Omega.{arith}
use lib.Dec.{T, eqb, leb→le, le→leb, eqb→eq, eqb_refl}
use lib.IntN.{ℤ, pos, negsuc, nat_abs}
use lib.ListN.{length, take, drop}
use lib.Signed.{le_z}
use Rattle.forms.specs.Edition.{edition1}
use Rattle.forms.specs.Forms.{Kind, ≤0, =0, Form, Formula, literal, ◌divides◌, height}
use Rattle.answers.specs.Answers.{file_proof, Result, accepted}
use Rattle.answers.proofs.Results.{Gives, gives-refused, gives-accepted, bind, seq, test, finds, binds, passes, needs, found_some, one_value}
use Rattle.number_bytes.specs.Numbers.{signed, form_from}
use Rattle.fields.specs.declared.FileKind.{FileKind}
use Rattle.fields.specs.Fields.{Field, Fields, ends, cut, ◌▸◌, Item, item, fields, items}
use Rattle.fields.specs.Header.{known, header_tag}
use Rattle.fields.proofs.HeaderLaid.{next-items, first_of, header-gives, header_read, finished-gives, finished-ends}
use Rattle.formula.specs.Formula.{Connective, disjunction, conjunction, FormulaTag, pair, atom, stride as stride_tag, formula_tagged, compound, formula_size, formula_of, formula_field, two_parts, formula_within, read_formula}
use Rattle.proof.proofs.Agree.{agreed, agrees-refl}
use Rattle.guarantee.specs.Testing.{Spells, either, both, at-most, equal, stride, FormulaFile}

-- ---- a formula's tags
abbrev tag_of : FormulaTag → ℕ
tag_of (pair disjunction) = 0x31
tag_of (pair conjunction) = 0x32
tag_of (atom ≤0) = 0x33
tag_of (atom =0) = 0x34
tag_of stride_tag = 0x35

known-tag : (t : FormulaTag) → T (known FileKind.Formula (tag_of t))
unfolding known header_tag
known-tag (pair disjunction) = tt
known-tag (pair conjunction) = tt
known-tag (atom ≤0) = tt
known-tag (atom =0) = tt
known-tag stride_tag = tt

tagged-as : (t : FormulaTag) → formula_tagged (tag_of t) ≡ some t
unfolding formula_tagged
tagged-as (pair disjunction) = refl
tagged-as (pair conjunction) = refl
tagged-as (atom ≤0) = refl
tagged-as (atom =0) = refl
tagged-as stride_tag = refl

-- one of a list of tags
one_tag : (tag n : ℕ) (x : FormulaTag) {y : FormulaTag} {o : Option FormulaTag} → n ≡ tag_of x → (o ≡ some y → tag ≡ tag_of y)
    → elim (eqb tag n) as (λ _. Option FormulaTag) [ true ↦ some x | false ↦ o ] ≡ some y → tag ≡ tag_of y
one_tag tag n x {y} {o} p k h = go (eqb tag n) refl h
  where
    go : (b : Bool) → eqb tag n ≡ b → elim b as (λ _. Option FormulaTag) [ true ↦ some x | false ↦ o ] ≡ some y → tag ≡ tag_of y
    go true t q = let z : x ≡ y = cc in eqb→eq tag n (rw t tt) ∙ p ∙ ap tag_of z
    go false t q = k q

tag_is : (tag : ℕ) (y : FormulaTag) → formula_tagged tag ≡ some y → tag ≡ tag_of y
unfolding formula_tagged
tag_is tag y h = one_tag tag 0x31 (pair disjunction) refl (one_tag tag 0x32 (pair conjunction) refl (one_tag tag 0x33 (atom ≤0) refl (one_tag tag 0x34 (atom =0) refl
    (one_tag tag 0x35 stride_tag refl (λ e. absurd (let z : ◌≡◌ {A = ℕ} 0 1 = cc in omega arith)))))) h

-- ---- what is read is laid out so
-- The fields fs are those of the formula x .0, of at most so many levels, and then x.1.
record Spelt (K levels : ℕ) (fs : Fields) (x : Formula × Fields) : Type 0 where
  low : height x.0 ≤ levels
  list : (is : List Item) → items x.1 ≡ some is → List Item
  are : (is : List Item) (h : items x.1 ≡ some is) → items fs ≡ some (list is h)
  spells : (is : List Item) (h : items x.1 ≡ some is) → Spells K (list is h) x.0 is

-- They are those of two formulas, each of fewer levels, and then x.2.
record SpeltTwo (K levels : ℕ) (fs : Fields) (x : Formula × Formula × Fields) : Type 0 where
  low : suc (max (height x.0) (height x.1)) ≤ levels
  middle : Fields
  first : Spelt K levels fs (x.0, middle)
  second : Spelt K levels middle (x.1, x.2)

weaker : {K levels : ℕ} {fs : Fields} {x : Formula × Fields} → Spelt K levels fs x → Spelt K (suc levels) fs x
weaker s = record { low = omega (arith, s.low); list = s.list; are = s.are; spells = s.spells }

-- g of a stride part is a natural number
stride-number : (z : ℤ) → T (le_z (pos 2) z) → (z ≡ pos (nat_abs z)) × (2 ≤ nat_abs z)
stride-number (pos n) t = (refl, leb→le 2 n t)
stride-number (negsuc n) t = absurd t

module _ (K levels : ℕ) where
  abbrev Two : Type 0
  Two = ℕ → Fields → Result (Formula × Formula × Fields)

  leaf-spelt : (f : Field) (fs : Fields) (tag : ℕ) (I : Formula) → f.tag ≡ tag → height I ≡ 0 → ((is : List Item) → Spells K (item tag f.contents ∷ is) I is) → Spelt K levels (f ▸ fs) (I, fs)
  leaf-spelt f fs tag I e z s = record {
    low = omega arith;
    list = λ is h. item tag f.contents ∷ is;
    are = λ is h. next-items f fs h ∙ ap (λ (t : ℕ). some (item t f.contents ∷ is)) e;
    spells = λ is h. s is;
  }

  empty : (bs : List ℕ) → length bs ≡ 0 → bs ≡ []
  empty [] h = refl
  empty (b ∷ bs) h = absurd (omega arith)

  pair-spelt : (f : Field) (fs : Fields) (tag : ℕ) {I J IJ : Formula} {after : Fields} → f.tag ≡ tag → length f.contents ≡ 0 → height IJ ≡ suc (max (height I) (height J))
      → ((is js rest : List Item) → Spells K is I js → Spells K js J rest → Spells K (item tag [] ∷ is) IJ rest) → SpeltTwo K levels fs (I, J, after) → Spelt K levels (f ▸ fs) (IJ, after)
  pair-spelt f fs tag e n z s two = record {
    low = omega (arith, two.low);
    list = λ is h. item tag [] ∷ two.first.list _ (two.second.are is h);
    are = λ is h. next-items f fs (two.first.are _ (two.second.are is h)) ∙ ap₂ (λ (t : ℕ) (bs : List ℕ). some (item t bs ∷ two.first.list _ (two.second.are is h))) e (empty f.contents n);
    spells = λ is h. s _ _ _ (two.first.spells _ (two.second.are is h)) (two.second.spells is h);
  }

  module _ (two : Two) (two-gives : (at : ℕ) (fs : Fields) → Gives (two at fs) (SpeltTwo K levels fs)) where
    of-gives : (f : Field) (fs : Fields) (t : FormulaTag) → f.tag ≡ tag_of t → length f.contents ≡ formula_size edition1 K t → Gives (formula_of edition1 K two f fs t) (Spelt K levels (f ▸ fs))
    unfolding formula_of formula_size compound
    of-gives f fs (pair disjunction) e n = bind (two-gives f.at fs) λ (I, J, after) h. gives-accepted (pair-spelt f fs 0x31 e n refl (λ is js rest s t. either s t) h)
    of-gives f fs (pair conjunction) e n = bind (two-gives f.at fs) λ (I, J, after) h. gives-accepted (pair-spelt f fs 0x32 e n refl (λ is js rest s t. both s t) h)
    of-gives f fs (atom ≤0) e n = gives-accepted (leaf-spelt f fs 0x33 _ e refl (λ is. at-most f.contents _ (omega arith) refl))
    of-gives f fs (atom =0) e n = gives-accepted (leaf-spelt f fs 0x34 _ e refl (λ is. equal f.contents _ (omega arith) refl))
    of-gives f fs stride_tag e n = test _ _ tt λ t.
        let (g, low) = stride-number (signed (take 4 f.contents)) t in
        gives-accepted (leaf-spelt f fs 0x35 _ e refl (λ is. stride f.contents _ _ (omega arith) g low refl))

    field-gives : (fs : Fields) → Gives (formula_field edition1 K two fs) (Spelt K levels fs)
    unfolding formula_field
    field-gives (ends at) = gives-refused _ tt
    field-gives (cut at) = gives-refused _ tt
    field-gives (f ▸ fs) = test _ _ tt λ _. bind (finds _ (formula_tagged f.tag) tt) λ t e. test _ _ tt λ n. of-gives f fs t (tag_is f.tag t e) (eqb→eq _ _ n)

within-gives : (K levels : ℕ) (fs : Fields) → Gives (formula_within edition1 K levels fs) (Spelt K levels fs)
unfolding formula_within two_parts
within-gives K zero fs = field-gives K 0 _ (λ at fs. gives-refused _ tt) fs
within-gives K (suc levels) fs = field-gives K (suc levels) _ (λ at fs.
    bind (within-gives K levels fs) λ (I, fs1) h. bind (within-gives K levels fs1) λ (J, fs2) k.
    gives-accepted (record { low = omega (arith, h.low, k.low); middle = fs1; first = weaker h; second = weaker k })) fs

module _ (K : ℕ) (file : List ℕ) where
  pub read-gives : Gives (read_formula K (fields file)) (FormulaFile K file)
  unfolding read_formula
  read-gives = bind (header-gives FileKind.Formula file_proof 1 (some K) (fields file)) λ h d. bind (within-gives h.K 600 h.rest) λ (I, after) s.
      seq (finished-gives FileKind.Formula file_proof after) λ ended.
      let k : h.K ≡ K = agreed K h.K d.agree in
      let n : h.number ≡ 1 = omega (arith, d.first, d.last) in
      gives-accepted (record {
        body = s.list [] ended;
        whole = d.from _ (s.are [] ended) ∙ ap₂ (λ (n K : ℕ). some (item 0x01 (n ∷ []) ∷ item 0x02 (K ∷ []) ∷ s.list [] ended)) n k;
        spells = rw k at (s.spells [] ended);
        levels = s.low;
      })

-- ---- what is laid out so is read
-- The formula at the front of the fields is read, and leaves the fields of `is`.
record FrontRead (K levels : ℕ) (fs : Fields) (I : Formula) (is : List Item) : Type 0 where
  after : Fields
  rest : items after ≡ some is
  reads : formula_within edition1 K levels fs ≡ accepted (I, after)

module _ (K : ℕ) where
  -- a field of a formula's tag and length
  field-read : (two : Two K 0) (f : Field) (fs : Fields) (t : FormulaTag) → f.tag ≡ tag_of t → length f.contents ≡ formula_size edition1 K t
      → formula_field edition1 K two (f ▸ fs) ≡ formula_of edition1 K two f fs t
  unfolding formula_field
  field-read two f fs t e n = needs _ _ _ (rw e (known-tag t)) ∙ binds _ (found_some _ (ap formula_tagged e ∙ tagged-as t)) ∙ needs _ _ _ (rw n (eqb_refl (formula_size edition1 K t)))

  -- at any level
  within-read : (levels : ℕ) (fs : Fields) {r : Result (Formula × Fields)} → ((two : Two K 0) → formula_field edition1 K two fs ≡ r) → formula_within edition1 K levels fs ≡ r
  unfolding formula_within
  within-read zero fs h = h _
  within-read (suc levels) fs h = h _

  atom-read : (levels : ℕ) (k : Kind) (fs : Fields) {is : List Item} (bytes : List ℕ) (t : Form) → items fs ≡ some (item (tag_of (atom k)) bytes ∷ is) → length bytes ≡ 4 * (K + 1) → form_from 4 K bytes ≡ t
      → FrontRead K levels fs (literal k t) is
  unfolding formula_of formula_size
  atom-read levels k fs {is} bytes t h n e =
      let f = first_of fs _ is h in
      let size : length f.first.contents ≡ suc K * 4 = ap length f.contents ∙ n ∙ omega arith in
      record {
        after = f.after;
        rest = f.rest;
        reads = ap (formula_within edition1 K levels) f.are
            ∙ within-read levels (f.first ▸ f.after) (λ two. field-read two f.first f.after (atom k) f.tag size)
            ∙ ap (λ (u : Form). accepted (literal k u, f.after)) (ap (form_from 4 K) f.contents ∙ e);
      }

  stride-read : (levels : ℕ) (fs : Fields) {is : List Item} (bytes : List ℕ) (g : ℕ) (t : Form) → items fs ≡ some (item 0x35 bytes ∷ is) → length bytes ≡ 4 * (K + 2) → signed (take 4 bytes) ≡ pos g → 2 ≤ g
      → form_from 4 K (drop 4 bytes) ≡ t → FrontRead K levels fs (g divides t) is
  unfolding formula_of formula_size
  stride-read levels fs {is} bytes g t h n e low q =
      let f = first_of fs _ is h in
      let size : length f.first.contents ≡ 4 + suc K * 4 = ap length f.contents ∙ n ∙ omega arith in
      let number : signed (take 4 f.first.contents) ≡ pos g = ap (λ (bs : List ℕ). signed (take 4 bs)) f.contents ∙ e in
      let form : form_from 4 K (drop 4 f.first.contents) ≡ t = ap (λ (bs : List ℕ). form_from 4 K (drop 4 bs)) f.contents ∙ q in
      record {
        after = f.after;
        rest = f.rest;
        reads = ap (formula_within edition1 K levels) f.are
            ∙ within-read levels (f.first ▸ f.after) (λ two. field-read two f.first f.after stride_tag f.tag size ∙ needs _ _ _ (subst (λ (z : ℤ). T (le_z (pos 2) z)) (sym number) (le→leb 2 g low)))
            ∙ ap₂ (λ (z : ℤ) (u : Form). accepted (nat_abs z divides u, f.after)) number form;
      }

  pair_read : (levels : ℕ) (c : Connective) (fs : Fields) {I J : Formula} {is js rest : List Item} → items fs ≡ some (item (tag_of (pair c)) [] ∷ is)
      → ((fs : Fields) → items fs ≡ some is → FrontRead K levels fs I js) → ((fs : Fields) → items fs ≡ some js → FrontRead K levels fs J rest) → FrontRead K (suc levels) fs (compound c I J) rest
  unfolding formula_within formula_of formula_size two_parts
  pair_read levels c fs {is = is} h first second =
      let f = first_of fs _ is h in
      let one = first f.after f.rest in
      let other = second one.after one.rest in
      record {
        after = other.after;
        rest = other.rest;
        reads = ap (formula_within edition1 K (suc levels)) f.are
            ∙ field-read _ f.first f.after (pair c) f.tag (ap length f.contents)
            ∙ binds _ (binds _ one.reads ∙ binds _ other.reads);
      }

  spelt-read : (levels : ℕ) {is rest : List Item} {I : Formula} → Spells K is I rest → height I ≤ levels → (fs : Fields) → items fs ≡ some is → FrontRead K levels fs I rest
  unfolding compound
  spelt-read zero (either s t) h fs e = absurd (omega arith)
  spelt-read zero (both s t) h fs e = absurd (omega arith)
  spelt-read (suc levels) (either s t) h fs e = pair_read levels disjunction fs e (λ fs e. spelt-read levels s (omega arith) fs e) (λ fs e. spelt-read levels t (omega arith) fs e)
  spelt-read (suc levels) (both s t) h fs e = pair_read levels conjunction fs e (λ fs e. spelt-read levels s (omega arith) fs e) (λ fs e. spelt-read levels t (omega arith) fs e)
  spelt-read levels (at-most bytes t n q) h fs e = atom-read levels ≤0 fs bytes t e n q
  spelt-read levels (equal bytes t n q) h fs e = atom-read levels =0 fs bytes t e n q
  spelt-read levels (stride bytes g t n q low r) h fs e = stride-read levels fs bytes g t e n q low r

  pub file-read : (file : List ℕ) (I : Formula) → 1 ≤ K → K ≤ 16 → FormulaFile K file I → read_formula K (fields file) ≡ accepted I
  unfolding read_formula
  file-read file I low high f =
      let h = header_read FileKind.Formula file_proof 1 (some K) (fields file) 1 K f.body f.whole (omega arith) (omega arith) low high (agrees-refl K) in
      let r = spelt-read 600 f.spells f.levels h.after h.rest in
      binds _ h.reads ∙ binds _ r.reads ∙ passes _ (finished-ends FileKind.Formula file_proof r.after r.rest)

-- ---- one formula
one-body : {o : Option (List Item)} {i j : Item} {a b : List Item} → o ≡ some (i ∷ j ∷ a) → o ≡ some (i ∷ j ∷ b) → a ≡ b
one-body p q = cc

pub one-spelt : {K : ℕ} {file : List ℕ} {I J : Formula} → FormulaFile K file I → FormulaFile K file J → I ≡ J
one-spelt {K} {file} {I} {J} f g =
    let h = first_of (fields file) _ _ f.whole in
    let k = first_of h.after _ _ h.rest in
    let same : g.body ≡ f.body = one-body g.whole f.whole in
    let a = spelt-read K 600 f.spells f.levels k.after k.rest in
    let b = spelt-read K 600 g.spells g.levels k.after (k.rest ∙ ap some (sym same)) in
    ap (λ (x : Formula × Fields). x.0) (one_value a.reads b.reads)
