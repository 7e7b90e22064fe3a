-- What is taken of a field is what is taken of the entry that it states. Assumes nothing.
use mathlib.Core.Path.{◌≡◌, refl, sym, ◌∙◌, ap, ap₂, subst}
use mathlib.Core.Option.{Option, some}
use mathlib.Core.Bool.{Bool, true, false, cond}
use mathlib.Core.List.{List}
use Prim.Native.Nat.{ℕ, ◌+◌, ◌*◌, ◌-◌, ◌≤◌}
use native.Mathlib.Omega.{arith}
use lib.Dec.{eqb}
use lib.ListN.{length, take, drop, length-drop}
use lib.Seq.{take-take, length-take-le}
use borrow.Author.Tests.{eqb-true}
use Rattle.forms.specs.Edition.{edition}
use Rattle.calculus.specs.Rules.{Entry}
use Rattle.number_bytes.specs.Numbers.{unsigned}
use Rattle.number_bytes.proofs.Signed.{drop-take}
use Rattle.fields.specs.Fields.{item}
use Rattle.proof.specs.Entries.{EntryTag, combine_tag, reduce_tag, scale_tag, strengthen_tag, number_tag, stride_tag, round_tag, split_tag, claim_tag, entry_tagged, line_number, multiplier, size_of, entry_from}
use Rattle.proof.specs.Layout.{Enters}
use Rattle.shortening_stack.specs.declared.Class.TheVariants.{Makes, Branches, Closes, Claims}
use Rattle.shortening_stack.specs.declared.Outline.{Outline}
use Rattle.shortening_stack.specs.Outline.{outline, outline_of, row_by, outline_by, LaidBy}

-- what a list of tags gives, by what it gives at each
pub tag-by : {X : Type 0} (P : ℕ → X → Type 0) (tag n : ℕ) (x : X) {y : X} {o : Option X} → P n x → (o ≡ some y → P tag y) → elim (eqb tag n) as (λ _. Option X) [ true ↦ some x | false ↦ o ] ≡ some y → P tag y
tag-by {X} P tag n x {y} {o} p k h = go (eqb tag n) refl h
  where
    go : (b : Bool) → eqb tag n ≡ b → elim b as (λ _. Option X) [ true ↦ some x | false ↦ o ] ≡ some y → P tag y
    go true t q = subst (λ (z : X). P tag z) (let e : x ≡ y = cc in e) (subst (λ (m : ℕ). P m x) (sym (eqb-true tag n t)) p)
    go false t q = k q

pub each-tag : (P : ℕ → EntryTag → Type 0) (tag : ℕ) (x : EntryTag) → P 0x10 combine_tag → P 0x11 reduce_tag → P 0x12 scale_tag → P 0x13 strengthen_tag → P 0x14 number_tag → P 0x15 stride_tag → P 0x16 round_tag → P 0x17 split_tag
    → P 0x20 claim_tag → entry_tagged tag ≡ some x → P tag x
unfolding entry_tagged
each-tag P tag x a b c d e f g h i =
    tag-by P tag 0x10 combine_tag a (tag-by P tag 0x11 reduce_tag b (tag-by P tag 0x12 scale_tag c (tag-by P tag 0x13 strengthen_tag d
    (tag-by P tag 0x14 number_tag e (tag-by P tag 0x15 stride_tag f (tag-by P tag 0x16 round_tag g (tag-by P tag 0x17 split_tag h
    (tag-by P tag 0x20 claim_tag i (λ e. absurd (let z : ◌≡◌ {A = ℕ} 0 1 = cc in omega arith))))))))))

-- ---- by the tag
abbrev tagged_as : EntryTag → (first second come : ℕ) → Outline
tagged_as combine_tag s t n = outline Makes s t 0
tagged_as reduce_tag s t n = outline Makes s t 0
tagged_as scale_tag s t n = outline Makes s s 0
tagged_as strengthen_tag s t n = outline Branches s s 2
tagged_as number_tag s t n = outline Closes s s 0
tagged_as stride_tag s t n = outline Closes s s 0
tagged_as round_tag s t n = outline Branches s s n
tagged_as split_tag s t n = outline Branches s s 1
tagged_as claim_tag s t n = outline Claims 0 0 0

tagged-as : (tag : ℕ) (x : EntryTag) (s t n : ℕ) → entry_tagged tag ≡ some x → cond (eqb tag 0x20) (outline Claims 0 0 0) (row_by tag s t n) ≡ tagged_as x s t n
tagged-as tag x s t n = each-tag (λ m y. cond (eqb m 0x20) (outline Claims 0 0 0) (row_by m s t n) ≡ tagged_as y s t n) tag x refl refl refl refl refl refl refl refl refl

-- ---- a part of the contents
part : (m n len : ℕ) (bs : List ℕ) → m + n ≤ len → take n (drop m (take len bs)) ≡ take n (drop m bs)
part m n len bs h = ap (take n) (drop-take m len bs (omega (arith, h))) ∙ take-take n (len - m) (drop m bs) (omega (arith, h))

module _ (e K : ℕ) (len : ℕ) (bs : List ℕ) where
  abbrev w : ℕ
  w = (edition e).line_width

  first-is : w ≤ len → line_number (edition e) 0 (take len bs) ≡ unsigned (take w bs)
  unfolding line_number
  first-is h =
      let z : 0 * w ≡ 0 = omega arith in
      ap (λ (n : ℕ). unsigned (take w (drop n (take len bs)))) z ∙ ap unsigned (part 0 w len bs (omega (arith, h)))

  second_is : w + w ≤ len → line_number (edition e) 1 (take len bs) ≡ unsigned (take w (drop w bs))
  unfolding line_number
  second_is h =
      let z : 1 * w ≡ w = omega arith in
      ap (λ (n : ℕ). unsigned (take w (drop n (take len bs)))) z ∙ ap unsigned (part w w len bs h)

  come-is : w + 4 ≤ len → unsigned (multiplier (edition e) 1 1 (take len bs)) ≡ unsigned (take 2 (drop (w + 2) bs))
  unfolding multiplier
  come-is h =
      let z : 1 * w + 1 * 2 ≡ w + 2 = omega arith in
      ap (λ (n : ℕ). unsigned (take 2 (drop n (take len bs)))) z ∙ ap unsigned (part (w + 2) 2 len bs (omega (arith, h)))

  by-entry : (x : EntryTag) → size_of (edition e) K x ≤ len → tagged_as x (unsigned (take w bs)) (unsigned (take w (drop w bs))) (unsigned (take 2 (drop (w + 2) bs))) ≡ outline_of (entry_from (edition e) K x (take len bs))
  unfolding entry_from size_of
  by-entry combine_tag h = sym (ap₂ (λ (s t : ℕ). outline Makes s t 0) (first-is (omega (arith, h))) (second_is (omega (arith, h))))
  by-entry reduce_tag h = sym (ap₂ (λ (s t : ℕ). outline Makes s t 0) (first-is (omega (arith, h))) (second_is (omega (arith, h))))
  by-entry scale_tag h = sym (ap (λ (s : ℕ). outline Makes s s 0) (first-is (omega (arith, h))))
  by-entry strengthen_tag h = sym (ap (λ (s : ℕ). outline Branches s s 2) (first-is (omega (arith, h))))
  by-entry number_tag h = sym (ap (λ (s : ℕ). outline Closes s s 0) (first-is (omega (arith, h))))
  by-entry stride_tag h = sym (ap (λ (s : ℕ). outline Closes s s 0) (first-is (omega (arith, h))))
  by-entry round_tag h = sym (ap₂ (λ (s n : ℕ). outline Branches s s n) (first-is (omega (arith, h))) (come-is (omega (arith, h))))
  by-entry split_tag h = sym (ap (λ (s : ℕ). outline Branches s s 1) (first-is (omega (arith, h))))
  by-entry claim_tag h = refl

module _ (e K : ℕ) (p : List ℕ) (tag start len : ℕ) (y : Entry) (there : start + len ≤ length p) (h : Enters (edition e) K (item tag (take len (drop start p))) y) where
  long : size_of (edition e) K h.tagged ≤ len
  long = omega (arith, h.size, length-take-le len (drop start p) (rw length-drop (omega (arith, there))))

  -- what the code reads
  pub outline-is : outline_by (edition e).line_width tag (drop start p) ≡ outline_of y
  outline-is = tagged-as tag h.tagged _ _ _ h.tag ∙ by-entry e K len (drop start p) h.tagged long ∙ ap outline_of h.entry

  -- and that it stands there
  pub laid_by : LaidBy p tag start (edition e).line_width
  unfolding size_of
  laid_by = each-tag (λ n x. size_of (edition e) K x ≤ len → LaidBy p n start (edition e).line_width) tag h.tagged
      (λ z. record { one = λ _. omega (arith, there, z); two = λ _. omega (arith, there, z); rounding = λ k. absurd (omega (arith, k)) })
      (λ z. record { one = λ _. omega (arith, there, z); two = λ _. omega (arith, there, z); rounding = λ k. absurd (omega (arith, k)) })
      (λ z. record { one = λ _. omega (arith, there, z); two = λ k. absurd (omega (arith, k)); rounding = λ k. absurd (omega (arith, k)) })
      (λ z. record { one = λ _. omega (arith, there, z); two = λ k. absurd (omega (arith, k)); rounding = λ k. absurd (omega (arith, k)) })
      (λ z. record { one = λ _. omega (arith, there, z); two = λ k. absurd (omega (arith, k)); rounding = λ k. absurd (omega (arith, k)) })
      (λ z. record { one = λ _. omega (arith, there, z); two = λ k. absurd (omega (arith, k)); rounding = λ k. absurd (omega (arith, k)) })
      (λ z. record { one = λ _. omega (arith, there, z); two = λ k. absurd (omega (arith, k)); rounding = λ _. omega (arith, there, z) })
      (λ z. record { one = λ _. omega (arith, there, z); two = λ k. absurd (omega (arith, k)); rounding = λ k. absurd (omega (arith, k)) })
      (λ z. record { one = λ d. absurd (d refl); two = λ k. absurd (omega (arith, k)); rounding = λ k. absurd (omega (arith, k)) })
      h.tag long
