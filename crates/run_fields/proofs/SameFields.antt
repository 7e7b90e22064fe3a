-- Fields compared one after the other. Assumes nothing.
use mathlib.Core.Path.{◌≡◌, refl, sym, ◌∙◌, ap}
use mathlib.Core.Bool.{Bool, true, false, ◌&&◌}
use mathlib.Core.List.{List, [], ◌∷◌}
use Prim.Native.Nat.{ℕ, suc, ◌+◌, ◌-◌, ◌≤◌, ◌<◌}
use native.Mathlib.Omega.{arith}
use lib.Dec.{eqb}
use lib.ListN.{length, take, drop}
use borrow.Author.Tests.{eq-eqb, ne_eqb}
use Rattle.number_bytes.specs.Same.{same_bytes}
use Rattle.number_bytes.proofs.Comparing.{same-lengths}
use Rattle.fields.specs.Fields.{Field, Fields, ◌▸◌, Item, item}
use Rattle.fields.specs.Places.{fields_at, next_of}
use Rattle.fields.proofs.Places.{Starts, starts-size}
use Rattle.run.specs.Uniform.{same_items}
use Rattle.run_fields.specs.Spans.{Spans, none, one}
use Rattle.run_fields.specs.Same.{SameFields, Compares}
use Rattle.std.specs.Prelude.{Some, None, Ok}
use Rattle.std.specs.declared.result.Result as code
use Rattle.fields.specs.declared.WholeField.{WholeField}
use Rattle.fields.specs.declared.End.{End}

-- ---- one field
no-items : {fs gs : Fields} {is : List Item} {r : code.Result WholeField End} → r ≡ next_of fs → ((f : WholeField) → r ≡ Ok f → ⊥) → Spans fs is gs → is ≡ []
no-items e h none = refl
no-items e h (one f s) = absurd (h _ e)

module _ (p : List ℕ) (a b : ℕ) {r : code.Result WholeField End} (h : (f : WholeField) → r ≡ Ok f → ⊥) where
  -- no field is left at one of the places
  pub none_first : r ≡ next_of (fields_at p a) → Compares p a b None
  none_first e = record { by = λ n. record { is = λ s t l m. absurd (let z = ap length (no-items e h s) in omega arith) } }

  pub none-second : r ≡ next_of (fields_at p b) → Compares p a b None
  none-second e = record { by = λ n. record { is = λ s t l m. absurd (let z = ap length (no-items e h t) in omega arith) } }

-- what fields that start with f span
pub data SpansOn (f : Field) (fs : Fields) : List Item → Fields → Type 0 where
  nothing : SpansOn f fs [] (f ▸ fs)
  more : {is : List Item} {gs : Fields} → Spans fs is gs → SpansOn f fs (item f.tag f.contents ∷ is) gs

pub spans_on : {f : Field} {fs gs : Fields} {is : List Item} → Spans (f ▸ fs) is gs → SpansOn f fs is gs
spans_on none = nothing
spans_on (one f s) = more s

module _ {p : List ℕ} {a b a₁ tag start len next b₁ t s l m : ℕ} (x : Starts p a a₁ tag start len next) (y : Starts p b b₁ t s l m) where
  abbrev field_x : Field
  field_x = record { at = a₁; tag = tag; contents = take len (drop start p) }

  abbrev field_y : Field
  field_y = record { at = b₁; tag = t; contents = take l (drop s p) }

  -- whatever the two fields decide
  by-fields : {n : ℕ} {r : Bool} → ((is js : List Item) (fs gs : Fields) → Spans (fields_at p next) is fs → Spans (fields_at p m) js gs → length is ≡ n → length js ≡ n
      → r ≡ (eqb tag t && same_bytes (take len (drop start p)) (take l (drop s p)) && same_items is js)) → SameFields p a b (suc n) r
  unfolding same_items
  by-fields {n} {r} h = record { is = λ u v i j. go (spans_on (rw x.is at u)) (spans_on (rw y.is at v)) i j }
    where
      go : {is js : List Item} {fs gs : Fields} → SpansOn field_x (fields_at p next) is fs → SpansOn field_y (fields_at p m) js gs → length is ≡ suc n → length js ≡ suc n → r ≡ same_items is js
      go nothing v i j = absurd (omega arith)
      go (more u) nothing i j = absurd (omega arith)
      go (more u) (more v) i j = h _ _ _ _ u v (omega arith) (omega arith)

  pub tags-differ : (tag ≡ t → ⊥) → Compares p a b None
  tags-differ d = record { by = λ n. by-fields (λ is js fs gs u v i j. rw (ne_eqb tag t d)) }

  module _ (e : tag ≡ t) where
    pub lengths_differ : (len ≡ l → ⊥) → Compares p a b None
    lengths_differ d =
        let z : same_bytes (take len (drop start p)) (take l (drop s p)) ≡ false = same-lengths _ _ (λ q. d (omega (arith, q, starts-size x, starts-size y))) in
        record { by = λ n. by-fields (λ is js fs gs u v i j. rw (eq-eqb tag t e, z)) }

    module _ (f : len ≡ l) {c : Bool} (q : c ≡ same_bytes (take len (drop start p)) (take len (drop s p))) where
      pub contents-differ : c ≡ false → Compares p a b None
      contents-differ d =
          let z : same_bytes (take len (drop start p)) (take l (drop s p)) ≡ false = rw (← f) (sym q ∙ d) in
          record { by = λ n. by-fields (λ is js fs gs u v i j. rw (eq-eqb tag t e, z)) }

      pub fields-same : c ≡ true → Compares p a b (Some (next, m))
      fields-same d =
          let z : same_bytes (take len (drop start p)) (take l (drop s p)) ≡ true = rw (← f) (sym q ∙ d) in
          record { by = λ n r h. by-fields (λ is js fs gs u v i j. rw (eq-eqb tag t e, z) (h.is u v i j)) }

-- ---- fields, in lockstep
pub record FieldsLeft (p : List ℕ) (a b n x y i : ℕ) : Type 0 where
  pub upto : i ≤ n
  pub rest : (r : Bool) → SameFields p x y (n - i) r → SameFields p a b n r

pub fields-start : (p : List ℕ) (a b n : ℕ) → FieldsLeft p a b n a b 0
fields-start p a b n = record { upto = omega arith; rest = λ r h. let z : n - 0 ≡ n = omega arith in rw z at h }

module _ {p : List ℕ} {a b n x y i : ℕ} (h : FieldsLeft p a b n x y i) where
  pub fields-done : n ≤ i → SameFields p a b n true
  unfolding same_items
  fields-done l = h.rest true (let z : n - i ≡ 0 = omega arith in rw z (record { is = λ {is} {js} u v k j. go is js k j }))
    where
      go : (is js : List Item) → length is ≡ 0 → length js ≡ 0 → true ≡ same_items is js
      go [] [] k j = refl
      go [] (j ∷ js) k q = absurd (omega arith)
      go (i ∷ is) js k q = absurd (omega arith)

  pub fields-differ : Compares p x y None → i < n → SameFields p a b n false
  fields-differ c l = h.rest false (let z : n - i ≡ suc (n - (i + 1)) = omega arith in rw z (c.by _))

  pub fields-next : {next : ℕ × ℕ} → Compares p x y (Some next) → i < n → FieldsLeft p a b n next.0 next.1 (i + 1)
  fields-next c l = record {
    upto = omega arith;
    rest = λ r s. h.rest r (let z : n - i ≡ suc (n - (i + 1)) = omega arith in rw z (c.by _ r s));
  }
