-- The first field that does not pass a test is the one that is told. Assumes nothing.
use mathlib.Core.Path.{◌≡◌, refl, sym, ◌∙◌, ap}
use mathlib.Core.Option.{Option, some}
use mathlib.Core.Bool.{Bool, true, false}
use mathlib.Core.List.{List, [], ◌∷◌, ◌++◌}
use Prim.Native.Nat.{ℕ, suc}
use lib.Dec.{T}
use lib.ListN.{length}
use Rattle.forms.specs.Forms.{All, cons}
use Rattle.answers.specs.Answers.{answer, refused}
use Rattle.answers.proofs.Results.{Gives, gives-refused, gives-accepted, bind, test, needs, fail}
use Rattle.fields.specs.declared.FileKind.{FileKind}
use Rattle.fields.specs.Fields.{Field, Fields, ends, cut, ◌▸◌, Item, items, fields, nth}
use Rattle.fields.specs.Header.{header_field, edition_field, constants_field, header}
use Rattle.bundle.specs.Bundle.{at_most, bundle_header}
use Rattle.bundle.specs.Layout.{Each}
use Rattle.bundle.proofs.Laid.{Lists, next, listed}
use Rattle.conversion.specs.Turning.{each_field, behind_header}

not-true : (b : Bool) → (T b → ⊥) → b ≡ false
not-true true h = absurd (h tt)
not-true false h = refl

module _ (number file : ℕ) (fits : Item → Bool) {X : Type 0} {R : Item → X → Type 0} {P : X → Type 0}
    (pass : (i : Item) (x : X) → R i x → P x → T (fits i)) (fails : (i : Item) (x : X) → R i x → (P x → ⊥) → T (fits i) → ⊥) where
  pub first-unfit : {fs : Fields} (before : List X) (x : X) (after : List X) → Lists R fs (before ++ (x ∷ after)) → All P before → (P x → ⊥)
      → (f : Field) → nth (length before) fs ≡ some f → each_field number file fits fs ≡ refused (answer number file f.at)
  unfolding each_field nth
  first-unfit [] x after (next g s l) h k f e = let same : g ≡ f = cc in fail (answer number file g.at) _ (not-true _ (fails _ x s k)) ∙ ap (λ (y : Field). refused (answer number file y.at)) same
  first-unfit (y ∷ before) x after (next g s l) (cons h hs) k f e = needs _ _ _ (pass _ y s h) ∙ first-unfit before x after l hs k f e

-- The items of some fields, one by one.
each_same : (is : List Item) → Each (λ i j. i ≡ j) is is
each_same [] = Each.nil
each_same (i ∷ is) = Each.cons refl (each_same is)

pub lists-items : (fs : Fields) (is : List Item) → items fs ≡ some is → Lists (λ i j. i ≡ j) fs is
lists-items fs is e = listed fs e (each_same is)

-- The fields behind those of the header.
module _ (kind : FileKind) (file : ℕ) where
  first_gives : (tag : ℕ) (fs : Fields) → Gives (header_field kind file tag fs) (λ x. (f : Field) × (fs ≡ f ▸ x.2))
  unfolding header_field
  first_gives tag (ends at) = gives-refused _ tt
  first_gives tag (cut at) = gives-refused _ tt
  first_gives tag (f ▸ fs) = test _ _ tt λ _. test _ _ tt λ _. test _ _ tt λ _. gives-accepted (f, refl)

  pub rest_gives : (newest : ℕ) (given : Option ℕ) (fs : Fields) → Gives (header kind file newest given fs) (λ h. h.rest ≡ behind_header fs)
  unfolding header edition_field constants_field behind_header
  rest_gives newest given fs =
      bind {P = λ x. (f : Field) × (fs ≡ f ▸ x.1)} (bind (first_gives 0x01 fs) λ x p. test _ _ tt λ _. gives-accepted p) λ x p.
      bind {P = λ y. (g : Field) × (x.1 ≡ g ▸ y.1)} (bind (first_gives 0x02 x.1) λ y q. test _ _ tt λ _. test _ _ tt λ _. gives-accepted q) λ y q.
      gives-accepted (sym (ap behind_header (p.1 ∙ ap (λ (gs : Fields). p.0 ▸ gs) q.1)))

-- and those of a bundle, whose length is asked between the two
pub bundle-rest-gives : (newest file : ℕ) (given : Option ℕ) (bytes : List ℕ) → Gives (bundle_header newest file given bytes) (λ h. h.rest ≡ behind_header (fields bytes))
unfolding bundle_header at_most edition_field constants_field behind_header
bundle-rest-gives newest file given bytes =
    bind {P = λ x. (f : Field) × (fields bytes ≡ f ▸ x.1)} (bind (first_gives FileKind.Bundle file 0x01 (fields bytes)) λ x p. test _ _ tt λ _. gives-accepted p) λ x p.
    test _ _ tt λ _.
    bind {P = λ y. (g : Field) × (x.1 ≡ g ▸ y.1)} (bind (first_gives FileKind.Bundle file 0x02 x.1) λ y q. test _ _ tt λ _. test _ _ tt λ _. gives-accepted q) λ y q.
    gives-accepted (sym (ap behind_header (p.1 ∙ ap (λ (gs : Fields). p.0 ▸ gs) q.1)))

-- and so their numbers
pub nth-behind : (fs : Fields) (n : ℕ) → nth (suc (suc n)) fs ≡ nth n (behind_header fs)
unfolding nth behind_header
nth-behind (ends at) n = refl
nth-behind (cut at) n = refl
nth-behind (f ▸ ends at) n = refl
nth-behind (f ▸ cut at) n = refl
nth-behind (f ▸ g ▸ fs) n = refl
