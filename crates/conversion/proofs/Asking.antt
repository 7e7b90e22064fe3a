-- What turning asks of the edition and of the fields, forwards and backwards. Assumes nothing.
use mathlib.Core.Path.{◌≡◌, refl, sym, ◌∙◌, ap, ap₂}
use mathlib.Core.Option.{none, some}
use mathlib.Core.Bool.{Bool, cond, ◌&&◌}
use mathlib.Core.List.{List, [], ◌∷◌}
use Prim.Native.Nat.{ℕ, zero, suc, ◌≤◌}
use native.Mathlib.Omega.{arith}
use mir.Facts.{and_yes}
use lib.Dec.{T, leb, eqb, leb→le, le→leb, eqb→eq, eqb_refl}
use lib.ListN.{length, get_or}
use Rattle.forms.specs.Edition.{newest_edition}
use Rattle.answers.specs.Answers.{accepted}
use Rattle.answers.proofs.Results.{Gives, given, gives-refused, gives-accepted, weaken, bind, gives-need, test, binds, needs, need-yes}
use Rattle.fields.specs.declared.FileKind.{FileKind}
use Rattle.fields.specs.Fields.{Field, Fields, ends, cut, ◌▸◌, Item, item, items}
use Rattle.fields.specs.Header.{known, header_field}
use Rattle.fields.proofs.HeaderLaid.{first_of}
use Rattle.bundle.specs.Layout.{edition_said}
use Rattle.conversion.specs.Turning.{other, asked, other_edition, each_field, result_within, behind_header}

-- ---- the edition asked for
pub data Asked : ℕ → Type 0 where
  down : Asked 1
  up : Asked 2

pub is-asked : (to : ℕ) → T (leb 1 to && leb to newest_edition) → Asked to
is-asked zero t = absurd t
is-asked (suc zero) t = down
is-asked (suc (suc zero)) t = up
is-asked (suc (suc (suc n))) t = absurd (let l = leb→le (suc (suc (suc n))) 2 (and_yes (leb 1 (suc (suc (suc n)))) (leb (suc (suc (suc n))) 2) t).1 in omega arith)

pub asked-gives : (to : ℕ) → Gives (asked to) (λ _. Asked to)
unfolding asked
asked-gives to = weaken (gives-need _ _ tt) λ _ t. is-asked to t

pub asked-accepted : {to : ℕ} → Asked to → asked to ≡ accepted tt
unfolding asked
asked-accepted down = need-yes _ _ tt
asked-accepted up = need-yes _ _ tt

pub other-first : {to : ℕ} → Asked to → 1 ≤ other to
other-first down = omega arith
other-first up = omega arith

pub other_last : {to : ℕ} → Asked to → other to ≤ newest_edition
other_last down = omega arith
other_last up = omega arith

pub asked-first : {to : ℕ} → Asked to → 1 ≤ to
asked-first down = omega arith
asked-first up = omega arith

pub asked-last : {to : ℕ} → Asked to → to ≤ newest_edition
asked-last down = omega arith
asked-last up = omega arith

pub asked-back : {to : ℕ} → Asked to → Asked (other to)
asked-back down = up
asked-back up = down

pub other-other : {to : ℕ} → Asked to → other (other to) ≡ to
other-other down = refl
other-other up = refl

-- ---- the edition that the file has
module _ (kind : FileKind) (file : ℕ) where
  pub said-gives : (fs : Fields) → Gives (header_field kind file 0x01 fs) (λ x. edition_said fs ≡ some x.1)
  unfolding header_field edition_said
  said-gives (ends at) = gives-refused _ tt
  said-gives (cut at) = gives-refused _ tt
  said-gives (f ▸ fs) = test _ _ tt λ _. test _ _ tt λ t. test _ _ tt λ n.
      let tag : f.tag ≡ 0x01 = eqb→eq f.tag 0x01 t in
      let size : length f.contents ≡ 1 = eqb→eq (length f.contents) 1 n in
      gives-accepted (rw (tag, size))

  -- it is the other one
  pub other-gives : (to : ℕ) (fs : Fields) → Gives (other_edition kind file to fs) (λ _. edition_said fs ≡ some (other to))
  unfolding other_edition
  other-gives to fs = bind (said-gives fs) λ x h. weaken (gives-need _ _ tt) λ _ t. h ∙ ap some (eqb→eq x.1 (other to) t)

  -- the other way
  pub other-accepted : (to : ℕ) (fs : Fields) (is : List Item) → T (known kind 0x01) → items fs ≡ some (item 0x01 (other to ∷ []) ∷ is) → other_edition kind file to fs ≡ accepted tt
  unfolding other_edition header_field
  other-accepted to fs is k h =
      let f = first_of fs (item 0x01 (other to ∷ [])) is h in
      ap (other_edition kind file to) f.are
      ∙ binds _ (needs _ _ _ (rw f.tag k) ∙ needs _ _ _ (rw f.tag tt) ∙ needs _ _ _ (rw f.contents tt))
      ∙ need-yes _ _ (rw f.contents (eqb_refl (other to)))

-- What is laid out says its edition.
laid-says : (fs : Fields) (n : ℕ) (is : List Item) → items fs ≡ some (item 0x01 (n ∷ []) ∷ is) → edition_said fs ≡ some n
unfolding edition_said
laid-says fs n is h =
    let f = first_of fs (item 0x01 (n ∷ [])) is h in
    ap edition_said f.are ∙ ap₂ (λ (t : ℕ) (bs : List ℕ). cond (eqb t 0x01 && eqb (length bs) 1) (some (get_or bs 0 0)) none) f.tag f.contents

one-said : {m n : ℕ} → some m ≡ some n → m ≡ n
one-said e = cc

pub same-edition : (fs : Fields) (m n : ℕ) (is : List Item) → edition_said fs ≡ some m → items fs ≡ some (item 0x01 (n ∷ []) ∷ is) → n ≡ m
same-edition fs m n is s h = one-said (sym (laid-says fs n is h) ∙ s)

-- ---- field by field
-- Each field passes the test.
pub data Fit (P : Item → Type 0) : Fields → Type 0 where
  ends-fit : {at : ℕ} → Fit P (ends at)
  cut-fit : {at : ℕ} → Fit P (cut at)
  next_fits : {f : Field} {fs : Fields} → P (item f.tag f.contents) → Fit P fs → Fit P (f ▸ fs)

module _ (number file : ℕ) (fits : Item → Bool) where
  pub each-field-gives : T (given number) → (fs : Fields) → Gives (each_field number file fits fs) (λ _. Fit (λ f. T (fits f)) fs)
  unfolding each_field
  each-field-gives t (ends at) = gives-accepted ends-fit
  each-field-gives t (cut at) = gives-accepted cut-fit
  each-field-gives t (f ▸ fs) = test _ _ t λ h. weaken (each-field-gives t fs) λ _ k. next_fits h k

  pub each-field-accepted : {fs : Fields} → Fit (λ f. T (fits f)) fs → each_field number file fits fs ≡ accepted tt
  unfolding each_field
  each-field-accepted ends-fit = refl
  each-field-accepted cut-fit = refl
  each-field-accepted (next_fits h k) = needs _ _ _ h ∙ each-field-accepted k

-- ---- the length of the result
pub within-gives : (limit : ℕ) (bytes : List ℕ) → Gives (result_within limit bytes) (λ bs. (bs ≡ bytes) × (length bytes ≤ limit))
unfolding result_within
within-gives limit bytes = test _ _ tt λ t. gives-accepted (refl, leb→le (length bytes) limit t)

pub within-accepted : (limit : ℕ) (bytes : List ℕ) → length bytes ≤ limit → result_within limit bytes ≡ accepted bytes
unfolding result_within
within-accepted limit bytes h = needs _ _ _ (le→leb (length bytes) limit h)

-- ---- behind the header
pub behind : (fs : Fields) (i j : Item) (is : List Item) → items fs ≡ some (i ∷ j ∷ is) → items (behind_header fs) ≡ some is
unfolding behind_header
behind fs i j is h =
    let f = first_of fs i (j ∷ is) h in
    let g = first_of f.after j is f.rest in
    ap (λ (fs : Fields). items (behind_header fs)) (f.are ∙ ap (λ (fs : Fields). f.first ▸ fs) g.are) ∙ g.rest
