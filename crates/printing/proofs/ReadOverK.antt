-- What a file states is over its K, and is read alike whether K is given or not. Assumes nothing.
use mathlib.Core.Path.{◌≡◌, refl, sym, ap}
use mathlib.Core.Bool.{Bool, true, false, ◌&&◌}
use mathlib.Core.List.{List}
use mathlib.Core.Option.{none, some}
use Prim.Native.Nat.{ℕ, zero, suc, ◌≤◌}
use lib.Dec.{T, leb, eqb}
use lib.IntN.{ℤ, pos, negsuc, nat_abs}
use lib.ListN.{length, take, drop}
use lib.Signed.{le_z}
use lib.Dec.{leb→le}
use borrow.Author.Tests.{eq-eqb}
use Rattle.forms.specs.Edition.{edition1}
use Rattle.forms.specs.Forms.{Formula, literal, ◌divides◌, ◌and◌, ◌or◌}
use Rattle.forms.specs.Reduced.{Strides}
use Rattle.answers.specs.Answers.{answer, file_proof, Result, refused, accepted, ◌>>=◌, ◌>>◌, need}
use Rattle.answers.proofs.Results.{never, Gives, gives-refused, gives-accepted, bind, test, finds}
use Rattle.number_bytes.specs.Numbers.{signed, form_from, signeds}
use Rattle.fields.specs.declared.FileKind.{FileKind}
use Rattle.fields.specs.Fields.{Field, Fields, ends, cut, ◌▸◌}
use Rattle.fields.specs.Header.{Header, agrees, header_field, edition_field, constants_field, header}
use Rattle.formula.specs.Formula.{Connective, disjunction, conjunction, FormulaTag, pair, atom, stride, compound, formula_of, formula_field, two_parts, formula_within}
use Rattle.printing.specs.OneReading.{OverConstants}

pub signeds-long : (w n : ℕ) (bs : List ℕ) → length (signeds w n bs) ≡ n
unfolding signeds
signeds-long w zero bs = refl
signeds-long w (suc n) bs = ap suc (signeds-long w n (drop w bs))

pub over-strides : (K : ℕ) (I : Formula) → OverConstants K I → Strides I
over-strides K (literal k t) h = tt
over-strides K (g divides t) h = h.0
over-strides K (I and J) h = (over-strides K I h.0, over-strides K J h.1)
over-strides K (I or J) h = (over-strides K I h.0, over-strides K J h.1)

-- ---- the formula
abbrev OverOne : ℕ → Formula × Fields → Type 0
OverOne K x = OverConstants K x.0

abbrev OverTwo : ℕ → Formula × Formula × Fields → Type 0
OverTwo K x = OverConstants K x.0 × OverConstants K x.1

two-least : (g : ℤ) → T (le_z (pos 2) g) → 2 ≤ nat_abs g
two-least (pos n) h = leb→le 2 n h
two-least (negsuc n) h = absurd h

module _ (K : ℕ) where
  compound-over : (c : Connective) (I J : Formula) → OverConstants K I → OverConstants K J → OverConstants K (compound c I J)
  unfolding compound
  compound-over disjunction I J h k = (h, k)
  compound-over conjunction I J h k = (h, k)

  form-over : (bs : List ℕ) → length (form_from 4 K bs).coeffs ≡ K
  unfolding form_from
  form-over bs = signeds-long 4 K bs

  module _ (two : (at : ℕ) → Fields → Result (Formula × Formula × Fields)) (two-gives : (at : ℕ) (fs : Fields) → Gives (two at fs) (OverTwo K)) where
    of-gives : (f : Field) (fs : Fields) (t : FormulaTag) → Gives (formula_of edition1 K two f fs t) (OverOne K)
    unfolding formula_of
    of-gives f fs (pair c) = bind (two-gives f.at fs) λ (I, J, after) h. gives-accepted (compound-over c I J h.0 h.1)
    of-gives f fs (atom k) = gives-accepted (form-over f.contents)
    of-gives f fs stride = test _ _ tt λ b. gives-accepted (two-least (signed (take 4 f.contents)) b, form-over (drop 4 f.contents))

    field-gives : (fs : Fields) → Gives (formula_field edition1 K two fs) (OverOne K)
    unfolding formula_field
    field-gives (ends at) = gives-refused _ tt
    field-gives (cut at) = gives-refused _ tt
    field-gives (f ▸ fs) = test _ _ tt λ _. bind (finds _ _ tt) λ t _. test _ _ tt λ _. of-gives f fs t

  parts-gives : (part : Fields → Result (Formula × Fields)) → ((fs : Fields) → Gives (part fs) (OverOne K)) → (fs : Fields) → Gives (two_parts edition1 K part fs) (OverTwo K)
  unfolding two_parts
  parts-gives part g fs = bind (g fs) λ (I, fs1) h. bind (g fs1) λ (J, fs2) k. gives-accepted (h, k)

  pub within-gives : (levels : ℕ) (fs : Fields) → Gives (formula_within edition1 K levels fs) (OverOne K)
  unfolding formula_within
  within-gives zero fs = field-gives (λ at fs. refused (answer 17 file_proof at)) (λ at fs. gives-refused _ tt) fs
  within-gives (suc levels) fs = field-gives (λ at fs. two_parts edition1 K (formula_within edition1 K levels) fs) (λ at fs. parts-gives (formula_within edition1 K levels) (within-gives levels) fs) fs

-- ---- the header: K given, or not
one-accepted : {X : Type 0} {x y : X} → accepted x ≡ accepted y → x ≡ y
one-accepted e = cc

module _ (kind : FileKind) (file : ℕ) where
  abbrev numbered : ℕ × ℕ × Fields → Result (ℕ × Fields)
  numbered x = accepted (x.1, x.2)

  -- what stands behind the field of K
  abbrev after : (given : mathlib.Core.Option.Option ℕ) → ℕ × ℕ × Fields → Result (ℕ × Fields)
  after given x = need (answer 7 file x.0) (leb 1 x.1 && leb x.1 edition1.constants) >> (need (answer 9 file x.0) (agrees given x.1) >> numbered x)

  own-after : (K : ℕ) (fs : Fields) (w : Result (ℕ × ℕ × Fields)) → (w >>= after none) ≡ accepted (K, fs) → (w >>= after (some K)) ≡ accepted (K, fs)
  unfolding ◌>>=◌ ◌>>◌ need agrees
  own-after K fs (refused a) e = absurd (never e)
  own-after K fs (accepted x) e = go (leb 1 x.1 && leb x.1 16) e
    where
      go : (b : Bool) → (need (answer 7 file x.0) b >> numbered x) ≡ accepted (K, fs)
          → (need (answer 7 file x.0) b >> (need (answer 9 file x.0) (eqb x.1 K) >> numbered x)) ≡ accepted (K, fs)
      go true e = let k : x.1 ≡ K = ap (λ (y : ℕ × Fields). y.0) (one-accepted e) in rw (eq-eqb x.1 K k) e
      go false e = absurd (never e)

  any-after : (K L : ℕ) (fs : Fields) (w : Result (ℕ × ℕ × Fields)) → (w >>= after (some L)) ≡ accepted (K, fs) → (w >>= after none) ≡ accepted (K, fs)
  unfolding ◌>>=◌ ◌>>◌ need agrees
  any-after K L fs (refused a) e = absurd (never e)
  any-after K L fs (accepted x) e = go (leb 1 x.1 && leb x.1 16) (eqb x.1 L) e
    where
      go : (b d : Bool) → (need (answer 7 file x.0) b >> (need (answer 9 file x.0) d >> numbered x)) ≡ accepted (K, fs) → (need (answer 7 file x.0) b >> numbered x) ≡ accepted (K, fs)
      go true true e = e
      go true false e = absurd (never e)
      go false d e = absurd (never e)

  -- the same for the whole header
  step : {X : Type 0} (w : Result X) {f g : X → Result Header} {h : Header} → ((x : X) → f x ≡ accepted h → g x ≡ accepted h) → (w >>= f) ≡ accepted h → (w >>= g) ≡ accepted h
  unfolding ◌>>=◌
  step (refused a) k e = absurd (never e)
  step (accepted x) k e = k x e

  behind : (n : ℕ) (w u : Result (ℕ × Fields)) (h : Header) → ((K : ℕ) (fs : Fields) → K ≡ h.K → w ≡ accepted (K, fs) → u ≡ accepted (K, fs))
      → (w >>= λ x. accepted (record { number = n; K = x.0; rest = x.1 })) ≡ accepted h → (u >>= λ x. accepted (record { number = n; K = x.0; rest = x.1 })) ≡ accepted h
  unfolding ◌>>=◌
  behind n (refused a) u h k e = absurd (never e)
  behind n (accepted x) u h k e = rw (k x.0 x.1 (ap (λ (y : Header). y.K) (one-accepted e)) refl) e

  pub header-own : (newest : ℕ) (fs : Fields) (h : Header) → header kind file newest none fs ≡ accepted h → header kind file newest (some h.K) fs ≡ accepted h
  unfolding header constants_field
  header-own newest fs h = step (edition_field kind file newest fs) λ x. behind x.0 _ _ h λ K gs e. rw (sym e) (own-after K gs (header_field kind file 0x02 x.1))

  pub header-any : (newest L : ℕ) (fs : Fields) (h : Header) → header kind file newest (some L) fs ≡ accepted h → header kind file newest none fs ≡ accepted h
  unfolding header constants_field
  header-any newest L fs h = step (edition_field kind file newest fs) λ x. behind x.0 _ _ h λ K gs e. any-after K L gs (header_field kind file 0x02 x.1)
