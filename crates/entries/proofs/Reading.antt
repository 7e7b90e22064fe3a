-- What the code reads of a field is what the definitions give of its contents. Assumes nothing.
use mathlib.Core.Path.{◌≡◌, refl, sym, ap, ap₂, ◌∙◌}
use mathlib.Core.Bool.{Bool, true, false}
use mathlib.Core.List.{List}
use mathlib.Core.Option.{none, some}
use Prim.Native.Nat.{ℕ, ◌+◌, ◌*◌, ◌≤◌, ◌<◌}
use native.Mathlib.Omega.{arith}
use lib.Dec.{eqb, leb}
use lib.ListN.{length}
use lib.IntN.{ℤ, pos, negsuc, nat_abs}
use lib.Signed.{mag}
use borrow.Author.Tests.{eq-eqb, ne_eqb, leb-true, leb-false}
use Rattle.std.specs.Prelude.{◌≢◌, Ok, Err}
use Rattle.std.specs.declared.result.Result as code
use Rattle.std.specs.Result.{IsErrAnd}
use Rattle.std.proofs.lemmas.Result.{err_from_is_err_and}
use Rattle.forms.specs.Edition.{edition}
use Rattle.forms.proofs.Editions.{line_width-most}
use Rattle.forms.specs.declared.LineNumber.{LineNumber}
use Rattle.calculus.specs.Rules as rules
use Rattle.answers.specs.declared.Answer.{Answer}
use Rattle.answers.specs.declared.refusals.Refusal.{Refusal}
use Rattle.answers.specs.Answers.{accepted, ◌>>◌, need}
use Rattle.number_bytes.specs.Numbers.{unsigned, signed}
use Rattle.number_bytes.specs.Ranges.{Held}
use Rattle.fields.specs.declared.FileKind.{FileKind}
use Rattle.fields.specs.Fields.{Field}
use Rattle.fields.specs.Header.{known, header_tag}
use Rattle.proof.specs.Entries.{EntryTag, combine_tag, reduce_tag, scale_tag, strengthen_tag, number_tag, stride_tag, round_tag, split_tag, claim_tag, shape, size_of, entry_from, line_number, multiplier, entry_tagged, in_place, entry}
use Rattle.proof.proofs.Entered.{unknown, entry-unknown, entry-none, entry-out, entry_in}
use Rattle.entries.specs.Entries.{stated, Ranged, Entered}
use Rattle.entries.specs.declared.Entry.{Entry}
use Rattle.entries.specs.declared.Row.{Row}

held-abs : (z : ℤ) → mag z + mag z < 65536 → nat_abs z ≤ 65535
held-abs (pos n) h = omega arith
held-abs (negsuc n) h = omega arith

-- ---- what is read of the row that contents are laid out as, with i line numbers and j multipliers
module _ (n : ℕ) (bs : List ℕ) (r : Row) {i j : ℕ} (b : (r.contents.now ≡ bs) × (r.e ≡ n) × (r.lines ≡ i) × (r.multipliers ≡ j)) where
  size : length bs ≡ i * (edition n).line_width + j * 2
  size = rw (b.0, b.1, b.2, b.3) at r.laid_out

  line-read : (k : ℕ) {l : LineNumber} → l.0 ≡ line_number (edition r.e) k r.contents.now → l.0 ≡ line_number (edition n) k bs
  line-read k e = rw (b.0, b.1) at e

  number-read : (k : ℕ) {x : ℕ} → x ≡ unsigned (multiplier (edition r.e) r.lines k r.contents.now) → x ≡ unsigned (multiplier (edition n) i k bs)
  number-read k e = rw (b.0, b.1, b.2) at e

  signed-read : (k : ℕ) {z : ℤ} → z ≡ signed (multiplier (edition r.e) r.lines k r.contents.now) → z ≡ signed (multiplier (edition n) i k bs)
  signed-read k e = rw (b.0, b.1, b.2) at e

-- ---- the entry of a field, by its tag
abbrev tag_of : EntryTag → ℕ
tag_of combine_tag = 0x10
tag_of reduce_tag = 0x11
tag_of scale_tag = 0x12
tag_of strengthen_tag = 0x13
tag_of number_tag = 0x14
tag_of stride_tag = 0x15
tag_of round_tag = 0x16
tag_of split_tag = 0x17
tag_of claim_tag = 0x20

is_known : (x : EntryTag) → known FileKind.Proof (tag_of x) ≡ true
unfolding known header_tag
is_known combine_tag = refl
is_known reduce_tag = refl
is_known scale_tag = refl
is_known strengthen_tag = refl
is_known number_tag = refl
is_known stride_tag = refl
is_known round_tag = refl
is_known split_tag = refl
is_known claim_tag = refl

is_tagged : (x : EntryTag) → entry_tagged (tag_of x) ≡ some x
unfolding entry_tagged
is_tagged combine_tag = refl
is_tagged reduce_tag = refl
is_tagged scale_tag = refl
is_tagged strengthen_tag = refl
is_tagged number_tag = refl
is_tagged stride_tag = refl
is_tagged round_tag = refl
is_tagged split_tag = refl
is_tagged claim_tag = refl

header_known : known FileKind.Proof 1 ≡ true
unfolding known header_tag
header_known = refl

header_known-2 : known FileKind.Proof 2 ≡ true
unfolding known header_tag
header_known-2 = refl

header_none : entry_tagged 1 ≡ none
unfolding entry_tagged
header_none = refl

header_none-2 : entry_tagged 2 ≡ none
unfolding entry_tagged
header_none-2 = refl

abbrev field_of : (at tag : ℕ) → List ℕ → Field
field_of at tag bs = record { at = at; tag = tag; contents = bs }

module _ (n K : ℕ) (bs : List ℕ) {tag : ℕ} (made : Bool) where
  module _ (x : EntryTag) (e : tag ≡ tag_of x) where
    module _ (p : in_place made x ≡ true) where
      of_tag : (refusal : ℕ → Answer) (at : ℕ) → entry (edition n) K refusal made (field_of at tag bs) ≡ (need (refusal 6) (eqb (length bs) (size_of (edition n) K x)) >> accepted (entry_from (edition n) K x bs))
      of_tag refusal at = rw e (entry_in (edition n) K refusal made (field_of at (tag_of x) bs) x (is_known x) (is_tagged x) p)

      wrong_size : (length bs ≡ size_of (edition n) K x → ⊥) → Entered n K bs tag made (Err Refusal.WrongLength)
      unfolding ◌>>◌ need
      wrong_size h = record { is = λ refusal at. of_tag refusal at ∙ rw (ne_eqb (length bs) (size_of (edition n) K x) h); ranged = tt; filled = tt }

      right-size : {y : Entry} → length bs ≡ size_of (edition n) K x → stated K bs y ≡ entry_from (edition n) K x bs → Ranged K (length bs) made y → (edition n).line_width ≤ length bs → Entered n K bs tag made (Ok y)
      unfolding ◌>>◌ need
      right-size h q g f = record { is = λ refusal at. of_tag refusal at ∙ rw (eq-eqb (length bs) (size_of (edition n) K x) h) (ap accepted (sym q)); ranged = g; filled = f }

    misplaced : in_place made x ≡ false → Entered n K bs tag made (Err Refusal.MisplacedTag)
    misplaced p = record { is = λ refusal at. rw e (entry-out (edition n) K refusal made (field_of at (tag_of x) bs) x (is_known x) (is_tagged x) p); ranged = tt; filled = tt }

  -- a row of another size
  pub refused_size : (x : EntryTag) → tag ≡ tag_of x → in_place made x ≡ true → (shape x).forms ≡ 0 → {r : code.Result Entry Refusal} {e : Refusal}
      → (e ≡ Refusal.WrongLength) × (length bs ≡ (shape x).line_numbers * (edition n).line_width + (shape x).multipliers * 2 → ⊥) → IsErrAnd r (λ y. y ≡ e) → Entered n K bs tag made r
  unfolding size_of
  refused_size x e p z {r} h is =
      let s : size_of (edition n) K x ≡ (shape x).line_numbers * (edition n).line_width + (shape x).multipliers * 2 = rw z (omega arith) in
      let q = err_from_is_err_and r is in
      rw (q.1, q.2, h.0) (wrong_size x e p (λ k. h.1 (k ∙ s)))

  -- a row of its own
  module _ (r : Row) where
    pub combine-in : tag ≡ 0x10 → (r.contents.now ≡ bs) × (r.e ≡ n) × (r.lines ≡ 2) × (r.multipliers ≡ 2)
        → {s t : LineNumber} → s.0 ≡ line_number (edition r.e) 0 r.contents.now → t.0 ≡ line_number (edition r.e) 1 r.contents.now
        → {x y : ℕ} → x ≡ unsigned (multiplier (edition r.e) r.lines 0 r.contents.now) → y ≡ unsigned (multiplier (edition r.e) r.lines 1 r.contents.now)
        → Entered n K bs tag made (Ok (Entry.Combine s t x y))
    unfolding in_place size_of entry_from
    combine-in e b es et ex ey =
        right-size combine_tag e refl (omega (arith, size n bs r b))
        (rw (line-read n bs r b 0 es, line-read n bs r b 1 et, number-read n bs r b 0 ex, number-read n bs r b 1 ey))
        tt
        (omega (arith, size n bs r b))

    pub reduce-in : tag ≡ 0x11 → (r.contents.now ≡ bs) × (r.e ≡ n) × (r.lines ≡ 2) × (r.multipliers ≡ 1)
        → {s t : LineNumber} → s.0 ≡ line_number (edition r.e) 0 r.contents.now → t.0 ≡ line_number (edition r.e) 1 r.contents.now
        → {z : ℤ} → z ≡ signed (multiplier (edition r.e) r.lines 0 r.contents.now) → Held 2 z
        → Entered n K bs tag made (Ok (Entry.Reduce s t z))
    unfolding in_place size_of entry_from
    reduce-in e b {s} {t} es et {z} ez held =
        right-size reduce_tag e refl (omega (arith, size n bs r b))
        (ap₂ (λ (x : ℕ) (y : ℤ). rules.row (rules.Derive (rules.Reduce x t.0 y))) (line-read n bs r b 0 es) (signed-read n bs r b 0 ez)
        ∙ ap (λ (x : ℕ). rules.row (rules.Derive (rules.Reduce (line_number (edition n) 0 bs) x (signed (multiplier (edition n) 2 0 bs))))) (line-read n bs r b 1 et))
        (record { abs = held-abs z held.held.half })
        (omega (arith, size n bs r b))

    module _ (b : (r.contents.now ≡ bs) × (r.e ≡ n) × (r.lines ≡ 1) × (r.multipliers ≡ 1)) {t : LineNumber} (et : t.0 ≡ line_number (edition r.e) 0 r.contents.now)
        {x : ℕ} (ex : x ≡ unsigned (multiplier (edition r.e) r.lines 0 r.contents.now)) where
      pub scale_in : tag ≡ 0x12 → Entered n K bs tag made (Ok (Entry.Scale t x))
      unfolding in_place size_of entry_from
      scale_in e = right-size scale_tag e refl (omega (arith, size n bs r b)) (rw (line-read n bs r b 0 et, number-read n bs r b 0 ex)) tt (omega (arith, size n bs r b))

      pub stride-in : tag ≡ 0x15 → Entered n K bs tag made (Ok (Entry.CloseStride t x))
      unfolding in_place size_of entry_from
      stride-in e = right-size stride_tag e refl (omega (arith, size n bs r b)) (rw (line-read n bs r b 0 et, number-read n bs r b 0 ex)) tt (omega (arith, size n bs r b))

    pub round-in : tag ≡ 0x16 → (r.contents.now ≡ bs) × (r.e ≡ n) × (r.lines ≡ 1) × (r.multipliers ≡ 2)
        → {t : LineNumber} → t.0 ≡ line_number (edition r.e) 0 r.contents.now
        → {x y : ℕ} → x ≡ unsigned (multiplier (edition r.e) r.lines 0 r.contents.now) → y ≡ unsigned (multiplier (edition r.e) r.lines 1 r.contents.now)
        → Entered n K bs tag made (Ok (Entry.Round t x y))
    unfolding in_place size_of entry_from
    round-in e b et ex ey =
        right-size round_tag e refl (omega (arith, size n bs r b))
        (rw (line-read n bs r b 0 et, number-read n bs r b 0 ex, number-read n bs r b 1 ey))
        tt
        (omega (arith, size n bs r b))

    module _ (b : (r.contents.now ≡ bs) × (r.e ≡ n) × (r.lines ≡ 1) × (r.multipliers ≡ 0)) {t : LineNumber} (et : t.0 ≡ line_number (edition r.e) 0 r.contents.now) where
      pub strengthen-in : tag ≡ 0x13 → Entered n K bs tag made (Ok (Entry.Strengthen t))
      unfolding in_place size_of entry_from
      strengthen-in e = right-size strengthen_tag e refl (omega (arith, size n bs r b)) (rw (line-read n bs r b 0 et)) tt (omega (arith, size n bs r b))

      pub number_in : tag ≡ 0x14 → Entered n K bs tag made (Ok (Entry.CloseNumber t))
      unfolding in_place size_of entry_from
      number_in e = right-size number_tag e refl (omega (arith, size n bs r b)) (rw (line-read n bs r b 0 et)) tt (omega (arith, size n bs r b))

      pub split-in : tag ≡ 0x17 → Entered n K bs tag made (Ok (Entry.Split t))
      unfolding in_place size_of entry_from
      split-in e = right-size split_tag e refl (omega (arith, size n bs r b)) (rw (line-read n bs r b 0 et)) tt (omega (arith, size n bs r b))

  -- a claim, and what is no entry
  pub claim_in : tag ≡ 0x20 → made ≡ true → length bs ≡ 8 * (K + 1) → Entered n K bs tag made (Ok Entry.Claim)
  unfolding in_place size_of entry_from
  claim_in e m h = right-size claim_tag e m (omega (arith, h)) refl (m, omega (arith, h)) (omega (arith, line_width-most n, h))

  pub claim-wrong : tag ≡ 0x20 → made ≡ true → (length bs ≡ 8 * (K + 1) → ⊥) → Entered n K bs tag made (Err Refusal.WrongLength)
  unfolding in_place size_of
  claim-wrong e m h = wrong_size claim_tag e m (λ k. h (omega (arith, k)))

  pub claim-misplaced : tag ≡ 0x20 → made ≡ false → Entered n K bs tag made (Err Refusal.MisplacedTag)
  unfolding in_place
  claim-misplaced e m = misplaced claim_tag e m

  pub header_in : 1 ≤ tag → tag ≤ 2 → Entered n K bs tag made (Err Refusal.MisplacedTag)
  header_in low high = go (leb tag 1) refl
    where
      at : (t : ℕ) → tag ≡ t → known FileKind.Proof t ≡ true → entry_tagged t ≡ none → Entered n K bs tag made (Err Refusal.MisplacedTag)
      at t e k q = record { is = λ refusal at. rw e (entry-none (edition n) K refusal made (field_of at t bs) k q); ranged = tt; filled = tt }

      go : (b : Bool) → leb tag 1 ≡ b → Entered n K bs tag made (Err Refusal.MisplacedTag)
      go true e = at 1 (omega (arith, leb-true tag 1 e)) header_known header_none
      go false e = at 2 (omega (arith, leb-false tag 1 e)) header_known-2 header_none-2

  pub unknown_in : tag ≢ 0x01 → tag ≢ 0x02 → tag ≢ 0x10 → tag ≢ 0x11 → tag ≢ 0x12 → tag ≢ 0x13 → tag ≢ 0x14 → tag ≢ 0x15 → tag ≢ 0x16 → tag ≢ 0x17 → tag ≢ 0x20
      → Entered n K bs tag made (Err Refusal.UnknownTag)
  unknown_in x y a b c d e f g j i = record { is = λ refusal at. entry-unknown (edition n) K refusal made (field_of at tag bs) (unknown tag a b c d e f g j i x y); ranged = tt; filled = tt }
