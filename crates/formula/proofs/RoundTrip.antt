-- A formula reads back from the bytes that it is written as. Assumes nothing.
use mathlib.Core.Path.{◌≡◌, refl, sym, ◌∙◌, ap, ap₂}
use mathlib.Core.Option.{some}
use mathlib.Core.Bool.{Bool, true, false, ◌&&◌}
use mathlib.Core.List.{List, [], ◌∷◌, ◌++◌, append_assoc, append-nil}
use Prim.Native.Nat.{ℕ, zero, suc, ◌+◌, ◌-◌, ◌<◌, ◌≤◌}
use native.Mathlib.Omega.{arith}
use lib.Dec.{leb, eqb}
use lib.ListN.{length, take, drop, length-append}
use lib.Seq.{take_at, drop_at}
use lib.IntN.{ℤ, pos, nat_abs}
use borrow.Author.Tests.{le-leb, eq-eqb, ne_eqb}
use Rattle.forms.specs.Edition.{edition1}
use Rattle.forms.specs.Forms.{Kind, ≤0, =0, Form, Formula, literal, ◌divides◌, ◌and◌, ◌or◌, height}
use Rattle.answers.specs.declared.Answer.{Answer}
use Rattle.answers.specs.Answers.{answer, file_proof, Result, refused, accepted, ◌>>=◌, ◌>>◌, need}
use Rattle.answers.proofs.Results.{binds, passes, found_some, pass, fail}
use Rattle.number_bytes.specs.Numbers.{signed, signed_bytes, form_from, form_bytes, form_width}
use Rattle.number_bytes.specs.Ranges.{InWidth, FormInWidth}
use Rattle.number_bytes.proofs.Signed.{length-signed_bytes, signed-signed_bytes, length-form_bytes, form_from-written}
use Rattle.fields.specs.declared.FileKind.{FileKind}
use Rattle.fields.specs.Fields.{Field, Fields, ends, ◌▸◌, note, fields, fields_from, field_bytes}
use Rattle.fields.specs.Header.{Header, agrees, known, header_tag, header, header_field, edition_field, constants_field, finished, header_bytes}
use Rattle.fields.proofs.Framing.{fuel-irrelevant, length-field_bytes}
use Rattle.fields.proofs.Headers.{length-header_bytes}
use Rattle.formula.specs.Formula.{encode, formula_file, Encodable, Connective, disjunction, conjunction, FormulaTag, pair, atom, stride, formula_tagged, compound, formula_size, formula_of, formula_field, two_parts, formula_within, read_formula}
use Rattle.formula.proofs.Fronts.{fields-field, fields-end}

-- The fuel for the fields of a formula, and then so much more.
abbrev fuelled : Formula → ℕ → ℕ
fuelled (literal k t) n = suc n
fuelled (g divides t) n = suc n
fuelled (I and J) n = suc (fuelled I (fuelled J n))
fuelled (I or J) n = suc (fuelled I (fuelled J n))

abbrev field : ℕ → ℕ → List ℕ → Field
field at tag contents = record { at = at; tag = tag; contents = contents }

abbrev Two : Type 0
Two = ℕ → Fields → Result (Formula × Formula × Fields)

-- ---- one field
module _ (K : ℕ) (two : Two) (fs : Fields) (at : ℕ) where
  -- A field of a formula's tag and its length gives what it states.
  field-read : (tag : ℕ) (contents : List ℕ) (tagged : FormulaTag) → known FileKind.Formula tag ≡ true → formula_tagged tag ≡ some tagged → length contents ≡ formula_size edition1 K tagged
      → formula_field edition1 K two (field at tag contents ▸ fs) ≡ formula_of edition1 K two (field at tag contents) fs tagged
  unfolding formula_field
  field-read tag contents tagged k t s =
      let f = field at tag contents in
      pass (answer 3 file_proof at) _ k
      ∙ binds (λ x. need (answer 6 file_proof at) (eqb (length contents) (formula_size edition1 K x)) >> formula_of edition1 K two f fs x) (found_some (answer 4 file_proof at) t)
      ∙ pass (answer 6 file_proof at) (formula_of edition1 K two f fs tagged) (eq-eqb (length contents) (formula_size edition1 K tagged) s)

  atom-read : (tag : ℕ) (k : Kind) (t : Form) → known FileKind.Formula tag ≡ true → formula_tagged tag ≡ some (atom k) → FormInWidth 4 K t
      → formula_field edition1 K two (field at tag (form_bytes 4 t) ▸ fs) ≡ accepted (literal k t, fs)
  unfolding formula_of formula_size
  atom-read tag k t n e h = field-read tag (form_bytes 4 t) (atom k) n e (length-form_bytes 4 K t h.size) ∙ rw (form_from-written 4 K h)

  stride-read : (g : ℕ) (t : Form) → 2 ≤ g → InWidth 4 (pos g) → FormInWidth 4 K t
      → formula_field edition1 K two (field at 0x35 (signed_bytes 4 (pos g) ++ form_bytes 4 t) ▸ fs) ≡ accepted (g divides t, fs)
  unfolding formula_of formula_size known header_tag formula_tagged
  stride-read g t low w h =
      let contents = signed_bytes 4 (pos g) ++ form_bytes 4 t in
      let own = length-signed_bytes 4 (pos g) in
      let size : length contents ≡ 4 + form_width 4 K = length-append (signed_bytes 4 (pos g)) (form_bytes 4 t) ∙ ap₂ ◌+◌ own (length-form_bytes 4 K t h.size) in
      let front : take 4 contents ≡ signed_bytes 4 (pos g) = take_at (signed_bytes 4 (pos g)) (form_bytes 4 t) 4 own in
      let back : drop 4 contents ≡ form_bytes 4 t = drop_at (signed_bytes 4 (pos g)) (form_bytes 4 t) 4 own in
      let number : signed (take 4 contents) ≡ pos g = ap signed front ∙ signed-signed_bytes 4 (pos g) w in
      let form : form_from 4 K (drop 4 contents) ≡ t = ap (form_from 4 K) back ∙ form_from-written 4 K h in
      field-read 0x35 contents stride refl refl size
      ∙ pass (answer 12 file_proof at) _ (rw number (le-leb 2 g low))
      ∙ ap₂ (λ (z : ℤ) (u : Form). accepted (nat_abs z divides u, fs)) number form

  pair_read : (tag : ℕ) (c : Connective) {I J : Formula} {after : Fields} → known FileKind.Formula tag ≡ true → formula_tagged tag ≡ some (pair c) → two at fs ≡ accepted (I, J, after)
      → formula_field edition1 K two (field at tag [] ▸ fs) ≡ accepted (compound c I J, after)
  unfolding formula_of formula_size
  pair_read tag c {I} {J} {after} n e h = field-read tag [] (pair c) n e refl ∙ binds _ h

module _ (K : ℕ) where
  -- A field that is no and/or reads alike at every level.
  leaf-within : (levels : ℕ) (fs : Fields) {r : Result (Formula × Fields)} → ((two : Two) → formula_field edition1 K two fs ≡ r) → formula_within edition1 K levels fs ≡ r
  unfolding formula_within
  leaf-within zero fs h = h _
  leaf-within (suc levels) fs h = h _

  two-read : (part : Fields → Result (Formula × Fields)) (fs : Fields) {fs1 fs2 : Fields} {I J : Formula} → part fs ≡ accepted (I, fs1) → part fs1 ≡ accepted (J, fs2) → two_parts edition1 K part fs ≡ accepted (I, J, fs2)
  unfolding two_parts
  two-read part fs h k = binds _ h ∙ binds _ k

  -- The formula at the front of the fields is read, and leaves the fields after it.
  ReadsBack : (levels : ℕ) → Formula → Type 0
  ReadsBack levels I = (fuel at : ℕ) (bs : List ℕ)
      → formula_within edition1 K levels (fields_from (fuelled I fuel) at (encode edition1 I ++ bs)) ≡ accepted (I, fields_from fuel (at + length (encode edition1 I)) bs)

  leaf-reads : (levels tag : ℕ) (contents : List ℕ) (I : Formula) → length contents < 0x10000 → note tag ≡ false
      → ((two : Two) (fs : Fields) (at : ℕ) → formula_field edition1 K two (field at tag contents ▸ fs) ≡ accepted (I, fs)) → (fuel at : ℕ) (bs : List ℕ)
      → formula_within edition1 K levels (fields_from (suc fuel) at (field_bytes tag contents ++ bs)) ≡ accepted (I, fields_from fuel (at + length (field_bytes tag contents)) bs)
  leaf-reads levels tag contents I short n h fuel at bs =
      let place : at + 3 + length contents ≡ at + length (field_bytes tag contents) = omega (arith, length-field_bytes tag contents) in
      ap (formula_within edition1 K levels) (fields-field tag contents bs fuel at short n)
      ∙ leaf-within levels _ (λ two. h two (fields_from fuel (at + 3 + length contents) bs) at)
      ∙ ap (λ (p : ℕ). accepted (I, fields_from fuel p bs)) place

  pair_reads : (levels tag : ℕ) (c : Connective) (I J : Formula) → note tag ≡ false → known FileKind.Formula tag ≡ true → formula_tagged tag ≡ some (pair c) → ReadsBack levels I → ReadsBack levels J
      → (fuel at : ℕ) (bs : List ℕ) → formula_within edition1 K (suc levels) (fields_from (suc (fuelled I (fuelled J fuel))) at (field_bytes tag [] ++ encode edition1 I ++ encode edition1 J ++ bs))
      ≡ accepted (compound c I J, fields_from fuel (at + length (field_bytes tag [] ++ encode edition1 I ++ encode edition1 J)) bs)
  unfolding ReadsBack formula_within
  pair_reads levels tag c I J n k t hI hJ fuel at bs =
      let F = field_bytes tag [] in
      let X = encode edition1 I in
      let Y = encode edition1 J in
      let fuel1 = fuelled I (fuelled J fuel) in
      let bytes : F ++ X ++ Y ++ bs ≡ F ++ (X ++ (Y ++ bs)) = append_assoc (F ++ X) Y bs ∙ append_assoc F X (Y ++ bs) in
      let place : at + 3 + 0 + length X + length Y ≡ at + length (F ++ X ++ Y) = omega (arith, length-append (F ++ X) Y, length-append F X, length-field_bytes tag []) in
      ap (λ (b : List ℕ). formula_within edition1 K (suc levels) (fields_from (suc fuel1) at b)) bytes
      ∙ ap (formula_within edition1 K (suc levels)) (fields-field tag [] (X ++ (Y ++ bs)) fuel1 at (omega arith) n)
      ∙ pair_read K _ (fields_from fuel1 (at + 3 + 0) (X ++ (Y ++ bs))) at tag c k t
      (two-read (formula_within edition1 K levels) _ (hI (fuelled J fuel) (at + 3 + 0) (Y ++ bs)) (hJ fuel (at + 3 + 0 + length X) bs))
      ∙ ap (λ (p : ℕ). accepted (compound c I J, fields_from fuel p bs)) place

  -- A form, also with g in front, is short enough for a field.
  form-short : (t : Form) → K ≤ 16 → length t.coeffs ≡ K → length (form_bytes 4 t) ≤ 68
  form-short t k h = omega (arith, length-form_bytes 4 K t h)

  stride-short : (g : ℕ) (t : Form) → K ≤ 16 → length t.coeffs ≡ K → length (signed_bytes 4 (pos g) ++ form_bytes 4 t) ≤ 72
  stride-short g t k h = omega (arith, length-append (signed_bytes 4 (pos g)) (form_bytes 4 t), length-signed_bytes 4 (pos g), form-short t k h)

  module _ (k : K ≤ 16) where
    fuelled-reads : (levels : ℕ) (I : Formula) → Encodable K I → height I ≤ levels → ReadsBack levels I
    unfolding encode ReadsBack known header_tag formula_tagged compound note
    fuelled-reads levels (literal ≤0 t) h l = leaf-reads levels 0x33 (form_bytes 4 t) (literal ≤0 t) (omega (arith, form-short t k h.size)) refl (λ two fs at. atom-read K two fs at 0x33 ≤0 t refl refl h)
    fuelled-reads levels (literal =0 t) h l = leaf-reads levels 0x34 (form_bytes 4 t) (literal =0 t) (omega (arith, form-short t k h.size)) refl (λ two fs at. atom-read K two fs at 0x34 =0 t refl refl h)
    fuelled-reads levels (g divides t) h l = leaf-reads levels 0x35 (signed_bytes 4 (pos g) ++ form_bytes 4 t) (g divides t) (omega (arith, stride-short g t k h.2.size)) refl (λ two fs at. stride-read K two fs at g t h.0 h.1 h.2)
    fuelled-reads zero (I and J) h l = absurd (omega arith)
    fuelled-reads zero (I or J) h l = absurd (omega arith)
    fuelled-reads (suc levels) (I and J) h l = pair_reads levels 0x32 conjunction I J refl refl refl (fuelled-reads levels I h.0 (omega arith)) (fuelled-reads levels J h.1 (omega arith))
    fuelled-reads (suc levels) (I or J) h l = pair_reads levels 0x31 disjunction I J refl refl refl (fuelled-reads levels I h.0 (omega arith)) (fuelled-reads levels J h.1 (omega arith))

-- ---- fuel
-- How many fields a formula has.
abbrev count : Formula → ℕ
count (literal k t) = 1
count (g divides t) = 1
count (I and J) = suc (count I + count J)
count (I or J) = suc (count I + count J)

fuelled-count : (I : Formula) (n : ℕ) → fuelled I n ≡ count I + n
fuelled-count (literal k t) n = omega arith
fuelled-count (g divides t) n = omega arith
fuelled-count (I and J) n = omega (arith, fuelled-count I (fuelled J n), fuelled-count J n)
fuelled-count (I or J) n = omega (arith, fuelled-count I (fuelled J n), fuelled-count J n)

pair-length : (tag : ℕ) (xs ys : List ℕ) → length (field_bytes tag [] ++ xs ++ ys) ≡ 3 + length xs + length ys
pair-length tag xs ys = omega (arith, length-append (field_bytes tag [] ++ xs) ys, length-append (field_bytes tag []) xs, length-field_bytes tag [])

count-below : (I : Formula) → count I ≤ length (encode edition1 I)
unfolding encode
count-below (literal ≤0 t) = omega (arith, length-field_bytes 0x33 (form_bytes 4 t))
count-below (literal =0 t) = omega (arith, length-field_bytes 0x34 (form_bytes 4 t))
count-below (g divides t) = omega (arith, length-field_bytes 0x35 (signed_bytes 4 (pos g) ++ form_bytes 4 t))
count-below (I and J) = omega (arith, pair-length 0x32 (encode edition1 I) (encode edition1 J), count-below I, count-below J)
count-below (I or J) = omega (arith, pair-length 0x31 (encode edition1 I) (encode edition1 J), count-below I, count-below J)

-- With as much fuel as there are bytes, the formula at their front is read.
pub formula-read : (K levels : ℕ) (I : Formula) → K ≤ 16 → Encodable K I → height I ≤ levels → (fuel at : ℕ) (bs : List ℕ) → length (encode edition1 I ++ bs) ≤ fuel
    → formula_within edition1 K levels (fields_from fuel at (encode edition1 I ++ bs)) ≡ accepted (I, fields_from fuel (at + length (encode edition1 I)) bs)
unfolding ReadsBack
formula-read K levels I k h l fuel at bs enough =
    let n = fuel - count I in
    let both = length-append (encode edition1 I) bs in
    let fuels : fuel ≡ fuelled I n = omega (arith, fuelled-count I n, count-below I) in
    ap (λ (m : ℕ). formula_within edition1 K levels (fields_from m at (encode edition1 I ++ bs))) fuels
    ∙ fuelled-reads K k levels I h l n at bs
    ∙ ap (λ (fs : Fields). accepted (I, fs)) (fuel-irrelevant n fuel (at + length (encode edition1 I)) bs (omega (arith, count-below I)) (omega arith))

-- ---- the file
header-field-read : (tag at b : ℕ) (fs : Fields) → known FileKind.Formula tag ≡ true → header_field FileKind.Formula file_proof tag (field at tag (b ∷ []) ▸ fs) ≡ accepted (at, b, fs)
unfolding header_field
header-field-read tag at b fs k = pass _ _ k ∙ pass _ _ (eq-eqb tag tag refl) ∙ pass _ _ refl

edition-read : (fs : Fields) → edition_field FileKind.Formula file_proof 1 (field 0 0x01 (1 ∷ []) ▸ fs) ≡ accepted (1, fs)
unfolding edition_field known header_tag
edition-read fs = binds _ (header-field-read 0x01 0 1 fs refl) ∙ pass _ _ refl

header_read : (K : ℕ) (fs : Fields) → 1 ≤ K → K ≤ 16 → header FileKind.Formula file_proof 1 (some K) (field 0 0x01 (1 ∷ []) ▸ field 4 0x02 (K ∷ []) ▸ fs) ≡ accepted (record { number = 1; K = K; rest = fs })
unfolding header constants_field agrees known header_tag
header_read K fs low high =
    binds _ (edition-read (field 4 0x02 (K ∷ []) ▸ fs))
    ∙ binds _ (binds _ (header-field-read 0x02 4 K fs refl)
    ∙ pass _ _ (rw (le-leb 1 K low, le-leb K 16 high))
    ∙ pass _ _ (eq-eqb K K refl))

pub header-fields : (K fuel : ℕ) (bs : List ℕ) → fields_from (suc (suc fuel)) 0 (header_bytes 1 K ++ bs) ≡ field 0 0x01 (1 ∷ []) ▸ field 4 0x02 (K ∷ []) ▸ fields_from fuel 8 bs
unfolding header_bytes note
header-fields K fuel bs =
    ap (fields_from (suc (suc fuel)) 0) (append_assoc (field_bytes 0x01 (1 ∷ [])) (field_bytes 0x02 (K ∷ [])) bs)
    ∙ fields-field 0x01 (1 ∷ []) (field_bytes 0x02 (K ∷ []) ++ bs) (suc fuel) 0 (omega arith) refl
    ∙ ap (λ (fs : Fields). field 0 0x01 (1 ∷ []) ▸ fs) (fields-field 0x02 (K ∷ []) bs fuel 4 (omega arith) refl)

-- A formula's file reads back as that formula.
pub read-written : (K : ℕ) (I : Formula) → 1 ≤ K → K ≤ 16 → Encodable K I → height I ≤ 600 → read_formula K (fields (formula_file edition1 K I)) ≡ accepted I
unfolding read_formula fields formula_file finished
read-written K I low high h l =
    let X = encode edition1 I in
    let n = 6 + length X in
    let size : length (header_bytes 1 K ++ X) ≡ suc (suc n) = omega (arith, length-append (header_bytes 1 K) X, length-header_bytes 1 K) in
    let own : length (X ++ []) ≤ n = rw append-nil (omega arith) in
    let part : formula_within edition1 K 600 (fields_from n 8 X) ≡ accepted (I, ends (8 + length X))
    = ap (λ (bs : List ℕ). formula_within edition1 K 600 (fields_from n 8 bs)) (sym (append-nil X))
    ∙ formula-read K 600 I high h l n 8 [] own
    ∙ ap (λ (fs : Fields). accepted (I, fs)) (fields-end n (8 + length X)) in
    ap (read_formula K) (ap (λ (m : ℕ). fields_from m 0 (header_bytes 1 K ++ X)) size ∙ header-fields K n X)
    ∙ binds _ (header_read K (fields_from n 8 X) low high)
    ∙ binds _ part
    ∙ passes (accepted I) refl

refused-still : {X Y : Type 0} (a c : Answer) (b : Bool) (f : X → Result Y) → ((need a b >> refused c) >>= f) ≡ (need a b >> refused c)
unfolding need ◌>>◌ ◌>>=◌
refused-still a c true f = refl
refused-still a c false f = refl

-- the header of K and the fields after it
abbrev numbered : ℕ × Fields → Result Header
numbered (K, fs) = accepted (record { number = 1; K = K; rest = fs })

-- A file over another number of constants is refused by its header, whatever formula follows.
header-other : (K n : ℕ) (fs : Fields) → ¬ (K ≡ n) → header FileKind.Formula file_proof 1 (some n) (field 0 0x01 (1 ∷ []) ▸ field 4 0x02 (K ∷ []) ▸ fs) ≡ (need (answer 7 file_proof 4) (leb 1 K && leb K 16) >> refused (answer 9 file_proof 4))
unfolding header constants_field agrees known header_tag
header-other K n fs h =
    binds _ (edition-read (field 4 0x02 (K ∷ []) ▸ fs))
    ∙ ap (λ (r : Result (ℕ × Fields)). r >>= numbered) (binds _ (header-field-read 0x02 4 K fs refl)
    ∙ ap (λ (r : Result (ℕ × Fields)). need (answer 7 file_proof 4) (leb 1 K && leb K 16) >> r) (fail _ _ (ne_eqb K n h)))
    ∙ refused-still _ _ (leb 1 K && leb K 16) numbered

-- what is read after the header
abbrev follows : Header → Result Formula
follows h = formula_within edition1 h.K edition1.levels h.rest >>= λ (I, after). finished FileKind.Formula file_proof after >> accepted I

pub read_other : (K n : ℕ) (I : Formula) → ¬ (K ≡ n) → read_formula n (fields (formula_file edition1 K I)) ≡ (need (answer 7 file_proof 4) (leb 1 K && leb K 16) >> refused (answer 9 file_proof 4))
unfolding read_formula fields formula_file
read_other K n I h =
    let X = encode edition1 I in
    let size : length (header_bytes 1 K ++ X) ≡ suc (suc (6 + length X)) = omega (arith, length-append (header_bytes 1 K) X, length-header_bytes 1 K) in
    ap (read_formula n) (ap (λ (m : ℕ). fields_from m 0 (header_bytes 1 K ++ X)) size ∙ header-fields K (6 + length X) X)
    ∙ ap (λ (r : Result Header). r >>= follows) (header-other K n (fields_from (6 + length X) 8 X) h)
    ∙ refused-still _ _ (leb 1 K && leb K 16) follows
