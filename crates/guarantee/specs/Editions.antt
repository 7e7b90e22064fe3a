-- Edition 2. This office beside the one before edition 2, how long a bundle may be, what an edition that is not read gives, a 33rd constraint, a kind or count that is wrong, and a number that its edition does not hold. What differs, `offices` and `length_A` to `length_plain_else` are said of the definitions, all else of what each operation's function ensures. Assumes nothing.
-- (That files of both editions are sound, laid out, read and written, and may differ in edition, is in the demands, which speak of both.)
use Rattle.std.specs.Prelude.{◌≡◌, ◌⊎◌, List, [], ◌∷◌, ◌++◌, ℕ, suc, ◌+◌, ◌*◌, ◌≤◌, ◌<◌, ℤ, pos, negsuc, nat_abs, length, get_or}
use Rattle.std.proofs.Math.Option.{some}
use Rattle.std.specs.Int.Signed.{mag}
use Rattle.forms.specs.Edition.{edition, newest_edition}
use Rattle.forms.specs.Forms.{All, Constraint}
use Rattle.answers.specs.declared.Answer.{Answer}
use Rattle.answers.specs.declared.WriteResult.{WriteResult}
use Rattle.answers.specs.Answers.{answer, file_a, file_b, file_proof, file_lent, written_of}
use Rattle.number_bytes.specs.Numbers.{flat}
use Rattle.fields.specs.Fields.{Field, Fields, ◌▸◌, fields, nth, Item, item}
use Rattle.bundle.specs.Layout.{StatesAll, BundleFile, Says, bundle_limit}
use Rattle.bundle.specs.Read.{numbers_of}
use Rattle.bundle_show.specs.Promises.{AnswersShow}
use Rattle.bundle_read.specs.declared.ReadResult.{ReadResult}
use Rattle.bundle_read.specs.Promises.{Reads}
use Rattle.bundle_write.specs.Promises.{Writes}
use Rattle.formula_test.specs.declared.Tested.{Tested}
use Rattle.formula_test.specs.Promises.{Tests}
use Rattle.proof.specs.Check.{check_by}
use Rattle.proof.specs.Editions.{InFirst, Accepts, Offices, limit_a, limit_b}
use Rattle.proof.specs.Promises.{Checks}

-- A and B have at most 8,192 bytes each, so that A is read (by check, where the proof too is short enough).
pub record BundlesWithinLimits (A B : List ℕ) : Type 0 where
  pub a : length A ≤ 8_192
  pub b : length B ≤ 8_192

-- And A is a bundle, so that B is read.
pub record ReadA (A B : List ℕ) : Type 0 where
  pub short : BundlesWithinLimits A B
  pub n_A : ℕ
  pub K : ℕ
  pub a : List Constraint
  pub states_a : BundleFile newest_edition A n_A K a

-- And B is one with A's K, so that the proof is read.
pub record ReadBoth (A B : List ℕ) : Type 0 where
  pub first : ReadA A B
  pub n_B : ℕ
  pub b : List Constraint
  pub states_b : BundleFile newest_edition B n_B first.K b

-- Why A or B is refused by 1 (the index is the file's number): it is too long for every edition, A before B, or, where it comes to be read, for edition 1, which it says; then `Rest`, what else must hold before A is read, holds too.
pub data TooLong (A B : List ℕ) (Rest : Type 0) : ℕ → Type 0 where
  long_A : 8_192 < length A → TooLong A B Rest file_a
  long_B : length A ≤ 8_192 → 8_192 < length B → TooLong A B Rest file_b
  late_A : BundlesWithinLimits A B → Rest → Says A 1 → 4_096 < length A → TooLong A B Rest file_a
  late_B : ReadA A B → Rest → Says B 1 → 4_096 < length B → TooLong A B Rest file_b

-- The file's first field, notes aside, is a whole 0x01 of length 1, says n and starts at that byte.
pub record SaysAt (file : List ℕ) (n at : ℕ) : Type 0 where
  pub says : Says file n
  pub first : Field
  pub after : Fields
  pub are : fields file ≡ first ▸ after
  pub place : first.at ≡ at

-- An edition that this office does not read.
pub record Other (n : ℕ) : Type 0 where
  pub not_1 : ¬ (n ≡ 1)
  pub not_2 : ¬ (n ≡ 2)

-- The file's fields start with these, whatever stands behind them.
pub data Starts : Fields → List Item → Type 0 where
  nil : {fs : Fields} → Starts fs []
  cons : {f : Field} {fs : Fields} {is : List Item} → Starts fs is → Starts (f ▸ fs) (item f.tag f.contents ∷ is)

-- A bundle of edition 2 and K. One of the first 32 constraints has -2,147,483,648 among its numbers, all before it are within ±2,147,483,647, and its field starts at that byte; whatever stands behind it.
pub record HasLowest (file : List ℕ) (K at : ℕ) : Type 0 where
  pub list : List Item
  pub starts : Starts (fields file) list
  pub before : List Constraint
  pub own : Constraint
  pub laid : StatesAll 2 list K (before ++ own ∷ [])
  pub few : length before < 32
  pub within : All (λ z. nat_abs z ≤ 2_147_483_647) (numbers_of before)
  pub index : ℕ
  pub lowest : get_or (flat own.form) index (pos 0) ≡ negsuc 2_147_483_647
  pub field : Field
  pub there : nth (length before + 2) (fields file) ≡ some field
  pub place : field.at ≡ at

-- A bundle of edition n, 1 or 2, and K, not too long for it. A 33rd constraint stands behind 32 that are within ±2,147,483,647, and its field starts at that byte; whatever its numbers are, and whatever stands behind it.
pub record HasMore (file : List ℕ) (n K at : ℕ) : Type 0 where
  pub one_or_two : (n ≡ 1) ⊎ (n ≡ 2)
  pub short : length file ≤ (edition n).bundle_bytes
  pub list : List Item
  pub starts : Starts (fields file) list
  pub before : List Constraint
  pub own : Constraint
  pub laid : StatesAll n list K (before ++ own ∷ [])
  pub many : length before ≡ 32
  pub within : All (λ z. nat_abs z ≤ 2_147_483_647) (numbers_of before)
  pub field : Field
  pub there : nth (length before + 2) (fields file) ≡ some field
  pub place : field.at ≡ at

-- What is to be written is right in its edition, K and number of constraints: 5, 7 and 8 do not apply.
pub record InLimits (n K : ℕ) (kinds : List ℕ) : Type 0 where
  pub one_or_two : (n ≡ 1) ⊎ (n ≡ 2)
  pub low : 1 ≤ K
  pub high : K ≤ 16
  pub few : length kinds ≤ 32

-- And in its kinds and the count of its numbers: 24 does not apply.
pub record WellCounted (n K : ℕ) (kinds : List ℕ) (numbers : List ℤ) : Type 0 where
  pub limits : InLimits n K kinds
  pub valid : All (λ kind. kind ≤ 2) kinds
  pub size : length numbers ≡ length kinds * suc K

pub record EditionsPromised : Type 0 where
  -- ---- what differs, in numerals: bytes of a number of a bundle, bytes of a line number, lines on a branch, bytes of a bundle
  pub first_edition : ((edition 1).coefficient_width ≡ 2) × ((edition 1).line_width ≡ 1) × ((edition 1).lines ≡ 128) × ((edition 1).bundle_bytes ≡ 4_096)
  pub second_edition : ((edition 2).coefficient_width ≡ 4) × ((edition 2).line_width ≡ 2) × ((edition 2).lines ≡ 1_000) × ((edition 2).bundle_bytes ≡ 8_192)
  -- ---- two offices
  -- what the office before edition 2, which reads edition 1 only, accepts, and what both do alike
  pub offices : Offices
  -- the function check leaves what that office leaves: of three files of edition 1 whose bundles have at most 4,096 bytes,
  pub as_first : (A B proof output left : List ℕ) (r : WriteResult) → Checks A B proof output left r → InFirst A B proof → length A ≤ 4_096 → length B ≤ 4_096
      → written_of r left ≡ check_by 1 A B proof output
  -- of three files of edition 1 that it accepts itself,
  pub as_accepting : (A B proof output left : List ℕ) (r : WriteResult) → Checks A B proof output left r → InFirst A B proof → r.answer.number ≡ 0
      → written_of r left ≡ check_by 1 A B proof output
  -- and of whatever that office accepts
  pub as_accepted : (A B proof output left : List ℕ) (r : WriteResult) → Checks A B proof output left r → Accepts (check_by 1 A B proof output)
      → written_of r left ≡ check_by 1 A B proof output
  -- ---- the length that demand 3 means: 4,096 for a bundle in which check reads edition 1, 8,192 for any other
  pub length_A : (A B proof : List ℕ) → BundlesWithinLimits A B → length proof ≤ 65_536 → Says A 1 → limit_a A B proof ≡ 4_096
  pub length_A_else : (A B proof : List ℕ) → ¬ (BundlesWithinLimits A B × (length proof ≤ 65_536) × Says A 1) → limit_a A B proof ≡ 8_192
  pub length_B : (A B proof : List ℕ) → ReadA A B → length proof ≤ 65_536 → Says B 1 → limit_b A B proof ≡ 4_096
  pub length_B_else : (A B proof : List ℕ) → ¬ (ReadA A B × (length proof ≤ 65_536) × Says B 1) → limit_b A B proof ≡ 8_192
  -- by the file alone
  pub length_plain : (file : List ℕ) → Says file 1 → bundle_limit file ≡ 4_096
  pub length_plain_else : (file : List ℕ) → ¬ (Says file 1) → bundle_limit file ≡ 8_192
  -- ---- check: 1 first above 8,192 bytes, A before B, and then for a proof above 65,536 (so A of edition 1 with 5,000 bytes gives 1 in B where B has 8,193, and 1 in the proof where that has 65,537)
  pub check_long_A : (A B proof output left : List ℕ) (r : WriteResult) → Checks A B proof output left r → 8_192 < length A → r.answer ≡ answer 1 file_a 0
  pub check_long_B : (A B proof output left : List ℕ) (r : WriteResult) → Checks A B proof output left r → length A ≤ 8_192 → 8_192 < length B → r.answer ≡ answer 1 file_b 0
  pub check_long_proof : (A B proof output left : List ℕ) (r : WriteResult) → Checks A B proof output left r → BundlesWithinLimits A B → 65_536 < length proof → r.answer ≡ answer 1 file_proof 0
  -- a bundle of edition 1 above 4,096 bytes: 1 at place 0, A's when A is read, B's when B is
  pub check_late_A : (A B proof output left : List ℕ) (r : WriteResult) → Checks A B proof output left r → BundlesWithinLimits A B → length proof ≤ 65_536
      → Says A 1 → 4_096 < length A → r.answer ≡ answer 1 file_a 0
  pub check_late_B : (A B proof output left : List ℕ) (r : WriteResult) → Checks A B proof output left r → ReadA A B → length proof ≤ 65_536
      → Says B 1 → 4_096 < length B → r.answer ≡ answer 1 file_b 0
  -- 1 in A, B and the proof in these cases only: so a bundle's late 1 comes behind every fault in front of its 0x01 and in it. With file 4 it is a formula's, just where that is too long (`check_1_at_end` in RefusedIff)
  pub check_1 : (A B proof output left : List ℕ) (r : WriteResult) → Checks A B proof output left r → r.answer.number ≡ 1
      → TooLong A B (length proof ≤ 65_536) r.answer.file ⊎ ((r.answer.file ≡ file_proof) × BundlesWithinLimits A B × (65_536 < length proof)) ⊎ (r.answer.file ≡ file_lent)
  -- an edition that is neither 1 nor 2: 5 at its field, in A, in B, in the proof
  pub check_other_A : (A B proof output left : List ℕ) (r : WriteResult) → Checks A B proof output left r → BundlesWithinLimits A B → length proof ≤ 65_536
      → (n at : ℕ) → Other n → SaysAt A n at → r.answer ≡ answer 5 file_a at
  pub check_other_B : (A B proof output left : List ℕ) (r : WriteResult) → Checks A B proof output left r → ReadA A B → length proof ≤ 65_536
      → (n at : ℕ) → Other n → SaysAt B n at → r.answer ≡ answer 5 file_b at
  pub check_other_proof : (A B proof output left : List ℕ) (r : WriteResult) → Checks A B proof output left r → ReadBoth A B → length proof ≤ 65_536
      → (n at : ℕ) → Other n → SaysAt proof n at → r.answer ≡ answer 5 file_proof at
  -- a 33rd constraint: 8 at its field, before 13 for its numbers
  pub check_more_A : (A B proof output left : List ℕ) (r : WriteResult) → Checks A B proof output left r → BundlesWithinLimits A B → length proof ≤ 65_536
      → (n K at : ℕ) → HasMore A n K at → r.answer ≡ answer 8 file_a at
  pub check_more_B : (A B proof output left : List ℕ) (r : WriteResult) → Checks A B proof output left r → (a : ReadA A B) → length proof ≤ 65_536
      → (n at : ℕ) → HasMore B n a.K at → r.answer ≡ answer 8 file_b at
  -- -2,147,483,648 in a bundle: 13 at its field
  pub check_lowest_A : (A B proof output left : List ℕ) (r : WriteResult) → Checks A B proof output left r → BundlesWithinLimits A B → length proof ≤ 65_536
      → (K at : ℕ) → HasLowest A K at → r.answer ≡ answer 13 file_a at
  pub check_lowest_B : (A B proof output left : List ℕ) (r : WriteResult) → Checks A B proof output left r → (a : ReadA A B) → length proof ≤ 65_536
      → (at : ℕ) → HasLowest B a.K at → r.answer ≡ answer 13 file_b at
  -- ---- read: the same of one bundle
  pub read_long : (file kinds : List ℕ) (numbers : List ℤ) (kinds' : List ℕ) (numbers' : List ℤ) (r : ReadResult) → Reads file kinds numbers kinds' numbers' r
      → 8_192 < length file → r.answer ≡ answer 1 file_a 0
  pub read_late : (file kinds : List ℕ) (numbers : List ℤ) (kinds' : List ℕ) (numbers' : List ℤ) (r : ReadResult) → Reads file kinds numbers kinds' numbers' r
      → Says file 1 → 4_096 < length file → r.answer ≡ answer 1 file_a 0
  pub read_1 : (file kinds : List ℕ) (numbers : List ℤ) (kinds' : List ℕ) (numbers' : List ℤ) (r : ReadResult) → Reads file kinds numbers kinds' numbers' r
      → r.answer.number ≡ 1 → (8_192 < length file) ⊎ (Says file 1 × (4_096 < length file))
  pub read_other : (file kinds : List ℕ) (numbers : List ℤ) (kinds' : List ℕ) (numbers' : List ℤ) (r : ReadResult) → Reads file kinds numbers kinds' numbers' r
      → length file ≤ 8_192 → (n at : ℕ) → Other n → SaysAt file n at → r.answer ≡ answer 5 file_a at
  pub read_more : (file kinds : List ℕ) (numbers : List ℤ) (kinds' : List ℕ) (numbers' : List ℤ) (r : ReadResult) → Reads file kinds numbers kinds' numbers' r
      → (n K at : ℕ) → HasMore file n K at → r.answer ≡ answer 8 file_a at
  pub read_lowest : (file kinds : List ℕ) (numbers : List ℤ) (kinds' : List ℕ) (numbers' : List ℤ) (r : ReadResult) → Reads file kinds numbers kinds' numbers' r
      → length file ≤ 8_192 → (K at : ℕ) → HasLowest file K at → r.answer ≡ answer 13 file_a at
  -- ---- show: as check does for A and B
  pub show_long_A : (A B : List ℕ) (line : ℕ) (r : Answer) → AnswersShow A B line r → 8_192 < length A → r ≡ answer 1 file_a 0
  pub show_long_B : (A B : List ℕ) (line : ℕ) (r : Answer) → AnswersShow A B line r → length A ≤ 8_192 → 8_192 < length B → r ≡ answer 1 file_b 0
  pub show_late_A : (A B : List ℕ) (line : ℕ) (r : Answer) → AnswersShow A B line r → BundlesWithinLimits A B → Says A 1 → 4_096 < length A → r ≡ answer 1 file_a 0
  pub show_late_B : (A B : List ℕ) (line : ℕ) (r : Answer) → AnswersShow A B line r → ReadA A B → Says B 1 → 4_096 < length B → r ≡ answer 1 file_b 0
  pub show_1 : (A B : List ℕ) (line : ℕ) (r : Answer) → AnswersShow A B line r → r.number ≡ 1 → TooLong A B (Unit {0}) r.file
  pub show_other_A : (A B : List ℕ) (line : ℕ) (r : Answer) → AnswersShow A B line r → BundlesWithinLimits A B → (n at : ℕ) → Other n → SaysAt A n at → r ≡ answer 5 file_a at
  pub show_other_B : (A B : List ℕ) (line : ℕ) (r : Answer) → AnswersShow A B line r → ReadA A B → (n at : ℕ) → Other n → SaysAt B n at → r ≡ answer 5 file_b at
  pub show_more_A : (A B : List ℕ) (line : ℕ) (r : Answer) → AnswersShow A B line r → BundlesWithinLimits A B → (n K at : ℕ) → HasMore A n K at → r ≡ answer 8 file_a at
  pub show_more_B : (A B : List ℕ) (line : ℕ) (r : Answer) → AnswersShow A B line r → (a : ReadA A B) → (n at : ℕ) → HasMore B n a.K at → r ≡ answer 8 file_b at
  pub show_lowest_A : (A B : List ℕ) (line : ℕ) (r : Answer) → AnswersShow A B line r → BundlesWithinLimits A B → (K at : ℕ) → HasLowest A K at → r ≡ answer 13 file_a at
  pub show_lowest_B : (A B : List ℕ) (line : ℕ) (r : Answer) → AnswersShow A B line r → (a : ReadA A B) → (at : ℕ) → HasLowest B a.K at → r ≡ answer 13 file_b at
  -- ---- write: first 5 for an edition that is neither 1 nor 2, whatever the rest is
  pub write_other : (n K : ℕ) (kinds : List ℕ) (numbers : List ℤ) (output left : List ℕ) (r : WriteResult) → Writes n K kinds numbers output left r
      → Other n → r.answer ≡ answer 5 file_lent 0
  -- 24 at the index of the first kind above 2, else, for a wrong count of numbers, at the number of kinds; whatever the numbers are
  pub write_kind : (n K : ℕ) (kinds : List ℕ) (numbers : List ℤ) (output left : List ℕ) (r : WriteResult) → Writes n K kinds numbers output left r → InLimits n K kinds
      → (before after : List ℕ) (kind : ℕ) → kinds ≡ before ++ kind ∷ after → All (λ k. k ≤ 2) before → 2 < kind → r.answer ≡ answer 24 file_lent (length before)
  pub write_count : (n K : ℕ) (kinds : List ℕ) (numbers : List ℤ) (output left : List ℕ) (r : WriteResult) → Writes n K kinds numbers output left r → InLimits n K kinds
      → All (λ k. k ≤ 2) kinds → ¬ (length numbers ≡ length kinds * suc K) → r.answer ≡ answer 24 file_lent (length kinds)
  -- behind 24, 13 at the index of the first number that the edition cannot hold: edition 1 holds -32,768 to 32,767 (`mag` is n of n and of -n-1), edition 2 -2,147,483,647 to 2,147,483,647
  pub write_wide_1 : (K : ℕ) (kinds : List ℕ) (numbers : List ℤ) (output left : List ℕ) (r : WriteResult) → Writes 1 K kinds numbers output left r → WellCounted 1 K kinds numbers
      → (before after : List ℤ) (z : ℤ) → numbers ≡ before ++ z ∷ after → All (λ y. mag y ≤ 32_767) before → 32_767 < mag z → r.answer ≡ answer 13 file_lent (length before)
  pub write_wide_2 : (K : ℕ) (kinds : List ℕ) (numbers : List ℤ) (output left : List ℕ) (r : WriteResult) → Writes 2 K kinds numbers output left r → WellCounted 2 K kinds numbers
      → (before after : List ℤ) (z : ℤ) → numbers ≡ before ++ z ∷ after → All (λ y. nat_abs y ≤ 2_147_483_647) before → 2_147_483_647 < nat_abs z
      → r.answer ≡ answer 13 file_lent (length before)
  -- ---- test: formulas stay in edition 1, so 5 for any other, 2 too, at its field (at values that are right in number and range)
  pub test_other : (formula : List ℕ) (values : List ℤ) (r : Tested) → Tests formula values r → 1 ≤ length values → length values ≤ 16 → All (λ z. nat_abs z ≤ 1_000_000) values
      → length formula ≤ 65_536 → (n at : ℕ) → ¬ (n ≡ 1) → SaysAt formula n at → r.answer ≡ answer 5 file_proof at
