-- Refusals that come just where they should, and then with this file and place: 21 and 1 at check's end, 21 of read, 7, 8 and 21 of write. Documents 01 and 02, point 1. Of what each operation's function ensures. Assumes nothing.
use Rattle.std.specs.Prelude.{◌≡◌, ◌↔◌, ◌⊎◌, List, ℕ, ◌≤◌, ◌<◌, ℤ, length}
use Rattle.forms.specs.Edition.{edition1, newest_edition}
use Rattle.forms.specs.Forms.{Constraint, Formula}
use Rattle.answers.specs.declared.Answer.{Answer}
use Rattle.answers.specs.declared.WriteResult.{WriteResult}
use Rattle.answers.specs.Answers.{answer}
use Rattle.bundle.specs.Layout.{BundleFile}
use Rattle.bundle.specs.Read.{kinds_of, numbers_of}
use Rattle.bundle_read.specs.declared.ReadResult.{ReadResult}
use Rattle.bundle_read.specs.Promises.{Reads}
use Rattle.bundle_write.specs.Promises.{Writes}
use Rattle.formula.specs.Formula.{formula_file}
use Rattle.proof.specs.Layout.{Yields}
use Rattle.proof.specs.Promises.{Checks}
use Rattle.guarantee.specs.Acceptance.{bundle_file, Writable}

-- What is told of an answer holds only where there is a reason, and wherever there is one the answer is that.
abbrev pub JustWhere : (Told Reason : Type 0) → Answer → (Reason → Answer) → Type 0
JustWhere Told Reason a is = (Told → Reason) × ((why : Reason) → a ≡ is why)

-- ---- check
-- The rows derive a formula, however long its file.
pub record YieldsSome (A B proof : List ℕ) : Type 0 where
  pub K : ℕ
  pub formula : Formula
  pub yields : Yields newest_edition A B proof K formula

abbrev pub bytes_needed : {A B proof : List ℕ} → YieldsSome A B proof → ℕ
bytes_needed d = length (formula_file edition1 d.K d.formula)

-- They derive one whose file has at most 65,536 bytes, for which the output is too short.
pub record ShortOutput (A B proof output : List ℕ) : Type 0 where
  pub derives : YieldsSome A B proof
  pub within : bytes_needed derives ≤ 65_536
  pub short : length output < bytes_needed derives

-- They derive one whose file has more than 65,536 bytes.
pub record LongFormula (A B proof : List ℕ) : Type 0 where
  pub derives : YieldsSome A B proof
  pub long : 65_536 < bytes_needed derives

-- ---- read
-- The file is a bundle's, and either output is too short.
pub record ShortRead (file lent_kinds : List ℕ) (lent_numbers : List ℤ) : Type 0 where
  pub n : ℕ
  pub K : ℕ
  pub constraints : List Constraint
  pub states : BundleFile newest_edition file n K constraints
  pub short : (length lent_kinds < length (kinds_of constraints)) ⊎ (length lent_numbers < length (numbers_of constraints))

-- ---- write
-- The edition is 1 or 2, and K is not 1 to 16.
pub record WrongK (n K : ℕ) : Type 0 where
  pub one_or_two : (n ≡ 1) ⊎ (n ≡ 2)
  pub wrong : (K ≡ 0) ⊎ (16 < K)

-- The edition is 1 or 2, K is 1 to 16, and there are more than 32 kinds.
pub record ManyKinds (n K : ℕ) (kinds : List ℕ) : Type 0 where
  pub one_or_two : (n ≡ 1) ⊎ (n ≡ 2)
  pub low : 1 ≤ K
  pub high : K ≤ 16
  pub many : 32 < length kinds

-- All could be written into an output as long as the file, but this one is shorter.
pub record ShortWrite (n K : ℕ) (kinds : List ℕ) (numbers : List ℤ) (output : List ℕ) : Type 0 where
  pub writable : Writable n K kinds numbers (bundle_file n K kinds numbers)
  pub short : length output < length (bundle_file n K kinds numbers)

pub record RefusedIff : Type 0 where
  -- check: 21; 1 with file 4 (A, B and the proof have their own 1); and one of these or 0 just where the rows derive a formula
  pub check_21 : (A B proof output left : List ℕ) (r : WriteResult) → Checks A B proof output left r
      → JustWhere (r.answer.number ≡ 21) (ShortOutput A B proof output) r.answer (λ s. answer 21 4 (bytes_needed s.derives))
  pub check_1_at_end : (A B proof output left : List ℕ) (r : WriteResult) → Checks A B proof output left r
      → JustWhere ((r.answer.number ≡ 1) × (r.answer.file ≡ 4)) (LongFormula A B proof) r.answer (λ l. answer 1 4 (bytes_needed l.derives))
  pub check_derives : (A B proof output left : List ℕ) (r : WriteResult) → Checks A B proof output left r
      → ((r.answer.number ≡ 0) ⊎ (r.answer.number ≡ 21) ⊎ ((r.answer.number ≡ 1) × (r.answer.file ≡ 4))) ↔ YieldsSome A B proof
  -- read: the place of 21 is the number of constraints
  pub read_21 : (file lent_kinds : List ℕ) (lent_numbers : List ℤ) (leftKinds : List ℕ) (leftNumbers : List ℤ) (r : ReadResult) → Reads file lent_kinds lent_numbers leftKinds leftNumbers r
      → JustWhere (r.answer.number ≡ 21) (ShortRead file lent_kinds lent_numbers) r.answer (λ s. answer 21 4 (length s.constraints))
  -- write
  pub write_7 : (n K : ℕ) (kinds : List ℕ) (numbers : List ℤ) (output left : List ℕ) (w : WriteResult) → Writes n K kinds numbers output left w
      → JustWhere (w.answer.number ≡ 7) (WrongK n K) w.answer (λ _. answer 7 4 0)
  pub write_8 : (n K : ℕ) (kinds : List ℕ) (numbers : List ℤ) (output left : List ℕ) (w : WriteResult) → Writes n K kinds numbers output left w
      → JustWhere (w.answer.number ≡ 8) (ManyKinds n K kinds) w.answer (λ _. answer 8 4 0)
  pub write_21 : (n K : ℕ) (kinds : List ℕ) (numbers : List ℤ) (output left : List ℕ) (w : WriteResult) → Writes n K kinds numbers output left w
      → JustWhere (w.answer.number ≡ 21) (ShortWrite n K kinds numbers output) w.answer (λ _. answer 21 4 (length (bundle_file n K kinds numbers)))
