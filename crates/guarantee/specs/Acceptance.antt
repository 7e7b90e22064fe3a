-- Demand 2 of the user: what is accepted, what is then left, and that bundles survive writing and reading. Of what each operation's function ensures. Assumes nothing.
use Rattle.std.specs.Prelude.{◌≡◌, ◌↔◌, ◌⊎◌, false, List, ◌++◌, ℕ, suc, ◌+◌, ◌*◌, ◌≤◌, ◌<◌, ℤ, nat_abs, length, take}
use Rattle.std.specs.Int.Signed.{mag}
use Rattle.forms.specs.Edition.{edition, edition1, newest_edition}
use Rattle.forms.specs.Forms.{All, Constraint, Formula}
use Rattle.answers.specs.declared.Answer.{Answer}
use Rattle.answers.specs.declared.WriteResult.{WriteResult}
use Rattle.answers.specs.Answers.{answer, acceptance, file_lent, over}
use Rattle.number_bytes.specs.Numbers.{Bytes}
use Rattle.fields.specs.Fields.{Item, Framed, file_of, without_notes}
use Rattle.fields.specs.Header.{header_bytes}
use Rattle.bundle.specs.Layout.{BundleFile}
use Rattle.bundle.specs.Read.{kinds_of, numbers_of}
use Rattle.bundle.specs.Write.{constraints_bytes}
use Rattle.bundle_show.specs.Promises.{AnswersShow}
use Rattle.bundle_read.specs.declared.ReadResult.{ReadResult}
use Rattle.bundle_read.specs.Promises.{Reads}
use Rattle.bundle_write.specs.Promises.{Writes}
use Rattle.formula.specs.Formula.{formula_file}
use Rattle.proof.specs.Layout.{Yields, Certifies}
use Rattle.proof.specs.Promises.{Checks}
use Rattle.scheduler.specs.declared.Scheduler.{Scheduler}
use Rattle.scheduler.specs.declared.Turned.{Turned}
use Rattle.scheduler.specs.Scheduler.{slot_at, part}
use Rattle.scheduler.specs.Promises.{Turns}
use Rattle.scheduler.specs.Fair.{AllLie}

-- ---- what each operation accepts
-- Check: the rows form a closed proof, the files keep the layouts, rules and limits (`Certifies`), and the output is long enough for the formula that the rules assign.
pub record Checkable (A B proof output : List ℕ) : Type 0 where
  pub K : ℕ
  pub formula : Formula
  pub certified : Certifies newest_edition A B proof K formula
  pub fits : length (formula_file edition1 K formula) ≤ length output

-- Read: the file is a bundle's, of edition 1 or 2, and both outputs are long enough.
pub record Readable (file lent_kinds : List ℕ) (lent_numbers : List ℤ) : Type 0 where
  pub n : ℕ
  pub K : ℕ
  pub constraints : List Constraint
  pub states : BundleFile newest_edition file n K constraints
  pub kinds_fit : length (kinds_of constraints) ≤ length lent_kinds
  pub numbers_fit : length (numbers_of constraints) ≤ length lent_numbers

-- Write: the edition n is 1 or 2, K is 1 to 16, at most 32 kinds, each 0, 1 or 2, with K+1 numbers for each, which the edition holds, and the output is long enough.
abbrev pub bundle_file : (n K : ℕ) (kinds : List ℕ) (numbers : List ℤ) → List ℕ
bundle_file n K kinds numbers = header_bytes n K ++ constraints_bytes (edition n) K kinds numbers

pub record Writable (n K : ℕ) (kinds : List ℕ) (numbers : List ℤ) (output : List ℕ) : Type 0 where
  pub one_or_two : (n ≡ 1) ⊎ (n ≡ 2)
  pub low : 1 ≤ K
  pub high : K ≤ edition1.constants
  pub few : length kinds ≤ edition1.constraints
  pub valid : All (λ kind. kind ≤ 2) kinds
  pub size : length numbers ≡ length kinds * suc K
  -- edition 1 holds -32,768 to 32,767 (`mag` is n of n and of -n-1), edition 2 -2,147,483,647 to 2,147,483,647
  pub held_by_1 : n ≡ 1 → All (λ z. mag z ≤ 32_767) numbers
  pub held_by_2 : n ≡ 2 → All (λ z. nat_abs z ≤ 2_147_483_647) numbers
  pub fits : length (bundle_file n K kinds numbers) ≤ length output

-- Show: A and B are bundles of edition 1 or 2 with one K, and the line is one of their constraints.
pub record Showable (A B : List ℕ) (line : ℕ) : Type 0 where
  pub n_A : ℕ
  pub n_B : ℕ
  pub K : ℕ
  pub a : List Constraint
  pub b : List Constraint
  pub states_a : BundleFile newest_edition A n_A K a
  pub states_b : BundleFile newest_edition B n_B K b
  pub there : line < length a + length b

-- ---- what is then left
-- These bytes were written: the answer, their count, and each byte of the output.
pub record WrittenAs (bytes output left : List ℕ) (x : Answer) (count : ℕ) : Type 0 where
  pub answer : x ≡ acceptance
  pub count_is : count ≡ length bytes
  pub left_is : left ≡ over bytes output

-- This edition, this K, these kinds and these numbers were read: the answer, the edition, the count and K, and each element of both outputs.
pub record ReadAs (n K : ℕ) (kinds : List ℕ) (numbers : List ℤ) (lent_kinds : List ℕ) (lent_numbers : List ℤ) (leftKinds : List ℕ) (leftNumbers : List ℤ) (r : ReadResult) : Type 0 where
  pub answer : r.answer ≡ acceptance
  pub edition : r.edition ≡ n
  pub count : r.count ≡ length kinds
  pub constants : r.k ≡ K
  pub kinds_left : leftKinds ≡ over kinds lent_kinds
  pub numbers_left : leftNumbers ≡ over numbers lent_numbers

pub record Acceptance : Type 0 where
  -- ---- check
  pub accepted_iff : (A B proof output left : List ℕ) (r : WriteResult) → Checks A B proof output left r → r.answer.number ≡ 0 ↔ Checkable A B proof output
  -- and so is that of a turn, just where it serves a job whose parts lie in the buffer and check accepts them
  pub turn_iff : (s : Scheduler) (buffer output left : List ℕ) (r : Turned) → Turns s buffer output left r → r.result.answer.number ≡ 0
      ↔ ((r.idle ≡ false) × AllLie buffer (slot_at s r.seat).job
      × Checkable (part buffer (slot_at s r.seat).job.a) (part buffer (slot_at s r.seat).job.b) (part buffer (slot_at s r.seat).job.proof) output)
  -- whatever the files certify is what is written
  pub writes : (A B proof output left : List ℕ) (r : WriteResult) → Checks A B proof output left r → (c : Checkable A B proof output)
      → WrittenAs (formula_file edition1 c.K c.formula) output left r.answer r.count
  -- and where only the output is too short, 21 with the bytes needed
  pub too_short : (A B proof output left : List ℕ) (r : WriteResult) → Checks A B proof output left r → (K : ℕ) (I : Formula) → Certifies newest_edition A B proof K I
      → length output < length (formula_file edition1 K I) → r.answer ≡ answer 21 file_lent (length (formula_file edition1 K I))
  -- where the rows derive a formula whose file is longer than a formula's may be, 1 with the bytes needed, whatever output is lent
  pub too_long : (A B proof output left : List ℕ) (r : WriteResult) → Checks A B proof output left r → (K : ℕ) (I : Formula) → Yields newest_edition A B proof K I
      → edition1.formula_bytes < length (formula_file edition1 K I) → r.answer ≡ answer 1 file_lent (length (formula_file edition1 K I))
  -- three files derive one K and one formula at most, however long its file
  pub one_formula : (A B proof : List ℕ) (K K' : ℕ) (I I' : Formula) → Yields newest_edition A B proof K I → Yields newest_edition A B proof K' I' → (K ≡ K') × (I ≡ I')
  -- ---- read, write, show
  pub read_iff : (file lent_kinds : List ℕ) (lent_numbers : List ℤ) (leftKinds : List ℕ) (leftNumbers : List ℤ) (r : ReadResult) → Reads file lent_kinds lent_numbers leftKinds leftNumbers r
      → r.answer.number ≡ 0 ↔ Readable file lent_kinds lent_numbers
  pub reads : (file lent_kinds : List ℕ) (lent_numbers : List ℤ) (leftKinds : List ℕ) (leftNumbers : List ℤ) (r : ReadResult) → Reads file lent_kinds lent_numbers leftKinds leftNumbers r
      → (b : Readable file lent_kinds lent_numbers) → ReadAs b.n b.K (kinds_of b.constraints) (numbers_of b.constraints) lent_kinds lent_numbers leftKinds leftNumbers r
  pub write_iff : (n K : ℕ) (kinds : List ℕ) (numbers : List ℤ) (output left : List ℕ) (w : WriteResult) → Writes n K kinds numbers output left w
      → w.answer.number ≡ 0 ↔ Writable n K kinds numbers output
  pub writes_bundle : (n K : ℕ) (kinds : List ℕ) (numbers : List ℤ) (output left : List ℕ) (w : WriteResult) → Writes n K kinds numbers output left w
      → Writable n K kinds numbers output → WrittenAs (bundle_file n K kinds numbers) output left w.answer w.count
  pub show_iff : (A B : List ℕ) (line : ℕ) (r : Answer) → AnswersShow A B line r → r.number ≡ 0 ↔ Showable A B line
  -- ---- the round trips
  -- write then read is the same edition and constraints, into any outputs that are long enough
  pub write_then_read : (n K : ℕ) (kinds : List ℕ) (numbers : List ℤ) (output left : List ℕ) (w : WriteResult)
      → Writes n K kinds numbers output left w → w.answer.number ≡ 0
      → (lent_kinds : List ℕ) (lent_numbers : List ℤ) (leftKinds : List ℕ) (leftNumbers : List ℤ) (r : ReadResult) → length kinds ≤ length lent_kinds → length numbers ≤ length lent_numbers
      → Reads (take w.count left) lent_kinds lent_numbers leftKinds leftNumbers r
      → ReadAs n K kinds numbers lent_kinds lent_numbers leftKinds leftNumbers r
  -- read then write is the same bytes, notes removed, into any output that is long enough
  pub read_then_write : (F : List Item) → All Framed F → Bytes (file_of F) → (lent_kinds : List ℕ) (lent_numbers : List ℤ) (leftKinds : List ℕ) (leftNumbers : List ℤ) (r : ReadResult)
      → Reads (file_of F) lent_kinds lent_numbers leftKinds leftNumbers r → r.answer.number ≡ 0
      → (output left : List ℕ) (w : WriteResult) → length (file_of (without_notes F)) ≤ length output
      → Writes r.edition r.k (take r.count leftKinds) (take (r.count * suc r.k) leftNumbers) output left w
      → WrittenAs (file_of (without_notes F)) output left w.answer w.count
