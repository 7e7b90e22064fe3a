-- Demand 1 of the user: a refused call changes no lent buffer, and its number alone tells that it is refused. Of what each operation's function ensures. Assumes nothing.
-- (No operation has a `requires`, and a proved function always returns; of shortening it is the library's `dulgaverk_shorten`, which checks and then calls `shorten`. Which number, file, place, row, step and branch a refusal has is the definition that the function's promise equates it with.)
use Rattle.std.specs.Prelude.{◌≡◌, ◌↔◌, Bool, false, List, [], ℕ, ℤ}
use Rattle.std.specs.Borrow.{Bor}
use Rattle.forms.specs.Edition.{newest_edition}
use Rattle.answers.specs.declared.Answer.{Answer}
use Rattle.answers.specs.declared.WriteResult.{WriteResult}
use Rattle.answers.specs.Answers.{acceptance}
use Rattle.bundle.specs.Show.{show_part}
use Rattle.bundle_show.specs.Promises.{Shows, AnswersShow, part_bytes}
use Rattle.bundle_read.specs.declared.ReadResult.{ReadResult}
use Rattle.bundle_read.specs.Promises.{Reads}
use Rattle.bundle_write.specs.Promises.{Writes}
use Rattle.formula_test.specs.declared.Tested.{Tested}
use Rattle.formula_test.specs.Promises.{Tests}
use Rattle.formula_list.specs.Promises.{TestsList}
use Rattle.printing.specs.Promises.{PrintsFile}
use Rattle.proof.specs.Promises.{Checks}
use Rattle.enumeration.specs.Promises.{WritesNext}
use Rattle.run.specs.Promises.{WritesGuards}
use Rattle.conversion.specs.Promises.{TurnsBundle, TurnsProof}
use Rattle.bundle_show.specs.Copied.{Copied}
use Rattle.shortening.specs.declared.ShortenResult.{ShortenResult}
use Rattle.shortening.specs.Promises.{Shortens}
use Rattle.scheduler.specs.declared.Job.{Job}
use Rattle.scheduler.specs.declared.Scheduler.{Scheduler}
use Rattle.scheduler.specs.declared.Changed.{Changed}
use Rattle.scheduler.specs.declared.Turned.{Turned}
use Rattle.scheduler.specs.Promises.{Submits, Cancels, Turns}

-- The number is 0 just where the answer is that of an accepted call (0, 0, 0, and no row, step and branch); and it is never 22, which is no longer given.
pub record ToldByNumber (a : Answer) : Type 0 where
  pub accepts : a.number ≡ 0 ↔ a ≡ acceptance
  pub never_22 : ¬ (a.number ≡ 22)

pub record Refusals : Type 0 where
  -- check: the output is as it was, and no byte is counted
  pub check : (A B proof output left : List ℕ) (r : WriteResult) → Checks A B proof output left r
      → ToldByNumber r.answer × (¬ (r.answer.number ≡ 0) → (left ≡ output) × (r.count ≡ 0))
  -- the guards of a run: both outputs are as they were, and no byte is counted
  pub guards : (buffer lengths proof output sizes left sizesLeft : List ℕ) (r : WriteResult) → WritesGuards buffer lengths proof output sizes left sizesLeft r
      → ToldByNumber r.answer × (¬ (r.answer.number ≡ 0) → (left ≡ output) × (sizesLeft ≡ sizes) × (r.count ≡ 0))
  -- read: both outputs are as they were, edition, count and K are 0
  pub read : (file kinds : List ℕ) (numbers : List ℤ) (kinds' : List ℕ) (numbers' : List ℤ) (r : ReadResult) → Reads file kinds numbers kinds' numbers' r
      → ToldByNumber r.answer × (¬ (r.answer.number ≡ 0) → (kinds' ≡ kinds) × (numbers' ≡ numbers) × (r.edition ≡ 0) × (r.count ≡ 0) × (r.k ≡ 0))
  -- write: as check
  pub write : (n K : ℕ) (kinds : List ℕ) (numbers : List ℤ) (output left : List ℕ) (r : WriteResult) → Writes n K kinds numbers output left r
      → ToldByNumber r.answer × (¬ (r.answer.number ≡ 0) → (left ≡ output) × (r.count ≡ 0))
  -- turning into the other edition: as check
  pub turn-bundle : (to : ℕ) (file output left : List ℕ) (r : WriteResult) → TurnsBundle to file output left r
      → ToldByNumber r.answer × (¬ (r.answer.number ≡ 0) → (left ≡ output) × (r.count ≡ 0))
  pub turn-proof : (to : ℕ) (file output left : List ℕ) (r : WriteResult) → TurnsProof to file output left r
      → ToldByNumber r.answer × (¬ (r.answer.number ≡ 0) → (left ≡ output) × (r.count ≡ 0))
  -- the next short proof: as check
  pub next-proof : (A B given output left : List ℕ) (r : WriteResult) → WritesNext A B given output left r
      → ToldByNumber r.answer × (¬ (r.answer.number ≡ 0) → (left ≡ output) × (r.count ≡ 0))
  -- show, which is lent nothing to change: the part handed back is empty and lies at A's start
  pub show : (a b : Bor (List ℕ)) (line : ℕ) (part : Bor (List ℕ)) (r : Answer) → Shows a b line part → AnswersShow a.now b.now line r
      → ToldByNumber r × (¬ (r.number ≡ 0) → (part.now ≡ []) × (part.ref_ptr ≡ a.ref_ptr))
  -- and where the library copies that part into an output, the output is as it was
  pub show_copied : (A B : List ℕ) (line : ℕ) (output left : List ℕ) (count : ℕ) (r : Answer) → Copied (part_bytes (show_part newest_edition A B line) A B) output left count → AnswersShow A B line r
      → ¬ (r.number ≡ 0) → (left ≡ output) × (count ≡ 0)
  -- test, which is lent nothing to change: false
  pub test : (formula : List ℕ) (values : List ℤ) (r : Tested) → Tests formula values r
      → ToldByNumber r.answer × (¬ (r.answer.number ≡ 0) → r.holds ≡ false)
  -- submit and cancel: the scheduler is as it was
  pub submit : (s : Scheduler) (seat : ℕ) (job : Job) (r : Changed) → Submits s seat job r → ToldByNumber r.answer × (¬ (r.answer.number ≡ 0) → r.scheduler ≡ s)
  pub cancel : (s : Scheduler) (seat : ℕ) (r : Changed) → Cancels s seat r → ToldByNumber r.answer × (¬ (r.answer.number ≡ 0) → r.scheduler ≡ s)
  -- a turn: as check (the scheduler is no lent buffer: its seat is cleared); 0 only of a turn that served a job, never of an idle one (just where: `turn_iff` of `Acceptance`)
  pub turn : (s : Scheduler) (buffer output left : List ℕ) (r : Turned) → Turns s buffer output left r
      → (r.result.answer.number ≡ 0 → r.idle ≡ false) × ToldByNumber r.result.answer × (¬ (r.result.answer.number ≡ 0) → (left ≡ output) × (r.result.count ≡ 0))
  -- test_list: as check
  pub test-list : (formula : List ℕ) (K : ℕ) (values : List ℤ) (output left : List ℕ) (r : WriteResult) → TestsList formula K values output left r
      → ToldByNumber r.answer × (¬ (r.answer.number ≡ 0) → (left ≡ output) × (r.count ≡ 0))
  -- shorten: both outputs are as they were, and both counts 0
  pub shorten : (A B proof report table reportLeft tableLeft : List ℕ) (r : ShortenResult) → Shortens A B proof report table reportLeft tableLeft r
      → ToldByNumber r.answer × (¬ (r.answer.number ≡ 0) → (reportLeft ≡ report) × (tableLeft ≡ table) × (r.rows ≡ 0) × (r.count ≡ 0))
  -- print and print_words: as check
  pub print : (wording : Bool) (formula output left : List ℕ) (r : WriteResult) → PrintsFile wording formula output left r
      → ToldByNumber r.answer × (¬ (r.answer.number ≡ 0) → (left ≡ output) × (r.count ≡ 0))
