-- Where in the tree a refusal stands. docs/FORMAT.md, "Where in the tree". Of what each operation's function ensures. Assumes nothing.
use Rattle.std.specs.Prelude.{◌≡◌, Bool, false, List, ℕ, ℤ}
use Rattle.answers.specs.declared.Answer.{Answer}
use Rattle.answers.specs.declared.WriteResult.{WriteResult}
use Rattle.bundle_show.specs.Promises.{AnswersShow}
use Rattle.bundle_read.specs.declared.ReadResult.{ReadResult}
use Rattle.bundle_read.specs.Promises.{Reads}
use Rattle.bundle_write.specs.Promises.{Writes}
use Rattle.formula_test.specs.declared.Tested.{Tested}
use Rattle.formula_test.specs.Promises.{Tests}
use Rattle.formula_list.specs.Promises.{TestsList}
use Rattle.proof.specs.Tree.{Outside, AnswerStands}
use Rattle.printing.specs.Promises.{PrintsFile}
use Rattle.proof.specs.Promises.{Checks}
use Rattle.enumeration.specs.Promises.{WritesNext}
use Rattle.run.specs.Promises.{WritesGuards}
use Rattle.conversion.specs.Promises.{TurnsBundle, TurnsProof}
use Rattle.shortening.specs.declared.ShortenResult.{ShortenResult}
use Rattle.shortening.specs.Promises.{Shortens}
use Rattle.scheduler.specs.declared.Job.{Job}
use Rattle.scheduler.specs.declared.Scheduler.{Scheduler}
use Rattle.scheduler.specs.declared.Changed.{Changed}
use Rattle.scheduler.specs.declared.Turned.{Turned}
use Rattle.scheduler.specs.Scheduler.{slot_at, part}
use Rattle.scheduler.specs.Promises.{Submits, Cancels, Turns}
use Rattle.scheduler.specs.Fair.{AllLie}
use Rattle.guarantee.specs.RunTree.{RunStands}

pub record InTree : Type 0 where
  -- check: amid the proof the row, step and branch to which the fields before the one at fault lead, elsewhere none
  pub check : (A B proof output left : List ℕ) (r : WriteResult) → Checks A B proof output left r → AnswerStands proof r.answer
  -- shorten: the same
  pub shorten : (A B proof report table reportLeft tableLeft : List ℕ) (r : ShortenResult) → Shortens A B proof report table reportLeft tableLeft r → AnswerStands proof r.answer
  -- the guards of a run: as check; a claim's 27 tells the row before it, 28 its own
  pub guards : (buffer lengths proof output sizes left sizesLeft : List ℕ) (r : WriteResult) → WritesGuards buffer lengths proof output sizes left sizesLeft r → RunStands proof r.answer
  -- a turn of the scheduler that serves a job: the same, in the proof's part of the buffer; where it checks no proof (34, 35): none
  pub turn : (s : Scheduler) (buffer output left : List ℕ) (r : Turned) → Turns s buffer output left r → r.idle ≡ false → AllLie buffer (slot_at s r.seat).job
      → AnswerStands (part buffer (slot_at s r.seat).job.proof) r.result.answer
  pub turn_unchecked : (s : Scheduler) (buffer output left : List ℕ) (r : Turned) → Turns s buffer output left r → (r.idle ≡ false → ¬ AllLie buffer (slot_at s r.seat).job) → Outside r.result.answer
  -- the operations that check no proof: none
  pub read : (file kinds : List ℕ) (numbers : List ℤ) (kinds' : List ℕ) (numbers' : List ℤ) (r : ReadResult) → Reads file kinds numbers kinds' numbers' r → Outside r.answer
  pub write : (n K : ℕ) (kinds : List ℕ) (numbers : List ℤ) (output left : List ℕ) (r : WriteResult) → Writes n K kinds numbers output left r → Outside r.answer
  pub turn-bundle : (to : ℕ) (file output left : List ℕ) (r : WriteResult) → TurnsBundle to file output left r → Outside r.answer
  pub turn-proof : (to : ℕ) (file output left : List ℕ) (r : WriteResult) → TurnsProof to file output left r → Outside r.answer
  pub next-proof : (A B given output left : List ℕ) (r : WriteResult) → WritesNext A B given output left r → Outside r.answer
  pub show : (A B : List ℕ) (line : ℕ) (r : Answer) → AnswersShow A B line r → Outside r
  pub test-list : (formula : List ℕ) (K : ℕ) (values : List ℤ) (output left : List ℕ) (r : WriteResult) → TestsList formula K values output left r → Outside r.answer
  pub print : (wording : Bool) (formula output left : List ℕ) (r : WriteResult) → PrintsFile wording formula output left r → Outside r.answer
  pub test : (formula : List ℕ) (values : List ℤ) (r : Tested) → Tests formula values r → Outside r.answer
  pub submit : (s : Scheduler) (seat : ℕ) (job : Job) (r : Changed) → Submits s seat job r → Outside r.answer
  pub cancel : (s : Scheduler) (seat : ℕ) (r : Changed) → Cancels s seat r → Outside r.answer
