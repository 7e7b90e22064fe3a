-- What submitting and cancelling give, case by case, and a turn. Assumes nothing.
use mathlib.Core.Path.{◌≡◌, refl}
use mathlib.Core.Bool.{Bool, true, false, ◌&&◌}
use mathlib.Core.List.{List}
use Prim.Native.Nat.{ℕ, ◌≤◌, ◌<◌}
use native.Mathlib.Omega.{arith}
use borrow.Author.Tests.{lt-ltb, le-ltb, leb-true}
use lib.ListN.{length}
use Rattle.answers.specs.Answers.{refused, accepted, ◌>>◌, need}
use Rattle.proof.specs.Check.{check}
use Rattle.scheduler.specs.declared.Part.{Part}
use Rattle.scheduler.specs.declared.Job.{Job}
use Rattle.scheduler.specs.declared.Scheduler.{Scheduler}
use Rattle.scheduler.specs.Scheduler.{vacant, holding, is_waiting, with_slot, refusal, submission, cancellation, is_within, part, parts_within, check_job}

module _ (s : Scheduler) (seat : ℕ) where
  pub submission-29 : (job : Job) → 8 ≤ seat → submission s seat job ≡ refused (refusal 29)
  unfolding submission need ◌>>◌
  submission-29 job h = rw (le-ltb seat 8 h) refl

  pub submission-30 : (job : Job) → seat < 8 → is_waiting s seat ≡ true → submission s seat job ≡ refused (refusal 30)
  unfolding submission need ◌>>◌
  submission-30 job h w = rw (lt-ltb seat 8 h) (rw w refl)

  pub submission-taken : (job : Job) → seat < 8 → is_waiting s seat ≡ false → submission s seat job ≡ accepted (with_slot s seat (holding job))
  unfolding submission need ◌>>◌
  submission-taken job h w = rw (lt-ltb seat 8 h) (rw w refl)

  pub cancellation-29 : 8 ≤ seat → cancellation s seat ≡ refused (refusal 29)
  unfolding cancellation need ◌>>◌
  cancellation-29 h = rw (le-ltb seat 8 h) refl

  pub cancellation-31 : seat < 8 → is_waiting s seat ≡ false → cancellation s seat ≡ refused (refusal 31)
  unfolding cancellation need ◌>>◌
  cancellation-31 h w = rw (lt-ltb seat 8 h) (rw w refl)

  pub cancellation-taken : seat < 8 → is_waiting s seat ≡ true → cancellation s seat ≡ accepted (with_slot s seat vacant)
  unfolding cancellation need ◌>>◌
  cancellation-taken h w = rw (lt-ltb seat 8 h) (rw w refl)

-- ---- the check of a job
and-true : (a b : Bool) → a && b ≡ true → (a ≡ true) × (b ≡ true)
and-true true b e = (refl, e)
and-true false b e = absurd (let z : ◌≡◌ {A = ℕ} 0 1 = cc in omega arith)

lies : (n : ℕ) (p : Part) → is_within n p ≡ true → (p.start ≤ p.end) × (p.end ≤ n)
lies n p e = let (x, y) = and-true _ _ e in (leb-true _ _ x, leb-true _ _ y)

pub all_lie : (n : ℕ) (job : Job) → parts_within n job ≡ true → ((job.a.start ≤ job.a.end) × (job.a.end ≤ n)) × ((job.b.start ≤ job.b.end) × (job.b.end ≤ n)) × ((job.proof.start ≤ job.proof.end) × (job.proof.end ≤ n))
all_lie n job e =
    let (xy, z) = and-true (is_within n job.a && is_within n job.b) _ e in
    let (x, y) = and-true (is_within n job.a) _ xy in
    (lies n job.a x, lies n job.b y, lies n job.proof z)

module _ (job : Job) (buffer output : List ℕ) where
  pub check-outside : parts_within (length buffer) job ≡ false → check_job job buffer output ≡ record { answer = refusal 34; count = 0; output = output }
  unfolding check_job
  check-outside e = rw e refl

  pub check-inside : parts_within (length buffer) job ≡ true → check_job job buffer output ≡ check (part buffer job.a) (part buffer job.b) (part buffer job.proof) output
  unfolding check_job
  check-inside e = rw e refl
