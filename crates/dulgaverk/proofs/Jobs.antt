-- Each way through a turn, over plain values. Assumes nothing.
use mathlib.Core.Path.{◌≡◌, refl, sym, ◌∙◌, ap}
use mathlib.Core.Bool.{true, false}
use mathlib.Core.List.{List}
use Prim.Native.Nat.{ℕ}
use lib.ListN.{length, set}
use Rattle.answers.specs.declared.Answer.{Answer}
use Rattle.answers.specs.declared.WriteResult.{WriteResult}
use Rattle.answers.specs.Answers.{written_of}
use Rattle.proof.specs.Promises.{Checks}
use Rattle.scheduler.specs.declared.Job.{Job}
use Rattle.scheduler.specs.declared.Scheduler.{Scheduler}
use Rattle.scheduler.specs.declared.Turned.{Turned}
use Rattle.std.specs.Prelude.{Some, None}
use Rattle.scheduler_turn.specs.declared.Files.{Files}
use Rattle.scheduler_turn.specs.Files.{seat_found, Within}
use Rattle.scheduler_turn.proofs.SeatFound.{one-found, none_found}
use Rattle.scheduler.specs.Scheduler.{vacant, slot_at, refusal, after, next_seat, parts_within, turn_at, turn}
use Rattle.scheduler.specs.Promises.{Turns}
use Rattle.scheduler.proofs.Changing.{check-outside, check-inside}
use Rattle.dulgaverk.specs.Jobs.{ChecksJob}

-- ---- the check of a job
module _ (job : Job) (buffer output : List ℕ) where
  pub check-34 : {a : Answer} → a ≡ refusal 34 → parts_within (length buffer) job ≡ false → ChecksJob job buffer output output (record { answer = a; count = 0 })
  check-34 p h = record { is = ap (λ (a : Answer). written_of (record { answer = a; count = 0 }) output) p ∙ sym (check-outside job buffer output h) }

  pub check-parts : {f : Files} {left : List ℕ} {r : WriteResult} → Within buffer job f → Checks f.a.now f.b.now f.proof.now output left r → ChecksJob job buffer output left r
  check-parts w c = record { is = c.is ∙ (rw (w.a, w.b, w.proof) refl) ∙ sym (check-inside job buffer output w.all) }

-- ---- a turn
module _ (s : Scheduler) (buffer output : List ℕ) where
  pub turn_serves : {seat : ℕ} {left : List ℕ} {result : WriteResult} {r : Turned} → seat_found (next_seat s) ≡ Some seat → ChecksJob (slot_at s seat).job buffer output left result
      → r ≡ record { scheduler = record { slots = set s.slots seat vacant; first = after seat }; result = result; seat = seat; idle = false } → Turns s buffer output left r
  unfolding turn turn_at
  turn_serves e c q = record { is = rw (q, one-found (next_seat s) e, ← c.is) refl }

  pub turn_idle : {r : Turned} → seat_found (next_seat s) ≡ None → r ≡ record { scheduler = s; result = record { answer = refusal 35; count = 0 }; seat = 0; idle = true } → Turns s buffer output output r
  unfolding turn turn_at
  turn_idle e q = record { is = rw (q, none_found (next_seat s) e) refl }
