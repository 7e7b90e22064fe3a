-- The scheduler of checks, "the office desk". A job waits at a seat; a turn serves one. Assumes nothing.
use Rattle.std.specs.Prelude.{Bool, true, false, not, ◌&&◌, cond, List, ℕ, zero, suc, ◌+◌, ◌-◌, ◌%◌, eqb, leb, ltb, length, take, drop, get_or, set, replicate}
use Rattle.std.proofs.Math.Option.{Option, none, some}
use Rattle.answers.specs.declared.Answer.{Answer}
use Rattle.answers.specs.Answers.{answer, file_lent, Result, accepted, ◌>>◌, need, Written}
use Rattle.proof.specs.Check.{check}
use Rattle.scheduler.specs.declared.Part.{Part}
use Rattle.scheduler.specs.declared.Job.{Job}
use Rattle.scheduler.specs.declared.Slot.{Slot}
use Rattle.scheduler.specs.declared.Scheduler.{Scheduler}

-- Seats 0 to 7. A seat is a number; a slot is what stands at a seat.
abbrev pub seats : ℕ
seats = 8

-- The seat after a seat; 0 after 7.
abbrev pub after : (seat : ℕ) → ℕ
after seat = (seat + 1) % seats

-- A cleared slot: all its numbers are 0.
abbrev pub nothing : Part
nothing = record { start = 0; end = 0 }

abbrev pub vacant : Slot
vacant = record { waiting = 0; job = record { a = nothing; b = nothing; proof = nothing } }

abbrev pub holding : Job → Slot
holding j = record { waiting = 1; job = j }

-- The empty desk: no job waits, and seat 0 is looked at first.
abbrev pub empty : Scheduler
empty = record { slots = replicate 8 vacant; first = 0 }

-- The slot of a seat, and whether a job waits there: any number but 0 says so.
abbrev pub slot_at : Scheduler → (seat : ℕ) → Slot
slot_at s seat = get_or s.slots seat vacant

unfoldable pub is_waiting : Scheduler → (seat : ℕ) → Bool
is_waiting s seat = not (eqb (slot_at s seat).waiting 0)

abbrev pub with_slot : Scheduler → (seat : ℕ) → Slot → Scheduler
with_slot s seat x = record { slots = set s.slots seat x; first = s.first }

-- ---- submitting and cancelling: 29, a seat above 7; 30, it is occupied; 31, it is empty
abbrev pub refusal : (number : ℕ) → Answer
refusal n = answer n file_lent 0

unfoldable pub submission : Scheduler → (seat : ℕ) → Job → Result Scheduler
submission s seat job = do
  need (refusal 29) (ltb seat seats)
  need (refusal 30) (not (is_waiting s seat))
  accepted (with_slot s seat (holding job))

unfoldable pub cancellation : Scheduler → (seat : ℕ) → Result Scheduler
cancellation s seat = do
  need (refusal 29) (ltb seat seats)
  need (refusal 31) (is_waiting s seat)
  accepted (with_slot s seat vacant)

-- ---- a turn
-- The first of n seats, from one on, at which a job waits.
unfoldable pub next_from : Scheduler → (seat n : ℕ) → Option ℕ
next_from s seat zero = none
next_from s seat (suc n) = cond (is_waiting s seat) (some seat) (next_from s (after seat) n)

-- All eight are looked at, from the seat after the last one served. (From the empty desk on no call leaves a `first` above 7; such a one counts by its remainder.)
unfoldable pub next_seat : Scheduler → Option ℕ
next_seat s = next_from s (s.first % seats) seats

-- A part lies within a buffer of n bytes; its end is the byte after its last.
abbrev pub is_within : (n : ℕ) → Part → Bool
is_within n p = leb p.start p.end && leb p.end n

abbrev pub part : (buffer : List ℕ) → Part → List ℕ
part buffer p = take (p.end - p.start) (drop p.start buffer)

abbrev pub parts_within : (n : ℕ) → Job → Bool
parts_within n job = is_within n job.a && is_within n job.b && is_within n job.proof

-- A job is checked on the buffer as it is then, with the output lent: 34, a part outside the buffer or ending before it starts; then what the check gives on the parts.
unfoldable pub check_job : Job → (buffer output : List ℕ) → Written
check_job job buffer output =
    cond (parts_within (length buffer) job)
    (check (part buffer job.a) (part buffer job.b) (part buffer job.proof) output)
    (record { answer = refusal 34; count = 0; output = output })

-- What a turn leaves: whether it was idle; the seat served; what its check left; and the scheduler.
pub record TurnLeaves : Type 0 where
  pub idle : Bool
  pub seat : ℕ
  pub written : Written
  pub scheduler : Scheduler

-- The seat is cleared, and the next turn looks first at the one after it.
abbrev pub served : Scheduler → (seat : ℕ) → Scheduler
served s seat = record { slots = set s.slots seat vacant; first = after seat }

-- 35, no job waits: an idle turn is no acceptance.
unfoldable pub turn_at : Scheduler → (buffer output : List ℕ) → Option ℕ → TurnLeaves
turn_at s buffer output (some seat) = record { idle = false; seat = seat; written = check_job (slot_at s seat).job buffer output; scheduler = served s seat }
turn_at s buffer output none = record { idle = true; seat = 0; written = record { answer = refusal 35; count = 0; output = output }; scheduler = s }

unfoldable pub turn : Scheduler → (buffer output : List ℕ) → TurnLeaves
turn s buffer output = turn_at s buffer output (next_seat s)
