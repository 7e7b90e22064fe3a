-- What holds of a run of calls from an empty desk on. Of what the functions ensure. Assumes nothing.
use Rattle.std.specs.Prelude.{◌≡◌, ◌↔◌, true, false, not, ◌&&◌, cond, List, [], ◌∷◌, ◌++◌, ℕ, suc, ◌+◌, ◌%◌, ◌≤◌, ◌<◌, eqb, length, set}
use Rattle.forms.specs.Forms.{All}
use Rattle.answers.specs.declared.WriteResult.{WriteResult}
use Rattle.answers.specs.Answers.{answer, acceptance, file_lent}
use Rattle.proof.specs.Promises.{Checks}
use Rattle.scheduler.specs.declared.Part.{Part}
use Rattle.scheduler.specs.declared.Job.{Job}
use Rattle.scheduler.specs.declared.Slot.{Slot}
use Rattle.scheduler.specs.declared.Scheduler.{Scheduler}
use Rattle.scheduler.specs.declared.Changed.{Changed}
use Rattle.scheduler.specs.declared.Turned.{Turned}
use Rattle.scheduler.specs.Scheduler.{vacant, holding, empty, slot_at, is_waiting, part}
use Rattle.scheduler.specs.Promises.{Submits, Cancels, Turns}

-- A call that was made, what its function returned, and what a turn left of the lent output.
pub data Call : Type 0 where
  submitted : (seat : ℕ) (job : Job) (r : Changed) → Call
  cancelled : (seat : ℕ) (r : Changed) → Call
  turned : (buffer output left : List ℕ) (r : Turned) → Call

-- The scheduler that it left, and what its function ensures where it was given s.
abbrev pub leaves : Call → Scheduler
leaves (submitted seat job r) = r.scheduler
leaves (cancelled seat r) = r.scheduler
leaves (turned buffer output left r) = r.scheduler

abbrev pub Ensures : Scheduler → Call → Type 0
Ensures s (submitted seat job r) = Submits s seat job r
Ensures s (cancelled seat r) = Cancels s seat r
Ensures s (turned buffer output left r) = Turns s buffer output left r

-- Calls in any sequence, each given the scheduler that the one before left.
pub data Trace : Scheduler → List Call → Scheduler → Type 0 where
  none : {s : Scheduler} → Trace s [] s
  next : {s s' : Scheduler} {calls : List Call} (c : Call) → Ensures s c → Trace (leaves c) calls s' → Trace s (c ∷ calls) s'

unfoldable pub turns : List Call → ℕ
turns [] = 0
turns (submitted seat job r ∷ calls) = turns calls
turns (cancelled seat r ∷ calls) = turns calls
turns (turned buffer output left r ∷ calls) = suc (turns calls)

-- The call cancels the job of that seat; the call serves that seat.
abbrev pub CancelledAt : (seat : ℕ) → Call → Type 0
CancelledAt seat (submitted at job r) = ⊥
CancelledAt seat (cancelled at r) = (at ≡ seat) × (r.answer.number ≡ 0)
CancelledAt seat (turned buffer output left r) = ⊥

abbrev pub ServedAt : (seat : ℕ) → Call → Type 0
ServedAt seat (submitted at job r) = ⊥
ServedAt seat (cancelled at r) = ⊥
ServedAt seat (turned buffer output left r) = (r.idle ≡ false) × (r.seat ≡ seat)

-- The call is an idle turn.
abbrev pub Idle : Call → Type 0
Idle (submitted at job r) = ⊥
Idle (cancelled at r) = ⊥
Idle (turned buffer output left r) = r.idle ≡ true

-- A part lies in the buffer.
abbrev pub Lies : (buffer : List ℕ) → Part → Type 0
Lies buffer p = (p.start ≤ p.end) × (p.end ≤ length buffer)

pub record AllLie (buffer : List ℕ) (job : Job) : Type 0 where
  pub a : Lies buffer job.a
  pub b : Lies buffer job.b
  pub proof : Lies buffer job.proof

-- What check alone gives on the job's parts of the buffer, with this output lent; 34 where a part does not lie in the buffer.
pub record CheckedAlone (job : Job) (buffer output left : List ℕ) (r : WriteResult) : Type 0 where
  pub checks : AllLie buffer job → Checks (part buffer job.a) (part buffer job.b) (part buffer job.proof) output left r
  pub outside : (AllLie buffer job → ⊥) → (r.answer ≡ answer 34 file_lent 0) × (r.count ≡ 0) × (left ≡ output)

-- ---- what becomes of a job in the calls after it is taken
-- It waits through some calls: at most seven of them are turns, none of these is idle, and no call serves or cancels its seat.
pub record WaitsThrough (seat : ℕ) (calls : List Call) : Type 0 where
  pub soon : turns calls ≤ 7
  pub none_idle : All (λ c. Idle c → ⊥) calls
  pub unserved : All (λ c. ServedAt seat c → ⊥) calls
  pub kept : All (λ c. CancelledAt seat c → ⊥) calls

-- It waits, and then a turn serves it.
pub record Served (seat : ℕ) (job : Job) (calls : List Call) : Type 0 where
  pub before : List Call
  pub after : List Call
  pub buffer : List ℕ
  pub output : List ℕ
  pub left : List ℕ
  pub r : Turned
  pub are : calls ≡ before ++ (turned buffer output left r ∷ after)
  pub waited : WaitsThrough seat before
  pub busy : r.idle ≡ false
  pub seat_is : r.seat ≡ seat
  pub alone : CheckedAlone job buffer output left r.result

-- It waits, and then it is cancelled.
pub record Cancelled (seat : ℕ) (calls : List Call) : Type 0 where
  pub before : List Call
  pub after : List Call
  pub r : Changed
  pub are : calls ≡ before ++ (cancelled seat r ∷ after)
  pub waited : WaitsThrough seat before
  pub taken_back : r.answer.number ≡ 0

-- It waits, and is still there after all of them.
pub record StillWaits (seat : ℕ) (job : Job) (calls : List Call) (s : Scheduler) : Type 0 where
  pub waited : WaitsThrough seat calls
  pub holds : slot_at s seat ≡ holding job

pub data Fate (seat : ℕ) (job : Job) (calls : List Call) (s : Scheduler) : Type 0 where
  is_served : Served seat job calls → Fate seat job calls s
  is_cancelled : Cancelled seat calls → Fate seat job calls s
  still_waits : StillWaits seat job calls s → Fate seat job calls s

-- ---- what calls leave, told by their answers alone
-- The seat to look at first: the one after the last one served; where none was, as before.
unfoldable pub look_after : (first : ℕ) → List Call → ℕ
look_after first [] = first
look_after first (submitted seat job r ∷ calls) = look_after first calls
look_after first (cancelled seat r ∷ calls) = look_after first calls
look_after first (turned buffer output left r ∷ calls) = look_after (cond r.idle first ((r.seat + 1) % 8)) calls

-- The slot of a seat: the job last taken there, until it is cancelled or served.
unfoldable pub slot_after : (seat : ℕ) → Slot → List Call → Slot
slot_after seat x [] = x
slot_after seat x (submitted at job r ∷ calls) = slot_after seat (cond (eqb at seat && eqb r.answer.number 0) (holding job) x) calls
slot_after seat x (cancelled at r ∷ calls) = slot_after seat (cond (eqb at seat && eqb r.answer.number 0) vacant x) calls
slot_after seat x (turned buffer output left r ∷ calls) = slot_after seat (cond (not r.idle && eqb r.seat seat) vacant x) calls

-- What each call answers and leaves, in numerals; for every scheduler, also one that calls do not reach from the empty one.
pub record CallsAnswered : Type 0 where
  pub submit_29 : (s : Scheduler) (seat : ℕ) (job : Job) (r : Changed) → Submits s seat job r → 8 ≤ seat → (r.answer ≡ answer 29 4 0) × (r.scheduler ≡ s)
  pub submit_30 : (s : Scheduler) (seat : ℕ) (job : Job) (r : Changed) → Submits s seat job r → seat < 8 → is_waiting s seat ≡ true → (r.answer ≡ answer 30 4 0) × (r.scheduler ≡ s)
  pub submit_taken : (s : Scheduler) (seat : ℕ) (job : Job) (r : Changed) → Submits s seat job r → seat < 8 → is_waiting s seat ≡ false
      → (r.answer ≡ acceptance) × (r.scheduler.slots ≡ set s.slots seat (holding job)) × (r.scheduler.first ≡ s.first)
  pub cancel_29 : (s : Scheduler) (seat : ℕ) (r : Changed) → Cancels s seat r → 8 ≤ seat → (r.answer ≡ answer 29 4 0) × (r.scheduler ≡ s)
  pub cancel_31 : (s : Scheduler) (seat : ℕ) (r : Changed) → Cancels s seat r → seat < 8 → is_waiting s seat ≡ false → (r.answer ≡ answer 31 4 0) × (r.scheduler ≡ s)
  pub cancel_taken : (s : Scheduler) (seat : ℕ) (r : Changed) → Cancels s seat r → seat < 8 → is_waiting s seat ≡ true
      → (r.answer ≡ acceptance) × (r.scheduler.slots ≡ set s.slots seat vacant) × (r.scheduler.first ≡ s.first)
  -- a turn that is not idle clears the seat that it served, whatever its answer, and the next look starts after it
  pub turn_serves : (s : Scheduler) (buffer output left : List ℕ) (r : Turned) → Turns s buffer output left r → r.idle ≡ false
      → (r.seat < 8) × (is_waiting s r.seat ≡ true) × (r.scheduler.slots ≡ set s.slots r.seat vacant) × (r.scheduler.first ≡ (r.seat + 1) % 8)
      × CheckedAlone (slot_at s r.seat).job buffer output left r.result
  -- it is the first that waits, from the seat to look at first upwards, 0 after 7
  pub turn_order : (s : Scheduler) (buffer output left : List ℕ) (r : Turned) → Turns s buffer output left r → (n : ℕ) → n < 8 → is_waiting s ((s.first + n) % 8) ≡ true
      → ((m : ℕ) → m < n → is_waiting s ((s.first + m) % 8) ≡ false) → (r.idle ≡ false) × (r.seat ≡ (s.first + n) % 8)
  -- an idle one changes nothing, and has a number of its own
  pub turn_idle : (s : Scheduler) (buffer output left : List ℕ) (r : Turned) → Turns s buffer output left r → r.idle ≡ true
      → (r.scheduler ≡ s) × (left ≡ output) × (r.seat ≡ 0) × (r.result.answer ≡ answer 35 4 0) × (r.result.count ≡ 0)

pub record Fair : Type 0 where
  -- From an empty desk on: whatever calls follow, a job that is taken is served within eight turns, unless it is cancelled before; until then it waits. (One that comes again after that is taken anew.)
  pub fate : (calls : List Call) (s : Scheduler) → Trace empty calls s → (seat : ℕ) (job : Job) (r : Changed) → Submits s seat job r → r.answer.number ≡ 0
      → (later : List Call) (s' : Scheduler) → Trace r.scheduler later s' → Fate seat job later s'
  -- From an empty desk on the seat to look at first is the one after the last one served, at the start 0; and at a seat waits the job last taken there, until it is cancelled or served, and no other.
  pub look : (calls : List Call) (s : Scheduler) → Trace empty calls s → s.first ≡ look_after 0 calls
  pub slots : (calls : List Call) (s : Scheduler) → Trace empty calls s → (seat : ℕ) → seat < 8 → slot_at s seat ≡ slot_after seat vacant calls
  -- A turn is idle just where no job waits.
  pub idle_iff : (s : Scheduler) (buffer output left : List ℕ) (r : Turned) → Turns s buffer output left r → r.idle ≡ true ↔ ((seat : ℕ) → seat < 8 → is_waiting s seat ≡ false)
