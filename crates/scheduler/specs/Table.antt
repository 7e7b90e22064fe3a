-- Directed sequences of calls, each step with what it answers, in numerals: an answer is number, file, place, row, step, branch; a turn that serves has the seat before it and
-- the count after it, an idle one no seat and no count. Then come the seat to look at first, and for each seat whether a job waits. Assumes nothing.
use Rattle.std.specs.Prelude.{List, [], ◌∷◌, ◌++◌, map, Bool, true, false, ℕ, replicate}
use Rattle.answers.specs.declared.Answer.{Answer}
use Rattle.scheduler.specs.declared.Job.{Job}
use Rattle.scheduler.specs.declared.Slot.{Slot}
use Rattle.scheduler.specs.declared.Scheduler.{Scheduler}
use Rattle.scheduler.specs.Scheduler.{TurnLeaves, submission, cancellation, turn as turned}
use Rattle.scheduler.specs.Promises.{changed}

pub data Move : Type 0 where
  submit : (seat : ℕ) → Job → Move
  cancel : (seat : ℕ) → Move
  turn : (buffer : List ℕ) (room : ℕ) → Move

abbrev pub job : (a b c d e f : ℕ) → Job
job a b c d e f = record { a = record { start = a; end = b }; b = record { start = c; end = d }; proof = record { start = e; end = f } }

abbrev pub answered : Answer → List ℕ
answered a = a.number ∷ a.file ∷ a.place ∷ a.row.0 ∷ a.step.0 ∷ a.branch ∷ []

abbrev pub state : Scheduler → List ℕ
state s = s.first ∷ map (λ (x : Slot). x.waiting) s.slots

abbrev pub served : Bool → TurnLeaves → List ℕ
served true t = answered t.written.answer
served false t = t.seat ∷ (answered t.written.answer ++ (t.written.count ∷ []))

abbrev pub left : Scheduler → Move → Scheduler
left s (submit seat j) = (changed s (submission s seat j)).scheduler
left s (cancel seat) = (changed s (cancellation s seat)).scheduler
left s (turn buffer room) = (turned s buffer (replicate room 0)).scheduler

abbrev pub outcome : Scheduler → Move → List ℕ
outcome s (submit seat j) = answered (changed s (submission s seat j)).answer
outcome s (cancel seat) = answered (changed s (cancellation s seat)).answer
outcome s (turn buffer room) = served (turned s buffer (replicate room 0)).idle (turned s buffer (replicate room 0))

abbrev pub played : Scheduler → List Move → List (List ℕ)
played s [] = []
played s (m ∷ ms) = (outcome s m ++ state (left s m)) ∷ played (left s m) ms

-- The moves of a sequence, and what they tell.
pub record Sequence : Type 0 where
  pub moves : List Move
  pub tells : List (List ℕ)

abbrev pub buffer0 : List ℕ
buffer0 = 0x01 ∷ 0x00 ∷ 0x01 ∷ 0x01 ∷ 0x02 ∷ 0x00 ∷ 0x01 ∷ 0x01 ∷ 0x03 ∷ 0x00 ∷ 0x04 ∷ 0x00 ∷ 0x01 ∷ 0x00 ∷ 0x00 ∷ 0x01 ∷ 0x00 ∷ 0x01 ∷ 0x01 ∷ 0x02 ∷ 0x00 ∷ 0x01 ∷ 0x01 ∷ 0x03 ∷ 0x00 ∷ 0x04 ∷ 0xFF ∷ 0xFF ∷ 0x00 ∷ 0x01 ∷ 0x01 ∷ 0x00 ∷ 0x01 ∷ 0x01 ∷ 0x02 ∷ 0x00 ∷ 0x01 ∷ 0x01 ∷ 0x10 ∷ 0x00 ∷ 0x06 ∷ 0x00 ∷ 0x01 ∷ 0x00 ∷ 0x01 ∷ 0x00 ∷ 0x01 ∷ 0x14 ∷ 0x00 ∷ 0x01 ∷ 0x02 ∷ 0x01 ∷ 0x00 ∷ 0x01 ∷ 0x01 ∷ 0x02 ∷ 0x00 ∷ 0x01 ∷ 0x01 ∷ 0x10 ∷ 0x00 ∷ 0x06 ∷ 0x00 ∷ 0x01 ∷ 0x00 ∷ 0x01 ∷ 0x00 ∷ 0x01 ∷ 0x14 ∷ 0x00 ∷ 0x01 ∷ []

abbrev pub buffer1 : List ℕ
buffer1 = []

abbrev pub buffer2 : List ℕ
buffer2 = 0x01 ∷ 0x00 ∷ 0x01 ∷ 0x01 ∷ 0x02 ∷ 0x00 ∷ 0x01 ∷ 0x01 ∷ 0x03 ∷ 0x00 ∷ 0x04 ∷ 0x00 ∷ 0x01 ∷ 0x00 ∷ 0x00 ∷ 0x01 ∷ 0x00 ∷ 0x01 ∷ 0x01 ∷ 0x02 ∷ 0x00 ∷ 0x01 ∷ 0x01 ∷ 0x03 ∷ 0x00 ∷ 0x04 ∷ 0xFF ∷ 0xFF ∷ 0x00 ∷ 0x01 ∷ 0x01 ∷ 0x00 ∷ 0x01 ∷ 0x01 ∷ 0x02 ∷ 0x00 ∷ 0x01 ∷ 0x01 ∷ 0x10 ∷ 0x00 ∷ 0x06 ∷ 0x00 ∷ 0x01 ∷ 0x00 ∷ 0x01 ∷ 0x00 ∷ 0x01 ∷ 0x14 ∷ 0x00 ∷ 0x01 ∷ 0x02 ∷ []

abbrev pub table : List Sequence
table =
    -- an idle turn, a job, an idle turn
    record { moves = turn buffer0 64 ∷ submit 4 (job 0 15 15 30 30 51) ∷ turn buffer0 64 ∷ turn buffer0 64 ∷ []; tells = (35 ∷ 4 ∷ 0 ∷ 65535 ∷ 65535 ∷ 65535 ∷ 0 ∷ 0 ∷ 0 ∷ 0 ∷ 0 ∷ 0 ∷ 0 ∷ 0 ∷ 0 ∷ []) ∷ (0 ∷ 0 ∷ 0 ∷ 65535 ∷ 65535 ∷ 65535 ∷ 0 ∷ 0 ∷ 0 ∷ 0 ∷ 0 ∷ 1 ∷ 0 ∷ 0 ∷ 0 ∷ []) ∷ (4 ∷ 0 ∷ 0 ∷ 0 ∷ 65535 ∷ 65535 ∷ 65535 ∷ 19 ∷ 5 ∷ 0 ∷ 0 ∷ 0 ∷ 0 ∷ 0 ∷ 0 ∷ 0 ∷ 0 ∷ []) ∷ (35 ∷ 4 ∷ 0 ∷ 65535 ∷ 65535 ∷ 65535 ∷ 5 ∷ 0 ∷ 0 ∷ 0 ∷ 0 ∷ 0 ∷ 0 ∷ 0 ∷ 0 ∷ []) ∷ [] }
    ∷  -- all seats wait, and one comes again after the look: eight turns
    record { moves = submit 0 (job 0 15 15 30 30 51) ∷ submit 1 (job 0 15 15 30 30 51) ∷ submit 2 (job 0 15 15 30 30 51) ∷ submit 3 (job 0 15 15 30 30 51) ∷ submit 4 (job 0 15 15 30 30 51) ∷ submit 5 (job 0 15 15 30 30 51) ∷ submit 6 (job 0 15 15 30 30 51) ∷ submit 7 (job 0 15 15 30 30 51) ∷ turn buffer0 64 ∷ submit 0 (job 0 15 15 30 30 51) ∷ turn buffer0 64 ∷ turn buffer0 64 ∷ turn buffer0 64 ∷ turn buffer0 64 ∷ turn buffer0 64 ∷ turn buffer0 64 ∷ turn buffer0 64 ∷ turn buffer0 64 ∷ turn buffer0 64 ∷ []; tells = (0 ∷ 0 ∷ 0 ∷ 65535 ∷ 65535 ∷ 65535 ∷ 0 ∷ 1 ∷ 0 ∷ 0 ∷ 0 ∷ 0 ∷ 0 ∷ 0 ∷ 0 ∷ []) ∷ (0 ∷ 0 ∷ 0 ∷ 65535 ∷ 65535 ∷ 65535 ∷ 0 ∷ 1 ∷ 1 ∷ 0 ∷ 0 ∷ 0 ∷ 0 ∷ 0 ∷ 0 ∷ []) ∷ (0 ∷ 0 ∷ 0 ∷ 65535 ∷ 65535 ∷ 65535 ∷ 0 ∷ 1 ∷ 1 ∷ 1 ∷ 0 ∷ 0 ∷ 0 ∷ 0 ∷ 0 ∷ []) ∷ (0 ∷ 0 ∷ 0 ∷ 65535 ∷ 65535 ∷ 65535 ∷ 0 ∷ 1 ∷ 1 ∷ 1 ∷ 1 ∷ 0 ∷ 0 ∷ 0 ∷ 0 ∷ []) ∷ (0 ∷ 0 ∷ 0 ∷ 65535 ∷ 65535 ∷ 65535 ∷ 0 ∷ 1 ∷ 1 ∷ 1 ∷ 1 ∷ 1 ∷ 0 ∷ 0 ∷ 0 ∷ []) ∷ (0 ∷ 0 ∷ 0 ∷ 65535 ∷ 65535 ∷ 65535 ∷ 0 ∷ 1 ∷ 1 ∷ 1 ∷ 1 ∷ 1 ∷ 1 ∷ 0 ∷ 0 ∷ []) ∷ (0 ∷ 0 ∷ 0 ∷ 65535 ∷ 65535 ∷ 65535 ∷ 0 ∷ 1 ∷ 1 ∷ 1 ∷ 1 ∷ 1 ∷ 1 ∷ 1 ∷ 0 ∷ []) ∷ (0 ∷ 0 ∷ 0 ∷ 65535 ∷ 65535 ∷ 65535 ∷ 0 ∷ 1 ∷ 1 ∷ 1 ∷ 1 ∷ 1 ∷ 1 ∷ 1 ∷ 1 ∷ []) ∷ (0 ∷ 0 ∷ 0 ∷ 0 ∷ 65535 ∷ 65535 ∷ 65535 ∷ 19 ∷ 1 ∷ 0 ∷ 1 ∷ 1 ∷ 1 ∷ 1 ∷ 1 ∷ 1 ∷ 1 ∷ []) ∷ (0 ∷ 0 ∷ 0 ∷ 65535 ∷ 65535 ∷ 65535 ∷ 1 ∷ 1 ∷ 1 ∷ 1 ∷ 1 ∷ 1 ∷ 1 ∷ 1 ∷ 1 ∷ []) ∷ (1 ∷ 0 ∷ 0 ∷ 0 ∷ 65535 ∷ 65535 ∷ 65535 ∷ 19 ∷ 2 ∷ 1 ∷ 0 ∷ 1 ∷ 1 ∷ 1 ∷ 1 ∷ 1 ∷ 1 ∷ []) ∷ (2 ∷ 0 ∷ 0 ∷ 0 ∷ 65535 ∷ 65535 ∷ 65535 ∷ 19 ∷ 3 ∷ 1 ∷ 0 ∷ 0 ∷ 1 ∷ 1 ∷ 1 ∷ 1 ∷ 1 ∷ []) ∷ (3 ∷ 0 ∷ 0 ∷ 0 ∷ 65535 ∷ 65535 ∷ 65535 ∷ 19 ∷ 4 ∷ 1 ∷ 0 ∷ 0 ∷ 0 ∷ 1 ∷ 1 ∷ 1 ∷ 1 ∷ []) ∷ (4 ∷ 0 ∷ 0 ∷ 0 ∷ 65535 ∷ 65535 ∷ 65535 ∷ 19 ∷ 5 ∷ 1 ∷ 0 ∷ 0 ∷ 0 ∷ 0 ∷ 1 ∷ 1 ∷ 1 ∷ []) ∷ (5 ∷ 0 ∷ 0 ∷ 0 ∷ 65535 ∷ 65535 ∷ 65535 ∷ 19 ∷ 6 ∷ 1 ∷ 0 ∷ 0 ∷ 0 ∷ 0 ∷ 0 ∷ 1 ∷ 1 ∷ []) ∷ (6 ∷ 0 ∷ 0 ∷ 0 ∷ 65535 ∷ 65535 ∷ 65535 ∷ 19 ∷ 7 ∷ 1 ∷ 0 ∷ 0 ∷ 0 ∷ 0 ∷ 0 ∷ 0 ∷ 1 ∷ []) ∷ (7 ∷ 0 ∷ 0 ∷ 0 ∷ 65535 ∷ 65535 ∷ 65535 ∷ 19 ∷ 0 ∷ 1 ∷ 0 ∷ 0 ∷ 0 ∷ 0 ∷ 0 ∷ 0 ∷ 0 ∷ []) ∷ (0 ∷ 0 ∷ 0 ∷ 0 ∷ 65535 ∷ 65535 ∷ 65535 ∷ 19 ∷ 1 ∷ 0 ∷ 0 ∷ 0 ∷ 0 ∷ 0 ∷ 0 ∷ 0 ∷ 0 ∷ []) ∷ (35 ∷ 4 ∷ 0 ∷ 65535 ∷ 65535 ∷ 65535 ∷ 1 ∷ 0 ∷ 0 ∷ 0 ∷ 0 ∷ 0 ∷ 0 ∷ 0 ∷ 0 ∷ []) ∷ [] }
    ∷  -- the last seat, then the first
    record { moves = submit 7 (job 0 15 15 30 30 51) ∷ turn buffer0 64 ∷ submit 0 (job 0 15 15 30 30 51) ∷ submit 7 (job 0 15 15 30 30 51) ∷ turn buffer0 64 ∷ turn buffer0 64 ∷ []; tells = (0 ∷ 0 ∷ 0 ∷ 65535 ∷ 65535 ∷ 65535 ∷ 0 ∷ 0 ∷ 0 ∷ 0 ∷ 0 ∷ 0 ∷ 0 ∷ 0 ∷ 1 ∷ []) ∷ (7 ∷ 0 ∷ 0 ∷ 0 ∷ 65535 ∷ 65535 ∷ 65535 ∷ 19 ∷ 0 ∷ 0 ∷ 0 ∷ 0 ∷ 0 ∷ 0 ∷ 0 ∷ 0 ∷ 0 ∷ []) ∷ (0 ∷ 0 ∷ 0 ∷ 65535 ∷ 65535 ∷ 65535 ∷ 0 ∷ 1 ∷ 0 ∷ 0 ∷ 0 ∷ 0 ∷ 0 ∷ 0 ∷ 0 ∷ []) ∷ (0 ∷ 0 ∷ 0 ∷ 65535 ∷ 65535 ∷ 65535 ∷ 0 ∷ 1 ∷ 0 ∷ 0 ∷ 0 ∷ 0 ∷ 0 ∷ 0 ∷ 1 ∷ []) ∷ (0 ∷ 0 ∷ 0 ∷ 0 ∷ 65535 ∷ 65535 ∷ 65535 ∷ 19 ∷ 1 ∷ 0 ∷ 0 ∷ 0 ∷ 0 ∷ 0 ∷ 0 ∷ 0 ∷ 1 ∷ []) ∷ (7 ∷ 0 ∷ 0 ∷ 0 ∷ 65535 ∷ 65535 ∷ 65535 ∷ 19 ∷ 0 ∷ 0 ∷ 0 ∷ 0 ∷ 0 ∷ 0 ∷ 0 ∷ 0 ∷ 0 ∷ []) ∷ [] }
    ∷  -- 29
    record { moves = submit 8 (job 0 15 15 30 30 51) ∷ submit 255 (job 0 15 15 30 30 51) ∷ cancel 8 ∷ turn buffer0 64 ∷ []; tells = (29 ∷ 4 ∷ 0 ∷ 65535 ∷ 65535 ∷ 65535 ∷ 0 ∷ 0 ∷ 0 ∷ 0 ∷ 0 ∷ 0 ∷ 0 ∷ 0 ∷ 0 ∷ []) ∷ (29 ∷ 4 ∷ 0 ∷ 65535 ∷ 65535 ∷ 65535 ∷ 0 ∷ 0 ∷ 0 ∷ 0 ∷ 0 ∷ 0 ∷ 0 ∷ 0 ∷ 0 ∷ []) ∷ (29 ∷ 4 ∷ 0 ∷ 65535 ∷ 65535 ∷ 65535 ∷ 0 ∷ 0 ∷ 0 ∷ 0 ∷ 0 ∷ 0 ∷ 0 ∷ 0 ∷ 0 ∷ []) ∷ (35 ∷ 4 ∷ 0 ∷ 65535 ∷ 65535 ∷ 65535 ∷ 0 ∷ 0 ∷ 0 ∷ 0 ∷ 0 ∷ 0 ∷ 0 ∷ 0 ∷ 0 ∷ []) ∷ [] }
    ∷  -- 30 keeps the job that waits
    record { moves = submit 2 (job 0 15 15 30 51 71) ∷ submit 2 (job 0 15 15 30 30 51) ∷ turn buffer0 64 ∷ []; tells = (0 ∷ 0 ∷ 0 ∷ 65535 ∷ 65535 ∷ 65535 ∷ 0 ∷ 0 ∷ 0 ∷ 1 ∷ 0 ∷ 0 ∷ 0 ∷ 0 ∷ 0 ∷ []) ∷ (30 ∷ 4 ∷ 0 ∷ 65535 ∷ 65535 ∷ 65535 ∷ 0 ∷ 0 ∷ 0 ∷ 1 ∷ 0 ∷ 0 ∷ 0 ∷ 0 ∷ 0 ∷ []) ∷ (2 ∷ 2 ∷ 3 ∷ 17 ∷ 65535 ∷ 65535 ∷ 65535 ∷ 0 ∷ 3 ∷ 0 ∷ 0 ∷ 0 ∷ 0 ∷ 0 ∷ 0 ∷ 0 ∷ 0 ∷ []) ∷ [] }
    ∷  -- 31, also after a service
    record { moves = cancel 6 ∷ submit 6 (job 0 15 15 30 30 51) ∷ turn buffer0 64 ∷ cancel 6 ∷ []; tells = (31 ∷ 4 ∷ 0 ∷ 65535 ∷ 65535 ∷ 65535 ∷ 0 ∷ 0 ∷ 0 ∷ 0 ∷ 0 ∷ 0 ∷ 0 ∷ 0 ∷ 0 ∷ []) ∷ (0 ∷ 0 ∷ 0 ∷ 65535 ∷ 65535 ∷ 65535 ∷ 0 ∷ 0 ∷ 0 ∷ 0 ∷ 0 ∷ 0 ∷ 0 ∷ 1 ∷ 0 ∷ []) ∷ (6 ∷ 0 ∷ 0 ∷ 0 ∷ 65535 ∷ 65535 ∷ 65535 ∷ 19 ∷ 7 ∷ 0 ∷ 0 ∷ 0 ∷ 0 ∷ 0 ∷ 0 ∷ 0 ∷ 0 ∷ []) ∷ (31 ∷ 4 ∷ 0 ∷ 65535 ∷ 65535 ∷ 65535 ∷ 7 ∷ 0 ∷ 0 ∷ 0 ∷ 0 ∷ 0 ∷ 0 ∷ 0 ∷ 0 ∷ []) ∷ [] }
    ∷  -- 34: A ends after the buffer
    record { moves = submit 1 (job 0 72 15 30 30 51) ∷ turn buffer0 64 ∷ turn buffer0 64 ∷ []; tells = (0 ∷ 0 ∷ 0 ∷ 65535 ∷ 65535 ∷ 65535 ∷ 0 ∷ 0 ∷ 1 ∷ 0 ∷ 0 ∷ 0 ∷ 0 ∷ 0 ∷ 0 ∷ []) ∷ (1 ∷ 34 ∷ 4 ∷ 0 ∷ 65535 ∷ 65535 ∷ 65535 ∷ 0 ∷ 2 ∷ 0 ∷ 0 ∷ 0 ∷ 0 ∷ 0 ∷ 0 ∷ 0 ∷ 0 ∷ []) ∷ (35 ∷ 4 ∷ 0 ∷ 65535 ∷ 65535 ∷ 65535 ∷ 2 ∷ 0 ∷ 0 ∷ 0 ∷ 0 ∷ 0 ∷ 0 ∷ 0 ∷ 0 ∷ []) ∷ [] }
    ∷  -- 34: B ends before it starts
    record { moves = submit 1 (job 0 15 9 8 30 51) ∷ submit 0 (job 0 15 15 30 30 51) ∷ turn buffer0 64 ∷ turn buffer0 64 ∷ turn buffer0 64 ∷ []; tells = (0 ∷ 0 ∷ 0 ∷ 65535 ∷ 65535 ∷ 65535 ∷ 0 ∷ 0 ∷ 1 ∷ 0 ∷ 0 ∷ 0 ∷ 0 ∷ 0 ∷ 0 ∷ []) ∷ (0 ∷ 0 ∷ 0 ∷ 65535 ∷ 65535 ∷ 65535 ∷ 0 ∷ 1 ∷ 1 ∷ 0 ∷ 0 ∷ 0 ∷ 0 ∷ 0 ∷ 0 ∷ []) ∷ (0 ∷ 0 ∷ 0 ∷ 0 ∷ 65535 ∷ 65535 ∷ 65535 ∷ 19 ∷ 1 ∷ 0 ∷ 1 ∷ 0 ∷ 0 ∷ 0 ∷ 0 ∷ 0 ∷ 0 ∷ []) ∷ (1 ∷ 34 ∷ 4 ∷ 0 ∷ 65535 ∷ 65535 ∷ 65535 ∷ 0 ∷ 2 ∷ 0 ∷ 0 ∷ 0 ∷ 0 ∷ 0 ∷ 0 ∷ 0 ∷ 0 ∷ []) ∷ (35 ∷ 4 ∷ 0 ∷ 65535 ∷ 65535 ∷ 65535 ∷ 2 ∷ 0 ∷ 0 ∷ 0 ∷ 0 ∷ 0 ∷ 0 ∷ 0 ∷ 0 ∷ []) ∷ [] }
    ∷  -- 34: the proof starts after the buffer
    record { moves = submit 1 (job 0 15 15 30 72 72) ∷ turn buffer0 64 ∷ submit 1 (job 0 15 15 30 30 51) ∷ turn buffer0 64 ∷ []; tells = (0 ∷ 0 ∷ 0 ∷ 65535 ∷ 65535 ∷ 65535 ∷ 0 ∷ 0 ∷ 1 ∷ 0 ∷ 0 ∷ 0 ∷ 0 ∷ 0 ∷ 0 ∷ []) ∷ (1 ∷ 34 ∷ 4 ∷ 0 ∷ 65535 ∷ 65535 ∷ 65535 ∷ 0 ∷ 2 ∷ 0 ∷ 0 ∷ 0 ∷ 0 ∷ 0 ∷ 0 ∷ 0 ∷ 0 ∷ []) ∷ (0 ∷ 0 ∷ 0 ∷ 65535 ∷ 65535 ∷ 65535 ∷ 2 ∷ 0 ∷ 1 ∷ 0 ∷ 0 ∷ 0 ∷ 0 ∷ 0 ∷ 0 ∷ []) ∷ (1 ∷ 0 ∷ 0 ∷ 0 ∷ 65535 ∷ 65535 ∷ 65535 ∷ 19 ∷ 2 ∷ 0 ∷ 0 ∷ 0 ∷ 0 ∷ 0 ∷ 0 ∷ 0 ∷ 0 ∷ []) ∷ [] }
    ∷  -- 34: the largest numbers
    record { moves = submit 3 (job 18446744073709551615 18446744073709551615 15 30 30 51) ∷ turn buffer0 64 ∷ submit 3 (job 0 15 15 30 18446744073709551615 0) ∷ turn buffer0 64 ∷ []; tells = (0 ∷ 0 ∷ 0 ∷ 65535 ∷ 65535 ∷ 65535 ∷ 0 ∷ 0 ∷ 0 ∷ 0 ∷ 1 ∷ 0 ∷ 0 ∷ 0 ∷ 0 ∷ []) ∷ (3 ∷ 34 ∷ 4 ∷ 0 ∷ 65535 ∷ 65535 ∷ 65535 ∷ 0 ∷ 4 ∷ 0 ∷ 0 ∷ 0 ∷ 0 ∷ 0 ∷ 0 ∷ 0 ∷ 0 ∷ []) ∷ (0 ∷ 0 ∷ 0 ∷ 65535 ∷ 65535 ∷ 65535 ∷ 4 ∷ 0 ∷ 0 ∷ 0 ∷ 1 ∷ 0 ∷ 0 ∷ 0 ∷ 0 ∷ []) ∷ (3 ∷ 34 ∷ 4 ∷ 0 ∷ 65535 ∷ 65535 ∷ 65535 ∷ 0 ∷ 4 ∷ 0 ∷ 0 ∷ 0 ∷ 0 ∷ 0 ∷ 0 ∷ 0 ∷ 0 ∷ []) ∷ [] }
    ∷  -- an empty part at the buffer's end is read
    record { moves = submit 5 (job 0 15 71 71 30 51) ∷ turn buffer0 64 ∷ turn buffer0 64 ∷ []; tells = (0 ∷ 0 ∷ 0 ∷ 65535 ∷ 65535 ∷ 65535 ∷ 0 ∷ 0 ∷ 0 ∷ 0 ∷ 0 ∷ 0 ∷ 1 ∷ 0 ∷ 0 ∷ []) ∷ (5 ∷ 2 ∷ 2 ∷ 0 ∷ 65535 ∷ 65535 ∷ 65535 ∷ 0 ∷ 6 ∷ 0 ∷ 0 ∷ 0 ∷ 0 ∷ 0 ∷ 0 ∷ 0 ∷ 0 ∷ []) ∷ (35 ∷ 4 ∷ 0 ∷ 65535 ∷ 65535 ∷ 65535 ∷ 6 ∷ 0 ∷ 0 ∷ 0 ∷ 0 ∷ 0 ∷ 0 ∷ 0 ∷ 0 ∷ []) ∷ [] }
    ∷  -- a part that ends with the buffer is read
    record { moves = submit 5 (job 0 15 15 30 51 71) ∷ turn buffer0 64 ∷ submit 5 (job 0 15 15 30 30 51) ∷ turn buffer0 64 ∷ []; tells = (0 ∷ 0 ∷ 0 ∷ 65535 ∷ 65535 ∷ 65535 ∷ 0 ∷ 0 ∷ 0 ∷ 0 ∷ 0 ∷ 0 ∷ 1 ∷ 0 ∷ 0 ∷ []) ∷ (5 ∷ 2 ∷ 3 ∷ 17 ∷ 65535 ∷ 65535 ∷ 65535 ∷ 0 ∷ 6 ∷ 0 ∷ 0 ∷ 0 ∷ 0 ∷ 0 ∷ 0 ∷ 0 ∷ 0 ∷ []) ∷ (0 ∷ 0 ∷ 0 ∷ 65535 ∷ 65535 ∷ 65535 ∷ 6 ∷ 0 ∷ 0 ∷ 0 ∷ 0 ∷ 0 ∷ 1 ∷ 0 ∷ 0 ∷ []) ∷ (5 ∷ 0 ∷ 0 ∷ 0 ∷ 65535 ∷ 65535 ∷ 65535 ∷ 19 ∷ 6 ∷ 0 ∷ 0 ∷ 0 ∷ 0 ∷ 0 ∷ 0 ∷ 0 ∷ 0 ∷ []) ∷ [] }
    ∷  -- 21 serves and clears too
    record { moves = submit 0 (job 0 15 15 30 30 51) ∷ submit 1 (job 0 15 15 30 30 51) ∷ turn buffer0 18 ∷ turn buffer0 64 ∷ turn buffer0 64 ∷ []; tells = (0 ∷ 0 ∷ 0 ∷ 65535 ∷ 65535 ∷ 65535 ∷ 0 ∷ 1 ∷ 0 ∷ 0 ∷ 0 ∷ 0 ∷ 0 ∷ 0 ∷ 0 ∷ []) ∷ (0 ∷ 0 ∷ 0 ∷ 65535 ∷ 65535 ∷ 65535 ∷ 0 ∷ 1 ∷ 1 ∷ 0 ∷ 0 ∷ 0 ∷ 0 ∷ 0 ∷ 0 ∷ []) ∷ (0 ∷ 21 ∷ 4 ∷ 19 ∷ 65535 ∷ 65535 ∷ 65535 ∷ 0 ∷ 1 ∷ 0 ∷ 1 ∷ 0 ∷ 0 ∷ 0 ∷ 0 ∷ 0 ∷ 0 ∷ []) ∷ (1 ∷ 0 ∷ 0 ∷ 0 ∷ 65535 ∷ 65535 ∷ 65535 ∷ 19 ∷ 2 ∷ 0 ∷ 0 ∷ 0 ∷ 0 ∷ 0 ∷ 0 ∷ 0 ∷ 0 ∷ []) ∷ (35 ∷ 4 ∷ 0 ∷ 65535 ∷ 65535 ∷ 65535 ∷ 2 ∷ 0 ∷ 0 ∷ 0 ∷ 0 ∷ 0 ∷ 0 ∷ 0 ∷ 0 ∷ []) ∷ [] }
    ∷  -- the buffer as it is at the turn
    record { moves = submit 0 (job 0 15 15 30 30 51) ∷ turn buffer1 64 ∷ submit 0 (job 0 15 15 30 30 51) ∷ turn buffer2 64 ∷ submit 0 (job 0 15 15 30 51 71) ∷ turn buffer2 64 ∷ []; tells = (0 ∷ 0 ∷ 0 ∷ 65535 ∷ 65535 ∷ 65535 ∷ 0 ∷ 1 ∷ 0 ∷ 0 ∷ 0 ∷ 0 ∷ 0 ∷ 0 ∷ 0 ∷ []) ∷ (0 ∷ 34 ∷ 4 ∷ 0 ∷ 65535 ∷ 65535 ∷ 65535 ∷ 0 ∷ 1 ∷ 0 ∷ 0 ∷ 0 ∷ 0 ∷ 0 ∷ 0 ∷ 0 ∷ 0 ∷ []) ∷ (0 ∷ 0 ∷ 0 ∷ 65535 ∷ 65535 ∷ 65535 ∷ 1 ∷ 1 ∷ 0 ∷ 0 ∷ 0 ∷ 0 ∷ 0 ∷ 0 ∷ 0 ∷ []) ∷ (0 ∷ 0 ∷ 0 ∷ 0 ∷ 65535 ∷ 65535 ∷ 65535 ∷ 19 ∷ 1 ∷ 0 ∷ 0 ∷ 0 ∷ 0 ∷ 0 ∷ 0 ∷ 0 ∷ 0 ∷ []) ∷ (0 ∷ 0 ∷ 0 ∷ 65535 ∷ 65535 ∷ 65535 ∷ 1 ∷ 1 ∷ 0 ∷ 0 ∷ 0 ∷ 0 ∷ 0 ∷ 0 ∷ 0 ∷ []) ∷ (0 ∷ 34 ∷ 4 ∷ 0 ∷ 65535 ∷ 65535 ∷ 65535 ∷ 0 ∷ 1 ∷ 0 ∷ 0 ∷ 0 ∷ 0 ∷ 0 ∷ 0 ∷ 0 ∷ 0 ∷ []) ∷ [] }
    ∷  -- a submission does not move the look
    record { moves = submit 3 (job 0 15 15 30 30 51) ∷ turn buffer0 64 ∷ submit 3 (job 0 15 15 30 30 51) ∷ submit 2 (job 0 15 15 30 30 51) ∷ submit 5 (job 0 15 15 30 30 51) ∷ turn buffer0 64 ∷ turn buffer0 64 ∷ turn buffer0 64 ∷ []; tells = (0 ∷ 0 ∷ 0 ∷ 65535 ∷ 65535 ∷ 65535 ∷ 0 ∷ 0 ∷ 0 ∷ 0 ∷ 1 ∷ 0 ∷ 0 ∷ 0 ∷ 0 ∷ []) ∷ (3 ∷ 0 ∷ 0 ∷ 0 ∷ 65535 ∷ 65535 ∷ 65535 ∷ 19 ∷ 4 ∷ 0 ∷ 0 ∷ 0 ∷ 0 ∷ 0 ∷ 0 ∷ 0 ∷ 0 ∷ []) ∷ (0 ∷ 0 ∷ 0 ∷ 65535 ∷ 65535 ∷ 65535 ∷ 4 ∷ 0 ∷ 0 ∷ 0 ∷ 1 ∷ 0 ∷ 0 ∷ 0 ∷ 0 ∷ []) ∷ (0 ∷ 0 ∷ 0 ∷ 65535 ∷ 65535 ∷ 65535 ∷ 4 ∷ 0 ∷ 0 ∷ 1 ∷ 1 ∷ 0 ∷ 0 ∷ 0 ∷ 0 ∷ []) ∷ (0 ∷ 0 ∷ 0 ∷ 65535 ∷ 65535 ∷ 65535 ∷ 4 ∷ 0 ∷ 0 ∷ 1 ∷ 1 ∷ 0 ∷ 1 ∷ 0 ∷ 0 ∷ []) ∷ (5 ∷ 0 ∷ 0 ∷ 0 ∷ 65535 ∷ 65535 ∷ 65535 ∷ 19 ∷ 6 ∷ 0 ∷ 0 ∷ 1 ∷ 1 ∷ 0 ∷ 0 ∷ 0 ∷ 0 ∷ []) ∷ (2 ∷ 0 ∷ 0 ∷ 0 ∷ 65535 ∷ 65535 ∷ 65535 ∷ 19 ∷ 3 ∷ 0 ∷ 0 ∷ 0 ∷ 1 ∷ 0 ∷ 0 ∷ 0 ∷ 0 ∷ []) ∷ (3 ∷ 0 ∷ 0 ∷ 0 ∷ 65535 ∷ 65535 ∷ 65535 ∷ 19 ∷ 4 ∷ 0 ∷ 0 ∷ 0 ∷ 0 ∷ 0 ∷ 0 ∷ 0 ∷ 0 ∷ []) ∷ [] }
    ∷  -- a cancellation does not move it
    record { moves = submit 3 (job 0 15 15 30 30 51) ∷ turn buffer0 64 ∷ submit 4 (job 0 15 15 30 30 51) ∷ submit 6 (job 0 15 15 30 30 51) ∷ submit 1 (job 0 15 15 30 30 51) ∷ cancel 4 ∷ turn buffer0 64 ∷ turn buffer0 64 ∷ turn buffer0 64 ∷ []; tells = (0 ∷ 0 ∷ 0 ∷ 65535 ∷ 65535 ∷ 65535 ∷ 0 ∷ 0 ∷ 0 ∷ 0 ∷ 1 ∷ 0 ∷ 0 ∷ 0 ∷ 0 ∷ []) ∷ (3 ∷ 0 ∷ 0 ∷ 0 ∷ 65535 ∷ 65535 ∷ 65535 ∷ 19 ∷ 4 ∷ 0 ∷ 0 ∷ 0 ∷ 0 ∷ 0 ∷ 0 ∷ 0 ∷ 0 ∷ []) ∷ (0 ∷ 0 ∷ 0 ∷ 65535 ∷ 65535 ∷ 65535 ∷ 4 ∷ 0 ∷ 0 ∷ 0 ∷ 0 ∷ 1 ∷ 0 ∷ 0 ∷ 0 ∷ []) ∷ (0 ∷ 0 ∷ 0 ∷ 65535 ∷ 65535 ∷ 65535 ∷ 4 ∷ 0 ∷ 0 ∷ 0 ∷ 0 ∷ 1 ∷ 0 ∷ 1 ∷ 0 ∷ []) ∷ (0 ∷ 0 ∷ 0 ∷ 65535 ∷ 65535 ∷ 65535 ∷ 4 ∷ 0 ∷ 1 ∷ 0 ∷ 0 ∷ 1 ∷ 0 ∷ 1 ∷ 0 ∷ []) ∷ (0 ∷ 0 ∷ 0 ∷ 65535 ∷ 65535 ∷ 65535 ∷ 4 ∷ 0 ∷ 1 ∷ 0 ∷ 0 ∷ 0 ∷ 0 ∷ 1 ∷ 0 ∷ []) ∷ (6 ∷ 0 ∷ 0 ∷ 0 ∷ 65535 ∷ 65535 ∷ 65535 ∷ 19 ∷ 7 ∷ 0 ∷ 1 ∷ 0 ∷ 0 ∷ 0 ∷ 0 ∷ 0 ∷ 0 ∷ []) ∷ (1 ∷ 0 ∷ 0 ∷ 0 ∷ 65535 ∷ 65535 ∷ 65535 ∷ 19 ∷ 2 ∷ 0 ∷ 0 ∷ 0 ∷ 0 ∷ 0 ∷ 0 ∷ 0 ∷ 0 ∷ []) ∷ (35 ∷ 4 ∷ 0 ∷ 65535 ∷ 65535 ∷ 65535 ∷ 2 ∷ 0 ∷ 0 ∷ 0 ∷ 0 ∷ 0 ∷ 0 ∷ 0 ∷ 0 ∷ []) ∷ [] }
    ∷  -- an idle turn does not move it
    record { moves = submit 3 (job 0 15 15 30 30 51) ∷ turn buffer0 64 ∷ turn buffer0 64 ∷ submit 3 (job 0 15 15 30 30 51) ∷ submit 4 (job 0 15 15 30 30 51) ∷ turn buffer0 64 ∷ turn buffer0 64 ∷ []; tells = (0 ∷ 0 ∷ 0 ∷ 65535 ∷ 65535 ∷ 65535 ∷ 0 ∷ 0 ∷ 0 ∷ 0 ∷ 1 ∷ 0 ∷ 0 ∷ 0 ∷ 0 ∷ []) ∷ (3 ∷ 0 ∷ 0 ∷ 0 ∷ 65535 ∷ 65535 ∷ 65535 ∷ 19 ∷ 4 ∷ 0 ∷ 0 ∷ 0 ∷ 0 ∷ 0 ∷ 0 ∷ 0 ∷ 0 ∷ []) ∷ (35 ∷ 4 ∷ 0 ∷ 65535 ∷ 65535 ∷ 65535 ∷ 4 ∷ 0 ∷ 0 ∷ 0 ∷ 0 ∷ 0 ∷ 0 ∷ 0 ∷ 0 ∷ []) ∷ (0 ∷ 0 ∷ 0 ∷ 65535 ∷ 65535 ∷ 65535 ∷ 4 ∷ 0 ∷ 0 ∷ 0 ∷ 1 ∷ 0 ∷ 0 ∷ 0 ∷ 0 ∷ []) ∷ (0 ∷ 0 ∷ 0 ∷ 65535 ∷ 65535 ∷ 65535 ∷ 4 ∷ 0 ∷ 0 ∷ 0 ∷ 1 ∷ 1 ∷ 0 ∷ 0 ∷ 0 ∷ []) ∷ (4 ∷ 0 ∷ 0 ∷ 0 ∷ 65535 ∷ 65535 ∷ 65535 ∷ 19 ∷ 5 ∷ 0 ∷ 0 ∷ 0 ∷ 1 ∷ 0 ∷ 0 ∷ 0 ∷ 0 ∷ []) ∷ (3 ∷ 0 ∷ 0 ∷ 0 ∷ 65535 ∷ 65535 ∷ 65535 ∷ 19 ∷ 4 ∷ 0 ∷ 0 ∷ 0 ∷ 0 ∷ 0 ∷ 0 ∷ 0 ∷ 0 ∷ []) ∷ [] }
    ∷  -- a job that comes again is another
    record { moves = submit 2 (job 0 15 15 30 51 71) ∷ cancel 2 ∷ submit 2 (job 0 15 15 30 30 51) ∷ turn buffer0 64 ∷ submit 2 (job 0 15 15 30 51 71) ∷ turn buffer0 64 ∷ []; tells = (0 ∷ 0 ∷ 0 ∷ 65535 ∷ 65535 ∷ 65535 ∷ 0 ∷ 0 ∷ 0 ∷ 1 ∷ 0 ∷ 0 ∷ 0 ∷ 0 ∷ 0 ∷ []) ∷ (0 ∷ 0 ∷ 0 ∷ 65535 ∷ 65535 ∷ 65535 ∷ 0 ∷ 0 ∷ 0 ∷ 0 ∷ 0 ∷ 0 ∷ 0 ∷ 0 ∷ 0 ∷ []) ∷ (0 ∷ 0 ∷ 0 ∷ 65535 ∷ 65535 ∷ 65535 ∷ 0 ∷ 0 ∷ 0 ∷ 1 ∷ 0 ∷ 0 ∷ 0 ∷ 0 ∷ 0 ∷ []) ∷ (2 ∷ 0 ∷ 0 ∷ 0 ∷ 65535 ∷ 65535 ∷ 65535 ∷ 19 ∷ 3 ∷ 0 ∷ 0 ∷ 0 ∷ 0 ∷ 0 ∷ 0 ∷ 0 ∷ 0 ∷ []) ∷ (0 ∷ 0 ∷ 0 ∷ 65535 ∷ 65535 ∷ 65535 ∷ 3 ∷ 0 ∷ 0 ∷ 1 ∷ 0 ∷ 0 ∷ 0 ∷ 0 ∷ 0 ∷ []) ∷ (2 ∷ 2 ∷ 3 ∷ 17 ∷ 65535 ∷ 65535 ∷ 65535 ∷ 0 ∷ 3 ∷ 0 ∷ 0 ∷ 0 ∷ 0 ∷ 0 ∷ 0 ∷ 0 ∷ 0 ∷ []) ∷ [] }
    ∷ []
