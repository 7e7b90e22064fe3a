-- The scheduler is fair. How far a waiting seat is ahead of the look falls at each turn that serves another, and no other call changes it. Assumes nothing.
use mathlib.Core.Path.{◌≡◌, refl, sym, ◌∙◌, ap, subst}
use mathlib.Core.Logic.{◌⊎◌, inl, inr}
use mathlib.Core.Bool.{Bool, true, false, not, cond, ◌&&◌}
use mathlib.Core.List.{List, [], ◌∷◌, ◌++◌}
use mathlib.Core.Option.{Option, some}
use mathlib.Core.Option as maybe
use Prim.Native.Nat.{ℕ, suc, ◌%◌, ◌≤◌, ◌<◌}
use native.Mathlib.Omega.{arith}
use borrow.Author.Tests.{ltb-true, ltb-false, eqb-true, eqb-false, le-leb}
use lib.Dec.{eqb, ltb}
use lib.ListN.{length, get_or, set, length-set, get_or-replicate}
use lib.Seq.{get_or-set_same, get_or-set_other}
use Rattle.forms.specs.Forms.{All, nil, cons}
use Rattle.answers.specs.declared.Answer.{Answer}
use Rattle.answers.specs.declared.WriteResult.{WriteResult}
use Rattle.answers.specs.Answers.{acceptance, Result, refused, accepted, Written, written_of}
use Rattle.scheduler.specs.declared.Job.{Job}
use Rattle.scheduler.specs.declared.Slot.{Slot}
use Rattle.scheduler.specs.declared.Scheduler.{Scheduler}
use Rattle.scheduler.specs.declared.Changed.{Changed}
use Rattle.scheduler.specs.declared.Turned.{Turned}
use Rattle.scheduler.specs.Scheduler.{vacant, holding, empty, slot_at, is_waiting, with_slot, refusal, after, next_seat, parts_within, check_job, TurnLeaves, turn_at, turn}
use Rattle.scheduler.specs.Promises.{changed, Submits, Cancels, turn_leaves_of, Turns}
use Rattle.scheduler.specs.Fair.{Call, submitted, cancelled, turned, leaves, Ensures, Trace, none, next, turns, CancelledAt, ServedAt, Idle, AllLie, CheckedAlone, WaitsThrough, Fate, look_after, slot_after, CallsAnswered, Fair}
use Rattle.scheduler.proofs.Looking.{Ahead, near, Finds, looks, passes, nobody, next-seated, next-waits, next-nth}
use Rattle.scheduler.proofs.Changing.{submission-29, submission-30, submission-taken, cancellation-29, cancellation-31, cancellation-taken, all_lie, check-outside, check-inside}

-- ---- a job waits at a seat, n seats ahead of the look
pub record Waits (s : Scheduler) (seat : ℕ) (job : Job) (n : ℕ) : Type 0 where
  pub eight : length s.slots ≡ 8
  pub below : seat < 8
  pub is : slot_at s seat ≡ holding job
  pub ahead : Ahead (s.first % 8) seat n

waiting : {s : Scheduler} {seat : ℕ} {job : Job} {n : ℕ} → Waits s seat job n → is_waiting s seat ≡ true
unfolding is_waiting
waiting w = rw w.is refl

-- another slot is set
elsewhere : {s s' : Scheduler} {seat : ℕ} {job : Job} {n : ℕ} (at : ℕ) (x : Slot) → Waits s seat job n → (seat ≡ at → ⊥) → s' ≡ with_slot s at x → Waits s' seat job n
elsewhere {s} {s'} {seat} {job} {n} at x w d e =
    subst (λ (t : Scheduler). Waits t seat job n) (sym e)
    (record { eight = length-set s.slots at x ∙ w.eight; below = w.below; is = get_or-set_other s.slots at seat x vacant d ∙ w.is; ahead = w.ahead })

-- ---- what a change gives, by cases
scheduler-of : {r : Changed} {s : Scheduler} {x : Result Scheduler} {a : Answer} → r ≡ changed s x → x ≡ refused a → (r.scheduler ≡ s) × (r.answer ≡ a)
unfolding changed
scheduler-of {r} {s} {x} {a} e q = let z : r ≡ record { answer = a; scheduler = s } = e ∙ rw q refl in (ap (λ (c : Changed). c.scheduler) z, ap (λ (c : Changed). c.answer) z)

scheduler-taken : (s : Scheduler) {r : Changed} {t : Scheduler} {x : Result Scheduler} → r ≡ changed s x → x ≡ accepted t → (r.scheduler ≡ t) × (r.answer ≡ acceptance)
unfolding changed
scheduler-taken s {r} {t} {x} e q = let z : r ≡ record { answer = acceptance; scheduler = t } = e ∙ rw q refl in (ap (λ (c : Changed). c.scheduler) z, ap (λ (c : Changed). c.answer) z)

data Case (s : Scheduler) (at : ℕ) : Type 0 where
  high : 8 ≤ at → Case s at
  busy : at < 8 → is_waiting s at ≡ true → Case s at
  free : at < 8 → is_waiting s at ≡ false → Case s at

case : (s : Scheduler) (at : ℕ) → Case s at
case s at = go (ltb at 8) refl (is_waiting s at) refl
  where
    go : (b : Bool) → ltb at 8 ≡ b → (w : Bool) → is_waiting s at ≡ w → Case s at
    go false e w q = high (ltb-false at 8 e)
    go true e true q = busy (ltb-true at 8 e) q
    go true e false q = free (ltb-true at 8 e) q

true-false : {b : Bool} → b ≡ true → b ≡ false → ⊥
true-false {b} p q = let z : ◌≡◌ {A = ℕ} 0 1 = cc in omega arith

-- ---- a submission and a cancellation leave it where it is
module _ {s : Scheduler} {seat : ℕ} {job : Job} {n : ℕ} (w : Waits s seat job n) where
  unmoved : {s' : Scheduler} → s' ≡ s → Waits s' seat job n
  unmoved e = subst (λ (t : Scheduler). Waits t seat job n) (sym e) w

  by-submission : (at : ℕ) (other : Job) (r : Changed) → Submits s at other r → Waits r.scheduler seat job n
  by-submission at other r c = go (case s at)
    where
      go : Case s at → Waits r.scheduler seat job n
      go (high h) = unmoved (scheduler-of c.is (submission-29 s at other h)).0
      go (busy h b) = unmoved (scheduler-of c.is (submission-30 s at other h b)).0
      go (free h f) = elsewhere at (holding other) w (λ e. true-false (waiting w) (subst (λ (k : ℕ). is_waiting s k ≡ false) (sym e) f)) (scheduler-taken s c.is (submission-taken s at other h f)).0

  by-cancellation : (at : ℕ) (r : Changed) → Cancels s at r → (CancelledAt seat (cancelled at r) → ⊥) → Waits r.scheduler seat job n
  by-cancellation at r c k = go (case s at)
    where
      go : Case s at → Waits r.scheduler seat job n
      go (high h) = unmoved (scheduler-of c.is (cancellation-29 s at h)).0
      go (free h f) = unmoved (scheduler-of c.is (cancellation-31 s at h f)).0
      go (busy h b) =
          let (q, a) = scheduler-taken s c.is (cancellation-taken s at h b) in
          elsewhere at vacant w (λ e. k (sym e, ap (λ (x : Answer). x.number) a)) q

-- ---- a turn serves it, or brings it nearer
-- what a turn that found a seat gives
record Turns-at (s : Scheduler) (buffer output left : List ℕ) (r : Turned) (seat : ℕ) : Type 0 where
  busy : r.idle ≡ false
  seat_is : r.seat ≡ seat
  written_is : written_of r.result left ≡ check_job (slot_at s seat).job buffer output
  slots-are : r.scheduler.slots ≡ set s.slots seat vacant
  first-is : r.scheduler.first ≡ after seat

turns_at : {s : Scheduler} {buffer output left : List ℕ} {r : Turned} {seat : ℕ} → Turns s buffer output left r → next_seat s ≡ some seat → Turns-at s buffer output left r seat
unfolding turn turn_at
turns_at {s} {buffer} {output} {left} {r} {seat} c e =
    let z : turn_leaves_of r left ≡ turn_at s buffer output (some seat) = c.is ∙ ap (λ (x : Option ℕ). turn_at s buffer output x) e in
    record {
      busy = ap (λ (t : TurnLeaves). t.idle) z;
      seat_is = ap (λ (t : TurnLeaves). t.seat) z;
      written_is = ap (λ (t : TurnLeaves). t.written) z;
      slots-are = ap (λ (t : TurnLeaves). t.scheduler.slots) z;
      first-is = ap (λ (t : TurnLeaves). t.scheduler.first) z;
    }

turns-idle : {s : Scheduler} {buffer output left : List ℕ} {r : Turned} → Turns s buffer output left r → next_seat s ≡ maybe.none
    → turn_leaves_of r left ≡ record { idle = true; seat = 0; written = record { answer = refusal 35; count = 0; output = output }; scheduler = s }
unfolding turn turn_at
turns-idle {s} {buffer} {output} c e = c.is ∙ ap (λ (x : Option ℕ). turn_at s buffer output x) e

-- the answer is that of check alone
lie : (buffer : List ℕ) (job : Job) → AllLie buffer job → parts_within (length buffer) job ≡ true
lie buffer job l = rw (le-leb _ _ l.a.0, le-leb _ _ l.a.1, le-leb _ _ l.b.0, le-leb _ _ l.b.1, le-leb _ _ l.proof.0, le-leb _ _ l.proof.1) refl

-- whether all parts lie in the buffer can be told
pub lie-or-not : (buffer : List ℕ) (job : Job) → AllLie buffer job ⊎ (AllLie buffer job → ⊥)
lie-or-not buffer job = go (parts_within (length buffer) job) refl
  where
    go : (b : Bool) → parts_within (length buffer) job ≡ b → AllLie buffer job ⊎ (AllLie buffer job → ⊥)
    go true q = let (a, b, p) = all_lie (length buffer) job q in inl (record { a = a; b = b; proof = p })
    go false q = inr (λ l. true-false (lie buffer job l) q)

alone : (job : Job) (buffer output left : List ℕ) (r : WriteResult) → written_of r left ≡ check_job job buffer output → CheckedAlone job buffer output left r
alone job buffer output left r e = record {
  checks = λ l. record { is = e ∙ check-inside job buffer output (lie buffer job l) };
  outside = λ l. go l (parts_within (length buffer) job) refl;
}
  where
    go : (AllLie buffer job → ⊥) → (b : Bool) → parts_within (length buffer) job ≡ b → (r.answer ≡ refusal 34) × (r.count ≡ 0) × (left ≡ output)
    go l true q = absurd (let (a, b, p) = all_lie (length buffer) job q in l (record { a = a; b = b; proof = p }))
    go l false q =
        let z : written_of r left ≡ record { answer = refusal 34; count = 0; output = output } = e ∙ check-outside job buffer output q in
        (ap (λ (w : Written). w.answer) z, ap (λ (w : Written). w.count) z, ap (λ (w : Written). w.output) z)

-- what one turn does to a waiting job
data Turn (s : Scheduler) (seat : ℕ) (job : Job) (n : ℕ) (buffer output left : List ℕ) (r : Turned) : Type 0 where
  serves : r.idle ≡ false → r.seat ≡ seat → CheckedAlone job buffer output left r.result → Turn s seat job n buffer output left r
  nears : (m : ℕ) → m < n → r.idle ≡ false → (r.seat ≡ seat → ⊥) → Waits r.scheduler seat job m → Turn s seat job n buffer output left r

first_below : (seat : ℕ) → after seat ≡ after seat % 8
first_below seat = omega arith

module _ {s : Scheduler} {seat : ℕ} {job : Job} {n : ℕ} (w : Waits s seat job n) (few : n ≤ 7) where
  finds : Finds s (s.first % 8) seat n 8
  finds = looks s w.ahead (waiting w) 8 (omega arith)

  finds-next : next_seat s ≡ some finds.seat
  unfolding next_seat
  finds-next = finds.is

  by_turn : (buffer output left : List ℕ) (r : Turned) → Turns s buffer output left r → Turn s seat job n buffer output left r
  by_turn buffer output left r c = go (eqb finds.seat seat) refl finds.nearer
    where
      at : Turns-at s buffer output left r finds.seat
      at = turns_at c finds-next

      here : finds.seat ≡ seat → Turn s seat job n buffer output left r
      here e = serves at.busy (at.seat_is ∙ e) (alone job buffer output left r.result (at.written_is ∙ ap (λ (k : ℕ). check_job (slot_at s k).job buffer output) e ∙ ap (λ (x : Slot). check_job x.job buffer output) w.is))

      go : (b : Bool) → eqb finds.seat seat ≡ b → (finds.seat ≡ seat) ⊎ ((m : ℕ) × (m < n) × Ahead (after finds.seat) seat m) → Turn s seat job n buffer output left r
      go b e (inl q) = here q
      go true e (inr _) = here (eqb-true _ _ e)
      go false e (inr (m, l, a)) =
          let d : finds.seat ≡ seat → ⊥ = eqb-false _ _ e in
          nears m l at.busy (λ q. d (sym at.seat_is ∙ q))
          (record {
            eight = ap length at.slots-are ∙ length-set s.slots finds.seat vacant ∙ w.eight;
            below = w.below;
            is = ap (λ (l : List Slot). get_or l seat vacant) at.slots-are ∙ get_or-set_other s.slots finds.seat seat vacant vacant (λ q. d (sym q)) ∙ w.is;
            ahead = subst (λ (k : ℕ). Ahead k seat m) (first_below finds.seat ∙ ap (λ (k : ℕ). k % 8) (sym at.first-is)) a;
          })

-- ---- over a run
-- a job waits through some calls, at most n of them turns
record Through (seat : ℕ) (calls : List Call) (n : ℕ) : Type 0 where
  soon : turns calls ≤ n
  none_idle : All (λ c. Idle c → ⊥) calls
  unserved : All (λ c. ServedAt seat c → ⊥) calls
  kept : All (λ c. CancelledAt seat c → ⊥) calls

at_once : {seat n : ℕ} → Through seat [] n
unfolding turns
at_once = record { soon = omega arith; none_idle = nil; unserved = nil; kept = nil }

waits-through : {seat n : ℕ} {calls : List Call} → n ≤ 7 → Through seat calls n → WaitsThrough seat calls
waits-through few t = record { soon = omega (arith, t.soon, few); none_idle = t.none_idle; unserved = t.unserved; kept = t.kept }

-- what becomes of it
data Becomes (seat : ℕ) (job : Job) (calls : List Call) (s : Scheduler) (n : ℕ) : Type 0 where
  becomes-served : (before after : List Call) (buffer output left : List ℕ) (r : Turned) → calls ≡ before ++ (turned buffer output left r ∷ after) → Through seat before n
      → r.idle ≡ false → r.seat ≡ seat → CheckedAlone job buffer output left r.result → Becomes seat job calls s n
  becomes-cancelled : (before after : List Call) (r : Changed) → calls ≡ before ++ (cancelled seat r ∷ after) → Through seat before n → r.answer.number ≡ 0 → Becomes seat job calls s n
  goes-on-waiting : Through seat calls n → slot_at s seat ≡ holding job → Becomes seat job calls s n

module _ {seat m n : ℕ} (c : Call) (unserved : ServedAt seat c → ⊥) (kept : CancelledAt seat c → ⊥) (busy : Idle c → ⊥) (counts : (before : List Call) → turns before ≤ m → turns (c ∷ before) ≤ n) where
  longer : {before : List Call} → Through seat before m → Through seat (c ∷ before) n
  longer {before} t = record { soon = counts before t.soon; none_idle = cons busy t.none_idle; unserved = cons unserved t.unserved; kept = cons kept t.kept }

  later : {job : Job} {calls : List Call} {s : Scheduler} → Becomes seat job calls s m → Becomes seat job (c ∷ calls) s n
  later (becomes-served before after buffer output left r e t b q a) = becomes-served (c ∷ before) after buffer output left r (ap (λ (l : List Call). c ∷ l) e) (longer t) b q a
  later (becomes-cancelled before after r e t q) = becomes-cancelled (c ∷ before) after r (ap (λ (l : List Call). c ∷ l) e) (longer t) q
  later (goes-on-waiting t q) = goes-on-waiting (longer t) q

fate-of : {s s' : Scheduler} {calls : List Call} {seat : ℕ} {job : Job} {n : ℕ} → Trace s calls s' → Waits s seat job n → n ≤ 7 → Becomes seat job calls s' n
unfolding turns
fate-of none w few = goes-on-waiting at_once w.is
fate-of (next (submitted at other r) c run) w few = later (submitted at other r) (λ x. x) (λ x. x) (λ x. x) (λ b l. l) (fate-of run (by-submission w at other r c) few)
fate-of {seat = seat} {job = job} {n = n} (next {s} {s'} {calls} (cancelled at r) c run) w few = go (λ k. fate-of run (by-cancellation w at r c k) few) (eqb at seat) refl (eqb r.answer.number 0) refl
  where
    go : ((CancelledAt seat (cancelled at r) → ⊥) → Becomes seat job calls s' n) → (x : Bool) → eqb at seat ≡ x → (y : Bool) → eqb r.answer.number 0 ≡ y → Becomes seat job (cancelled at r ∷ calls) s' n
    go ih true p true q = becomes-cancelled [] calls r (ap (λ (k : ℕ). cancelled k r ∷ calls) (eqb-true _ _ p)) at_once (eqb-true _ _ q)
    go ih true p false q = let k : CancelledAt seat (cancelled at r) → ⊥ = λ z. eqb-false _ _ q z.1 in later (cancelled at r) (λ x. x) k (λ x. x) (λ b l. l) (ih k)
    go ih false p y q = let k : CancelledAt seat (cancelled at r) → ⊥ = λ z. eqb-false _ _ p z.0 in later (cancelled at r) (λ x. x) k (λ x. x) (λ b l. l) (ih k)
fate-of {seat = seat} {job = job} {n = n} (next {s} {s'} {calls} (turned buffer output left r) c run) w few = go (λ m l x. fate-of {n = m} run x (omega arith)) (by_turn w few buffer output left r c)
  where
    go : ((m : ℕ) → m < n → Waits r.scheduler seat job m → Becomes seat job calls s' m) → Turn s seat job n buffer output left r → Becomes seat job (turned buffer output left r ∷ calls) s' n
    go ih (serves b e a) = becomes-served [] calls buffer output left r refl at_once b e a
    go ih (nears m l b d x) = later (turned buffer output left r) (λ y. d y.1) (λ y. y) (λ y. true-false y b) (λ b q. omega arith) (ih m l x)

fated : {seat : ℕ} {job : Job} {calls : List Call} {s : Scheduler} {n : ℕ} → n ≤ 7 → Becomes seat job calls s n → Fate seat job calls s
fated few (becomes-served before after buffer output left r e t b q a) =
    Fate.is_served (record { before = before; after = after; buffer = buffer; output = output; left = left; r = r; are = e; waited = waits-through few t; busy = b; seat_is = q; alone = a })
fated few (becomes-cancelled before after r e t q) = Fate.is_cancelled (record { before = before; after = after; r = r; are = e; waited = waits-through few t; taken_back = q })
fated few (goes-on-waiting t q) = Fate.still_waits (record { waited = waits-through few t; holds = q })

-- ---- from an empty desk on there are eight slots
eight-step : (s : Scheduler) (c : Call) → Ensures s c → length s.slots ≡ 8 → length (leaves c).slots ≡ 8
eight-step s (submitted at other r) c h = go (case s at)
  where
    go : Case s at → length r.scheduler.slots ≡ 8
    go (high l) = ap (λ (t : Scheduler). length t.slots) (scheduler-of c.is (submission-29 s at other l)).0 ∙ h
    go (busy l b) = ap (λ (t : Scheduler). length t.slots) (scheduler-of c.is (submission-30 s at other l b)).0 ∙ h
    go (free l f) = ap (λ (t : Scheduler). length t.slots) (scheduler-taken s c.is (submission-taken s at other l f)).0 ∙ length-set s.slots at (holding other) ∙ h
eight-step s (cancelled at r) c h = go (case s at)
  where
    go : Case s at → length r.scheduler.slots ≡ 8
    go (high l) = ap (λ (t : Scheduler). length t.slots) (scheduler-of c.is (cancellation-29 s at l)).0 ∙ h
    go (free l f) = ap (λ (t : Scheduler). length t.slots) (scheduler-of c.is (cancellation-31 s at l f)).0 ∙ h
    go (busy l b) = ap (λ (t : Scheduler). length t.slots) (scheduler-taken s c.is (cancellation-taken s at l b)).0 ∙ length-set s.slots at vacant ∙ h
eight-step s (turned buffer output left r) c h = go (next_seat s) refl
  where
    go : (x : Option ℕ) → next_seat s ≡ x → length r.scheduler.slots ≡ 8
    go (some seat) e = ap length (turns_at c e).slots-are ∙ length-set s.slots seat vacant ∙ h
    go maybe.none e = ap (λ (t : TurnLeaves). length t.scheduler.slots) (turns-idle c e) ∙ h

eight-run : {s s' : Scheduler} {calls : List Call} → Trace s calls s' → length s.slots ≡ 8 → length s'.slots ≡ 8
eight-run none h = h
eight-run (next {s} c k run) h = eight-run run (eight-step s c k h)

-- a job that is taken waits
taken : (s : Scheduler) (seat : ℕ) (job : Job) (r : Changed) → length s.slots ≡ 8 → Submits s seat job r → r.answer.number ≡ 0 → (n : ℕ) × (n ≤ 7) × Waits r.scheduler seat job n
taken s seat job r eight c h = go (case s seat)
  where
    fails : {k : ℕ} → r.answer ≡ refusal (suc k) → ⊥
    fails e = let z = ap (λ (x : Answer). x.number) e in omega arith

    go : Case s seat → (n : ℕ) × (n ≤ 7) × Waits r.scheduler seat job n
    go (high l) = absurd (fails (scheduler-of c.is (submission-29 s seat job l)).1)
    go (busy l b) = absurd (fails (scheduler-of c.is (submission-30 s seat job l b)).1)
    go (free l f) =
        let q = (scheduler-taken s c.is (submission-taken s seat job l f)).0 in
        let (n, few, a) = near (s.first % 8) seat (omega arith) l in
        (n, few, subst (λ (t : Scheduler). Waits t seat job n) (sym q) (record { eight = length-set s.slots seat (holding job) ∙ eight; below = l; is = get_or-set_same s.slots seat (holding job) vacant (omega arith); ahead = a }))

-- ---- idle turns
idle-none : (s : Scheduler) → next_seat s ≡ maybe.none → (seat : ℕ) → seat < 8 → is_waiting s seat ≡ false
unfolding next_seat
idle-none s e seat l = let (n, few, a) = near (s.first % 8) seat (omega arith) l in passes s a 8 (omega arith) e

none_idle : (s : Scheduler) → ((seat : ℕ) → seat < 8 → is_waiting s seat ≡ false) → next_seat s ≡ maybe.none
unfolding next_seat
none_idle s h = nobody s h (s.first % 8) 8 (omega arith)

is-idle : {s : Scheduler} {buffer output left : List ℕ} {r : Turned} → Turns s buffer output left r → r.idle ≡ true → next_seat s ≡ maybe.none
is-idle {s} {r = r} c h = go (next_seat s) refl
  where
    go : (x : Option ℕ) → next_seat s ≡ x → x ≡ maybe.none
    go (some seat) e = absurd (true-false h (turns_at c e).busy)
    go maybe.none e = refl

-- ---- what each call answers
-- a turn that is not idle found a seat
is-busy : {s : Scheduler} {buffer output left : List ℕ} {r : Turned} → Turns s buffer output left r → r.idle ≡ false → (seat : ℕ) × (next_seat s ≡ some seat)
is-busy {s} {r = r} c h = go (next_seat s) refl
  where
    go : (x : Option ℕ) → next_seat s ≡ x → (seat : ℕ) × (next_seat s ≡ some seat)
    go (some seat) e = (seat, e)
    go maybe.none e = absurd (true-false (ap (λ (t : TurnLeaves). t.idle) (turns-idle c e)) h)

busy-turn : (s : Scheduler) (buffer output left : List ℕ) (r : Turned) → Turns s buffer output left r → (seat : ℕ) → next_seat s ≡ some seat
    → (r.seat < 8) × (is_waiting s r.seat ≡ true) × (r.scheduler.slots ≡ set s.slots r.seat vacant) × (r.scheduler.first ≡ after r.seat)
    × CheckedAlone (slot_at s r.seat).job buffer output left r.result
busy-turn s buffer output left r c seat e =
    let t = turns_at c e in
    rw t.seat_is (next-seated s e, next-waits s e, t.slots-are, t.first-is, alone (slot_at s seat).job buffer output left r.result t.written_is)

flipped : {X Y : Type 0} → X × Y → Y × X
flipped (x, y) = (y, x)

parted : {r : Changed} (s : Scheduler) (seat : ℕ) (x : Slot) → (r.scheduler ≡ with_slot s seat x) × (r.answer ≡ acceptance)
    → (r.answer ≡ acceptance) × (r.scheduler.slots ≡ set s.slots seat x) × (r.scheduler.first ≡ s.first)
parted s seat x (p, q) = (q, ap (λ (t : Scheduler). t.slots) p, ap (λ (t : Scheduler). t.first) p)

pub answers : CallsAnswered
answers = record {
  submit_29 = λ s seat job r c h. flipped (scheduler-of c.is (submission-29 s seat job h));
  submit_30 = λ s seat job r c h w. flipped (scheduler-of c.is (submission-30 s seat job h w));
  submit_taken = λ s seat job r c h w. parted s seat (holding job) (scheduler-taken s c.is (submission-taken s seat job h w));
  cancel_29 = λ s seat r c h. flipped (scheduler-of c.is (cancellation-29 s seat h));
  cancel_31 = λ s seat r c h w. flipped (scheduler-of c.is (cancellation-31 s seat h w));
  cancel_taken = λ s seat r c h w. parted s seat vacant (scheduler-taken s c.is (cancellation-taken s seat h w));
  turn_serves = λ s buffer output left r c h. let (seat, e) = is-busy c h in busy-turn s buffer output left r c seat e;
  turn_order = λ s buffer output left r c n h w k. let t = turns_at c (next-nth s n h w k) in (t.busy, t.seat_is);
  turn_idle = λ s buffer output left r c h.
      let z = turns-idle c (is-idle c h) in
      (ap (λ (t : TurnLeaves). t.scheduler) z, ap (λ (t : TurnLeaves). t.written.output) z, ap (λ (t : TurnLeaves). t.seat) z, ap (λ (t : TurnLeaves). t.written.answer) z, ap (λ (t : TurnLeaves). t.written.count) z);
}

-- ---- what calls leave, by their answers
look-step : (s : Scheduler) (c : Call) → Ensures s c → (leaves c).first ≡ look_after s.first (c ∷ [])
unfolding look_after
look-step s (submitted at other r) c = go (case s at)
  where
    go : Case s at → r.scheduler.first ≡ s.first
    go (high l) = ap (λ (t : Scheduler). t.first) (scheduler-of c.is (submission-29 s at other l)).0
    go (busy l b) = ap (λ (t : Scheduler). t.first) (scheduler-of c.is (submission-30 s at other l b)).0
    go (free l f) = ap (λ (t : Scheduler). t.first) (scheduler-taken s c.is (submission-taken s at other l f)).0
look-step s (cancelled at r) c = go (case s at)
  where
    go : Case s at → r.scheduler.first ≡ s.first
    go (high l) = ap (λ (t : Scheduler). t.first) (scheduler-of c.is (cancellation-29 s at l)).0
    go (free l f) = ap (λ (t : Scheduler). t.first) (scheduler-of c.is (cancellation-31 s at l f)).0
    go (busy l b) = ap (λ (t : Scheduler). t.first) (scheduler-taken s c.is (cancellation-taken s at l b)).0
look-step s (turned buffer output left r) c = go (next_seat s) refl
  where
    so : {b : Bool} → r.idle ≡ b → cond b s.first (after r.seat) ≡ cond r.idle s.first (after r.seat)
    so e = ap (λ (b : Bool). cond b s.first (after r.seat)) (sym e)

    go : (x : Option ℕ) → next_seat s ≡ x → r.scheduler.first ≡ cond r.idle s.first (after r.seat)
    go (some seat) e = let t = turns_at c e in t.first-is ∙ ap (λ (k : ℕ). after k) (sym t.seat_is) ∙ so t.busy
    go maybe.none e = let z = turns-idle c e in ap (λ (t : TurnLeaves). t.scheduler.first) z ∙ so (ap (λ (t : TurnLeaves). t.idle) z)

look-run : {s s' : Scheduler} {calls : List Call} → Trace s calls s' → s'.first ≡ look_after s.first calls
unfolding look_after
look-run none = refl
look-run (next {s} {calls = calls} (submitted at other r) c run) = look-run run ∙ ap (λ (k : ℕ). look_after k calls) (look-step s (submitted at other r) c)
look-run (next {s} {calls = calls} (cancelled at r) c run) = look-run run ∙ ap (λ (k : ℕ). look_after k calls) (look-step s (cancelled at r) c)
look-run (next {s} {calls = calls} (turned buffer output left r) c run) = look-run run ∙ ap (λ (k : ℕ). look_after k calls) (look-step s (turned buffer output left r) c)

-- a slot that is set, and not
unless : (b c : Bool) (x y : Slot) → c ≡ false → y ≡ cond (b && c) x y
unless true c x y e = rw e refl
unless false c x y e = refl

where-so : (b c : Bool) (x y : Slot) → c ≡ true → cond b x y ≡ cond (b && c) x y
where-so true c x y e = rw e refl
where-so false c x y e = refl

is_set : (slots : List Slot) (at seat : ℕ) (x : Slot) → length slots ≡ 8 → seat < 8 → get_or (set slots at x) seat vacant ≡ cond (eqb at seat) x (get_or slots seat vacant)
is_set slots at seat x eight l = go (eqb at seat) refl
  where
    go : (b : Bool) → eqb at seat ≡ b → get_or (set slots at x) seat vacant ≡ cond b x (get_or slots seat vacant)
    go true e = ap (λ (k : ℕ). get_or (set slots k x) seat vacant) (eqb-true _ _ e) ∙ get_or-set_same slots seat x vacant (omega arith)
    go false e = get_or-set_other slots at seat x vacant (λ q. eqb-false _ _ e (sym q))

module _ (s : Scheduler) (eight : length s.slots ≡ 8) (seat : ℕ) (l : seat < 8) where
  -- a change that is refused, and one that sets a slot
  by-refusal : (r : Changed) (n at : ℕ) (x : Slot) → eqb n 0 ≡ false → (r.scheduler ≡ s) × (r.answer ≡ refusal n) → slot_at r.scheduler seat ≡ cond (eqb at seat && eqb r.answer.number 0) x (slot_at s seat)
  by-refusal r n at x h (p, q) = ap (λ (t : Scheduler). slot_at t seat) p ∙ unless (eqb at seat) _ x (slot_at s seat) (ap (λ (a : Answer). eqb a.number 0) q ∙ h)

  by-setting : (r : Changed) (at : ℕ) (x : Slot) → (r.scheduler ≡ with_slot s at x) × (r.answer ≡ acceptance) → slot_at r.scheduler seat ≡ cond (eqb at seat && eqb r.answer.number 0) x (slot_at s seat)
  by-setting r at x (p, q) = ap (λ (t : Scheduler). slot_at t seat) p ∙ is_set s.slots at seat x eight l ∙ where-so (eqb at seat) _ x (slot_at s seat) (ap (λ (a : Answer). eqb a.number 0) q)

  slot_step : (c : Call) → Ensures s c → slot_at (leaves c) seat ≡ slot_after seat (slot_at s seat) (c ∷ [])
  unfolding slot_after
  slot_step (submitted at other r) c = go (case s at)
    where
      go : Case s at → slot_at r.scheduler seat ≡ cond (eqb at seat && eqb r.answer.number 0) (holding other) (slot_at s seat)
      go (high h) = by-refusal r 29 at (holding other) refl (scheduler-of c.is (submission-29 s at other h))
      go (busy h b) = by-refusal r 30 at (holding other) refl (scheduler-of c.is (submission-30 s at other h b))
      go (free h f) = by-setting r at (holding other) (scheduler-taken s c.is (submission-taken s at other h f))
  slot_step (cancelled at r) c = go (case s at)
    where
      go : Case s at → slot_at r.scheduler seat ≡ cond (eqb at seat && eqb r.answer.number 0) vacant (slot_at s seat)
      go (high h) = by-refusal r 29 at vacant refl (scheduler-of c.is (cancellation-29 s at h))
      go (free h f) = by-refusal r 31 at vacant refl (scheduler-of c.is (cancellation-31 s at h f))
      go (busy h b) = by-setting r at vacant (scheduler-taken s c.is (cancellation-taken s at h b))
  slot_step (turned buffer output left r) c = go (next_seat s) refl
    where
      so : {b : Bool} → r.idle ≡ b → cond (not b && eqb r.seat seat) vacant (slot_at s seat) ≡ cond (not r.idle && eqb r.seat seat) vacant (slot_at s seat)
      so e = ap (λ (b : Bool). cond (not b && eqb r.seat seat) vacant (slot_at s seat)) (sym e)

      go : (x : Option ℕ) → next_seat s ≡ x → slot_at r.scheduler seat ≡ cond (not r.idle && eqb r.seat seat) vacant (slot_at s seat)
      go (some served) e =
          let t = turns_at c e in
          ap (λ (xs : List Slot). get_or xs seat vacant) t.slots-are
          ∙ is_set s.slots served seat vacant eight l
          ∙ ap (λ (k : ℕ). cond (eqb k seat) vacant (slot_at s seat)) (sym t.seat_is)
          ∙ so t.busy
      go maybe.none e = let z = turns-idle c e in ap (λ (t : TurnLeaves). slot_at t.scheduler seat) z ∙ so (ap (λ (t : TurnLeaves). t.idle) z)

slots-run : {s s' : Scheduler} {calls : List Call} (seat : ℕ) → seat < 8 → Trace s calls s' → length s.slots ≡ 8 → slot_at s' seat ≡ slot_after seat (slot_at s seat) calls
unfolding slot_after
slots-run seat l none h = refl
slots-run seat l (next {s} {calls = calls} (submitted at other r) c run) h = slots-run seat l run (eight-step s (submitted at other r) c h) ∙ ap (λ (x : Slot). slot_after seat x calls) (slot_step s h seat l (submitted at other r) c)
slots-run seat l (next {s} {calls = calls} (cancelled at r) c run) h = slots-run seat l run (eight-step s (cancelled at r) c h) ∙ ap (λ (x : Slot). slot_after seat x calls) (slot_step s h seat l (cancelled at r) c)
slots-run seat l (next {s} {calls = calls} (turned buffer output left r) c run) h = slots-run seat l run (eight-step s (turned buffer output left r) c h) ∙ ap (λ (x : Slot). slot_after seat x calls) (slot_step s h seat l (turned buffer output left r) c)

-- at an empty desk no job waits
none-waits : (seat : ℕ) → seat < 8 → slot_at empty seat ≡ vacant
none-waits seat l = get_or-replicate 8 seat vacant vacant l

-- Point 13.
pub fair : Fair
fair = record {
  fate = λ calls s run seat job r c h more s' run'. let (n, few, w) = taken s seat job r (eight-run run refl) c h in fated few (fate-of run' w few);
  look = λ calls s run. look-run run;
  slots = λ calls s run seat l. slots-run seat l run refl ∙ ap (λ (x : Slot). slot_after seat x calls) (none-waits seat l);
  idle_iff = λ s buffer output left r c. (λ h. idle-none s (is-idle c h), λ h. ap (λ (t : TurnLeaves). t.idle) (turns-idle c (none_idle s h)));
}
