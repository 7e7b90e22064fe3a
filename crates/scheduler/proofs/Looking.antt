-- The seats that a turn looks at: one step of the look, and how far a seat is ahead of it. Assumes nothing.
use mathlib.Core.Path.{◌≡◌, refl, sym, ◌∙◌, ap, subst}
use mathlib.Core.Logic.{◌⊎◌, inl, inr}
use mathlib.Core.Bool.{Bool, true, false, cond}
use mathlib.Core.Option.{none, some}
use Prim.Native.Nat.{ℕ, zero, suc, ◌+◌, ◌-◌, ◌%◌, ◌≤◌, ◌<◌}
use native.Mathlib.Omega.{arith}
use borrow.Author.Tests.{leb-true, leb-false, ne_eqb}
use lib.Dec.{leb}
use Rattle.scheduler.specs.declared.Scheduler.{Scheduler}
use Rattle.scheduler.specs.Scheduler.{slot_at, is_waiting, after, next_from, next_seat}

-- ---- whether a job waits
pub waits : (s : Scheduler) (seat : ℕ) → ¬ ((slot_at s seat).waiting ≡ 0) → is_waiting s seat ≡ true
unfolding is_waiting
waits s seat h = rw (ne_eqb _ _ h) refl

pub vacated : (s : Scheduler) (seat : ℕ) → (slot_at s seat).waiting ≡ 0 → is_waiting s seat ≡ false
unfolding is_waiting
vacated s seat h = rw h refl

-- ---- one step of the look
pub found : (s : Scheduler) (seat n : ℕ) → 0 < n → is_waiting s seat ≡ true → some seat ≡ next_from s seat n
unfolding next_from
found s seat zero h w = absurd (omega arith)
found s seat (suc n) h w = rw w refl

pub passed : (s : Scheduler) (seat n : ℕ) → 0 < n → is_waiting s seat ≡ false → next_from s seat n ≡ next_from s (after seat) (n - 1)
unfolding next_from
passed s seat zero h w = absurd (omega arith)
passed s seat (suc n) h w = rw w (let e : n ≡ suc n - 1 = omega arith in ap (λ (k : ℕ). next_from s (after seat) k) e)

skipped : (s : Scheduler) (seat n : ℕ) → is_waiting s seat ≡ false → next_from s seat (suc n) ≡ next_from s (after seat) n
unfolding next_from
skipped s seat n w = rw w refl

pub over : (s : Scheduler) (seat n : ℕ) → n ≤ 0 → none ≡ next_from s seat n
unfolding next_from
over s seat zero h = refl
over s seat (suc n) h = absurd (omega arith)

-- ---- how far a seat is ahead
-- n steps lead from one seat to another.
pub data Ahead : (from to n : ℕ) → Type 0 where
  here : {seat : ℕ} → Ahead seat seat 0
  further : {from to n : ℕ} → Ahead (after from) to n → Ahead from to (suc n)

after_next : (seat : ℕ) → seat < 7 → after seat ≡ suc seat
after_next seat h = omega arith

rising : (n from : ℕ) → from + n < 8 → Ahead from (from + n) n
rising zero from h = subst (λ (to : ℕ). Ahead from to 0) (omega arith) here
rising (suc n) from h = further (subst (λ (next : ℕ). Ahead next (from + suc n) n) (sym (after_next from (omega arith))) (subst (λ (to : ℕ). Ahead (suc from) to n) (omega arith) (rising n (suc from) (omega arith))))

pub counted : {from to m n : ℕ} → m ≡ n → Ahead from to m → Ahead from to n
counted {from} {to} e p = subst (λ (k : ℕ). Ahead from to k) e p

joined : {from to end m n : ℕ} → Ahead from to m → Ahead to end n → Ahead from end (m + n)
joined here q = counted (omega arith) q
joined (further p) q = counted (omega arith) (further (joined p q))

-- A seat is at most seven steps ahead.
pub near : (from to : ℕ) → from < 8 → to < 8 → (n : ℕ) × (n ≤ 7) × Ahead from to n
near from to h k = go (leb from to) refl
  where
    go : (b : Bool) → leb from to ≡ b → (n : ℕ) × (n ≤ 7) × Ahead from to n
    go true e = let below = leb-true from to e in (to - from, omega arith, subst (λ (end : ℕ). Ahead from end (to - from)) (omega arith) (rising (to - from) from (omega arith)))
    go false e =
        let above = leb-false from to e in (
          7 - from + suc to,
          omega arith,
          joined {to = 7} (subst (λ (end : ℕ). Ahead from end (7 - from)) (omega arith) (rising (7 - from) from (omega arith))) (further (subst (λ (end : ℕ). Ahead 0 end to) (omega arith) (rising to 0 (omega arith)))),
        )

-- A look that comes as far as a seat that waits finds that seat, or another that waits, from the seat after which it is nearer.
pub record Finds (s : Scheduler) (from to n count : ℕ) : Type 0 where
  pub seat : ℕ
  pub is : next_from s from count ≡ some seat
  pub waits : is_waiting s seat ≡ true
  pub nearer : (seat ≡ to) ⊎ ((m : ℕ) × (m < n) × Ahead (after seat) to m)

pub looks : (s : Scheduler) {from to n : ℕ} → Ahead from to n → is_waiting s to ≡ true → (count : ℕ) → n < count → Finds s from to n count
looks s p w zero h = absurd (omega arith)
looks s (here {seat}) w (suc count) h = record { seat = seat; is = sym (found s seat (suc count) (omega arith) w); waits = w; nearer = inl refl }
looks s (further {from} {to} {n} p) w (suc count) h = go (looks s {from = after from} p w count (omega arith)) (is_waiting s from) refl
  where
    go : Finds s (after from) to n count → (b : Bool) → is_waiting s from ≡ b → Finds s from to (suc n) (suc count)
    go f true e = record { seat = from; is = sym (found s from (suc count) (omega arith) e); waits = e; nearer = inr (n, omega arith, p) }
    go f false e = record { seat = f.seat; is = skipped s from count e ∙ f.is; waits = f.waits; nearer = closer f.nearer }
      where
        closer : (f.seat ≡ to) ⊎ ((m : ℕ) × (m < n) × Ahead (after f.seat) to m) → (f.seat ≡ to) ⊎ ((m : ℕ) × (m < suc n) × Ahead (after f.seat) to m)
        closer (inl q) = inl q
        closer (inr (m, l, a)) = inr (m, omega arith, a)

-- A look that finds nobody has passed seats that do not wait.
pub passes : (s : Scheduler) {from to n : ℕ} → Ahead from to n → (count : ℕ) → n < count → next_from s from count ≡ none → is_waiting s to ≡ false
passes s {to = to} p count h e = go (is_waiting s to) refl
  where
    go : (b : Bool) → is_waiting s to ≡ b → b ≡ false
    go true w = absurd (let q = (looks s p w count h).is in let z : ◌≡◌ {A = ℕ} 0 1 = cc in omega arith)
    go false w = refl

-- A look at seats that do not wait finds nobody.
pub nobody : (s : Scheduler) → ((seat : ℕ) → seat < 8 → is_waiting s seat ≡ false) → (from n : ℕ) → from < 8 → next_from s from n ≡ none
unfolding next_from
nobody s h from zero l = refl
nobody s h from (suc n) l = rw (h from l) (nobody s h (after from) n (omega arith))

-- What is found is a seat.
pub seated : (s : Scheduler) (from n : ℕ) {seat : ℕ} → from < 8 → next_from s from n ≡ some seat → seat < 8
unfolding next_from
seated s from zero h e = absurd (let z : ◌≡◌ {A = ℕ} 0 1 = cc in omega arith)
seated s from (suc n) {seat} h e = go (λ q. seated s (after from) n (omega arith) q) (is_waiting s from) e
  where
    go : (next_from s (after from) n ≡ some seat → seat < 8) → (b : Bool) → cond b (some from) (next_from s (after from) n) ≡ some seat → seat < 8
    go later true q = let z : from ≡ seat = cc in omega arith
    go later false q = later q

pub next-seated : (s : Scheduler) {seat : ℕ} → next_seat s ≡ some seat → seat < 8
unfolding next_seat
next-seated s e = seated s (s.first % 8) 8 (omega arith) e

-- What is found waits.
found-waits : (s : Scheduler) (from n : ℕ) {seat : ℕ} → next_from s from n ≡ some seat → is_waiting s seat ≡ true
unfolding next_from
found-waits s from zero e = absurd (let z : ◌≡◌ {A = ℕ} 0 1 = cc in omega arith)
found-waits s from (suc n) {seat} e = go (λ q. found-waits s (after from) n q) (is_waiting s from) refl e
  where
    go : (next_from s (after from) n ≡ some seat → is_waiting s seat ≡ true) → (b : Bool) → is_waiting s from ≡ b → cond b (some from) (next_from s (after from) n) ≡ some seat → is_waiting s seat ≡ true
    go later true w q = let z : from ≡ seat = cc in subst (λ (k : ℕ). is_waiting s k ≡ true) z w
    go later false w q = later q

pub next-waits : (s : Scheduler) {seat : ℕ} → next_seat s ≡ some seat → is_waiting s seat ≡ true
unfolding next_seat
next-waits s e = found-waits s (s.first % 8) 8 e

-- The n-th seat from one on is found where it waits and none before it does.
nth-found : (s : Scheduler) (n from count : ℕ) → n < count → is_waiting s ((from + n) % 8) ≡ true → ((m : ℕ) → m < n → is_waiting s ((from + m) % 8) ≡ false) → next_from s (from % 8) count ≡ some ((from + n) % 8)
nth-found s zero from count h w k = let e : (from + 0) % 8 ≡ from % 8 = omega arith in sym (found s (from % 8) count (omega arith) (subst (λ (x : ℕ). is_waiting s x ≡ true) e w)) ∙ ap (λ (x : ℕ). some x) (sym e)
nth-found s (suc n) from zero h w k = absurd (omega arith)
nth-found s (suc n) from (suc count) h w k =
    let e : (from + 0) % 8 ≡ from % 8 = omega arith in
    let b : after (from % 8) ≡ (from + 1) % 8 = omega arith in
    let q : (from + suc n) % 8 ≡ (from + 1 + n) % 8 = omega arith in
    skipped s (from % 8) count (subst (λ (x : ℕ). is_waiting s x ≡ false) e (k 0 (omega arith)))
    ∙ ap (λ (x : ℕ). next_from s x count) b
    ∙ nth-found s n (from + 1) count (omega arith) (subst (λ (x : ℕ). is_waiting s x ≡ true) q w)
    (λ m l. subst (λ (x : ℕ). is_waiting s x ≡ false) (let z : (from + suc m) % 8 ≡ (from + 1 + m) % 8 = omega arith in z) (k (suc m) (omega arith)))
    ∙ ap (λ (x : ℕ). some x) (sym q)

pub next-nth : (s : Scheduler) (n : ℕ) → n < 8 → is_waiting s ((s.first + n) % 8) ≡ true → ((m : ℕ) → m < n → is_waiting s ((s.first + m) % 8) ≡ false) → next_seat s ≡ some ((s.first + n) % 8)
unfolding next_seat
next-nth s n h w k = nth-found s n s.first 8 h w k
