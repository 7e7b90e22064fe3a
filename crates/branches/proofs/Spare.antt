-- The lines that the bytes that are left may make and the room for these, and what falls from one branch to the next. Assumes nothing.
use mathlib.Core.Path.{◌≡◌}
use mathlib.Core.Logic.{◌⊎◌, inl, inr}
use mathlib.Core.List.{List}
use Prim.Native.Nat.{ℕ, suc, ◌+◌, ◌*◌, ◌-◌, ◌/◌, ◌<◌, ◌≤◌}
use native.Mathlib.Omega.{arith}
use lib.IntN.{ℤ}
use lib.ListN.{length}
use Rattle.forms.specs.Edition.{edition}
use Rattle.forms.proofs.Editions.{line_width-is}
use Rattle.fields.proofs.Places.{Starts}
use Rattle.fields.specs.Places.{unread_bytes}
use Rattle.branches.specs.Spare.{lines_left, Spare}

-- Fewer bytes make no more lines, and without those of a row one less.
pub fewer-by : {w u v : ℕ} → (w ≡ 1) ⊎ (w ≡ 2) → u ≤ v → u / (3 + w) ≤ v / (3 + w)
fewer-by (inl e) h = rw e (omega arith)
fewer-by (inr e) h = rw e (omega arith)

one-less-by : {w : ℕ} (u : ℕ) {v : ℕ} → (w ≡ 1) ⊎ (w ≡ 2) → u + (3 + w) ≤ v → suc (u / (3 + w)) ≤ v / (3 + w)
one-less-by u (inl e) h = let l = rw e at h in rw e (omega arith)
one-less-by u (inr e) h = let l = rw e at h in rw e (omega arith)

pub lines-fewer : (e : ℕ) {u v : ℕ} → u < v → u / (3 + (edition e).line_width) ≤ v / (3 + (edition e).line_width)
lines-fewer e h = fewer-by (line_width-is e) (omega arith)

pub lines-starts : (e : ℕ) {p : List ℕ} {at a tag start len next : ℕ} → Starts p at a tag start len next → (edition e).line_width ≤ len → suc (lines_left e p next) ≤ lines_left e p at
lines-starts e {p} {next = next} k h = one-less-by (unread_bytes p next) (line_width-is e) (omega (arith, k.from, k.start_is, k.next-is, k.upto))

-- Room for fewer lines, in a buffer of the same length.
pub spare-less : {e K c d : ℕ} {kinds kinds' : List ℕ} {buf buf' : List ℤ} → d ≤ c → length kinds' ≡ length kinds → length buf' ≡ length buf → Spare e K c kinds buf → Spare e K d kinds' buf'
spare-less h q l s = record {
  room = λ n m k. omega (arith, s.room n m (omega arith));
  kinds_room = λ n m k. omega (arith, s.kinds_room n m (omega arith));
}

-- ---- what falls from one branch to the next: the unread bytes x, y and how many more steps may be open, twice, and one more where the branches of a rounding are gone through
pub one_less : {m t : ℕ} → m + 1 < t → m < t
one_less h = omega arith

pub next-falls : {t x y o v : ℕ} → v ≡ o → y < x → 2 * (x + (32 - o)) < t → 2 * (y + (32 - v)) < t
next-falls e h l = omega arith

pub own-falls : {m t : ℕ} → m + 1 ≡ t → m < t
own-falls e = omega arith

pub others-fall : {t x y o v : ℕ} → v ≡ o → y < x → 2 * (x + (32 - o)) + 1 ≡ t → 2 * (y + (32 - v)) + 1 < t
others-fall e h m = omega arith

pub turn-falls : {t x y o v : ℕ} → v ≡ o → y ≤ x → 2 * (x + (32 - o)) + 1 ≡ t → 2 * (y + (32 - v)) < t
turn-falls e h m = omega arith
