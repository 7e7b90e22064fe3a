-- Storing constraints: one turn of each loop, as laws over plain values. Assumes nothing.
use mathlib.Core.Path.{◌≡◌, sym, ap, ◌∙◌}
use mathlib.Core.List.{List, ◌++◌}
use Prim.Native.Nat.{ℕ, suc, ◌+◌, ◌*◌, ◌-◌, ◌≤◌, ◌<◌}
use native.Mathlib.Nat.{suc-mul, mul-le-mul_right}
use native.Mathlib.Omega.{arith}
use lib.IntN.{ℤ}
use lib.ListN.{length, get_or, drop, set, length-set}
use lib.Seq.{sets, length-sets}
use Rattle.number_bytes.specs.Numbers.{signeds}
use Rattle.number_bytes.proofs.Signed.{length-signeds}
use Rattle.number_bytes.proofs.Stores.{sets-append}
use Rattle.fields.specs.Fields.{Fields}
use Rattle.fields.specs.Places.{fields_at}
use Rattle.fields.proofs.Places.{len_at, Took, Starts}
use Rattle.bundle.specs.Read.{kinds_of, numbers_of}
use Rattle.bundle_scan.specs.Scan.{stated, ConstraintsLeft}
use Rattle.bundle_scan.proofs.SecondPass.{kind-number, left-took, left-done, LeftTurn, left-turn}
use Rattle.bundle_read.specs.Store.{Storable}

-- ---- constraints
-- the invariant: what is left to store gives what the whole gives
pub record Storing (s : List ℕ) (at w K count : ℕ) (kinds₀ : List ℕ) (numbers₀ : List ℤ) (kinds : List ℕ) (numbers : List ℤ) (here n : ℕ) : Type 0 where
  pub able : Storable w K n count (fields_at s here) kinds numbers
  pub kinds-is : sets kinds n (kinds_of (stated w K (fields_at s here))) ≡ sets kinds₀ 0 (kinds_of (stated w K (fields_at s at)))
  pub numbers-is : sets numbers (n * suc K) (numbers_of (stated w K (fields_at s here))) ≡ sets numbers₀ 0 (numbers_of (stated w K (fields_at s at)))
  pub kinds-long : length kinds ≡ length kinds₀
  pub numbers-long : length numbers ≡ length numbers₀

-- what a turn needs: the field is a constraint, and its kind and numbers have room
pub record StoreTurn (s : List ℕ) (w K n count tag start len next : ℕ) (kinds : List ℕ) (numbers : List ℤ) : Type 0 where
  pub turn : LeftTurn w K n count s tag start len next
  pub kinds_room : n < length kinds
  pub numbers-room : n * (K + 1) + (K + 1) ≤ length numbers
  pub able : Storable w K (n + 1) count (fields_at s next) kinds numbers

module _ {s : List ℕ} {here a tag start len next : ℕ} (k : Starts s here a tag start len next) where
  pub room : {w K n count : ℕ} {kinds : List ℕ} {numbers : List ℤ} → Storable w K n count (fields_at s here) kinds numbers → StoreTurn s w K n count tag start len next kinds numbers
  room {w} {K} {n} {count} {kinds} {numbers} v =
      let t : LeftTurn w K n count s tag start len next = left-turn k (record { counts = v.is }) in
      let e : suc K ≡ K + 1 = omega arith in
      let g : suc n * suc K ≤ count * suc K = mul-le-mul_right (suc K) (omega (arith, t.below)) in
      record {
        turn = t;
        kinds_room = omega (arith, v.kinds_fit, t.below);
        numbers-room = rw (← e) (omega (arith, g, suc-mul n (suc K), v.numbers_fit));
        able = record { is = t.left.counts; kinds_fit = v.kinds_fit; numbers_fit = v.numbers_fit };
      }

  -- the next turn's invariant
  pub storing-next : {at w K count n : ℕ} {kinds₀ kinds : List ℕ} {numbers₀ numbers numbers' : List ℤ}
      → Storing s at w K count kinds₀ numbers₀ kinds numbers here n
      → numbers' ≡ sets numbers (n * (K + 1)) (signeds w (K + 1) (drop start s))
      → Storing s at w K count kinds₀ numbers₀ (set kinds n (tag - 3)) numbers' (start + (K + 1) * w) (n + 1)
  unfolding kinds_of numbers_of stated
  storing-next {at} {w} {K} {n} {kinds} {numbers} {numbers'} v q =
      let r = room v.able in
      let e : K + 1 ≡ suc K = omega arith in
      let f : n + 1 ≡ suc n = omega arith in
      let b = r.able in
      let lk : length (set kinds n (tag - 3)) ≡ length kinds = length-set kinds n (tag - 3) in
      let ln : length numbers' ≡ length numbers = ap length q ∙ length-sets numbers (n * (K + 1)) (signeds w (K + 1) (drop start s)) in
      let after = numbers_of (stated w K (fields_at s next)) in
      let kq : sets kinds n (kinds_of (stated w K (fields_at s here))) ≡ sets (set kinds n (tag - 3)) (suc n) (kinds_of (stated w K (fields_at s next)))
      = rw (k.is, kind-number tag r.turn.proper.has r.turn.proper.from) in
      let nq : sets numbers (n * suc K) (numbers_of (stated w K (fields_at s here))) ≡ sets numbers' (suc n * suc K) (numbers_of (stated w K (fields_at s next)))
      = ap (λ (fs : Fields). sets numbers (n * suc K) (numbers_of (stated w K fs))) k.is
      ∙ ap (λ (zs : List ℤ). sets numbers (n * suc K) (zs ++ after)) r.turn.numbers
      ∙ sets-append (signeds w (suc K) (drop start s)) after numbers (n * suc K)
      ∙ rw (length-signeds w (suc K) (drop start s), q, e, suc-mul n (suc K)) in
      rw (← r.turn.goes) (record {
        able = record { is = b.is; kinds_fit = omega (arith, b.kinds_fit, lk); numbers_fit = omega (arith, b.numbers_fit, ln) };
        kinds-is = rw f (sym kq ∙ v.kinds-is);
        numbers-is = rw f (sym nq ∙ v.numbers-is);
        kinds-long = lk ∙ v.kinds-long;
        numbers-long = ln ∙ v.numbers-long;
      })

module _ {s : List ℕ} {at w K count : ℕ} {kinds₀ : List ℕ} {numbers₀ : List ℤ} {kinds : List ℕ} {numbers : List ℤ} {here n : ℕ}
    (v : Storing s at w K count kinds₀ numbers₀ kinds numbers here n) where
  abbrev left : ConstraintsLeft w K n count s here
  left = record { counts = v.able.is }

  pub here-took : n < count → Took s here (get_or s here 0) (here + 3) (len_at s here) (here + 3 + len_at s here)
  here-took h = left-took left h

  -- past a note the same is left
  pub storing-note : {next : ℕ} → fields_at s here ≡ fields_at s next → Storing s at w K count kinds₀ numbers₀ kinds numbers next n
  storing-note e = record { able = rw e at v.able; kinds-is = rw e at v.kinds-is; numbers-is = rw e at v.numbers-is; kinds-long = v.kinds-long; numbers-long = v.numbers-long }

  pub storing-done : count ≤ n
      → (kinds ≡ sets kinds₀ 0 (kinds_of (stated w K (fields_at s at)))) × (numbers ≡ sets numbers₀ 0 (numbers_of (stated w K (fields_at s at))))
  unfolding kinds_of numbers_of
  storing-done h = let e = left-done left h in (rw e at v.kinds-is, rw e at v.numbers-is)
