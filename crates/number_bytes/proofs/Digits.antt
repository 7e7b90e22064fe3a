-- Laws of big-endian numbers: one byte more, and the upper half of two's complement, over any width. Assumes nothing.
use mathlib.Core.Path.{◌≡◌, sym, ◌∙◌}
use mathlib.Core.List.{List, [], ◌∷◌}
use Prim.Native.Nat.{ℕ, zero, suc, ◌+◌, ◌*◌, ◌-◌, ◌/◌, ◌%◌, ◌^◌, ◌≤◌, ◌<◌}
use native.Mathlib.Nat.{pow-le-pow_right}
use native.Mathlib.Numerals.{add-one}
use native.Mathlib.Omega.{arith}
use lib.IntN.{pos, negsuc, neg_ℤ, ◌-ℤ◌}
use lib.ListN.{length, get_or, take, drop, set, length-drop}
use lib.Seq.{sets, take-suc, get_or-drop}
use Rattle.integers.proofs.Differences.{ints, add-pn, neg-pn}
use Rattle.number_bytes.specs.Numbers.{unsigned, unsigned_bytes}
use Rattle.number_bytes.proofs.Stores.{sets-append, sets-set}
use Rattle.number_bytes.proofs.Signed.{length-unsigned_bytes, nat_from-append}

-- one more byte
pub unsigned-next : (l : List ℕ) (at i : ℕ) → at + i < length l
    → unsigned (take (i + 1) (drop at l)) ≡ unsigned (take i (drop at l)) * 256 + get_or l (at + i) 0
unfolding unsigned
unsigned-next l at i h =
    let k : i < length (drop at l) = simp length-drop (omega arith) in
    rw (add-one, take-suc (drop at l) i 0, nat_from-append, get_or-drop)

pub pow_below : (n i w : ℕ) → n < 256 ^ i → i ≤ w → n < 256 ^ w
pow_below n i w h k = let p : 256 ^ i ≤ 256 ^ w = pow-le-pow_right (omega arith) k in omega arith

pub pow-next : (i : ℕ) → 256 ^ (i + 1) ≡ 256 * 256 ^ i
pow-next i = rw add-one (omega arith)

-- ---- two's complement
-- a number of the upper half
pub below-full : (full n : ℕ) → n < full → pos n -ℤ pos full ≡ negsuc (full - suc n)
below-full full n h = omega (ints, add-pn (pos n) (neg_ℤ (pos full)), neg-pn (pos full))

-- ---- writing
-- the last byte first, and then the others before it
pub last-first : (out : List ℕ) (at i m : ℕ) → 0 < i
    → sets (set out (at + (i - 1)) (m % 256)) at (unsigned_bytes (i - 1) (m / 256)) ≡ sets out at (unsigned_bytes i m)
unfolding unsigned_bytes
last-first out at zero m h = absurd (omega arith)
last-first out at (suc j) m h =
    let e : suc j - 1 ≡ j = omega arith in
    let l = length-unsigned_bytes j (m / 256) in
    rw e
    (sets-set (unsigned_bytes j (m / 256)) out at (at + j) (m % 256) (omega arith)
    ∙ sym (sets-append (unsigned_bytes j (m / 256)) (m % 256 ∷ []) out at ∙ rw l))
