-- Laws of words: the bytes of two and of four in a row as the library reads and writes them. Assumes nothing.
use mathlib.Core.Path.{◌≡◌, refl, sym, ◌∙◌, ap, ap₂}
use mathlib.Core.List.{List}
use Prim.Native.Nat.{ℕ, suc, ◌+◌, ◌*◌, ◌-◌, ◌/◌, ◌^◌, ◌≤◌, ◌<◌}
use native.Mathlib.Omega.{arith}
use lib.Dec.{ltb, ltb→lt, nltb→le}
use lib.IntN.{ℤ, pos, negsuc, ◌-ℤ◌}
use lib.ListN.{length, get_or, take, drop, length-drop}
use lib.Seq.{length-take-le}
use mir.Syntax.{Width, w16, w32}
use mir.Val.{bits, hbits, to_z, of_z}
use mir.ValLaws.{to_z_pos, to_z-of_z}
use Rattle.std.specs.Int.{to_be_bytes}
use Rattle.integers.proofs.Differences.{cond_ind}
use Rattle.number_bytes.specs.Numbers.{unsigned, complement, signed, unsigned_bytes, residue, signed_bytes}
use Rattle.number_bytes.proofs.Digits.{unsigned-next, below-full}

-- ---- read
-- as the machine reads n as signed
read : (w : Width) (n : ℕ) → 2 ^ bits w ≡ 2 ^ hbits w + 2 ^ hbits w → n < 2 ^ bits w → to_z w n ≡ complement (2 ^ bits w) n
unfolding complement
read w n d h =
    let full : ℕ = 2 ^ bits w in
    let m : ℕ = full - suc n in
    let e : full - suc m ≡ n = omega arith in
    cond_ind (ltb (n + n) full) (pos n) (pos n -ℤ pos full) (λ z. to_z w n ≡ z)
    (λ t. let k = ltb→lt (n + n) full t in to_z_pos w n (omega arith))
    (λ t. let k = nltb→le (n + n) full t in rw (below-full full n h) (rw e at (to_z-of_z w (negsuc m) (record { sfits = omega arith }))))

by_four : (n : ℕ) → to_be_bytes w32 n ≡ unsigned_bytes 4 n
unfolding unsigned_bytes
by_four n =
    let a : n / 256 / 256 ≡ n / 0x1_0000 = omega arith in
    let b : n / 0x1_0000 / 256 ≡ n / 0x100_0000 = omega arith in
    rw (a, b)

module _ (l : List ℕ) (at : ℕ) where
  one : at < length l → unsigned (take 1 (drop at l)) ≡ get_or l at 0
  unfolding unsigned
  one h =
      let z : at + 0 ≡ at = omega arith in
      let e = unsigned-next l at 0 (omega arith) in
      omega (arith, rw z at e)

  pub two : at + 2 ≤ length l → unsigned (take 2 (drop at l)) ≡ get_or l at 0 * 256 + get_or l (at + 1) 0
  two h = omega (arith, unsigned-next l at 1 (omega arith), one (omega arith))

  pub four : at + 4 ≤ length l
      → unsigned (take 4 (drop at l)) ≡ get_or l at 0 * 0x100_0000 + get_or l (at + 1) 0 * 0x1_0000 + get_or l (at + 2) 0 * 256 + get_or l (at + 3) 0
  four h = omega (arith, unsigned-next l at 3 (omega arith), unsigned-next l at 2 (omega arith), two (omega arith))

  signed_is : (w n : ℕ) → at + w ≤ length l → n ≡ unsigned (take w (drop at l)) → complement (256 ^ w) n ≡ signed (take w (drop at l))
  unfolding signed
  signed_is w n h e =
      let len : length (take w (drop at l)) ≡ w = length-take-le w (drop at l) (simp length-drop (omega arith)) in
      ap₂ complement (ap (λ (k : ℕ). 256 ^ k) (sym len)) e

  pub signed_two : (n : ℕ) → at + 2 ≤ length l → n ≡ get_or l at 0 * 256 + get_or l (at + 1) 0 → n < 0x1_0000 → to_z w16 n ≡ signed (take 2 (drop at l))
  signed_two n h e f = read w16 n refl f ∙ signed_is 2 n h (e ∙ sym (two h))

  pub signed_four : (n : ℕ) → at + 4 ≤ length l
      → n ≡ get_or l at 0 * 0x100_0000 + get_or l (at + 1) 0 * 0x1_0000 + get_or l (at + 2) 0 * 256 + get_or l (at + 3) 0 → n < 0x1_0000_0000
      → to_z w32 n ≡ signed (take 4 (drop at l))
  signed_four n h e f = read w32 n refl f ∙ signed_is 4 n h (e ∙ sym (four h))

-- ---- written
pub bytes_two : (z : ℤ) → to_be_bytes w16 (of_z w16 z) ≡ signed_bytes 2 z
unfolding signed_bytes unsigned_bytes residue
bytes_two (pos n) = refl
bytes_two (negsuc n) = refl

pub bytes_four : (z : ℤ) → to_be_bytes w32 (of_z w32 z) ≡ signed_bytes 4 z
unfolding signed_bytes unsigned_bytes residue
bytes_four (pos n) = by_four n
bytes_four (negsuc n) = by_four (0x1_0000_0000 - suc n)
