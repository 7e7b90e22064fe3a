-- What a run of numbers read from bytes leaves in the lent numbers, read one by one or in parts. Assumes nothing.
use mathlib.Core.Path.{◌≡◌, refl, sym, ◌∙◌, ap}
use mathlib.Core.List.{List, [], ◌++◌, append-nil}
use Prim.Native.Nat.{ℕ, zero, suc, ◌+◌, ◌*◌, ◌≤◌, ◌<◌}
use native.Mathlib.Nat.{zero-add, suc-mul, zero-mul}
use native.Mathlib.Numerals.{add-one}
use native.Mathlib.Omega.{arith}
use lib.IntN.{ℤ}
use lib.ListN.{length, take, drop, set, length-append, length-drop, drop_of_length-le}
use lib.Seq.{sets, drop-drop, length-take-le, take_at, take-suc-set}
use borrow.Rule.Slice.PartMut.{put_mid, same_len_mid}
use Rattle.std.proofs.lemmas.Slice.{take-put_mid}
use Rattle.number_bytes.specs.Numbers.{signed, signeds}
use Rattle.number_bytes.proofs.Signed.{length-signeds}
use Rattle.number_bytes.proofs.Stores.{sets-mid}

signeds-add : (w m r : ℕ) (bs : List ℕ) → signeds w (m + r) bs ≡ signeds w m bs ++ signeds w r (drop (m * w) bs)
unfolding signeds
signeds-add w zero r bs = rw (zero-add r, zero-mul w)
signeds-add w (suc m) r bs =
    let e : suc m + r ≡ suc (m + r) = omega arith in
    let f : w + m * w ≡ suc m * w = omega (arith, suc-mul m w) in
    rw (e, signeds-add w m r (drop w bs), drop-drop (m * w) w bs, f)

pub stored-none : (w : ℕ) (s : List ℕ) → [] ≡ signeds w 0 s
unfolding signeds
stored-none w s = refl

-- one number more
pub stored_next : (w : ℕ) (l : List ℤ) (i : ℕ) (s : List ℕ) (start : ℕ) → i < length l → take i l ≡ signeds w i (drop start s)
    → take (i + 1) (set l i (signed (take w (drop (start + i * w) s)))) ≡ signeds w (i + 1) (drop start s)
unfolding signeds
stored_next w l i s start h e =
    rw (signeds-add w i 1 (drop start s), drop-drop (i * w) start s, add-one, take-suc-set l i (signed (take w (drop (start + i * w) s))) h, e)

-- a numbers, and r more behind them, written into their part
pub stored-more : (w : ℕ) (l zs : List ℤ) (a k r : ℕ) (s : List ℕ) (start : ℕ) → k ≡ r → a ≤ length l → take a l ≡ signeds w a (drop start s)
    → zs ≡ signeds w r (drop (start + a * w) s) → take (a + r) (put_mid a k l zs) ≡ signeds w (a + r) (drop start s)
stored-more w l zs a k r s start z h e f =
    let n : a + r ≡ a + length zs = omega (arith, ap length f, length-signeds w r (drop (start + a * w) s)) in
    take-put_mid a k l zs (a + r) n h ∙ rw (e, f) (sym (signeds-add w a r (drop start s) ∙ rw (drop-drop (a * w) start s)))

-- what was written into the first part
pub stored_first : (w : ℕ) (l ys : List ℤ) (m k : ℕ) (s : List ℕ) → k ≡ m → ys ≡ signeds w k s → take m (ys ++ drop m l) ≡ signeds w m s
stored_first w l ys m k s z e = let n : length ys ≡ m = omega (arith, ap length e, length-signeds w k s) in take_at ys (drop m l) m n ∙ rw (← z) e

-- the last part
pub stored-last : (w : ℕ) (l zs : List ℤ) (m k r n : ℕ) (s : List ℕ) (start : ℕ) → r ≡ k → m + k ≡ n → length l ≡ n → take m l ≡ signeds w m (drop start s)
    → zs ≡ signeds w r (drop (start + m * w) s) → put_mid m k l zs ≡ signeds w n (drop start s)
stored-last w l zs m k r n s start z h i e f =
    rw (drop-drop k m l, drop_of_length-le l {i = m + k} (omega arith), append-nil zs, e, f, z, ← h) (sym (signeds-add w m k (drop start s) ∙ rw (drop-drop (m * w) start s)))

-- ---- their lengths
pub length-first : (w : ℕ) (l ys : List ℤ) (m k : ℕ) (s : List ℕ) → k ≡ m → ys ≡ signeds w k s → m ≤ length l → length (ys ++ drop m l) ≡ length l
length-first w l ys m k s z e h = omega (arith, length-append ys (drop m l), length-drop m l, ap length e, length-signeds w k s)

pub length-more : (w : ℕ) (l zs : List ℤ) (a k r : ℕ) (s : List ℕ) → r ≡ k → zs ≡ signeds w r s → a + k ≤ length l → length (put_mid a k l zs) ≡ length l
length-more w l zs a k r s z e h =
    same_len_mid a k l zs (ap length e ∙ length-signeds w r s ∙ z ∙ sym (length-take-le k (drop a l) (rw length-drop (omega arith))))

-- ---- a part of lent numbers, read whole
pub stored-part : (w at n k : ℕ) (l ys : List ℤ) (s : List ℕ) → k ≡ n → at + n ≤ length l → ys ≡ signeds w (length (take k (drop at l))) s → put_mid at k l ys ≡ sets l at (signeds w n s)
stored-part w at n k l ys s z h e =
    let f : length (take k (drop at l)) ≡ n = rw z (length-take-le n (drop at l) (rw length-drop (omega arith))) in
    sets-mid at n k l (signeds w n s) ys (rw f at e) (length-signeds w n s) (sym z) h
