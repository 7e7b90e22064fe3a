-- Whether each number is within a range, tested one by one. Assumes nothing.
use mathlib.Core.Path.{◌≡◌, refl, sym, ◌∙◌}
use mathlib.Core.Bool.{Bool, true, false, ◌&&◌}
use mathlib.Core.List.{List, [], ◌∷◌}
use Prim.Native.Nat.{ℕ, suc, ◌+◌, ◌*◌, ◌-◌, ◌^◌, ◌≤◌, ◌<◌}
use native.Mathlib.Omega.{arith}
use lib.Dec.{T, leb, ltb, le→leb}
use lib.IntN.{ℤ, pos, negsuc, nat_abs}
use lib.Signed.{mag, lt_z}
use lib.ListN.{length, get_or, take, drop, length-drop, drop_of_length-le}
use lib.Seq.{drop-drop, drop-cons}
use borrow.Author.Tests.{ltb-true, ltb-false, leb-true, le-leb, lt-leb}
use mir.Syntax.{w32}
use mir.Val.{SFits}
use Rattle.forms.specs.Forms.{nil, cons, small, every}
use Rattle.number_bytes.specs.Numbers.{Bytes, signed, signeds}
use Rattle.number_bytes.specs.Ranges.{InWidth}
use Rattle.number_bytes.proofs.Signed.{all_drop, all-weaken, signeds-in}
use Rattle.bundle.specs.Write.{holdable}
use Rattle.bundle.proofs.Every.{every_of}

is_true : (b : Bool) → T b → true ≡ b
is_true true t = refl
is_true false t = absurd t

and_assoc : (a b c : Bool) → ((a && b) && c) ≡ (a && (b && c))
and_assoc true b c = refl
and_assoc false b c = refl

pub and-true : (a : Bool) → (a && true) ≡ a
and-true true = refl
and-true false = refl

-- one number more
module _ (p : ℤ → Bool) (s : List ℕ) (start i n : ℕ) (h : i < n) where
  every-on : every p (signeds 4 (n - i) (drop (start + i * 4) s)) ≡ (p (signed (take 4 (drop (start + i * 4) s))) && every p (signeds 4 (n - (i + 1)) (drop (start + (i + 1) * 4) s)))
  unfolding signeds every
  every-on =
      let m : n - i ≡ suc (n - (i + 1)) = omega arith in
      let d : start + (i + 1) * 4 ≡ start + i * 4 + 4 = omega arith in
      rw (m, d, drop-drop 4 (start + i * 4) s)

  -- what is tested so far, and what is left, give the whole
  pub every-next : (ok : Bool) {next e : Bool} → (ok && every p (signeds 4 (n - i) (drop (start + i * 4) s))) ≡ e → next ≡ (ok && p (signed (take 4 (drop (start + i * 4) s))))
      → (next && every p (signeds 4 (n - (i + 1)) (drop (start + (i + 1) * 4) s))) ≡ e
  every-next ok v q = rw q (and_assoc ok (p (signed (take 4 (drop (start + i * 4) s)))) (every p (signeds 4 (n - (i + 1)) (drop (start + (i + 1) * 4) s))) ∙ (rw every-on at v))

-- the whole list, tested to its end
module _ {X : Type 0} (p : X → Bool) (xs : List X) (i : ℕ) (ok : Bool) {e : Bool} (v : (ok && every p (drop i xs)) ≡ e) where
  pub all-next : (d : X) {next : Bool} → i < length xs → next ≡ (ok && p (get_or xs i d)) → (next && every p (drop (i + 1) xs)) ≡ e
  unfolding every
  all-next d h q =
      let z : i + 1 ≡ suc i = omega arith in
      rw (q, z) (and_assoc ok (p (get_or xs i d)) (every p (drop (suc i) xs)) ∙ (rw (drop-cons xs i d h) at v))

  pub all_done : length xs ≤ i → ok ≡ e
  unfolding every
  all_done h = sym (and-true ok) ∙ (rw (drop_of_length-le xs h) at v)

-- ---- two bytes
pub bytes_of : (s : List ℕ) → ((i : ℕ) → get_or s i 0 < 256) → Bytes s
bytes_of [] h = nil
bytes_of (x ∷ s) h = cons (h 0) (bytes_of s (λ i. h (suc i)))

short-small : (z : ℤ) → InWidth 2 z → T (small 2_147_483_647 z)
unfolding small
short-small (pos n) h = le→leb n 2_147_483_647 (omega (arith, h.high))
short-small (negsuc n) h = le→leb (suc n) 2_147_483_647 (omega (arith, h.low))

pub shorts-small : (s : List ℕ) (start n : ℕ) → start + n * 2 ≤ length s → Bytes s → true ≡ every (small 2_147_483_647) (signeds 2 n (drop start s))
shorts-small s start n h b =
    let l : n * 2 ≤ length (drop start s) = simp length-drop (omega arith) in
    is_true _ (every_of _ (all-weaken short-small (signeds-in 2 n (drop start s) l (all_drop start b))))

-- ---- what a width holds
mag-abs : (z : ℤ) → mag z ≤ nat_abs z
mag-abs (pos n) = omega arith
mag-abs (negsuc n) = omega arith

abs_mag : (z : ℤ) → nat_abs z ≤ suc (mag z)
abs_mag (pos n) = omega arith
abs_mag (negsuc n) = omega arith

-- a number of two bytes is within the range
pub two-held : (z : ℤ) → holdable 2 z ≡ ltb (mag z + mag z) (256 ^ 2)
unfolding holdable small
two-held z = go (ltb (mag z + mag z) (256 ^ 2)) refl
  where
    go : (b : Bool) → ltb (mag z + mag z) (256 ^ 2) ≡ b → (b && leb (nat_abs z) 2_147_483_647) ≡ b
    go true e = le-leb (nat_abs z) 2_147_483_647 (omega (arith, abs_mag z, ltb-true (mag z + mag z) (256 ^ 2) e))
    go false e = refl

-- a number within the range has four bytes
four-held : (z : ℤ) → holdable 4 z ≡ leb (nat_abs z) 2_147_483_647
unfolding holdable small
four-held z = go (leb (nat_abs z) 2_147_483_647) refl (ltb (mag z + mag z) (256 ^ 4)) refl
  where
    go : (b : Bool) → leb (nat_abs z) 2_147_483_647 ≡ b → (c : Bool) → ltb (mag z + mag z) (256 ^ 4) ≡ c → (c && b) ≡ b
    go true e true f = refl
    go true e false f = absurd (omega (arith, mag-abs z, leb-true (nat_abs z) 2_147_483_647 e, ltb-false (mag z + mag z) (256 ^ 4) f))
    go false e true f = refl
    go false e false f = refl

-- of the numbers of 32 bits all but one
pub lowest-held : (z : ℤ) → SFits w32 z → lt_z (negsuc 2_147_483_647) z ≡ holdable 4 z
lowest-held (pos n) f = sym (four-held (pos n) ∙ le-leb n 2_147_483_647 (omega (arith, f.sfits)))
lowest-held (negsuc n) f = go (ltb n 2_147_483_647) refl ∙ sym (four-held (negsuc n))
  where
    go : (b : Bool) → ltb n 2_147_483_647 ≡ b → b ≡ leb (suc n) 2_147_483_647
    go true e = sym (le-leb (suc n) 2_147_483_647 (ltb-true n 2_147_483_647 e))
    go false e = sym (lt-leb (suc n) 2_147_483_647 (omega (arith, ltb-false n 2_147_483_647 e)))

pub lowest-small : (z : ℤ) → SFits w32 z → lt_z (negsuc 2_147_483_647) z ≡ small 2_147_483_647 z
unfolding small
lowest-small z f = lowest-held z f ∙ four-held z
