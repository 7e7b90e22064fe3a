-- The bytes of a row put into the output. Assumes nothing.
use mathlib.Core.Path.{◌≡◌, refl, sym, ◌∙◌, ap}
use mathlib.Core.Bool.{Bool, true, false, cond}
use mathlib.Core.List.{List, [], ◌∷◌, ◌++◌}
use Prim.Native.Nat.{ℕ, ◌+◌, ◌-◌, ◌*◌, ◌/◌, ◌%◌, ◌≤◌}
use native.Mathlib.Omega.{arith}
use lib.Dec.{ltb}
use lib.ListN.{length, take, drop}
use lib.Seq.{sets, sets-eq, take_all}
use borrow.Rule.Slice.PartMut.{put_mid}
use Rattle.std.proofs.lemmas.Slice.{put_mid-paste}
use Rattle.enumeration.specs.Numbering.{combine_bytes, reduce_bytes, scale_bytes, inference_bytes, close_bytes}

-- ---- bytes copied into a part
pub part_stored : {A : Type 0} (at end : ℕ) (out : List A) {new vs : List A} → new ≡ vs → at + length vs ≡ end → end ≤ length out → put_mid at (end - at) out new ≡ sets out at vs
part_stored at end out {new} {vs} e q h =
    let n : end - at ≡ length vs = omega arith in
    put_mid-paste at (end - at) out new vs (length vs) e (sym n) refl ∙ sym (sets-eq vs out at (omega arith) ∙ ap (λ (xs : List _). take at out ++ xs ++ drop (at + length vs) out) (sym (take_all (length vs) vs (omega arith))))

-- ---- the sizes
pub inference-size : (n j : ℕ) → length (inference_bytes n j) ≤ 9
unfolding inference_bytes
inference-size n j = go (combine_bytes n j) (reduce_bytes n (j - 4 * n * n)) (scale_bytes (j - 2 * (4 * n * n))) (ltb j (4 * n * n)) (ltb j (2 * (4 * n * n))) (omega arith) (omega arith) (omega arith)
  where
    go : (xs ys zs : List ℕ) (b c : Bool) → length xs ≤ 9 → length ys ≤ 9 → length zs ≤ 9 → length (cond b xs (cond c ys zs)) ≤ 9
    go xs ys zs true c p q r = p
    go xs ys zs false true p q r = q
    go xs ys zs false false p q r = r

pub close-size : (n c : ℕ) → length (close_bytes n c) ≤ 6
unfolding close_bytes
close-size n c = go (0x14 ∷ 0 ∷ 1 ∷ c ∷ []) (0x15 ∷ 0 ∷ 3 ∷ ((c - n) / 3) ∷ 0 ∷ (2 + (c - n) % 3) ∷ []) (ltb c n) (omega arith) (omega arith)
  where
    go : (xs ys : List ℕ) (b : Bool) → length xs ≤ 6 → length ys ≤ 6 → length (cond b xs ys) ≤ 6
    go xs ys true p q = p
    go xs ys false p q = q
