-- Parts of a list, and runs of stores: one after the other, one beside another, and a copy. Assumes nothing.
use mathlib.Core.Path.{◌≡◌, refl, sym, ap, ◌∙◌}
use mathlib.Core.List.{List, [], ◌∷◌, ◌++◌, append_assoc}
use Prim.Native.Nat.{ℕ, zero, suc, ◌+◌, ◌≤◌, ◌<◌}
use native.Mathlib.Nat.{add-zero}
use native.Mathlib.Omega.{arith}
use lib.ListN.{length, get_or, take, drop, set, length-drop}
use lib.Seq.{sets, sets-eq, set_comm, length-sets, take-take, take-suc, drop-drop, get_or-drop, length-take-le}
use borrow.Rule.Slice.PartMut.{put_mid}

module _ {A : Type 0} where
  -- A part of the first m elements, and a part of a part.
  pub part-take : (at n m : ℕ) (l : List A) → at + n ≤ m → take n (drop at (take m l)) ≡ take n (drop at l)
  part-take zero n m l h = take-take n m l (omega arith)
  part-take (suc at) n zero l h = absurd (omega arith)
  part-take (suc at) n (suc m) [] h = refl
  part-take (suc at) n (suc m) (x ∷ l) h = part-take at n m l (omega arith)

  pub part-part : (o k at n : ℕ) (l : List A) → o + k ≤ n → take k (drop o (take n (drop at l))) ≡ take k (drop (at + o) l)
  part-part o k at n l h = part-take o k n (drop at l) h ∙ ap (take k) (drop-drop o at l)

  pub sets-append : (xs ys l : List A) (i : ℕ) → sets l i (xs ++ ys) ≡ sets (sets l i xs) (i + length xs) ys
  sets-append [] ys l i = rw add-zero
  sets-append (a ∷ xs) ys l i =
      let e : suc i + length xs ≡ i + suc (length xs) = omega arith in
      sets-append xs ys (set l i a) (suc i) ∙ ap (λ (k : ℕ). sets (sets (set l i a) (suc i) xs) k ys) e

  -- a store behind the run, before it or after
  pub sets-set : (vs l : List A) (i j : ℕ) (a : A) → i + length vs ≤ j → sets (set l j a) i vs ≡ set (sets l i vs) j a
  sets-set [] l i j a h = refl
  sets-set (v ∷ vs) l i j a h =
      ap (λ (m : List A). sets m (suc i) vs) (set_comm l j i a v (λ e. absurd (omega arith)))
      ∙ sets-set vs (set l i v) (suc i) j a (omega arith)

  -- What stands where a part was written whole.
  pub sets-mid : (at n k : ℕ) (l vs ws : List A) → ws ≡ vs → length vs ≡ n → n ≡ k → at + n ≤ length l → put_mid at k l ws ≡ sets l at vs
  sets-mid at n k l vs ws e z i h =
      let x : at + length vs ≡ at + k = omega arith in
      rw (e, drop-drop k at l) (sym (sets-eq vs l at (omega arith) ∙ append_assoc (take at l) vs (drop (at + length vs) l) ∙ rw x))

-- ---- a copy: after i turns the first i elements are in place
module _ (out₀ out p : List ℕ) (start o i : ℕ) (e : out ≡ sets out₀ o (take i (drop start p))) where
  pub copy_step : (n : ℕ) → start + n ≤ length p → i < n → set out (o + i) (get_or p (start + i) 0) ≡ sets out₀ o (take (i + 1) (drop start p))
  copy_step n h l =
      let inside : i < length (drop start p) = rw (length-drop start p) (omega arith) in
      let own : length (take i (drop start p)) ≡ i = length-take-le i (drop start p) (omega arith) in
      let z : i + 1 ≡ suc i = omega arith in
      rw (e, z, take-suc (drop start p) i 0 inside, sets-append (take i (drop start p)) (get_or (drop start p) i 0 ∷ []) out₀ o, own, get_or-drop start p i 0)

  pub copy-length : length out ≡ length out₀
  copy-length = ap length e ∙ length-sets out₀ o (take i (drop start p))
