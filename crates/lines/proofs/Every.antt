-- A loop that tests number after number and stops at the first that fails: its invariant, and the laws of a turn. Assumes nothing.
use mathlib.Core.Path.{◌≡◌, refl, sym, ◌∙◌, ap, ap₂}
use mathlib.Core.List.{List, [], ◌∷◌, ◌++◌}
use mathlib.Core.Bool.{Bool, true, false, ◌&&◌}
use Prim.Native.Nat.{ℕ, suc, ◌+◌, ◌<◌, ◌≤◌}
use native.Mathlib.Numerals.{add-one}
use native.Mathlib.Omega.{arith}
use lib.ListN.{length, get_or, drop, length-drop, drop_of_length-le}
use lib.IntN.{ℤ, pos}
use lib.Seq.{take-suc, drop-cons, get_or-drop, length-take-le}
use Rattle.integers.specs.Linear.{eq_z}
use Rattle.forms.specs.Forms.{every}
use Rattle.lines.specs.Parts.{part}
use Rattle.lines.proofs.Parts.{get_d_part}
use Rattle.lines.proofs.Range.{every-snoc}

-- The first x of the k numbers at `at` pass, so the rest decides.
pub record Passed (p : ℤ → Bool) (buf : List ℤ) (at k x : ℕ) : Type 0 where
  pub same : every p (part at k buf) ≡ every p (drop x (part at k buf))
  pub upto : x ≤ k

module _ {p : ℤ → Bool} {buf : List ℤ} {at k : ℕ} where
  pub passed_none : Passed p buf at k 0
  passed_none = record { same = refl; upto = omega arith }

  module _ {x : ℕ} (room : at + k ≤ length buf) (v : Passed p buf at k x) where
    len : length (part at k buf) ≡ k
    len = length-take-le k (drop at buf) (simp length-drop (omega arith))

    -- b is what the test of number x gave, which was read as y.
    module _ (h : x < k) {b : Bool} {y : ℤ} (f : y ≡ get_or buf (at + x) (pos 0)) (e : b ≡ p y) where
      head : every p (drop x (part at k buf)) ≡ b && every p (drop (suc x) (part at k buf))
      unfolding every
      head =
          ap (every p) (drop-cons (part at k buf) x (pos 0) (omega (arith, len)))
          ∙ ap (λ (c : Bool). c && every p (drop (suc x) (part at k buf))) (ap p (get_d_part at k buf x (pos 0) h ∙ sym f) ∙ sym e)

      pub passed-next : b ≡ true → Passed p buf at k (x + 1)
      passed-next t = record {
        same = v.same ∙ head ∙ ap₂ (λ (c : Bool) (n : ℕ). c && every p (drop n (part at k buf))) t (sym (add-one x));
        upto = omega arith;
      }

      pub passed-fails : b ≡ false → false ≡ every p (part at k buf)
      passed-fails t = sym (v.same ∙ head ∙ ap (λ (c : Bool). c && every p (drop (suc x) (part at k buf))) t)

    pub passed-all : k ≤ x → true ≡ every p (part at k buf)
    unfolding every
    passed-all h = sym (v.same ∙ ap (every p) (drop_of_length-le (part at k buf) {i = x} (omega (arith, len))))

-- ---- a loop that tests all of the numbers: its result so far is that of the numbers passed
module _ (p : ℤ → Bool) (buf : List ℤ) (at x : ℕ) where
  part-next : at + x < length buf → part at (x + 1) buf ≡ part at x buf ++ (get_or buf (at + x) (pos 0) ∷ [])
  part-next h =
      ap (λ (n : ℕ). part at n buf) (add-one x)
      ∙ take-suc (drop at buf) x (pos 0) (simp length-drop (omega arith))
      ∙ ap (λ (z : ℤ). part at x buf ++ (z ∷ [])) (get_or-drop at buf x (pos 0))

  -- b is what the test of number x gave, which was read as y.
  tested-next : {ok b : Bool} {y : ℤ} → at + x < length buf → y ≡ get_or buf (at + x) (pos 0) → ok ≡ every p (part at x buf) → b ≡ p y → ok && b ≡ every p (part at (x + 1) buf)
  tested-next h f o t =
      ap₂ ◌&&◌ o (t ∙ ap p f)
      ∙ sym (ap (every p) (part-next h) ∙ every-snoc p (part at x buf) (get_or buf (at + x) (pos 0)))

-- ---- numbers joined into one that is 0 where all are
pub joined-next : (buf : List ℤ) (at x : ℕ) (j r : ℤ) {y : ℤ} → at + x < length buf → y ≡ get_or buf (at + x) (pos 0)
    → eq_z j (pos 0) ≡ every (λ z. eq_z z (pos 0)) (part at x buf) → eq_z r (pos 0) ≡ eq_z j (pos 0) && eq_z y (pos 0)
    → eq_z r (pos 0) ≡ every (λ z. eq_z z (pos 0)) (part at (x + 1) buf)
joined-next buf at x j r room f o e = e ∙ tested-next (λ z. eq_z z (pos 0)) buf at x room f o refl
