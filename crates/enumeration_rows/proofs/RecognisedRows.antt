-- The bytes of the rows, as they are stored, compared and told apart. Assumes nothing.
use mathlib.Core.Path.{◌≡◌, refl, sym, ◌∙◌, ap, subst}
use mathlib.Core.Bool.{Bool, true, false, ◌&&◌}
use mathlib.Core.List.{List, [], ◌∷◌}
use Prim.Native.Nat.{ℕ, ◌-◌, ◌≤◌, ◌<◌}
use native.Mathlib.Omega.{arith}
use lib.Dec.{T, eqb}
use lib.ListN.{length, take, drop, length-drop, length-take}
use lib.Seq.{sets, take_at}
use mir.Facts.{and_yes}
use Rattle.std.specs.Prelude.{None}
use Rattle.answers.specs.Answers.{over}
use Rattle.answers.proofs.Over.{sets_over}
use Rattle.number_bytes.specs.Same.{same_bytes}
use Rattle.number_bytes.proofs.Comparing.{same-is}
use Rattle.enumeration.specs.Numbering.{inference_count, close_count, inference_bytes, close_bytes, inference_guess, close_guess, begins}
use Rattle.enumeration.proofs.Numbered.{inference-guessed, close-guessed}
use Rattle.enumeration_rows.specs.Recognised.{InferenceFound, CloseFound}

false-is : (b : Bool) → ¬ (T b) → b ≡ false
false-is true h = absurd (h tt)
false-is false h = refl

no_both : {b : Bool} → b ≡ false → T b → ⊥
no_both e t = absurd (subst T e t)

-- ---- comparing
pub begins-longer : (xs s : List ℕ) → T (begins xs s) → length xs ≤ length s
unfolding begins
begins-longer [] s t = omega arith
begins-longer (x ∷ xs) [] t = absurd t
begins-longer (x ∷ xs) (y ∷ s) t = let (e, b) = and_yes (eqb x y) (begins xs s) t in omega (arith, begins-longer xs s b)

-- Bytes begin others where they are the same as the front of these.
begins-front : (xs s : List ℕ) → length xs ≤ length s → same_bytes xs (take (length xs) s) ≡ begins xs s
unfolding begins same_bytes
begins-front [] s h = refl
begins-front (x ∷ xs) [] h = absurd (omega arith)
begins-front (x ∷ xs) (y ∷ s) h = ap (λ (b : Bool). eqb x y && b) (begins-front xs s (omega arith))

module _ (s part : List ℕ) (at n : ℕ) where
  pub stands_same : n ≤ length s - at → n ≤ length part → {r : Bool} → r ≡ same_bytes (take n part) (take n (drop at s)) → r ≡ begins (take n part) (drop at s)
  stands_same room long e =
      let l : length (take n part) ≡ n = omega (arith, length-take n part) in
      e ∙ ap (λ (m : ℕ). same_bytes (take n part) (take m (drop at s))) (sym l) ∙ begins-front (take n part) (drop at s) (omega (arith, l, length-drop at s))

  pub stands-short : n ≤ length part → length s - at < n → false ≡ begins (take n part) (drop at s)
  stands-short long h = sym (false-is (begins (take n part) (drop at s)) (λ t. let q = begins-longer (take n part) (drop at s) t in absurd (omega (arith, length-take n part, length-drop at s))))

-- ---- which inference stands there
module _ {n : ℕ} {s : List ℕ} (few : n ≤ 5) where
  pub inference-beyond : {j : ℕ} → j ≡ inference_guess n s → inference_count n ≤ j → InferenceFound n s None
  inference-beyond {j} g h = record { is = λ i l. false-is (begins (inference_bytes n i) s) (λ t. let q = inference-guessed n i s few l t in omega arith) }

  pub inference-other : {j : ℕ} {b : Bool} → j ≡ inference_guess n s → b ≡ begins (inference_bytes n j) s → b ≡ false → InferenceFound n s None
  inference-other {j} g p q = record {
    is = λ i l. false-is (begins (inference_bytes n i) s) (λ t.
        let same : i ≡ j = sym (inference-guessed n i s few l t) ∙ sym g in
        no_both (sym p ∙ q) (subst (λ (i : ℕ). T (begins (inference_bytes n i) s)) same t));
  }

-- ---- which close
guessed : (n : ℕ) (s : List ℕ) → n ≤ 6 → (c : ℕ) → c < close_count n → T (same_bytes (close_bytes n c) s) → close_guess n s ≡ c
guessed n s few c l t = ap (close_guess n) (sym (same-is (close_bytes n c) s t)) ∙ close-guessed n c few l

module _ {n : ℕ} {s : List ℕ} (few : n ≤ 6) where
  pub close-beyond : {c : ℕ} → c ≡ close_guess n s → close_count n ≤ c → CloseFound n s None
  close-beyond {c} g h = record { is = λ i l. false-is (same_bytes (close_bytes n i) s) (λ t. let q = guessed n s few i l t in omega arith) }

  pub close_other : {c : ℕ} {b : Bool} → c ≡ close_guess n s → b ≡ same_bytes (close_bytes n c) s → b ≡ false → CloseFound n s None
  close_other {c} g p q = record {
    is = λ i l. false-is (same_bytes (close_bytes n i) s) (λ t.
        let same : i ≡ c = sym (guessed n s few i l t) ∙ sym g in
        no_both (sym p ∙ q) (subst (λ (i : ℕ). T (same_bytes (close_bytes n i) s)) same t));
  }

-- ---- a row in an array
pub row-stored : (row : List ℕ) {row' : List ℕ} (bytes : List ℕ) {size : ℕ} → row' ≡ sets row 0 bytes → length bytes ≤ length row → size ≡ length bytes → take size row' ≡ bytes
unfolding over
row-stored row bytes e h q = rw (e, sets_over bytes row h) (take_at bytes _ _ (sym q))

pub same_whole : (xs s : List ℕ) → length s ≡ length xs → begins xs s ≡ same_bytes xs s
unfolding begins same_bytes
same_whole [] [] h = refl
same_whole [] (y ∷ s) h = absurd (omega arith)
same_whole (x ∷ xs) [] h = refl
same_whole (x ∷ xs) (y ∷ s) h = ap (λ (b : Bool). eqb x y && b) (same_whole xs s (omega arith))

pub other_length : (xs s : List ℕ) → ¬ (length s ≡ length xs) → same_bytes xs s ≡ false
other_length xs s h = false-is (same_bytes xs s) (λ t. h (ap length (sym (same-is xs s t))))
