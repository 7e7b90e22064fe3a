-- The rows by their numbers are those of the sequence, in order; their bytes; and a row's bytes tell its number. By computed tests over all of them. Assumes nothing.
use mathlib.Core.Path.{◌≡◌, refl, sym, ◌∙◌, ap, subst}
use mathlib.Core.Bool.{Bool, true, ◌&&◌}
use mathlib.Core.List.{List, [], ◌∷◌, ◌++◌, map}
use Prim.Native.Nat.{ℕ, zero, suc, ◌<◌, ◌≤◌}
use native.Mathlib.Decide.{ℕ_discrete}
use native.Mathlib.Omega.{arith}
use lib.Dec.{T, eqb, eqb→eq}
use lib.ListN.{length, drop}
use mir.Facts.{and_yes}
use Rattle.calculus.specs.Rules.{Derive}
use Rattle.number_bytes.specs.Numbers.{unsigned_bytes, residue, signed_bytes}
use Rattle.number_bytes.specs.Same.{same_bytes}
use Rattle.number_bytes.proofs.Comparing.{same-is}
use Rattle.fields.specs.Fields.{field_bytes}
use Rattle.enumeration.specs.ShortProofs.{row_item}
use Rattle.enumeration.specs.Sequence.{concat_map, up_from, combines, reduces, scales, inferences, number_closes, stride_closes, close_rows}
use Rattle.enumeration.specs.Numbering.{inference_count, close_count, inference_at, close_at, row_bytes, inference_bytes, close_bytes, inference_guess, close_guess, begins}

-- ---- a test of all numbers below c
unfoldable up_to : (ℕ → Bool) → ℕ → Bool
up_to p zero = true
up_to p (suc c) = p c && up_to p c

up-to : (p : ℕ → Bool) (c : ℕ) → T (up_to p c) → (j : ℕ) → j < c → T (p j)
unfolding up_to
up-to p zero t j h = absurd (omega arith)
up-to p (suc c) t j h = go (ℕ_discrete j c) (and_yes (p c) (up_to p c) t) (λ qs l. up-to p c qs j l)
  where
    go : Dec (j ≡ c) → T (p c) × T (up_to p c) → (T (up_to p c) → j < c → T (p j)) → T (p j)
    go (yes e) (q, qs) more = subst (λ (i : ℕ). T (p i)) (sym e) q
    go (no e) (q, qs) more = more qs (omega arith)

-- what holds of 0 to 5, and of 0 to 6
few : (P : ℕ → Type 0) → P 0 → P 1 → P 2 → P 3 → P 4 → P 5 → (n : ℕ) → n ≤ 5 → P n
few P p0 p1 p2 p3 p4 p5 zero h = p0
few P p0 p1 p2 p3 p4 p5 (suc zero) h = p1
few P p0 p1 p2 p3 p4 p5 (suc (suc zero)) h = p2
few P p0 p1 p2 p3 p4 p5 (suc (suc (suc zero))) h = p3
few P p0 p1 p2 p3 p4 p5 (suc (suc (suc (suc zero)))) h = p4
few P p0 p1 p2 p3 p4 p5 (suc (suc (suc (suc (suc zero))))) h = p5
few P p0 p1 p2 p3 p4 p5 (suc (suc (suc (suc (suc (suc n)))))) h = absurd (omega arith)

few-more : (P : ℕ → Type 0) → P 0 → P 1 → P 2 → P 3 → P 4 → P 5 → P 6 → (n : ℕ) → n ≤ 6 → P n
few-more P p0 p1 p2 p3 p4 p5 p6 (suc (suc (suc (suc (suc (suc zero)))))) h = p6
few-more P p0 p1 p2 p3 p4 p5 p6 (suc (suc (suc (suc (suc (suc (suc n))))))) h = absurd (omega arith)
few-more P p0 p1 p2 p3 p4 p5 p6 zero h = p0
few-more P p0 p1 p2 p3 p4 p5 p6 (suc zero) h = p1
few-more P p0 p1 p2 p3 p4 p5 p6 (suc (suc zero)) h = p2
few-more P p0 p1 p2 p3 p4 p5 p6 (suc (suc (suc zero))) h = p3
few-more P p0 p1 p2 p3 p4 p5 p6 (suc (suc (suc (suc zero)))) h = p4
few-more P p0 p1 p2 p3 p4 p5 p6 (suc (suc (suc (suc (suc zero))))) h = p5

-- ---- the lists
pub inferences-numbered : (n : ℕ) → n ≤ 5 → inferences n ≡ map (inference_at n) (up_from 0 (inference_count n))
unfolding concat_map up_from combines reduces scales inferences inference_at
inferences-numbered n h = few (λ n. inferences n ≡ map (inference_at n) (up_from 0 (inference_count n))) refl refl refl refl refl refl n h

pub closes-numbered : (n : ℕ) → n ≤ 6 → close_rows n ≡ map (close_at n) (up_from 0 (close_count n))
unfolding concat_map up_from number_closes stride_closes close_rows close_at
closes-numbered n h = few-more (λ n. close_rows n ≡ map (close_at n) (up_from 0 (close_count n))) refl refl refl refl refl refl refl n h

-- ---- the bytes
inferences-tested : (n : ℕ) → n ≤ 5 → T (up_to (λ j. same_bytes (row_bytes (Derive (inference_at n j))) (inference_bytes n j)) (inference_count n))
unfolding up_to same_bytes row_bytes row_item field_bytes unsigned_bytes residue signed_bytes inference_at inference_bytes
inferences-tested n h = few (λ n. T (up_to (λ j. same_bytes (row_bytes (Derive (inference_at n j))) (inference_bytes n j)) (inference_count n))) tt tt tt tt tt tt n h

pub inference-bytes : (n j : ℕ) → n ≤ 5 → j < inference_count n → row_bytes (Derive (inference_at n j)) ≡ inference_bytes n j
inference-bytes n j h l = same-is (row_bytes (Derive (inference_at n j))) (inference_bytes n j) (up-to (λ j. same_bytes (row_bytes (Derive (inference_at n j))) (inference_bytes n j)) (inference_count n) (inferences-tested n h) j l)

closes-tested : (n : ℕ) → n ≤ 6 → T (up_to (λ c. same_bytes (row_bytes (close_at n c)) (close_bytes n c)) (close_count n))
unfolding up_to same_bytes row_bytes row_item field_bytes unsigned_bytes residue signed_bytes close_at close_bytes
closes-tested n h = few-more (λ n. T (up_to (λ c. same_bytes (row_bytes (close_at n c)) (close_bytes n c)) (close_count n))) tt tt tt tt tt tt tt n h

pub close-bytes : (n c : ℕ) → n ≤ 6 → c < close_count n → row_bytes (close_at n c) ≡ close_bytes n c
close-bytes n c h l = same-is (row_bytes (close_at n c)) (close_bytes n c) (up-to (λ c. same_bytes (row_bytes (close_at n c)) (close_bytes n c)) (close_count n) (closes-tested n h) c l)

-- ---- the number, by the bytes
inferences-guessed : (rest : List ℕ) (n : ℕ) → n ≤ 5 → T (up_to (λ j. eqb (inference_guess n (inference_bytes n j ++ rest)) j) (inference_count n))
unfolding up_to inference_guess inference_bytes
inferences-guessed rest n h = few (λ n. T (up_to (λ j. eqb (inference_guess n (inference_bytes n j ++ rest)) j) (inference_count n))) tt tt tt tt tt tt n h

closes-guessed : (n : ℕ) → n ≤ 6 → T (up_to (λ c. eqb (close_guess n (close_bytes n c)) c) (close_count n))
unfolding up_to close_guess close_bytes
closes-guessed n h = few-more (λ n. T (up_to (λ c. eqb (close_guess n (close_bytes n c)) c) (close_count n))) tt tt tt tt tt tt tt n h

pub begins-with : (xs s : List ℕ) → T (begins xs s) → s ≡ xs ++ drop (length xs) s
unfolding begins
begins-with [] s t = refl
begins-with (x ∷ xs) [] t = absurd t
begins-with (x ∷ xs) (y ∷ s) t = let (e, b) = and_yes (eqb x y) (begins xs s) t in
    subst (λ (z : ℕ). z ∷ s ≡ x ∷ (xs ++ drop (length xs) s)) (eqb→eq x y e) (ap (λ (zs : List ℕ). x ∷ zs) (begins-with xs s b))

pub inference-guessed : (n j : ℕ) (s : List ℕ) → n ≤ 5 → j < inference_count n → T (begins (inference_bytes n j) s) → inference_guess n s ≡ j
inference-guessed n j s h l t = ap (inference_guess n) (begins-with (inference_bytes n j) s t) ∙ guessed (drop (length (inference_bytes n j)) s)
  where
    guessed : (rest : List ℕ) → inference_guess n (inference_bytes n j ++ rest) ≡ j
    guessed rest = eqb→eq _ j (up-to (λ j. eqb (inference_guess n (inference_bytes n j ++ rest)) j) (inference_count n) (inferences-guessed rest n h) j l)

pub close-guessed : (n c : ℕ) → n ≤ 6 → c < close_count n → close_guess n (close_bytes n c) ≡ c
close-guessed n c h l = eqb→eq _ c (up-to (λ c. eqb (close_guess n (close_bytes n c)) c) (close_count n) (closes-guessed n h) c l)
