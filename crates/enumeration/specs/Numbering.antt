-- The rows that a short proof may have, by their numbers, as the code counts them: with n lines before them, 4n² combines, 4n² reduces and 2n scales make a line, n closes by number and 3n by stride end
-- the proof. docs/FORMAT.md, "Short proofs". Assumes nothing.
use Rattle.std.specs.Prelude.{Bool, true, false, cond, ◌&&◌, List, [], ◌∷◌, ℕ, ◌+◌, ◌-◌, ◌*◌, ◌/◌, ◌%◌, ltb, eqb, get_or, ℤ, pos, negsuc}
use Rattle.calculus.specs.Rules.{Inference, Combine, Reduce, Scale, Row, CloseNumber, CloseStride}
use Rattle.fields.specs.Fields.{field_bytes}
use Rattle.enumeration.specs.ShortProofs.{row_item}

abbrev pub inference_count : ℕ → ℕ
inference_count n = 8 * n * n + 2 * n

abbrev pub close_count : ℕ → ℕ
close_count n = 4 * n

-- 1, 2, -2, -1.
abbrev pub signed_factor : ℕ → ℤ
signed_factor m = cond (eqb m 0) (pos 1) (cond (eqb m 1) (pos 2) (cond (eqb m 2) (negsuc 1) (negsuc 0)))

abbrev pub combine_at : (n x : ℕ) → Inference
combine_at n x = Combine (x / (4 * n)) (x / 4 % n) (1 + x / 2 % 2) (1 + x % 2)

abbrev pub reduce_at : (n x : ℕ) → Inference
reduce_at n x = Reduce (x / (4 * n)) (x / 4 % n) (signed_factor (x % 4))

abbrev pub scale_at : (x : ℕ) → Inference
scale_at x = Scale (x / 2) (1 + x % 2)

unfoldable pub inference_at : (n j : ℕ) → Inference
inference_at n j = cond (ltb j (4 * n * n)) (combine_at n j) (cond (ltb j (2 * (4 * n * n))) (reduce_at n (j - 4 * n * n)) (scale_at (j - 2 * (4 * n * n))))

unfoldable pub close_at : (n c : ℕ) → Row
close_at n c = cond (ltb c n) (CloseNumber c) (CloseStride ((c - n) / 3) (2 + (c - n) % 3))

-- ---- their bytes
unfoldable pub row_bytes : Row → List ℕ
row_bytes r = field_bytes (row_item r).tag (row_item r).contents

abbrev pub factor_low : ℕ → ℕ
factor_low m = cond (eqb m 0) 1 (cond (eqb m 1) 2 (cond (eqb m 2) 0xFE 0xFF))

abbrev pub factor_high : ℕ → ℕ
factor_high m = cond (ltb m 2) 0 0xFF

abbrev pub combine_bytes : (n x : ℕ) → List ℕ
combine_bytes n x = 0x10 ∷ 0 ∷ 6 ∷ (x / (4 * n)) ∷ (x / 4 % n) ∷ 0 ∷ (1 + x / 2 % 2) ∷ 0 ∷ (1 + x % 2) ∷ []

abbrev pub reduce_bytes : (n x : ℕ) → List ℕ
reduce_bytes n x = 0x11 ∷ 0 ∷ 4 ∷ (x / (4 * n)) ∷ (x / 4 % n) ∷ factor_high (x % 4) ∷ factor_low (x % 4) ∷ []

abbrev pub scale_bytes : (x : ℕ) → List ℕ
scale_bytes x = 0x12 ∷ 0 ∷ 3 ∷ (x / 2) ∷ 0 ∷ (1 + x % 2) ∷ []

unfoldable pub inference_bytes : (n j : ℕ) → List ℕ
inference_bytes n j = cond (ltb j (4 * n * n)) (combine_bytes n j) (cond (ltb j (2 * (4 * n * n))) (reduce_bytes n (j - 4 * n * n)) (scale_bytes (j - 2 * (4 * n * n))))

unfoldable pub close_bytes : (n c : ℕ) → List ℕ
close_bytes n c = cond (ltb c n) (0x14 ∷ 0 ∷ 1 ∷ c ∷ []) (0x15 ∷ 0 ∷ 3 ∷ ((c - n) / 3) ∷ 0 ∷ (2 + (c - n) % 3) ∷ [])

-- ---- the number of a row, by its bytes
abbrev pub factor_number : ℕ → ℕ
factor_number low = cond (eqb low 1) 0 (cond (eqb low 2) 1 (cond (eqb low 0xFE) 2 3))

unfoldable pub inference_guess : (n : ℕ) → List ℕ → ℕ
inference_guess n s =
    cond (eqb (get_or s 0 0) 0x10) (4 * (get_or s 3 0 * n + get_or s 4 0) + 2 * ((get_or s 6 0 + 1) % 2) + (get_or s 8 0 + 1) % 2)
    (cond (eqb (get_or s 0 0) 0x11) (4 * n * n + 4 * (get_or s 3 0 * n + get_or s 4 0) + factor_number (get_or s 6 0)) (8 * n * n + 2 * get_or s 3 0 + (get_or s 5 0 + 1) % 2))

unfoldable pub close_guess : (n : ℕ) → List ℕ → ℕ
close_guess n s = cond (eqb (get_or s 0 0) 0x14) (get_or s 3 0) (n + 3 * get_or s 3 0 + (get_or s 5 0 + 1) % 3)

-- The bytes s begin with these.
unfoldable pub begins : List ℕ → List ℕ → Bool
begins [] s = true
begins (x ∷ xs) [] = false
begins (x ∷ xs) (y ∷ s) = eqb x y && begins xs s
