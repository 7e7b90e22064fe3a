-- What is known of the four widths and limits that differ between editions, whatever the number is. Assumes nothing.
use mathlib.Core.Path.{◌≡◌, refl}
use mathlib.Core.Logic.{◌⊎◌, inl, inr}
use mathlib.Core.Bool.{Bool, true, false, cond}
use Prim.Native.Nat.{ℕ, ◌+◌, ◌*◌, ◌≤◌}
use native.Mathlib.Omega.{arith}
use lib.Dec.{eqb}
use borrow.Author.Tests.{eqb-true}
use Rattle.forms.specs.Edition.{edition, edition1}

-- As edition 1 has it, or as those after it.
either : (P : ℕ → Type 0) (b : Bool) (x y : ℕ) → P x → P y → P (cond b x y)
either P true x y p q = p
either P false x y p q = q

module _ (n : ℕ) where
  pub lines-most : (edition n).lines ≤ 1_000
  lines-most = either (λ x. x ≤ 1_000) (eqb n 1) 128 1_000 (omega arith) (omega arith)

  pub lines-least : 128 ≤ (edition n).lines
  lines-least = either (λ x. 128 ≤ x) (eqb n 1) 128 1_000 (omega arith) (omega arith)

  pub bundle_bytes-most : (edition n).bundle_bytes ≤ 8_192
  bundle_bytes-most = either (λ x. x ≤ 8_192) (eqb n 1) 4_096 8_192 (omega arith) (omega arith)

  pub coefficient_width-is : ((edition n).coefficient_width ≡ 2) ⊎ ((edition n).coefficient_width ≡ 4)
  coefficient_width-is = either (λ x. (x ≡ 2) ⊎ (x ≡ 4)) (eqb n 1) 2 4 (inl refl) (inr refl)

  pub coefficient_width-most : (edition n).coefficient_width ≤ 4
  coefficient_width-most = either (λ x. x ≤ 4) (eqb n 1) 2 4 (omega arith) (omega arith)

  pub line_width-is : ((edition n).line_width ≡ 1) ⊎ ((edition n).line_width ≡ 2)
  line_width-is = either (λ x. (x ≡ 1) ⊎ (x ≡ 2)) (eqb n 1) 1 2 (inl refl) (inr refl)

  pub line_width-some : 1 ≤ (edition n).line_width
  line_width-some = either (λ x. 1 ≤ x) (eqb n 1) 1 2 (omega arith) (omega arith)

  pub line_width-most : (edition n).line_width ≤ 2
  line_width-most = either (λ x. x ≤ 2) (eqb n 1) 1 2 (omega arith) (omega arith)

  -- the header and 32 constraints of 16 constants are not too long
  pub constraints-fit : 8 + 32 * (3 + 17 * (edition n).coefficient_width) ≤ (edition n).bundle_bytes
  constraints-fit = go (eqb n 1)
    where
      go : (b : Bool) → 8 + 32 * (3 + 17 * cond b 2 4) ≤ cond b 4_096 8_192
      go true = omega arith
      go false = omega arith

  -- ---- edition 1, and any other
  module _ {b : Bool} (e : eqb n 1 ≡ b) where
    pub bundle_bytes-by : (edition n).bundle_bytes ≡ cond b 4_096 8_192
    bundle_bytes-by = rw e

    pub line_width-by : (edition n).line_width ≡ cond b 1 2
    line_width-by = rw e

-- A bundle of an edition is not too long for those after it.
pub bundle_bytes-grows : (n m : ℕ) → 1 ≤ n → n ≤ m → (edition n).bundle_bytes ≤ (edition m).bundle_bytes
bundle_bytes-grows n m h l = go (eqb m 1) refl
  where
    go : (b : Bool) → eqb m 1 ≡ b → (edition n).bundle_bytes ≤ (edition m).bundle_bytes
    go true e = let one : n ≡ 1 = omega (arith, eqb-true m 1 e) in rw (one, e) (omega arith)
    go false e = rw e (bundle_bytes-most n)

pub first : {n : ℕ} → n ≡ 1 → edition n ≡ edition1
first e = rw e
