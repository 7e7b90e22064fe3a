-- What a run of numbers leaves in the lent bytes, written one by one or in parts. Assumes nothing.
use mathlib.Core.Path.{◌≡◌, refl, sym, ◌∙◌}
use mathlib.Core.List.{List, [], append-nil}
use Prim.Native.Nat.{ℕ, ◌+◌, ◌*◌, ◌≤◌, ◌<◌}
use native.Mathlib.Numerals.{add-one}
use native.Mathlib.Omega.{arith}
use lib.IntN.{ℤ, pos}
use lib.ListN.{length, get_or, take, drop, set}
use lib.Seq.{sets, take-add, take-length, take-suc-set, take-suc, drop-cons, length-take-le}
use Rattle.number_bytes.specs.Numbers.{signed_bytes, signeds_bytes}
use Rattle.number_bytes.proofs.Signed.{length-signeds_bytes, signeds_bytes-append, all_take, all_drop}
use Rattle.number_bytes.proofs.Stores.{sets-append}
use Rattle.number_runs.specs.Runs.{HeldAll}

-- ---- numbers taken over into a block
-- one number more
pub taken_next : (x numbers : List ℤ) (i : ℕ) → i < length x → i < length numbers → take i x ≡ take i numbers
    → take (i + 1) (set x i (get_or numbers i (pos 0))) ≡ take (i + 1) numbers
taken_next x numbers i h l e = rw (add-one, take-suc-set x i (get_or numbers i (pos 0)) h, e, take-suc numbers i (pos 0) l)

-- ---- numbers of w bytes each
pub held-part : {w : ℕ} {numbers : List ℤ} (from k : ℕ) → HeldAll w numbers → HeldAll w (take k (drop from numbers))
held-part from k h = record { each = all_take k (all_drop from h.each) }

pub held_first : {w : ℕ} {numbers : List ℤ} (k : ℕ) → HeldAll w numbers → HeldAll w (take k numbers)
held_first k h = record { each = all_take k h.each }

module _ (w : ℕ) where
  pub put-none : (out : List ℕ) (at : ℕ) → out ≡ sets out at (signeds_bytes w [])
  unfolding signeds_bytes
  put-none out at = refl

  -- m numbers, and r more behind them
  pub put-more : (out : List ℕ) {o₁ o₂ : List ℕ} (at : ℕ) (numbers : List ℤ) (m k r : ℕ) → k ≡ r → m + r ≤ length numbers
      → o₁ ≡ sets out at (signeds_bytes w (take m numbers)) → o₂ ≡ sets o₁ (at + m * w) (signeds_bytes w (take k (drop m numbers)))
      → o₂ ≡ sets out at (signeds_bytes w (take (m + r) numbers))
  put-more out at numbers m k r z h e₁ e₂ =
      let l : length (take m numbers) ≡ m = length-take-le m numbers (omega arith) in
      e₂
      ∙ rw (e₁, z, take-add m r numbers, signeds_bytes-append w (take m numbers) (take r (drop m numbers)))
      (sym (sets-append (signeds_bytes w (take m numbers)) (signeds_bytes w (take r (drop m numbers))) out at ∙ rw (length-signeds_bytes w (take m numbers), l)))

  -- one more
  pub put-one : (out : List ℕ) {o₁ o₂ : List ℕ} (at : ℕ) (numbers : List ℤ) (i : ℕ) → i < length numbers
      → o₁ ≡ sets out at (signeds_bytes w (take i numbers)) → o₂ ≡ sets o₁ (at + i * w) (signed_bytes w (get_or numbers i (pos 0)))
      → o₂ ≡ sets out at (signeds_bytes w (take (i + 1) numbers))
  unfolding signeds_bytes
  put-one out at numbers i h e₁ e₂ =
      let x : signeds_bytes w (take 1 (drop i numbers)) ≡ signed_bytes w (get_or numbers i (pos 0)) = rw (drop-cons numbers i (pos 0) h) (append-nil (signed_bytes w (get_or numbers i (pos 0)))) in
      put-more out at numbers i 1 1 refl (omega arith) e₁ (rw x e₂)

  -- all
  pub put-all : (out : List ℕ) {o₁ o₂ : List ℕ} (at : ℕ) (numbers : List ℤ) (m k : ℕ) → m + k ≡ length numbers
      → o₁ ≡ sets out at (signeds_bytes w (take m numbers)) → o₂ ≡ sets o₁ (at + m * w) (signeds_bytes w (take k (drop m numbers)))
      → o₂ ≡ sets out at (signeds_bytes w numbers)
  put-all out at numbers m k z e₁ e₂ = rw (z, take-length numbers) at (put-more out at numbers m k k refl (omega arith) e₁ e₂)
