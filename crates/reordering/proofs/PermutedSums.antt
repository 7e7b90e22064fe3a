-- A sum does not change when its terms are permuted; so a form reordered has the old value at values so reordered. Assumes nothing.
use mathlib.Core.Path.{◌≡◌, refl, sym, subst, ap, ap₂, ◌∙◌}
use mathlib.Core.Bool.{Bool, true, false, cond}
use mathlib.Core.List.{List, [], ◌∷◌}
use Prim.Native.Nat.{ℕ, zero, suc, ◌<◌}
use native.Mathlib.Omega.{arith}
use lib.ListN.{length, get_or}
use lib.IntN.{ℤ, pos, ◌+ℤ◌, ◌*ℤ◌, +ℤ_idl, +ℤ_idr}
use Rattle.integers.proofs.RingLaws.{ring-laws}
use Rattle.forms.specs.Forms.{Form, Assignment, rest, sum, value}
use Rattle.reordering.specs.Reordering.{Reordering}
use Rattle.reordering.proofs.ReorderedForms.{Moved}

-- ---- sums of n terms
total : (ℕ → ℤ) → ℕ → ℤ
total f zero = pos 0
total f (suc n) = f 0 +ℤ total (rest f) n

total_ext : (f g : ℕ → ℤ) (n : ℕ) → ((k : ℕ) → k < n → f k ≡ g k) → total f n ≡ total g n
unfolding total
total_ext f g zero h = refl
total_ext f g (suc n) h = ap₂ ◌+ℤ◌ (h 0 (omega arith)) (total_ext (rest f) (rest g) n λ k l. h (suc k) (omega arith))

total-zero : (n : ℕ) → total (λ _. pos 0) n ≡ pos 0
unfolding total
total-zero zero = refl
total-zero (suc n) = ap (λ (z : ℤ). pos 0 +ℤ z) (total-zero n) ∙ +ℤ_idl (pos 0)

shuffled : (a b c d : ℤ) → (a +ℤ b) +ℤ (c +ℤ d) ≡ (a +ℤ c) +ℤ (b +ℤ d)
shuffled a b c d = simp ring-laws

total-add : (f g : ℕ → ℤ) (n : ℕ) → total (λ k. f k +ℤ g k) n ≡ total f n +ℤ total g n
unfolding total
total-add f g zero = sym (+ℤ_idl (pos 0))
total-add f g (suc n) = ap (λ (z : ℤ). f 0 +ℤ g 0 +ℤ z) (total-add (rest f) (rest g) n) ∙ shuffled (f 0) (g 0) (total (rest f) n) (total (rest g) n)

-- A sum of sums, the other way round.
exchanged : (g : ℕ → ℕ → ℤ) (m n : ℕ) → total (λ k. total (g k) n) m ≡ total (λ i. total (λ k. g k i) m) n
unfolding total
exchanged g zero n = sym (total-zero n)
exchanged g (suc m) n = ap (λ (z : ℤ). total (g 0) n +ℤ z) (exchanged (λ k. g (suc k)) m n) ∙ sym (total-add (g 0) (λ i. total (λ k. g (suc k) i) m) n)

-- ---- one term of a sum
same : ℕ → ℕ → Bool
same zero zero = true
same zero (suc j) = false
same (suc i) zero = false
same (suc i) (suc j) = same i j

same_refl : (i : ℕ) → same i i ≡ true
unfolding same
same_refl zero = refl
same_refl (suc i) = same_refl i

same-is : (i j : ℕ) → same i j ≡ true → i ≡ j
unfolding same
same-is zero zero e = refl
same-is zero (suc j) e = absurd (let z : ◌≡◌ {A = ℕ} 0 1 = cc in omega arith)
same-is (suc i) zero e = absurd (let z : ◌≡◌ {A = ℕ} 0 1 = cc in omega arith)
same-is (suc i) (suc j) e = ap suc (same-is i j e)

both-same : (a b c d : ℕ) → (a ≡ b → c ≡ d) → (c ≡ d → a ≡ b) → same a b ≡ same c d
both-same a b c d f g = go (same a b) refl (same c d) refl
  where
    go : (x : Bool) → same a b ≡ x → (y : Bool) → same c d ≡ y → x ≡ y
    go true p true q = refl
    go false p false q = refl
    go true p false q = sym (subst (λ (n : ℕ). same c n ≡ true) (f (same-is a b p)) (same_refl c)) ∙ q
    go false p true q = sym p ∙ subst (λ (n : ℕ). same a n ≡ true) (g (same-is c d q)) (same_refl a)

one-term : (f : ℕ → ℤ) (n j : ℕ) → j < n → total (λ i. cond (same i j) (f i) (pos 0)) n ≡ f j
unfolding total same
one-term f zero j h = absurd (omega arith)
one-term f (suc n) zero h = ap (λ (z : ℤ). f 0 +ℤ z) (total-zero n) ∙ +ℤ_idr (f 0)
one-term f (suc n) (suc j) h = +ℤ_idl _ ∙ one-term (rest f) n j (omega arith)

-- ---- reordered
module _ {K : ℕ} (π : Reordering K) where
  permuted : (f : ℕ → ℤ) → total (λ k. f (π.from k)) K ≡ total f K
  permuted f =
      total_ext _ _ K (λ k h. sym (one-term f K (π.from k) (π.from_below k h)))
      ∙ exchanged (λ k i. cond (same i (π.from k)) (f i) (pos 0)) K K
      ∙ total_ext _ _ K (λ i h.
      total_ext _ _ K (λ k l. ap (λ (b : Bool). cond b (f i) (pos 0))
      (both-same i (π.from k) k (π.to i) (λ e. sym (ap π.to e ∙ π.to_from k l)) (λ e. sym (ap π.from e ∙ π.from_to i h))))
      ∙ one-term (λ _. f i) K (π.to i) (π.to_below i h))

  sum-total : (cs : List ℤ) (v : Assignment) → sum cs v ≡ total (λ k. get_or cs k (pos 0) *ℤ v k) (length cs)
  unfolding sum total
  sum-total [] v = refl
  sum-total (c ∷ cs) v = ap (λ (z : ℤ). c *ℤ v 0 +ℤ z) (sum-total cs (rest v))

  -- The value stays where each constant's value goes along.
  pub moved_value : {s t : Form} → Moved π s t → (v w : Assignment) → ((k : ℕ) → k < K → w k ≡ v (π.from k)) → value t w ≡ value s v
  unfolding value
  moved_value {s} {t} m v w h =
      ap₂ ◌+ℤ◌
      (sum-total t.coeffs w
      ∙ ap (total (λ k. get_or t.coeffs k (pos 0) *ℤ w k)) m.size'
      ∙ total_ext _ _ K (λ k l. ap₂ ◌*ℤ◌ (m.moved k l) (h k l))
      ∙ permuted (λ k. get_or s.coeffs k (pos 0) *ℤ v k)
      ∙ ap (total (λ k. get_or s.coeffs k (pos 0) *ℤ v k)) (sym m.size)
      ∙ sym (sum-total s.coeffs v))
      (sym m.d)
