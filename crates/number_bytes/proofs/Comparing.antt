-- Runs of bytes compared one after the other, and that those which are the same are equal. Assumes nothing.
use mathlib.Core.Path.{◌≡◌, refl, ap, ap₂}
use mathlib.Core.Bool.{Bool, true, false, ◌&&◌}
use mathlib.Core.List.{List, [], ◌∷◌}
use Prim.Native.Nat.{ℕ, suc}
use lib.Dec.{T, eqb, eqb→eq, eqb_refl}
use lib.ListN.{length}
use lib.Pointwise.{pointwise}
use mir.Facts.{and_yes, yes_and}
use Rattle.number_bytes.specs.Same.{same_bytes}

pub same-is : (xs ys : List ℕ) → T (same_bytes xs ys) → xs ≡ ys
unfolding same_bytes
same-is [] [] t = refl
same-is [] (y ∷ ys) t = absurd t
same-is (x ∷ xs) [] t = absurd t
same-is (x ∷ xs) (y ∷ ys) t = let (p, q) = and_yes (eqb x y) (same_bytes xs ys) t in ap₂ (λ (x : ℕ) (xs : List ℕ). x ∷ xs) (eqb→eq x y p) (same-is xs ys q)

pub same_refl : (xs : List ℕ) → T (same_bytes xs xs)
unfolding same_bytes
same_refl [] = tt
same_refl (x ∷ xs) = yes_and (eqb x x) (same_bytes xs xs) (eqb_refl x) (same_refl xs)

-- lists of different lengths are not the same
pub same-lengths : (xs ys : List ℕ) → (length xs ≡ length ys → ⊥) → same_bytes xs ys ≡ false
unfolding same_bytes
same-lengths [] [] d = absurd (d refl)
same-lengths [] (y ∷ ys) d = refl
same-lengths (x ∷ xs) [] d = refl
same-lengths (x ∷ xs) (y ∷ ys) d = go (eqb x y) (same_bytes xs ys) (same-lengths xs ys (λ e. d (ap suc e)))
  where
    go : (b c : Bool) → c ≡ false → (b && c) ≡ false
    go true c e = e
    go false c e = refl

-- what `==` of two slices gives
pub pointwise-same : (xs ys : List ℕ) → pointwise eqb xs ys ≡ same_bytes xs ys
unfolding same_bytes
pointwise-same [] [] = refl
pointwise-same [] (y ∷ ys) = refl
pointwise-same (x ∷ xs) [] = refl
pointwise-same (x ∷ xs) (y ∷ ys) = rw (pointwise-same xs ys)
