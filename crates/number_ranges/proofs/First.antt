-- The first element that does not pass a test, as the library finds it. Assumes nothing.
use mathlib.Core.Path.{◌≡◌, refl, ◌∙◌}
use mathlib.Core.Bool.{Bool, true, false, not, cond, ◌&&◌}
use mathlib.Core.List.{List, [], ◌∷◌}
use Prim.Native.Nat.{ℕ, ◌+◌}
use native.Mathlib.Omega.{arith}
use Rattle.std.specs.List.{position, position_from}
use Rattle.std.proofs.Common.{Some, None}
use Rattle.std.proofs.lemmas.Iterator.Adapters.{position_from-zero}
use Rattle.forms.specs.Forms.{every}

none-from : {X : Type 0} (p : X → Bool) (i : ℕ) (xs : List X) → every p xs ≡ true → position_from (λ x. not (p x)) i xs ≡ None
unfolding every
none-from p i [] e = refl
none-from {X} p i (x ∷ xs) e = go (p x) e (none-from p (i + 1) xs)
  where
    go : (b : Bool) → (b && every p xs) ≡ true → (every p xs ≡ true → position_from (λ (x : X). not (p x)) (i + 1) xs ≡ None)
        → cond (not b) (Some i) (position_from (λ (x : X). not (p x)) (i + 1) xs) ≡ None
    go true e k = k e
    go false e k = absurd (let q : ◌≡◌ {A = ℕ} 0 1 = cc in omega arith)

-- where each passes, there is none
pub all-good : {X : Type 0} (p : X → Bool) (xs : List X) → every p xs ≡ true → position (λ x. not (p x)) xs ≡ None
all-good {X} p xs e = position_from-zero (λ (x : X). not (p x)) xs ∙ none-from p 0 xs e
