-- Lists and their elements. Assumes nothing.
use mathlib.Core.Path.{◌≡◌, refl, sym, ap, subst}
use mathlib.Core.List.{List, [], ◌∷◌, ◌++◌, map}
use Prim.Native.Nat.{ℕ, zero, suc, ◌+◌, ◌<◌, ◌≤◌}
use native.Mathlib.Decide.{ℕ_discrete}
use native.Mathlib.Omega.{arith}
use Rattle.forms.specs.Forms.{All, nil, cons}
use Rattle.enumeration.specs.ShortProofs.{◌∈◌, here, there}
use Rattle.enumeration.specs.Sequence.{concat_map, up_from}

module _ {X : Type 0} where
  pub in_left : (x : X) (xs ys : List X) → x ∈ xs → x ∈ xs ++ ys
  in_left x [] ys h = elim h [ ]
  in_left x (y ∷ xs) ys (here q) = here q
  in_left x (y ∷ xs) ys (there h) = there (in_left x xs ys h)

  pub in_right : (x : X) (xs ys : List X) → x ∈ ys → x ∈ xs ++ ys
  in_right x [] ys h = h
  in_right x (y ∷ xs) ys h = there (in_right x xs ys h)

  -- what holds of all holds of each
  pub all_in : (P : X → Type 0) (xs : List X) → All P xs → (x : X) → x ∈ xs → P x
  all_in P [] _ x h = elim h [ ]
  all_in P (y ∷ xs) (cons p ps) x (here q) = subst P (sym q) p
  all_in P (y ∷ xs) (cons p ps) x (there h) = all_in P xs ps x h

  -- what holds of each holds of all
  pub in_all : (P : X → Type 0) (xs : List X) → ((x : X) → x ∈ xs → P x) → All P xs
  in_all P [] h = nil
  in_all P (x ∷ xs) h = cons (h x (here refl)) (in_all P xs (λ y m. h y (there m)))

  pub all_both : {P : X → Type 0} {xs ys : List X} → All P xs → All P ys → All P (xs ++ ys)
  all_both nil q = q
  all_both (cons p ps) q = cons p (all_both ps q)

module _ {X Y : Type 0} where
  pub in_map : (f : X → Y) (x : X) (xs : List X) → x ∈ xs → f x ∈ map f xs
  in_map f x [] h = elim h [ ]
  in_map f x (y ∷ xs) (here q) = here (ap f q)
  in_map f x (y ∷ xs) (there h) = there (in_map f x xs h)

  pub in-concat_map : (f : X → List Y) (x : X) (y : Y) (xs : List X) → x ∈ xs → y ∈ f x → y ∈ concat_map f xs
  unfolding concat_map
  in-concat_map f x y [] h m = elim h [ ]
  in-concat_map f x y (z ∷ xs) (here q) m = in_left y (f z) (concat_map f xs) (subst (λ (z : X). y ∈ f z) q m)
  in-concat_map f x y (z ∷ xs) (there h) m = in_right y (f z) (concat_map f xs) (in-concat_map f x y xs h m)

  pub all-concat_map : (P : Y → Type 0) (f : X → List Y) (xs : List X) → ((x : X) → x ∈ xs → All P (f x)) → All P (concat_map f xs)
  unfolding concat_map
  all-concat_map P f [] h = nil
  all-concat_map P f (x ∷ xs) h = all_both (h x (here refl)) (all-concat_map P f xs (λ y m. h y (there m)))

  pub all-mapped : (P : Y → Type 0) (f : X → Y) (xs : List X) → ((x : X) → x ∈ xs → P (f x)) → All P (map f xs)
  all-mapped P f [] h = nil
  all-mapped P f (x ∷ xs) h = cons (h x (here refl)) (all-mapped P f xs (λ y m. h y (there m)))

pub in-from : (i n j : ℕ) → i ≤ j → j < i + n → j ∈ up_from i n
unfolding up_from
in-from i zero j l h = absurd (omega arith)
in-from i (suc n) j l h = pick (ℕ_discrete j i) (in-from (suc i) n j)
  where
    pick : Dec (j ≡ i) → (suc i ≤ j → j < suc i + n → j ∈ up_from (suc i) n) → j ∈ (i ∷ up_from (suc i) n)
    pick (yes q) k = here q
    pick (no q) k = there (k (omega arith) (omega arith))
