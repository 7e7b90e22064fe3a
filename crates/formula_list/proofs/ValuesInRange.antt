-- A list all of whose values are in range has none that is out of range. Assumes nothing.
use mathlib.Core.Path.{◌≡◌, refl, sym, subst, ◌∙◌}
use mathlib.Core.Bool.{Bool, true, false, ◌&&◌, true≢false}
use mathlib.Core.List.{List, [], ◌∷◌}
use Prim.Native.Nat.{ℕ, zero, suc}
use native.Mathlib.Omega.{arith}
use lib.Dec.{T, leb→le}
use lib.IntN.{ℤ, pos, nat_abs}
use lib.ListN.{get_or}
use Rattle.integers.specs.Magnitude.{Within}
use Rattle.forms.specs.Forms.{All, nil, cons, every}
use Rattle.answers.proofs.Results.{each-accepted}
use Rattle.std.specs.Prelude.{None}
use Rattle.formula_test.specs.Values.{permitted, ranged, FirstOutside}

each-permitted : (values : List ℤ) → every permitted values ≡ true → All (λ z. T (permitted z)) values
unfolding every
each-permitted [] e = nil
each-permitted (z ∷ values) e = go (permitted z) refl e (each-permitted values)
  where
    go : (b : Bool) → permitted z ≡ b → (b && every permitted values) ≡ true → (every permitted values ≡ true → All (λ z. T (permitted z)) values) → All (λ z. T (permitted z)) (z ∷ values)
    go true p q f = cons (subst T (sym p) tt) (f q)
    go false p q f = absurd (true≢false (sym q))

within-at : {values : List ℤ} → All (λ z. T (permitted z)) values → (i : ℕ) → Within 1_000_000 (get_or values i (pos 0))
within-at nil i = record { abs = omega arith }
within-at (cons {x = z} h hs) zero = record { abs = leb→le (nat_abs z) 1_000_000 h }
within-at (cons h hs) (suc i) = within-at hs i

pub none-outside : {values : List ℤ} {r : Bool} → r ≡ every permitted values → r ≡ true → FirstOutside values None
unfolding ranged
none-outside {values} e t =
    let a = each-permitted values (sym e ∙ t) in
    record { is = (each-accepted _ _ 0 a, record { at = within-at a }) }
