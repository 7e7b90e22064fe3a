-- A test that holds of each, as a test of all. Assumes nothing.
use mathlib.Core.Bool.{Bool}
use mathlib.Core.List.{List, [], ◌∷◌}
use lib.Dec.{T}
use lib.IntN.{ℤ}
use mir.Facts.{and_yes, yes_and}
use Rattle.forms.specs.Forms.{All, nil, cons, every}

-- ---- a test of each number
pub every_of : (p : ℤ → Bool) {zs : List ℤ} → All (λ z. T (p z)) zs → T (every p zs)
unfolding every
every_of p nil = tt
every_of p (cons {x = z} {xs = zs} h hs) = yes_and (p z) (every p zs) h (every_of p hs)

pub of-every : (p : ℤ → Bool) (zs : List ℤ) → T (every p zs) → All (λ z. T (p z)) zs
unfolding every
of-every p [] h = nil
of-every p (z ∷ zs) h = let (a, b) = and_yes (p z) (every p zs) h in cons a (of-every p zs b)
