-- The contents of a constraint's field as the code tests them. Assumes nothing.
use mathlib.Core.Path.{◌≡◌, ap}
use mathlib.Core.List.{List}
use Prim.Native.Nat.{ℕ, suc, ◌+◌, ◌*◌}
use native.Mathlib.Omega.{arith}
use lib.ListN.{length}
use Rattle.forms.specs.Forms.{small, every}
use Rattle.number_bytes.specs.Numbers.{signeds, form_from}
use Rattle.number_bytes.proofs.Signed.{flat-signeds}
use Rattle.bundle.specs.Bundle.{form_small}

-- the numbers of a field are those of its form
pub form_small_lem : (w K : ℕ) (contents : List ℕ) → length contents ≡ (K + 1) * w → form_small 2_147_483_647 (form_from w K contents) ≡ every (small 2_147_483_647) (signeds w (K + 1) contents)
unfolding form_small
form_small_lem w K contents e =
    let z : K + 1 ≡ suc K = omega arith in
    rw z (ap (every (small 2_147_483_647)) (flat-signeds w K contents))
