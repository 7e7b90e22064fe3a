-- Arrays with room for the lines that may come have room for those of both bundles. Assumes nothing.
use mathlib.Core.List.{List}
use Prim.Native.Nat.{ℕ, ◌+◌, ◌≤◌}
use native.Mathlib.Omega.{arith}
use lib.IntN.{ℤ}
use Rattle.bundle_scan.specs.declared.Body.{Body}
use Rattle.branches.specs.Spare.{Spare}
use Rattle.bundle_load.specs.Load.{Space}
use Rattle.bundle_load.specs.Both.{Both}
use Rattle.bundle_load.proofs.Preparing.{few}

module _ {A B : List ℕ} {first second : Body} {K : ℕ} (w : Both A B first second K) where
  pub space-from : {e c : ℕ} {kinds : List ℕ} {buf : List ℤ} → Spare e K c kinds buf → first.count + second.count ≤ c → Space K (first.count + second.count) kinds buf
  space-from {e} s h = record {
    constants = w.high;
    room = omega (arith, s.room (first.count + second.count) (few w e) h);
    most = few w 2;
    kinds_room = omega (arith, s.kinds_room (first.count + second.count) (few w e) h);
  }
