-- A run from the front of what is lent. Assumes nothing.
use mathlib.Core.Path.{◌≡◌, ◌∙◌}
use mathlib.Core.List.{List}
use Prim.Native.Nat.{◌+◌, ◌≤◌}
use native.Mathlib.Omega.{arith}
use lib.ListN.{length}
use lib.Seq.{sets, sets-eq}
use Rattle.answers.specs.Answers.{over}

module _ {A : Type 0} where
  -- a run from the front, and what stands behind it stays
  pub sets_over : (vs l : List A) → length vs ≤ length l → sets l 0 vs ≡ over vs l
  unfolding over
  sets_over vs l h =
      let z : 0 + length vs ≡ length vs = omega arith in
      sets-eq vs l 0 (omega arith) ∙ rw z
