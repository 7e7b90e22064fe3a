-- How many fields a proof has: each has three bytes at least. Assumes nothing.
use mathlib.Core.Path.{◌≡◌, refl}
use mathlib.Core.List.{List}
use Prim.Native.Nat.{ℕ, zero, suc, ◌+◌, ◌*◌, ◌-◌, ◌≤◌}
use native.Mathlib.Omega.{arith}
use lib.ListN.{length}
use Rattle.fields.specs.Places.{fields_at, next_of, fields_left}
use Rattle.fields.specs.declared.WholeField.{WholeField}
use Rattle.fields.specs.declared.End.{End}
use Rattle.std.specs.Prelude.{Ok, Err}
use Rattle.std.specs.declared.result.Result as code
use Rattle.fields.proofs.Places.{starts, next-cut, next-ends, count-starts, count_cut, count-ends}

module _ (p : List ℕ) where
  by_next : (at : ℕ) → ((next : ℕ) → at + 3 ≤ next → next ≤ length p → 3 * fields_left p next ≤ length p - next) → (r : code.Result WholeField End) → r ≡ next_of (fields_at p at) → 3 * fields_left p at ≤ length p - at
  by_next at go (Err (End.Ends a)) e = omega (arith, count-ends (next-ends (fields_at p at) e refl))
  by_next at go (Err (End.Cut a)) e = omega (arith, count_cut (next-cut (fields_at p at) e refl))
  by_next at go (Ok f) e =
      let k = starts e refl in
      let far : at + 3 ≤ f.next = omega (arith, k.from, k.start_is, k.next-is) in
      omega (arith, count-starts k, far, k.upto, go f.next far k.upto)

  left-few : (fuel at : ℕ) → length p - at ≤ fuel → 3 * fields_left p at ≤ length p - at
  left-few zero at h = by_next at (λ next l u. absurd (omega arith)) (next_of (fields_at p at)) refl
  left-few (suc fuel) at h = by_next at (λ next l u. left-few fuel next (omega arith)) (next_of (fields_at p at)) refl

  pub fields-few : (at : ℕ) → 3 * fields_left p at ≤ length p - at
  fields-few at = left-few (length p) at (omega arith)
