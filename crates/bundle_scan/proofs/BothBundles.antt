-- Both bundles, A and then B with A's K, by what going over each tells. Assumes nothing.
use mathlib.Core.Path.{◌≡◌}
use mathlib.Core.Option.{none, some}
use mathlib.Core.List.{List}
use Prim.Native.Nat.{ℕ}
use Rattle.forms.specs.Edition.{edition, newest_edition}
use Rattle.answers.specs.declared.Answer.{Answer}
use Rattle.answers.specs.Answers.{file_a, file_b, refused, accepted, ◌>>=◌}
use Rattle.fields.specs.Places.{given_k, fields_at}
use Rattle.fields.proofs.Headers.{given-some}
use Rattle.bundle.specs.Bundle.{Bundle, bundle, bundles}
use Rattle.bundle_scan.specs.Scan.{stated, IsBundle}
use Rattle.bundle_scan.specs.declared.Body.{Body}
use Rattle.bundle_scan.proofs.Bodies.{states, low, as-given}

-- The bundle that a body states.
abbrev pub bundle_of : List ℕ → (K : ℕ) → Body → Bundle
bundle_of s K body = record { edition = body.edition; K = K; constraints = stated (edition body.edition).coefficient_width K (fields_at s body.at) }

pub refused-A : (A B : List ℕ) {x : Answer} → bundle newest_edition file_a none A ≡ refused x → bundles newest_edition A B ≡ refused x
unfolding bundles ◌>>=◌
refused-A A B e = rw e

module _ {A : List ℕ} {K : ℕ} {first : Body} (a : IsBundle 0 A K first) where
  -- K is not 0, so it is given
  given_is : given_k K ≡ some K
  given_is = given-some K (low a)

  pub refused-B : (B : List ℕ) {x : Answer} → bundle newest_edition file_b (given_k K) B ≡ refused x → bundles newest_edition A B ≡ refused x
  unfolding bundles ◌>>=◌
  refused-B B e = rw (states a file_a, ← given_is, e)

  module _ {B : List ℕ} {K' : ℕ} {second : Body} (b : IsBundle K B K' second) where
    -- B's K is A's
    pub same-k : K' ≡ K
    same-k = as-given b (low a)

    pub accepted-both : bundles newest_edition A B ≡ accepted (bundle_of A K first, bundle_of B K' second)
    unfolding bundles ◌>>=◌
    accepted-both = rw (states a file_a, ← given_is, states b file_b)
