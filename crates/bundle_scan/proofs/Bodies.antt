-- What is known of a bundle that was gone over. Assumes nothing.
use mathlib.Core.Path.{◌≡◌, refl, subst}
use mathlib.Core.List.{List}
use Prim.Native.Nat.{ℕ, zero, suc, ◌≤◌}
use native.Mathlib.Omega.{arith}
use lib.Dec.{T, eqb, eqb→eq}
use lib.ListN.{length}
use Rattle.forms.specs.Edition.{edition, edition1, newest_edition}
use Rattle.answers.specs.Answers.{accepted, ◌>>=◌}
use Rattle.fields.specs.Header.{agrees}
use Rattle.fields.specs.Places.{given_k, fields_at}
use Rattle.bundle.specs.Bundle.{bundle}
use Rattle.bundle.proofs.Laid.{Laid, bundle-gives}
use Rattle.bundle_scan.specs.Scan.{stated, IsBundle}
use Rattle.bundle_scan.specs.declared.Body.{Body}
use Rattle.bundle_scan.proofs.Scanning as scanning

agrees-some : (given K : ℕ) → 1 ≤ given → agrees (given_k given) K ≡ eqb K given
unfolding agrees
agrees-some zero K h = absurd (omega arith)
agrees-some (suc g) K h = refl

module _ {given K : ℕ} {s : List ℕ} {body : Body} (b : IsBundle given s K body) where
  -- what it states, whatever its file is called
  pub states : (file : ℕ) → bundle newest_edition file (given_k given) s
      ≡ accepted (record { edition = body.edition; K = K; constraints = stated (edition body.edition).coefficient_width K (fields_at s body.at) })
  unfolding bundle ◌>>=◌
  states file = rw (b.header.is file, scanning.constraints-counted file body.edition K 0 (fields_at s body.at), b.counts)

  -- and that it is laid out as a bundle
  pub laid_out : Laid newest_edition (given_k given) s (record { edition = body.edition; K = K; constraints = stated (edition body.edition).coefficient_width K (fields_at s body.at) })
  laid_out = (bundle-gives newest_edition 1 (given_k given) s).gives _ (states 1)

  pub count_is : length (stated (edition body.edition).coefficient_width K (fields_at s body.at)) ≡ body.count
  count_is = omega (arith, scanning.count_is (edition body.edition).coefficient_width K 0 body.count (fields_at s body.at) b.counts)

  pub few : body.count ≤ edition1.constraints
  few = omega (arith, count_is, laid_out.file.few)

  pub low : 1 ≤ K
  low = laid_out.file.laid.low

  pub high : K ≤ edition1.constants
  high = laid_out.file.laid.high

  -- K is the given one, if one is given
  pub as-given : 1 ≤ given → K ≡ given
  as-given h = eqb→eq K given (subst T (agrees-some given K h) laid_out.agree)
