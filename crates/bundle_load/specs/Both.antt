-- Two bundles without fault, and their lines in the buffers. Assumes nothing.
use Rattle.std.specs.Prelude.{◌≡◌, List, ℕ, ◌+◌, ◌≤◌, ℤ}
use Rattle.forms.specs.Edition.{edition, edition1}
use Rattle.forms.specs.Forms.{Constraint, lines}
use Rattle.fields.specs.Places.{fields_at}
use Rattle.bundle_scan.specs.declared.Body.{Body}
use Rattle.bundle_scan.specs.Scan.{stated, IsBundle}
use Rattle.lines.specs.Buffer.{lines_in, Bounded}
use Rattle.bundle_load.specs.Load.{Space}

-- What the body of a bundle's file states.
abbrev pub stated_in : (s : List ℕ) (K : ℕ) → Body → List Constraint
stated_in s K body = stated (edition body.edition).coefficient_width K (fields_at s body.at)

-- A and B were gone over: they are bundles, each with its body, with K constants.
pub record Both (A B : List ℕ) (first second : Body) (K : ℕ) : Type 0 where
  pub a : IsBundle 0 A K first
  pub b : IsBundle K B K second
  pub low : 1 ≤ K
  pub high : K ≤ edition1.constants
  pub a_few : first.count ≤ edition1.constraints
  pub b_few : second.count ≤ edition1.constraints

-- The lines of both bundles are in the buffers.
pub record Prepared (A B : List ℕ) (first second : Body) (K : ℕ) (kinds : List ℕ) (buf : List ℤ) : Type 0 where
  pub lines_are : lines_in K kinds buf (first.count + second.count) ≡ lines (stated_in A K first) (stated_in B K second)
  pub bounded : Bounded K buf (first.count + second.count)
  pub space : Space K (first.count + second.count) kinds buf
