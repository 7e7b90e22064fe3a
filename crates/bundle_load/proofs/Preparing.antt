-- The lines of both bundles, over plain values. Assumes nothing.
use mathlib.Core.Path.{◌≡◌}
use mathlib.Core.Bool.{true, false}
use mathlib.Core.List.{List, map}
use Prim.Native.Nat.{ℕ, ◌+◌, ◌≤◌}
use native.Mathlib.Omega.{arith}
use lib.IntN.{ℤ}
use lib.ListN.{length, length-map, length-append}
use Rattle.forms.specs.Edition.{edition}
use Rattle.forms.proofs.Editions.{lines-least}
use Rattle.forms.specs.Forms.{line_a, line_b, lines}
use Rattle.fields.specs.Places.{fields_at}
use Rattle.bundle_scan.specs.Scan.{stated}
use Rattle.bundle_scan.specs.declared.Body.{Body}
use Rattle.bundle_scan.proofs.Bodies.{count_is}
use Rattle.lines.specs.Buffer.{lines_in}
use Rattle.bundle_load.specs.Load.{line_of, Space, Loaded, Able}
use Rattle.bundle_load.specs.Both.{stated_in, Both, Prepared}
use Rattle.bundle_load.proofs.Loading.{space-less, space-kept, loaded-then}

module _ {A B : List ℕ} {first second : Body} {K : ℕ} (w : Both A B first second K) where
  -- There are fewer than any edition allows.
  pub few : (e : ℕ) → first.count + second.count ≤ (edition e).lines
  few e = omega (arith, w.a_few, w.b_few, lines-least e)

module _ {A B : List ℕ} {first second : Body} {K : ℕ} (w : Both A B first second K) where
  -- Each bundle's constraints have room, with numbers as wide as its edition has them.
  pub able-A : {x : ℕ} {kinds : List ℕ} {buf : List ℤ} → x ≡ (edition first.edition).coefficient_width → Space K (first.count + second.count) kinds buf → Able x K (fields_at A first.at) kinds buf 0
  able-A e s = rw e (record { m = first.count; is = w.a.counts; space = space-less (omega arith) s })

  pub able-B : {x : ℕ} {kinds : List ℕ} {buf : List ℤ} → x ≡ (edition second.edition).coefficient_width → Space K (first.count + second.count) kinds buf
      → Able x K (fields_at B second.at) kinds buf first.count
  able-B e s = rw e (record { m = second.count; is = w.b.counts; space = space-less (omega arith) s })

  module _ {x y : ℕ} {kinds kinds₁ kinds₂ : List ℕ} {buf buf₁ buf₂ : List ℤ} (ex : x ≡ (edition first.edition).coefficient_width) (ey : y ≡ (edition second.edition).coefficient_width)
      (p : Loaded K kinds buf 0 (map (line_of true) (stated x K (fields_at A first.at))) kinds₁ buf₁)
      (q : Loaded K kinds₁ buf₁ first.count (map (line_of false) (stated y K (fields_at B second.at))) kinds₂ buf₂) where
    both-loaded : Loaded K kinds buf 0 (lines (stated_in A K first) (stated_in B K second)) kinds₂ buf₂
    both-loaded =
        let l = rw ex at p in
        let r = rw ey at q in
        let z : first.count ≡ 0 + length (map line_a (stated_in A K first)) = omega (arith, length-map (stated_in A K first) line_a, count_is w.a) in
        loaded-then l (rw z at r)

    total : 0 + length (lines (stated_in A K first) (stated_in B K second)) ≡ first.count + second.count
    total =
        omega
        (arith, length-append (map line_a (stated_in A K first)) (map line_b (stated_in B K second)), length-map (stated_in A K first) line_a, length-map (stated_in B K second) line_b, count_is w.a, count_is w.b)

    lines_are : lines_in K kinds₂ buf₂ (first.count + second.count) ≡ lines (stated_in A K first) (stated_in B K second)
    unfolding lines_in
    lines_are = rw (← total) both-loaded.lines

    pub prepared : Space K (first.count + second.count) kinds buf → Prepared A B first second K kinds₂ buf₂
    prepared s = record {
      lines_are = lines_are;
      bounded = rw total at (both-loaded.bounded (record { small = λ j h. absurd (omega arith) }));
      space = space-kept both-loaded.kinds_length both-loaded.lines_length s;
    }
