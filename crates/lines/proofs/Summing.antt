-- A turn of the loop that writes the sums α·s + β·t number by number, and what stays of it. Assumes nothing.
use mathlib.Core.Path.{◌≡◌, sym, ◌∙◌, ap, subst}
use mathlib.Core.List.{List}
use mathlib.Core.Bool.{Bool, true, false}
use Prim.Native.Nat.{ℕ, ◌<◌, ◌≤◌, ◌+◌}
use native.Mathlib.Omega.{arith}
use lib.Dec.{T, leb}
use lib.IntN.{ℤ, pos, nat_abs, ◌+ℤ◌, ◌*ℤ◌}
use lib.ListN.{length, get_or, set}
use lib.Seq.{take_all}
use mir.Syntax.{w32, w64}
use mir.Val.{to_z, of_z, SFits}
use mir.ValLaws.{to_z-of_z}
use Rattle.integers.specs.Magnitude.{Factors, Within}
use Rattle.integers.proofs.Magnitude.{within-fits, first_fits, second_fits, sum_fits}
use Rattle.forms.specs.Edition.{edition1}
use Rattle.forms.specs.Forms.{small, every}
use Rattle.lines.specs.Parts.{Agree}
use Rattle.lines.proofs.Parts.{agree-paste}
use Rattle.lines.specs.Buffer.{SumAsked, Mixes, mixed}
use Rattle.lines.proofs.Mixing.{length-mixed, get_d-mixed}
use Rattle.lines.proofs.Every.{Passed, passed-next, passed-fails, passed-all}
use Rattle.lines.proofs.Fill.{Filled, filled-length, filled-before, filled_next}
use Rattle.lines.proofs.Narrow.{tested-within, narrow-fits, narrowed}

-- The first x of the sums s are at d, and within the range.
pub record Sums (l : List ℤ) (d : ℕ) (s m : List ℤ) (w x : ℕ) : Type 0 where
  pub filled : Filled l d s m x
  pub passed : Passed (small edition1.range) s 0 w x

-- An integer as the machine word that holds it.
abbrev pub word : ℤ → ℤ
word z = to_z w64 (of_z w64 z)

-- The three steps of a turn, in words.
module _ {f x g y : ℤ} (q : Factors f x g y) where
  pub first_step : SFits w64 (f *ℤ word x)
  first_step = let fx = within-fits q.x_in tt in simp to_z-of_z (first_fits q)

  pub second-step : SFits w64 (g *ℤ word y)
  second-step = let fy = within-fits q.y_in tt in simp to_z-of_z (second_fits q)

  pub third-step : SFits w64 (word (f *ℤ word x) +ℤ word (g *ℤ word y))
  third-step =
      let fx = within-fits q.x_in tt in
      let fy = within-fits q.y_in tt in
      let ffx = first_fits q in
      let fgy = second_fits q in
      simp to_z-of_z (sum_fits q)

  sum_is : word (f *ℤ word x) +ℤ word (g *ℤ word y) ≡ f *ℤ x +ℤ g *ℤ y
  sum_is =
      let fx = within-fits q.x_in tt in
      let fy = within-fits q.y_in tt in
      let ffx = first_fits q in
      let fgy = second_fits q in
      simp to_z-of_z

-- A turn, in the source's terms.
module _ {l : List ℤ} {a b d w : ℕ} {f g : ℤ} (t : SumAsked l f a g b d w) where
  sums-length : length (mixed f a g b w l) ≡ w
  sums-length = length-mixed f a g b w l (omega arith) (omega arith)

  module _ {m : List ℤ} {x : ℕ} (v : Sums l d (mixed f a g b w l) m w x) where
    room : d + length (mixed f a g b w l) ≤ length l
    room = omega (arith, sums-length)

    pub len : length m ≡ length l
    len = filled-length room v.filled

    keeps : Agree d l m
    keeps = rw v.filled.is (agree-paste d l d (mixed f a g b w l) x (omega arith) (omega arith))

    -- The two numbers of the turn were read as y and z.
    module _ (h : x < w) {y z : ℤ} (ey : y ≡ get_or m (a + x) (pos 0)) (ez : z ≡ get_or m (b + x) (pos 0)) where
      at_a : y ≡ get_or l (a + x) (pos 0)
      at_a = ey ∙ filled-before room v.filled (a + x) (pos 0) (omega arith)

      at_b : z ≡ get_or l (b + x) (pos 0)
      at_b = ez ∙ filled-before room v.filled (b + x) (pos 0) (omega arith)

      pub turn : Factors f y g z
      turn = rw (at_a, at_b) (t.factors x h)

      value : word (f *ℤ word y) +ℤ word (g *ℤ word z) ≡ get_or (mixed f a g b w l) x (pos 0)
      value = sum_is turn ∙ rw (at_a, at_b) (sym (get_d-mixed f a g b w l x h))

      from_first : get_or (mixed f a g b w l) x (pos 0) ≡ get_or (mixed f a g b w l) (0 + x) (pos 0)
      from_first = let e : x ≡ 0 + x = omega arith in ap (λ (n : ℕ). get_or (mixed f a g b w l) n (pos 0)) e

      -- r is what the test of the sum gave.
      module _ {r : Bool} (q : r ≡ leb (nat_abs (word (word (f *ℤ word y) +ℤ word (g *ℤ word z)))) edition1.range) where
        tested : r ≡ small edition1.range (get_or (mixed f a g b w l) x (pos 0))
        unfolding small
        tested = q ∙ ap (λ (u : ℤ). leb (nat_abs u) edition1.range) (to_z-of_z w64 _ (third-step turn) ∙ value)

        pub fails : r ≡ false → Mixes l f a g b d w m false
        fails k = record {
          fits = passed-fails (omega (arith, sums-length)) v.passed h from_first tested k ∙ ap (every (small edition1.range)) (take_all w (mixed f a g b w l) (omega (arith, sums-length)));
          is = λ e. absurd (subst T (sym e) tt);
          keeps = keeps;
          long = len;
        }

        module _ (k : r ≡ true) where
          in-range : Within edition1.range (get_or (mixed f a g b w l) x (pos 0))
          unfolding small
          in-range = tested-within tested k

          pub cast_fits : SFits w32 (word (word (f *ℤ word y) +ℤ word (g *ℤ word z)))
          cast_fits = narrow-fits value in-range

          pub next : Sums l d (mixed f a g b w l) (set m (d + x) (to_z w32 (of_z w32 (word (word (f *ℤ word y) +ℤ word (g *ℤ word z)))))) w (x + 1)
          next = record {
            filled = filled_next room v.filled _ (pos 0) (narrowed value in-range) (omega (arith, sums-length));
            passed = passed-next (omega (arith, sums-length)) v.passed h from_first tested k;
          }

    pub done : w ≤ x → Mixes l f a g b d w m true
    done h =
        let e : x ≡ w = omega (arith, v.passed.upto) in
        record {
          fits = passed-all (omega (arith, sums-length)) v.passed h ∙ ap (every (small edition1.range)) (take_all w (mixed f a g b w l) (omega (arith, sums-length)));
          is = λ _. rw e at v.filled.is;
          keeps = keeps;
          long = len;
        }

-- What the source asks, of the factors as machine words.
pub of_words : {l : List ℤ} {f g : ℤ} {a b d w : ℕ} → SFits w64 f → SFits w64 g → SumAsked l f a g b d w → SumAsked l (word f) a (word g) b d w
of_words ff fg h = simp to_z-of_z h
