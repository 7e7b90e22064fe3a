-- The tests of a rounding, one way after the other. Assumes nothing.
use mathlib.Core.Path.{◌≡◌, refl, sym, ap, ◌∙◌}
use mathlib.Core.Bool.{Bool, true, false, not, ◌&&◌}
use mathlib.Core.List.{List}
use Prim.Native.Nat.{ℕ, zero, suc, ◌+◌, ◌*◌, ◌-◌, ◌≤◌, ◌<◌}
use native.Mathlib.Omega.{arith}
use lib.Dec.{leb}
use lib.IntN.{ℤ, pos, ◌+ℤ◌}
use lib.ListN.{get_or}
use borrow.Author.Tests.{le-leb, lt-leb, leb-true}
use Rattle.integers.specs.Divides.{divb}
use Rattle.forms.specs.Forms.{≤0, every}
use Rattle.answers.specs.Answers.{◌>>=◌, ◌>>◌, need, found}
use Rattle.proof.specs.Rows.{is, line_at, inequality, roundable, undivided}
use Rattle.lines.specs.Parts.{part}
use Rattle.lines.specs.Buffer.{size, line_in}
use Rattle.lines.proofs.Lines.{line-at, line-past}
use Rattle.tally.specs.declared.Tally.{Tally}
use Rattle.std.specs.Prelude.{Ok, Err}
use Rattle.answers.specs.declared.refusals.Refusal.{Refusal}
use Rattle.openings.specs.Opening.{Roundable}

-- ---- g divides d + j for no j below by
-- The loop goes down from `by`: what is left to test is the whole.
pub undivided-none : (g : ℕ) (d : ℤ) (by left : ℕ) → undivided g d by ≡ undivided g d left → left ≡ 0 → true ≡ undivided g d by
unfolding undivided
undivided-none g d by left e z = rw (e, z)

module _ (g : ℕ) (d : ℤ) (by left : ℕ) (e : undivided g d by ≡ undivided g d left) (h : 0 < left) {b : Bool} (t : b ≡ divb (pos g) (d +ℤ pos (left - 1))) where
  one_less : undivided g d by ≡ not b && undivided g d (left - 1)
  unfolding undivided
  one_less =
      let z : left ≡ suc (left - 1) = omega arith in
      e ∙ ap (undivided g d) z ∙ ap (λ (c : Bool). not c && undivided g d (left - 1)) (sym t)

  pub undivided-stops : b ≡ true → false ≡ undivided g d by
  undivided-stops q = sym (rw q at one_less)

  pub undivided-on : b ≡ false → undivided g d by ≡ undivided g d (left - 1)
  undivided-on q = rw q at one_less

-- ---- the tests
positive : (n : ℕ) → (n ≡ 0 → ⊥) → 1 ≤ n
positive zero q = absurd (q refl)
positive (suc n) q = omega arith

module _ (K : ℕ) (kinds : List ℕ) (buf : List ℤ) (t : Tally) (i g by : ℕ) where
  pub round-none : t.lines.0 ≤ i → Roundable K kinds buf t i g by (Err Refusal.NoSuchLine)
  unfolding roundable inequality line_at ◌>>=◌ found
  round-none h = record { by = λ refusal. rw (line-past K kinds buf t.lines.0 i h) }

  module _ (hi : i < t.lines.0) where
    pub round-kind : is ≤0 (line_in K kinds buf i).kind ≡ false → Roundable K kinds buf t i g by (Err Refusal.WrongLineKind)
    unfolding roundable inequality line_at ◌>>=◌ ◌>>◌ found need
    round-kind h = record { by = λ refusal. rw (line-at K kinds buf t.lines.0 i hi, h) }

    module _ (hk : is ≤0 (line_in K kinds buf i).kind ≡ true) {a : Bool} (two : a ≡ leb 2 g) where
      pub round-small : a ≡ false → Roundable K kinds buf t i g by (Err Refusal.WrongMultiplier)
      unfolding roundable inequality line_at ◌>>=◌ ◌>>◌ found need
      round-small h = record { by = λ refusal. rw (line-at K kinds buf t.lines.0 i hi, hk, ← two, h) }

      module _ (h : a ≡ true) where
        pub round-least : by ≡ 0 → Roundable K kinds buf t i g by (Err Refusal.WrongMultiplier)
        unfolding roundable inequality line_at ◌>>=◌ ◌>>◌ found need
        round-least z = record { by = λ refusal. rw (line-at K kinds buf t.lines.0 i hi, hk, ← two, h, lt-leb 1 by (omega arith)) }

        module _ (least : by ≡ 0 → ⊥) where
          pub round-most : 16 < by → Roundable K kinds buf t i g by (Err Refusal.WrongMultiplier)
          unfolding roundable inequality line_at ◌>>=◌ ◌>>◌ found need
          round-most z = record { by = λ refusal. rw (line-at K kinds buf t.lines.0 i hi, hk, ← two, h, le-leb 1 by (positive by least), lt-leb by 16 z) }

          module _ (most : by ≤ 16) {z : ℤ} (ez : z ≡ pos g) {x : ℕ} (ex : x ≡ i * size K) {b : Bool} (all : b ≡ every (divb z) (part x K buf)) where
            alls : every (divb (pos g)) (line_in K kinds buf i).t.coeffs ≡ b
            unfolding line_in
            alls = sym (rw (ex, ez) at all)

            pub round-coeffs : b ≡ false → Roundable K kinds buf t i g by (Err Refusal.ConditionNotMet)
            unfolding roundable inequality line_at ◌>>=◌ ◌>>◌ found need
            round-coeffs l = record { by = λ refusal. rw (line-at K kinds buf t.lines.0 i hi, hk, ← two, h, le-leb 1 by (positive by least), le-leb by 16 most, alls, l) }

            module _ (l : b ≡ true) {c : Bool} {d : ℤ} (ed : d ≡ get_or buf (x + K) (pos 0)) (none : c ≡ undivided g d by) where
              nones : undivided g (line_in K kinds buf i).t.d by ≡ c
              unfolding line_in
              nones = sym (rw (ed, ex) at none)

              pub round-d : c ≡ false → Roundable K kinds buf t i g by (Err Refusal.ConditionNotMet)
              unfolding roundable inequality line_at ◌>>=◌ ◌>>◌ found need
              round-d m = record { by = λ refusal. rw (line-at K kinds buf t.lines.0 i hi, hk, ← two, h, le-leb 1 by (positive by least), le-leb by 16 most, alls, l, nones, m) }

              pub round-passed : c ≡ true → Roundable K kinds buf t i g by (Ok tt)
              unfolding roundable inequality line_at ◌>>=◌ ◌>>◌ found need
              round-passed m = record {
                by = (
                  λ refusal. rw (line-at K kinds buf t.lines.0 i hi, hk, ← two, h, le-leb 1 by (positive by least), le-leb by 16 most, alls, l, nones, m),
                  hi,
                  record { stride = leb-true 2 g (sym two ∙ h); least = positive by least; most = most },
                );
              }
