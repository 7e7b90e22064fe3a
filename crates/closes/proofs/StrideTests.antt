-- The tests of a close by stride, one way after the other. Assumes nothing.
use mathlib.Core.Path.{◌≡◌, sym}
use mathlib.Core.Bool.{Bool, true, false}
use mathlib.Core.List.{List}
use Prim.Native.Nat.{ℕ, ◌+◌, ◌*◌, ◌≤◌, ◌<◌}
use lib.Dec.{leb}
use lib.ListN.{get_or}
use lib.IntN.{ℤ, pos}
use lib.Signed.{◌≤ℤ◌}
use Rattle.integers.proofs.Differences.{ints}
use Rattle.integers.specs.Divides.{divb}
use Rattle.forms.specs.Forms.{=0, every}
use Rattle.answers.specs.Answers.{◌>>=◌, ◌>>◌, need, found}
use Rattle.proof.specs.Rows.{is, line_at, by_stride}
use Rattle.lines.specs.Parts.{part}
use Rattle.lines.specs.Buffer.{size, line_in}
use Rattle.lines.proofs.Lines.{line-at, line-past}
use Rattle.tally.specs.declared.Tally.{Tally}
use Rattle.closes.specs.Striding.{ByStride}
use Rattle.std.specs.Prelude.{Ok, Err}
use Rattle.answers.specs.declared.refusals.Refusal.{Refusal}

-- ---- g is 2 at least
pub at-least-two : {g : ℕ} {z : ℤ} → z ≡ pos g → 2 ≤ g → pos 2 ≤ℤ z
at-least-two e l = rw e (omega (ints, l))

-- ---- the tests
module _ (K : ℕ) (kinds : List ℕ) (buf : List ℤ) (t : Tally) (i g : ℕ) where
  pub stride-none : t.lines.0 ≤ i → ByStride K kinds buf t i g (Err Refusal.NoSuchLine)
  unfolding by_stride line_at ◌>>=◌ found
  stride-none h = record { by = λ refusal. rw (line-past K kinds buf t.lines.0 i h) }

  module _ (hi : i < t.lines.0) where
    pub stride-kind : is =0 (line_in K kinds buf i).kind ≡ false → ByStride K kinds buf t i g (Err Refusal.WrongLineKind)
    unfolding by_stride line_at ◌>>=◌ ◌>>◌ found need
    stride-kind h = record { by = λ refusal. rw (line-at K kinds buf t.lines.0 i hi, h) }

    module _ (hk : is =0 (line_in K kinds buf i).kind ≡ true) {a : Bool} (two : a ≡ leb 2 g) where
      pub stride-small : a ≡ false → ByStride K kinds buf t i g (Err Refusal.WrongMultiplier)
      unfolding by_stride line_at ◌>>=◌ ◌>>◌ found need
      stride-small h = record { by = λ refusal. rw (line-at K kinds buf t.lines.0 i hi, hk, ← two, h) }

      module _ (h : a ≡ true) {z : ℤ} (ez : z ≡ pos g) {x : ℕ} (ex : x ≡ i * size K) {b : Bool} (all : b ≡ every (divb z) (part x K buf)) where
        alls : every (divb (pos g)) (line_in K kinds buf i).t.coeffs ≡ b
        unfolding line_in
        alls = sym (rw (ex, ez) at all)

        pub stride-coeffs : b ≡ false → ByStride K kinds buf t i g (Err Refusal.ConditionNotMet)
        unfolding by_stride line_at ◌>>=◌ ◌>>◌ found need
        stride-coeffs l = record { by = λ refusal. rw (line-at K kinds buf t.lines.0 i hi, hk, ← two, h, alls, l) }

        module _ (l : b ≡ true) {c : Bool} {d : ℤ} (ed : d ≡ get_or buf (x + K) (pos 0)) (div : c ≡ divb z d) where
          divs : divb (pos g) (line_in K kinds buf i).t.d ≡ c
          unfolding line_in
          divs = sym (rw (ed, ex, ez) at div)

          pub stride-d : c ≡ true → ByStride K kinds buf t i g (Err Refusal.ConditionNotMet)
          unfolding by_stride line_at ◌>>=◌ ◌>>◌ found need
          stride-d m = record { by = λ refusal. rw (line-at K kinds buf t.lines.0 i hi, hk, ← two, h, alls, l, divs, m) }

          pub stride-passed : c ≡ false → ByStride K kinds buf t i g (Ok tt)
          unfolding by_stride line_at ◌>>=◌ ◌>>◌ found need
          stride-passed m = record { by = λ refusal. rw (line-at K kinds buf t.lines.0 i hi, hk, ← two, h, alls, l, divs, m) }
