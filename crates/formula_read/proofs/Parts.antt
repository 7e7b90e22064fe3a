-- A stride part, as the code's test leaves it. Assumes nothing.
use mathlib.Core.Path.{◌≡◌, refl, sym, ap, subst, ◌∙◌}
use mathlib.Core.Bool.{Bool, true, false}
use Prim.Native.Nat.{ℕ}
use native.Mathlib.Omega.{arith}
use lib.Dec.{T}
use lib.IntN.{ℤ, pos, negsuc}
use lib.Signed.{le_z, lt_z, ◌≤ℤ◌}
use borrow.Author.Tests.{ltb-true, ltb-false, le-leb, lt-leb}
use mir.Syntax.{w64}
use mir.Val.{SFits, to_z, of_z}
use mir.ValLaws.{to_z-of_z}
use Rattle.integers.specs.Divides.{divb}
use Rattle.std.specs.Prelude.{Ok, Err}
use Rattle.answers.specs.declared.refusals.Refusal.{Refusal}
use Rattle.formula_read.specs.Judging.{stride_judged}

-- g below 2, or not
pub low : (g : ℤ) → lt_z g (pos 2) ≡ true → le_z (pos 2) g ≡ false
low (pos n) h = lt-leb 2 n (ltb-true n 2 h)
low (negsuc n) h = refl

pub high : (g : ℤ) → lt_z g (pos 2) ≡ false → le_z (pos 2) g ≡ true
high (pos n) h = le-leb 2 n (ltb-false n 2 h)
high (negsuc n) h = absurd (let z : ◌≡◌ {A = ℕ} 0 1 = cc in omega arith)

pub at-least-two : (g : ℤ) → lt_z g (pos 2) ≡ false → pos 2 ≤ℤ g
at-least-two g h = record { le = subst T (sym (high g h)) tt }

module _ {r g : ℤ} (f : SFits w64 r) (e : r ≡ g) where
  pub stride-refused : (v : ℤ) → lt_z (to_z w64 (of_z w64 r)) (pos 2) ≡ true → Err Refusal.WrongMultiplier ≡ stride_judged g v
  unfolding stride_judged
  stride-refused v h = rw (low g (rw (to_z-of_z w64 r f, e) at h))

  pub stride-judged : {b : Bool} (v : ℤ) → lt_z (to_z w64 (of_z w64 r)) (pos 2) ≡ false → b ≡ divb (to_z w64 (of_z w64 r)) v → Ok b ≡ stride_judged g v
  unfolding stride_judged
  stride-judged {b} v h m =
      let n : b ≡ divb g v = m ∙ ap (λ (z : ℤ). divb z v) (to_z-of_z w64 r f ∙ e) in
      rw (high g (rw (to_z-of_z w64 r f, e) at h), n)
