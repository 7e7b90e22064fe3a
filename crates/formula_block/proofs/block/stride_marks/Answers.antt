-- `formula_block::block::stride_marks` meets its contract. Assumes nothing.
use native.Mathlib.Omega.{arith}
use mathlib.Core.Path.{◌≡◌, sym, ◌∙◌}
use lib.IntN.{ℤ}
use mir.Syntax.{w64}
use mir.Val.{SFits, to_z, of_z}
use mir.ValLaws.{to_z-of_z}
use Rattle.number_bytes.specs.Ranges.{Held}
use Rattle.form_value.proofs.Quick.{power-true}
use Rattle.form_value.proofs.Words.{stride-positive, stride-low, stride-high}
use Rattle.formula_read.proofs.Parts.{at-least-two}
use Rattle.formula_leaf.proofs.Leaves.{below_two}
use Rattle.formula_block.proofs.block.stride_marks.Goals as goal

pub returns-then-g-lt2 : goal.returns-then-g-lt2
returns-then-g-lt2 c = record { small = omega arith; is = λ h. absurd (below_two (record { sfits = c.signed_at-g.type_inv }) c.signed_at-g.ensures.is c.if-g-lt2.true h) }

-- g as the machine reads it back
module _ {g : ℤ} (fits : SFits w64 g) where
  held : Held 4 g → Held 4 (to_z w64 (of_z w64 g))
  held h = rw (to_z-of_z w64 g fits) h

  same : {v : ℤ} → g ≡ v → to_z w64 (of_z w64 g) ≡ v
  same e = to_z-of_z w64 g fits ∙ e

pub overflow_cast-stride : goal.overflow_cast-stride
overflow_cast-stride c =
    let l = at-least-two (to_z w64 (of_z w64 c.signed_at-g.result)) c.if-g-lt2.false in
    (stride-positive l, record { fits = omega (arith, stride-high l (held (record { sfits = c.signed_at-g.type_inv }) c.signed_at-g.ensures.range)) })

pub is_power-requires : goal.is_power-requires
is_power-requires c =
    let l = at-least-two (to_z w64 (of_z w64 c.signed_at-g.result)) c.if-g-lt2.false in
    (stride-low l, stride-high l (held (record { sfits = c.signed_at-g.type_inv }) c.signed_at-g.ensures.range))

pub leaf_marks-requires : goal.leaf_marks-requires
leaf_marks-requires c = record { proper = power-true 30 _ (sym c.is_power.ensures ∙ c.if-is_power.true); whole = c.requires.whole; block = c.requires.block }

pub returns-then-is_power : goal.returns-then-is_power
returns-then-is_power c = record { small = c.leaf_marks.ensures.small; is = λ h. rw (same (record { sfits = c.signed_at-g.type_inv }) c.signed_at-g.ensures.is) at c.leaf_marks.ensures.is }

pub leaf_marks-requires-2 : goal.leaf_marks-requires-2
leaf_marks-requires-2 c =
    let l = at-least-two (to_z w64 (of_z w64 c.signed_at-g.result)) c.if-g-lt2.false in
    record { proper = (stride-low l, stride-high l (held (record { sfits = c.signed_at-g.type_inv }) c.signed_at-g.ensures.range)); whole = c.requires.whole; block = c.requires.block }

pub returns : goal.returns
returns c = record { small = c.leaf_marks-2.ensures.small; is = λ h. rw (same (record { sfits = c.signed_at-g.type_inv }) c.signed_at-g.ensures.is) at c.leaf_marks-2.ensures.is }
