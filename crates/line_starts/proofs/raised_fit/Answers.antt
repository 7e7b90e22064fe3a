-- `line_starts::raised_fit` meets its contract: the factor is 1. Assumes nothing.
use mathlib.Core.Path.{◌≡◌, ap₂, ◌∙◌}
use mathlib.Core.Bool.{Bool, ◌&&◌}
use Prim.Native.Nat.{ℕ, ◌+◌, ◌*◌}
use lib.IntN.{ℤ, pos, ◌+ℤ◌, ◌*ℤ◌}
use Rattle.forms.specs.Edition.{edition1}
use Rattle.forms.specs.Forms.{small}
use Rattle.forms.specs.Flat.{form_in}
use Rattle.lines.specs.Buffer.{size}
use Rattle.lines.proofs.Mixing.{one-mul}
use Rattle.line_starts.proofs.raised_fit.Goals as goal

once : {b : Bool} (r x y : ℕ) (z w : ℤ) → b ≡ small r (pos 1 *ℤ z +ℤ pos x) && small r (pos 1 *ℤ w +ℤ pos y) → b ≡ small r (z +ℤ pos x) && small r (w +ℤ pos y)
once r x y z w e = e ∙ ap₂ (λ (u v : ℤ). small r (u +ℤ pos x) && small r (v +ℤ pos y)) (one-mul z) (one-mul w)

pub returns : goal.returns
returns c =
    let a = c.args in
    let term : ℕ → ℤ = λ (at : ℕ). (form_in a.k a.lines.now at).d in
    once edition1.range a.x a.y (term (a.i.0 * size a.k)) (term (a.i.0 * size a.k + (a.k + 1))) c.terms_fit.ensures
