-- `lines::all_zero` meets its contract: after x turns `joined` is 0 where the first x numbers are. Assumes nothing.
use mathlib.Core.Path.{◌≡◌}
use Prim.Native.Nat.{◌≤◌}
use lib.IntN.{pos}
use Rattle.integers.specs.Linear.{eq_z}
use Rattle.forms.specs.Forms.{every}
use Rattle.lines.specs.Parts.{part}
use Rattle.lines.proofs.all_zero.Given as goal

abbrev pub invariant-loop-x : goal.invariant-loop-x
invariant-loop-x l = (eq_z l.joined (pos 0) ≡ every (λ z. eq_z z (pos 0)) (part l.at l.x l.lines)) × (l.x ≤ l.k)
