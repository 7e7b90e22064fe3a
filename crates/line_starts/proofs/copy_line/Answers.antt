-- `line_starts::copy_line` meets its contract. Assumes nothing.
use mathlib.Core.Path.{◌≡◌, ◌∙◌}
use mathlib.Core.List.{List}
use Prim.Native.Nat.{ℕ, ◌+◌, ◌-◌, ◌*◌}
use native.Mathlib.Omega.{arith}
use lib.IntN.{ℤ}
use lib.ListN.{drop}
use Rattle.std.proofs.lemmas.List.{take-take}
use Rattle.std.specs.List.{copy_within}
use Rattle.lines.specs.Buffer.{size, mixed_line, copied_line}
use Rattle.lines.proofs.Mixing.{mixed-copy}
use Rattle.line_starts.proofs.copy_line.Goals as goal

copied : (k i n : ℕ) (buf : List ℤ) → copy_within buf (i * size k) (i * size k + 2 * (k + 1)) (n * size k) ≡ copied_line k i n buf
unfolding mixed_line copied_line
copied k i n buf =
    let w : i * size k + 2 * (k + 1) - i * size k ≡ size k = omega arith in
    rw (w, mixed-copy (i * size k) (size k) buf, take-take (size k) (size k) (drop (i * size k) buf) (omega arith))

pub returns : goal.returns
returns c = (rw (c.place-from.ensures, c.place-to.ensures) at c.copy_within.ensures.after) ∙ copied c.args.k c.args.i.0 c.args.n.0 c.args.lines.now
