-- `enumeration_rows::write::put_reduce` meets its contract. Assumes nothing.
use mathlib.Core.List.{List, [], ◌∷◌}
use mathlib.Core.Path.{◌∙◌, ap}
use Prim.Native.Nat.{ℕ, ◌+◌, ◌*◌, ◌/◌, ◌%◌}
use native.Mathlib.Omega.{arith}
use lib.ListN.{get_or}
use Rattle.enumeration_rows.proofs.Stored.{part_stored}
use Rattle.enumeration_rows.proofs.write.put_reduce.Goals as goal

pub returns : goal.returns
returns c = part_stored c.args.at (c.args.at + 7) c.args.out.now
    (c.copy_from_slice.ensures.after ∙ ap (λ (f : List ℕ). 0x11 ∷ 0 ∷ 4 ∷ (c.args.x / (4 * c.args.n)) ∷ (c.args.x / 4 % c.args.n) ∷ get_or f 0 0 ∷ get_or f 1 0 ∷ []) c.factor_bytes.ensures)
    (omega arith) (omega (arith, c.requires.0))
