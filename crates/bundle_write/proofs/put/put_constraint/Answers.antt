-- `bundle_write::put::put_constraint` meets its contract. Assumes nothing.
use mathlib.Core.Path.{◌∙◌}
use Prim.Native.Nat.{◌+◌}
use Rattle.number_bytes.specs.Widths.{bytes_of}
use Rattle.number_bytes.proofs.Signed.{length-signeds_bytes}
use Rattle.fields.proofs.Stores.{put-field}
use Rattle.bundle_write.proofs.put.put_constraint.Goals as goal

pub returns : goal.returns
returns c =
    let a = c.args in
    put-field a.out.now a.at (3 + a.kind) _ _ c.put_head.ensures c.put_numbers.ensures (length-signeds_bytes (bytes_of a.width) a.numbers.now ∙ rw c.bytes.ensures)
