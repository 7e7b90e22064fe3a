-- `number_bytes::words::put_long` meets its contract: a part is written whole. Assumes nothing.
use mathlib.Core.Path.{◌∙◌}
use Prim.Native.Nat.{◌+◌, ◌-◌}
use native.Mathlib.Omega.{arith}
use mir.Syntax.{w32}
use mir.ValLaws.{to_z-of_z}
use Rattle.number_bytes.specs.Numbers.{signed_bytes}
use Rattle.number_bytes.proofs.Signed.{length-signed_bytes}
use Rattle.number_bytes.proofs.Stores.{sets-mid}
use Rattle.number_bytes.proofs.Turned.{bytes_four}
use Rattle.number_bytes.proofs.words.put_long.Goals as goal

pub returns : goal.returns
returns c =
    let a = c.args in
    sets-mid a.at 4 (a.at + 4 - a.at) a.out.now (signed_bytes 4 a.value) c.copy_from_slice.new.self
    (c.copy_from_slice.ensures.after ∙ rw (to_z-of_z w32 a.value c.ranges.value) at c.to_be_bytes.ensures ∙ bytes_four a.value) (length-signed_bytes 4 a.value) (omega arith) c.requires
