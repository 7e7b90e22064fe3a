-- `fields::header::put_head` meets its contract. Assumes nothing.
use mathlib.Core.Path.{◌∙◌}
use native.Mathlib.Numerals.{add-one}
use native.Mathlib.Omega.{arith}
use lib.ListN.{length-set}
use Rattle.fields.proofs.header.put_head.Goals as goal

pub put_unsigned-requires : goal.put_unsigned-requires
put_unsigned-requires c = simp length-set (omega arith)

pub shape_of-out : goal.shape_of-out
shape_of-out c =
    let a = c.args in
    c.put_unsigned.auto.out ∙ length-set a.out.now a.at a.tag

pub returns : goal.returns
returns c = c.put_unsigned.ensures ∙ rw add-one
