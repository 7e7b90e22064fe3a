-- `formula_write::put_numbers` meets its contract. Assumes nothing.
use Rattle.std.proofs.Common.{◌∙◌, sym, arith, w64}
use mir.ValLaws.{to_z-of_z}
use Rattle.formula_write.proofs.Written.{putting-on, putting-end, written-long, written-number}
use Rattle.formula_write.proofs.put_numbers.Goals as goal

pub loop-x-preserved : goal.loop-x-preserved
loop-x-preserved g c f h =
    let n = c.requires.numbered in
    let x = c.loop-x.x in
    let e = to_z-of_z w64 c.number-n.result (record { sfits = c.number-n.type_inv }) ∙ c.number-n.ensures in
    putting-on (c.loop-x.invariant f h) (omega (arith, written-long n f))
    (to_z-of_z w64 c.written.result (record { sfits = c.written.type_inv }) ∙ h.is _ _ (n.small x (omega arith)) (rw e at c.written.ensures) ∙ sym (written-number n f x (omega arith))) c.put_signed.ensures

pub returns : goal.returns
returns g c f h = putting-end (c.loop-x.invariant f h) (omega (arith, written-long c.requires.numbered f))
