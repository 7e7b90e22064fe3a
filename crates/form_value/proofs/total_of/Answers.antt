-- `form_value::total_of` meets its contract. Assumes nothing.
use Rattle.std.proofs.Common.{arith, w64}
use mir.ValLaws.{to_z-of_z}
use Rattle.form_value.proofs.Value.{told-none, told-small, told-more, told-all}
use Rattle.form_value.proofs.total_of.Goals as goal

pub of-total-requires : goal.of-total-requires
of-total-requires g c = rw (to_z-of_z w64 c.number.result (record { sfits = c.number.type_inv })) c.number.ensures.range

pub loop-i-init : goal.loop-i-init
loop-i-init g c = told-none _ _ _ _ c.requires.k_in_bounds c.number.ensures.is c.number.ensures.range (rw (to_z-of_z w64 c.number.result (record { sfits = c.number.type_inv })) at c.of-total.ensures)

pub with_term-total-requires : goal.with_term-total-requires
with_term-total-requires g c =
    let n = c.number-in-loop-i in
    let x = c.number-in-loop-i-2 in
    let r = c.requires.registers in
    record {
      c_small = rw (to_z-of_z w64 n.result (record { sfits = n.type_inv })) n.ensures.range;
      x_small = rw (to_z-of_z w64 x.result (record { sfits = x.type_inv }), x.ensures) (r.all.at _);
      total = told-small _ _ _ _ c.requires.k_in_bounds r.all r.count c.loop-i.invariant r.few;
    }

pub loop-i-preserved : goal.loop-i-preserved
loop-i-preserved g c =
    let n = c.number-in-loop-i in
    let x = c.number-in-loop-i-2 in
    let r = c.requires.registers in
    told-more _ _ _ _ c.requires.k_in_bounds r.all r.count c.loop-i.invariant (omega arith) n.ensures.range n.ensures.is x.ensures
    (rw (to_z-of_z w64 n.result (record { sfits = n.type_inv }), to_z-of_z w64 x.result (record { sfits = x.type_inv })) at c.with_term-total.ensures)

pub returns : goal.returns
returns g c = told-all _ _ _ _ c.requires.k_in_bounds c.loop-i.invariant c.loop-i-test.false
