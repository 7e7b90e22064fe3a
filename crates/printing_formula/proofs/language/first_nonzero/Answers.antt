-- `printing_formula::language::first_nonzero` meets its contract. Assumes nothing.
use Rattle.std.proofs.Common.{◌≡◌, ◌<◌, length, sym, ◌∙◌, arith}
use Rattle.form_value.specs.FormAt.{form_at}
use Rattle.printing_formula.proofs.Forms.{coeffs-long, coefficient, skip-on, skip-here, skip-end, read-zero, read-nonzero}
use Rattle.printing_formula.proofs.language.first_nonzero.Goals as goal

pub returns-then-not-is_zero : goal.returns-then-not-is_zero
returns-then-not-is_zero c =
    let l : c.loop-i.i < length (form_at c.args.s.now c.args.at c.args.k).coeffs = omega (arith, coeffs-long c.args.s.now c.args.at c.args.k) in
    (l, skip-here c.loop-i.invariant l (read-nonzero (record { sfits = c.signed_at.type_inv }) (c.signed_at.ensures.is ∙ sym (coefficient _ _ _ c.loop-i.i c.loop-i-test.true)) c.is_zero.ensures c.if-not-is_zero.true))

pub loop-i-preserved : goal.loop-i-preserved
loop-i-preserved c = skip-on c.loop-i.invariant (omega (arith, coeffs-long c.args.s.now c.args.at c.args.k)) (read-zero (record { sfits = c.signed_at.type_inv }) (c.signed_at.ensures.is ∙ sym (coefficient _ _ _ c.loop-i.i c.loop-i-test.true)) c.is_zero.ensures c.if-not-is_zero.false)

pub returns : goal.returns
returns c =
    let cs = (form_at c.args.s.now c.args.at c.args.k).coeffs in
    let e : c.loop-i.i ≡ length cs = omega (arith, coeffs-long c.args.s.now c.args.at c.args.k) in
    rw e at (skip-end c.loop-i.invariant (omega arith))
