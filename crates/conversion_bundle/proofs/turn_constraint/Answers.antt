-- `conversion_bundle::turn_constraint` meets its contract: in edition 1 numbers of four bytes become such of two, else the other way. Assumes nothing.
use mathlib.Core.Path.{◌≡◌, sym, ap, ◌∙◌}
use Prim.Native.Nat.{ℕ, ◌+◌, ◌*◌}
use lib.ListN.{drop}
use borrow.Author.Tests.{eq-eqb, ne_eqb}
use Rattle.fields.proofs.Stores.{put-field}
use Rattle.conversion_bundle.proofs.Putting.{run-size}
use Rattle.conversion_bundle.proofs.turn_constraint.Goals as goal

pub returns-then-to-eq1 : goal.returns-then-to-eq1
returns-then-to-eq1 c =
    let a = c.args in
    let q = eq-eqb a.to 1 c.if-to-eq1.true in
    let b : c.coefficient_bytes.result ≡ 2 = c.coefficient_bytes.ensures ∙ rw q in
    rw q (put-field a.out.now a.o a.tag _ _ c.put_head.ensures c.turn_run.ensures (run-size 4 2 (a.k + 1) (drop a.start a.s.now) ∙ ap (λ (m : ℕ). (a.k + 1) * m) (sym b)))

pub returns : goal.returns
returns c =
    let a = c.args in
    let q = ne_eqb a.to 1 c.if-to-eq1.false in
    let b : c.coefficient_bytes.result ≡ 4 = c.coefficient_bytes.ensures ∙ rw q in
    rw q (put-field a.out.now a.o a.tag _ _ c.put_head.ensures c.turn_run-2.ensures (run-size 2 4 (a.k + 1) (drop a.start a.s.now) ∙ ap (λ (m : ℕ). (a.k + 1) * m) (sym b)))
