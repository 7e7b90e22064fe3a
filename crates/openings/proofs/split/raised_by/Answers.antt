-- `openings::split::raised_by` meets its contract. Assumes nothing.
use mathlib.Core.Path.{sym, ap}
use mathlib.Core.Bool.{Bool, cond}
use borrow.Author.Tests.{eq-eqb, ne_eqb}
use Prim.Native.Nat.{ℕ}
use Rattle.openings.proofs.split.raised_by.Goals as goal

pub returns-then-kind-ne-APART_A : goal.returns-then-kind-ne-APART_A
returns-then-kind-ne-APART_A c = sym (ap (λ (b : Bool). cond {A = ℕ} b 1 0) (ne_eqb _ 2 c.if-kind-ne-APART_A.true))

pub returns : goal.returns
returns c = sym (ap (λ (b : Bool). cond {A = ℕ} b 1 0) (eq-eqb _ 2 c.if-kind-ne-APART_A.false))
