-- `formula_write::put_stride` meets its contract. Assumes nothing.
use Rattle.std.proofs.Common.{List, ℕ, ℤ, pos, ◌+◌, ap, w64}
use mathlib.Core.Path.{refl, ◌∙◌}
use lib.IntN.{nat_abs}
use lib.Seq.{sets}
use mir.ValLaws.{to_z-of_z}
use Rattle.integers.specs.Remainder.{remainder}
use Rattle.forms.specs.Flat.{form_in}
use Rattle.formula_write.proofs.Written.{stride-out, stride-in, positive, held-remainder, flat-reduced}
use Rattle.formula_write.proofs.put_stride.Goals as goal

pub returns-then-scratch-end : goal.returns-then-scratch-end
returns-then-scratch-end c = stride-out c.requires.numbered.0 (nat_abs c.args.g) refl c.if-scratch-end.true

pub put_signed-requires-clause-held : goal.put_signed-requires-clause-held
put_signed-requires-clause-held c = let f = c.ranges.g in simp to_z-of_z c.requires.numbered.1.held

pub put_numbers-requires-clause-written : goal.put_numbers-requires-clause-written
put_numbers-requires-clause-written c =
    let e = to_z-of_z w64 c.args.g c.ranges.g in
    let d = c.requires.numbered.1 in
    record { callable = λ z h. rw e d; held = λ z r h p. rw (p, e) (held-remainder d z) }

pub returns : goal.returns
returns c =
    let a = c.args in
    let e = to_z-of_z w64 a.g c.ranges.g in
    let f = (λ (z : ℤ). pos (remainder (nat_abs a.g) z)) in
    stride-in c.requires.numbered.0 (nat_abs a.g) (positive _ c.requires.numbered.1.low) refl c.put_head.ensures (rw e at c.put_signed.ensures)
    (c.put_numbers.ensures f (record { is = λ z r h p. rw e at p }) ∙ ap (λ (bs : List ℕ). sets c.put_signed.new.out (a.o + 7) bs) (flat-reduced (nat_abs a.g) (form_in a.k a.numbers.now a.at)))
    (c.put_numbers.auto.scratch ∙ c.put_signed.auto.out ∙ c.put_head.auto.out)
