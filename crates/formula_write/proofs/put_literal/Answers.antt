-- `formula_write::put_literal` meets its contract. Assumes nothing.
use Rattle.std.proofs.Common.{List, ℕ, ℤ, ◌+◌, ap, rules}
use mathlib.Core.Path.{refl, ◌∙◌}
use lib.Seq.{sets}
use Rattle.forms.specs.Flat.{form_in}
use Rattle.formula_write.proofs.Written.{literal-out, literal-≤, literal-=, flat-same}
use Rattle.formula_write.proofs.put_literal.Goals as goal
use Rattle.formula_write.proofs.put_literal.Goals.{then-kind-eq0, else-kind-eq0}

pub returns-then-scratch-end : goal.returns-then-scratch-end
returns-then-scratch-end c = literal-out c.requires.numbered c.args.kind refl c.if-scratch-end.true

pub returns : goal.returns
returns c =
    let a = c.args in
    let put = c.put_numbers.ensures (λ (z : ℤ). z) (record { is = λ z r h p. search rules }) ∙ ap (λ (bs : List ℕ). sets c.put_head.new.out (a.o + 3) bs) (flat-same (form_in a.k a.numbers.now a.at)) in
    let long = c.put_numbers.auto.scratch ∙ c.put_head.auto.out in
    elim c.if-kind-eq0.branch [
      | then-kind-eq0 w ↦ literal-≤ c.requires.numbered w.if-kind-eq0.true refl (rw w.tag-is at c.put_head.ensures) put long
      | else-kind-eq0 w ↦ literal-= c.requires.numbered w.if-kind-eq0.false refl (rw w.tag-is at c.put_head.ensures) put long
    ]
