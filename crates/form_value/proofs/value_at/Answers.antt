-- `form_value::value_at` meets its contract. Assumes nothing.
use Rattle.std.proofs.Common.{◌∙◌, ap, w64}
use mir.ValLaws.{to_z-of_z}
use Rattle.forms.specs.Forms.{Form, value}
use Rattle.formula.specs.Test.{registers}
use Rattle.form_value.proofs.Value.{numbers-enough, form-there}
use Rattle.form_value.proofs.value_at.Goals as goal

pub total_of-requires-clause-k_in_bounds : goal.total_of-requires-clause-k_in_bounds
total_of-requires-clause-k_in_bounds c = numbers-enough c.args.s.now c.args.at c.args.k c.requires.whole.upto

pub returns : goal.returns
returns c =
    to_z-of_z w64 c.total_of.result (record { sfits = c.total_of.type_inv }) ∙ c.total_of.ensures
    ∙ ap (λ (t : Form). value t (registers c.args.values.now)) (form-there c.args.s.now c.args.at c.args.k c.requires.whole.upto)
