-- `form_value::divides_at` meets its contract. Assumes nothing.
use Rattle.std.proofs.Common.{sym, ◌∙◌, ap₂, arith, w64}
use mir.ValLaws.{to_z-of_z}
use Rattle.integers.specs.Divides.{divb}
use Rattle.form_value.proofs.Quick.{power-true}
use Rattle.form_value.proofs.Words.{stride-positive, stride-low, stride-high, quick-stride}
use Rattle.form_value.proofs.divides_at.Goals as goal
use Rattle.form_value.proofs.divides_at.Goals.{Start}

pub overflow_cast-n : goal.overflow_cast-n
overflow_cast-n c = rw (to_z-of_z w64 c.args.g c.ranges.g) (stride-positive c.requires.pos_bound.0, record { fits = omega (arith, stride-high c.requires.pos_bound.0 c.requires.pos_bound.1) })

pub is_power-requires : goal.is_power-requires
is_power-requires c = rw (to_z-of_z w64 c.args.g c.ranges.g) (stride-low c.requires.pos_bound.0, stride-high c.requires.pos_bound.0 c.requires.pos_bound.1)

pub divides_word-requires : goal.divides_word-requires
divides_word-requires c = power-true 30 _ (sym c.is_power.ensures ∙ c.if-is_power.true)

pub returns-then-is_power : goal.returns-then-is_power
returns-then-is_power c = quick-stride c.requires.pos_bound.0 _ (rw (to_z-of_z w64 c.args.g c.ranges.g) at c.is_power.ensures) c.if-is_power.true c.word_at.ensures (rw (to_z-of_z w64 c.args.g c.ranges.g) at c.divides_word.ensures)

pub divides-requires : goal.divides-requires
divides-requires c = rw (to_z-of_z w64 c.args.g c.ranges.g) c.requires.pos_bound.0

pub returns : goal.returns
returns c = c.divides.ensures ∙ ap₂ divb (to_z-of_z w64 c.args.g c.ranges.g) (to_z-of_z w64 c.value_at.result (record { sfits = c.value_at.type_inv }) ∙ c.value_at.ensures)
