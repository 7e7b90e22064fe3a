-- `formula_read::reading::stride_at` meets its contract. Assumes nothing.
use mir.Syntax.{w64}
use mir.ValLaws.{to_z-of_z}
use Rattle.formula_read.proofs.Parts.{at-least-two, stride-refused, stride-judged}
use Rattle.formula_read.proofs.reading.stride_at.Goals as goal

pub returns-then-g-lt2 : goal.returns-then-g-lt2
returns-then-g-lt2 c = stride-refused (record { sfits = c.signed_at-g.type_inv }) c.signed_at-g.ensures.is _ c.if-g-lt2.true

pub divides_at-requires : goal.divides_at-requires
divides_at-requires c = record { whole = c.requires.whole; registers = c.requires.registers; pos_bound = (at-least-two _ c.if-g-lt2.false, rw (to_z-of_z w64 c.signed_at-g.result (record { sfits = c.signed_at-g.type_inv })) c.signed_at-g.ensures.range) }

pub returns : goal.returns
returns c = stride-judged (record { sfits = c.signed_at-g.type_inv }) c.signed_at-g.ensures.is _ c.if-g-lt2.false c.divides_at.ensures
