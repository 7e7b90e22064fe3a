-- `line_starts::start_negated` meets its contract. Assumes nothing.
use mathlib.Core.Path.{◌∙◌, ap}
use Rattle.lines.specs.Buffer.{raised_line, negated_line}
use Rattle.lines.proofs.Negating.{mixes-negated, negated-raised}
use Rattle.line_starts.proofs.start_negated.Goals as goal

pub raise_line-requires-clause-raised : goal.raise_line-requires-clause-raised
raise_line-requires-clause-raised c = (negated-raised c.requires.0 c.mix_whole.new.lines (mixes-negated c.requires.0.copy c.mix_whole.ensures)).1

pub returns-clause-lines : goal.returns-clause-lines
unfolding negated_line
returns-clause-lines c = let a = c.args in c.raise_line.ensures ∙ ap (raised_line a.k a.new.0 a.x a.y) (mixes-negated c.requires.0.copy c.mix_whole.ensures)
