-- `line_starts::start_line` meets its contract. Assumes nothing.
use mathlib.Core.Path.{◌∙◌, ap}
use Rattle.lines.specs.Buffer.{raised_line, started_line}
use Rattle.lines.proofs.Starting.{copy-raised}
use Rattle.line_starts.proofs.start_line.Goals as goal

pub raise_line-requires-clause-raised : goal.raise_line-requires-clause-raised
raise_line-requires-clause-raised c = (copy-raised c.requires.0 c.copy_line.new.lines c.copy_line.ensures).1

pub returns-clause-lines : goal.returns-clause-lines
unfolding started_line
returns-clause-lines c = let a = c.args in c.raise_line.ensures ∙ ap (raised_line a.k a.n.0 a.x a.y) c.copy_line.ensures
