-- `number_ranges::held::first_unheld` meets its contract: the first that is not held, where not all are. Assumes nothing.
use mathlib.Core.Path.{sym, ◌∙◌}
use Rattle.number_bytes.specs.Widths.{bytes_of}
use Rattle.bundle.specs.Write.{holdable}
use Rattle.number_ranges.proofs.First.{all-good}
use Rattle.number_ranges.proofs.held.first_unheld.Goals as goal

pub returns-then-all_held : goal.returns-then-all_held
returns-then-all_held c = sym (all-good (holdable (bytes_of c.args.width)) c.args.numbers.now (sym c.all_held.ensures ∙ c.if-all_held.true))
