-- `bundle_write::put::first_bad` meets its contract: the first that is no kind, where not all are. Assumes nothing.
use mathlib.Core.Path.{sym, ◌∙◌}
use lib.Dec.{leb}
use Rattle.number_ranges.proofs.First.{all-good}
use Rattle.bundle_write.proofs.put.first_bad.Goals as goal

pub returns-then-all_kinds : goal.returns-then-all_kinds
returns-then-all_kinds c = sym (all-good (λ kind. leb kind 2) c.args.kinds.now (sym c.all_kinds.ensures ∙ c.if-all_kinds.true))
