-- `bundle_write::put::all_kinds` meets its contract: what is tested so far, and what is left, give the whole. Assumes nothing.
use mathlib.Core.Path.{◌≡◌}
use mathlib.Core.Bool.{◌&&◌}
use lib.Dec.{leb}
use lib.ListN.{drop}
use Rattle.forms.specs.Forms.{every}
use Rattle.bundle_write.proofs.put.all_kinds.Given as goal

abbrev pub invariant-loop-kind : goal.invariant-loop-kind
invariant-loop-kind l = (l.ok && every (λ kind. leb kind 2) (drop l.kind-index l.kinds)) ≡ every (λ kind. leb kind 2) l.kinds
