-- `dulgaverk::dulgaverk_shorten` meets its contract. Assumes nothing.
use mathlib.Core.Path.{refl}
use Rattle.dulgaverk.proofs.dulgaverk_shorten.Goals as goal

pub shorten-requires : goal.shorten-requires
shorten-requires c = record { output = _; left = _; r = _; one = refl; checks = c.dulgaverk_check-checked.ensures; is = refl }
