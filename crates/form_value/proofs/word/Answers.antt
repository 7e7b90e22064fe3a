-- `form_value::word` meets its contract. Assumes nothing.
use Rattle.std.proofs.Common.{◌≡◌, arith, w64, to_z, of_z}
use mir.ValLaws.{to_z-of_z}
use Rattle.form_value.proofs.Words.{raised-fits, raised-cast, raised-word}
use Rattle.form_value.proofs.word.Goals as goal
use Rattle.form_value.proofs.word.Goals.{Start}

same : (c : Start) → to_z w64 (of_z w64 c.args.x) ≡ c.args.x
same c = to_z-of_z w64 c.args.x c.ranges.x

pub overflow_add-result : goal.overflow_add-result
overflow_add-result c = rw (same c) (raised-fits c.requires (omega arith))

pub overflow_cast-result : goal.overflow_cast-result
overflow_cast-result c = rw (same c) (raised-cast c.requires (omega arith) (omega arith))

pub returns : goal.returns
returns c = rw (same c) (raised-word c.requires)
