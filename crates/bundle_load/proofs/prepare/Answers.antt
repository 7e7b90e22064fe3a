-- `bundle_load::prepare` meets its contract: A's lines, and B's lines. Assumes nothing.
use native.Mathlib.Omega.{arith}
use Rattle.bundle_load.proofs.Loading.{space-kept}
use Rattle.bundle_load.proofs.Preparing.{able-A, able-B, prepared}
use Rattle.bundle_load.proofs.prepare.Goals as goal

pub load-requires : goal.load-requires
load-requires c = able-A c.requires.both c.of_coefficients.ensures c.requires.space

pub overflow_cast-n : goal.overflow_cast-n
overflow_cast-n c =
    let w = c.requires.both in
    omega (arith, w.a_few)

pub load-requires-2 : goal.load-requires-2
load-requires-2 c = able-B c.requires.both c.of_coefficients-2.ensures (space-kept c.load.ensures.kinds_length c.load.ensures.lines_length c.requires.space)

pub returns : goal.returns
returns c = prepared c.requires.both c.of_coefficients.ensures c.of_coefficients-2.ensures c.load.ensures c.load-2.ensures c.requires.space
