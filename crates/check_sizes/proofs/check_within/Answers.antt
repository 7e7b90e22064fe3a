-- `check_sizes::check_within` meets its contract. Assumes nothing.
use native.Mathlib.Omega.{arith}
use Rattle.branches.proofs.Spare.{spare-less}
use Rattle.check_sizes.proofs.Preparing.{space-from}
use Rattle.check_sizes.proofs.Begun.{started, checks-root}
use Rattle.check_sizes.proofs.check_within.Goals as goal

pub prepare-requires : goal.prepare-requires
prepare-requires c =
    let both = c.requires.begun.both in
    record { both = both; space = space-from both c.requires.spare (omega arith) }

pub check_root-requires : goal.check_root-requires
check_root-requires c = started c.requires.begun c.prepare.ensures (spare-less (omega arith) (omega arith) (omega arith) c.requires.spare)

pub returns : goal.returns
returns c = checks-root c.requires.begun c.prepare.ensures c.check_root.ensures
