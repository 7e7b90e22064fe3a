-- `checking::check_header` meets its contract: a refusal cites the law for its way. Assumes nothing.
use Rattle.bundle_load.proofs.Phases.{unheaded, begun}
use Rattle.checking.proofs.Refusing.{checks-refused, header-k}
use Rattle.checking.proofs.check_header.Goals as goal

pub check_lines-requires : goal.check_lines-requires
check_lines-requires c =
    let w = c.requires in
    rw (header-k w.both.low c.read_header.ensures c.in-Ok.is) (begun w.within_limits w.both c.read_header.ensures c.in-Ok.is)

pub returns-in-Err : goal.returns-in-Err
returns-in-Err c = checks-refused (unheaded c.requires.within_limits c.requires.both c.read_header.ensures c.in-Err.is) c.refusal.ensures
