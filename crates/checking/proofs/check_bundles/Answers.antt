-- `checking::check_bundles` meets its contract: each refusal cites the law for its way. Assumes nothing.
use Rattle.bundle_load.proofs.Phases.{unscanned-A, unscanned-B, scanned-both}
use Rattle.checking.proofs.Refusing.{checks-refused}
use Rattle.checking.proofs.check_bundles.Goals as goal

pub check_header-requires : goal.check_header-requires
check_header-requires c = record { within_limits = c.requires; both = scanned-both c.scan.ensures c.in-Ok.is c.scan-in-Ok.ensures c.in-Ok-scan.is }

pub returns-in-Err-scan : goal.returns-in-Err-scan
returns-in-Err-scan c = checks-refused (unscanned-B c.scan.ensures c.in-Ok.is c.scan-in-Ok.ensures c.requires c.in-Err-scan.is) c.refusal.ensures

pub returns-in-Err : goal.returns-in-Err
returns-in-Err c = checks-refused (unscanned-A c.scan.ensures c.requires c.in-Err.is) c.refusal-in-Err.ensures
