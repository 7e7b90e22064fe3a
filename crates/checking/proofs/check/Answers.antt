-- `checking::check` meets its contract: each file that is too long cites the law for its way. Assumes nothing.
use Rattle.bundle_load.proofs.Phases.{long_A, long_B, long-P}
use Rattle.checking.proofs.Refusing.{checks-refused}
use Rattle.checking.proofs.check.Goals as goal

pub returns-then-a-gt-BUNDLE_BYTES : goal.returns-then-a-gt-BUNDLE_BYTES
returns-then-a-gt-BUNDLE_BYTES c = checks-refused (long_A _ _ _ c.if-a-gt-BUNDLE_BYTES.true) c.refusal.ensures

pub returns-then-b-gt-BUNDLE_BYTES : goal.returns-then-b-gt-BUNDLE_BYTES
returns-then-b-gt-BUNDLE_BYTES c = checks-refused (long_B _ _ _ c.if-a-gt-BUNDLE_BYTES.false c.if-b-gt-BUNDLE_BYTES.true) c.refusal-then-b-gt-BUNDLE_BYTES.ensures

pub returns-then-proof-gt-PROOF_BYTES : goal.returns-then-proof-gt-PROOF_BYTES
returns-then-proof-gt-PROOF_BYTES c = checks-refused (long-P _ _ _ c.if-a-gt-BUNDLE_BYTES.false c.if-b-gt-BUNDLE_BYTES.false c.if-proof-gt-PROOF_BYTES.true) c.refusal-then-proof-gt-PROOF_BYTES.ensures
