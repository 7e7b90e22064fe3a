-- `enumerate::next_proof` meets its contract. Assumes nothing.
use Rattle.bundle_load.proofs.Phases.{scanned-both}
use Rattle.enumerate.proofs.Answering.{nexts-refused, list-long-A, list-long-B, list-unscanned-A, list-unscanned-B}
use Rattle.enumerate.proofs.next_proof.Goals as goal

pub returns-then-a-gt-BUNDLE_BYTES : goal.returns-then-a-gt-BUNDLE_BYTES
returns-then-a-gt-BUNDLE_BYTES c = nexts-refused (list-long-A c.args.a.now c.args.b.now c.if-a-gt-BUNDLE_BYTES.true) c.refusal.ensures

pub returns-then-b-gt-BUNDLE_BYTES : goal.returns-then-b-gt-BUNDLE_BYTES
returns-then-b-gt-BUNDLE_BYTES c = nexts-refused (list-long-B c.args.a.now c.args.b.now c.if-a-gt-BUNDLE_BYTES.false c.if-b-gt-BUNDLE_BYTES.true) c.refusal-then-b-gt-BUNDLE_BYTES.ensures

pub next_few-requires-clause-both : goal.next_few-requires-clause-both
next_few-requires-clause-both c = scanned-both c.scan.ensures c.in-Ok.is c.scan-2.ensures c.in-Ok-scan.is

pub returns-in-Err-scan : goal.returns-in-Err-scan
returns-in-Err-scan c = nexts-refused (list-unscanned-B c.scan.ensures c.in-Ok.is c.scan-2.ensures (record { a = c.if-a-gt-BUNDLE_BYTES.false; b = c.if-b-gt-BUNDLE_BYTES.false }) c.in-Err-scan.is) c.refusal-in-Err-scan.ensures

pub returns-in-Err : goal.returns-in-Err
returns-in-Err c = nexts-refused (list-unscanned-A c.scan.ensures (record { a = c.if-a-gt-BUNDLE_BYTES.false; b = c.if-b-gt-BUNDLE_BYTES.false }) c.in-Err.is) c.refusal-in-Err.ensures
