-- `bundle_read::read` meets its contract: each `return` cites the law for its way. Assumes nothing.
use mathlib.Core.Path.{sym, ◌∙◌}
use Rattle.bundle_scan.proofs.Scanning.{scanned-refused}
use Rattle.bundle_read.proofs.Reading.{read-unread, read_long, read_short, stored_refused}
use Rattle.bundle_read.proofs.read.Goals as goal

pub returns-then-file-gt-BUNDLE_BYTES : goal.returns-then-file-gt-BUNDLE_BYTES
returns-then-file-gt-BUNDLE_BYTES c = record { is = read-unread _ _ c.refused_read.ensures ∙ sym (read_long _ _ _ c.if-file-gt-BUNDLE_BYTES.true) }

pub returns-in-Ok : goal.returns-in-Ok
returns-in-Ok c = record { is = c.store_body.ensures ∙ sym (read_short _ _ _ c.if-file-gt-BUNDLE_BYTES.false) }

pub returns-in-Err : goal.returns-in-Err
returns-in-Err c = record { is = read-unread _ _ c.refused_read-in-Err.ensures ∙ sym (read_short _ _ _ c.if-file-gt-BUNDLE_BYTES.false ∙ stored_refused _ _ (scanned-refused c.scan.ensures c.in-Err.is 1)) }
