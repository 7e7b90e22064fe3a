-- `bundle_show::show_answer` meets its contract: each `return` cites the law for its way. Assumes nothing.
use mathlib.Core.Path.{sym, ◌∙◌}
use native.Mathlib.Omega.{arith}
use Rattle.bundle_scan.proofs.Bodies.{few}
use Rattle.bundle_scan.proofs.Scanning.{scanned-bundle, scanned-refused}
use Rattle.bundle_scan.proofs.BothBundles.{refused-A, refused-B}
use Rattle.bundle_show.proofs.Showing.{shown-long-A, shown-long-B, shown-refused, answer-refused, answer-part, answer-none}
use Rattle.bundle_show.proofs.show_answer.Goals as goal

pub returns-then-a-gt-BUNDLE_BYTES : goal.returns-then-a-gt-BUNDLE_BYTES
returns-then-a-gt-BUNDLE_BYTES c = record { is = c.refusal.ensures ∙ sym (answer-refused _ _ _ (shown-long-A _ _ _ c.if-a-gt-BUNDLE_BYTES.true)) }

pub returns-then-b-gt-BUNDLE_BYTES : goal.returns-then-b-gt-BUNDLE_BYTES
returns-then-b-gt-BUNDLE_BYTES c = record { is = c.refusal-then-b-gt-BUNDLE_BYTES.ensures ∙ sym (answer-refused _ _ _ (shown-long-B _ _ _ c.if-a-gt-BUNDLE_BYTES.false c.if-b-gt-BUNDLE_BYTES.true)) }

pub returns-in-Err : goal.returns-in-Err
returns-in-Err c =
    record { is = c.refusal-in-Err.ensures ∙ sym (answer-refused _ _ _ (shown-refused _ _ _ c.if-a-gt-BUNDLE_BYTES.false c.if-b-gt-BUNDLE_BYTES.false (refused-A _ _ (scanned-refused c.scan.ensures c.in-Err.is 1)))) }

pub returns-in-Err-scan : goal.returns-in-Err-scan
returns-in-Err-scan c =
    let a = (scanned-bundle c.scan.ensures c.in-Ok.is).0 in
    record { is = c.refusal-in-Err-scan.ensures ∙ sym (answer-refused _ _ _ (shown-refused _ _ _ c.if-a-gt-BUNDLE_BYTES.false c.if-b-gt-BUNDLE_BYTES.false (refused-B a _ (scanned-refused c.scan-2.ensures c.in-Err-scan.is 2)))) }

pub overflow_add-first : goal.overflow_add-first
overflow_add-first c =
    let a = (scanned-bundle c.scan.ensures c.in-Ok.is).0 in
    let b = (scanned-bundle c.scan-2.ensures c.in-Ok-scan.is).0 in
    record { fits = omega (arith, few a, few b) }

pub returns-then-line-first : goal.returns-then-line-first
returns-then-line-first c =
    let a = (scanned-bundle c.scan.ensures c.in-Ok.is).0 in
    let b = (scanned-bundle c.scan-2.ensures c.in-Ok-scan.is).0 in
    record { is = c.acceptance.ensures ∙ sym (answer-part (record { short_a = c.if-a-gt-BUNDLE_BYTES.false; short_b = c.if-b-gt-BUNDLE_BYTES.false; a = a; b = b }) _ c.if-line-first.true) }

pub returns : goal.returns
returns c =
    let a = (scanned-bundle c.scan.ensures c.in-Ok.is).0 in
    let b = (scanned-bundle c.scan-2.ensures c.in-Ok-scan.is).0 in
    record { is = c.refusal-2.ensures ∙ sym (answer-none (record { short_a = c.if-a-gt-BUNDLE_BYTES.false; short_b = c.if-b-gt-BUNDLE_BYTES.false; a = a; b = b }) _ c.if-line-first.false) }
