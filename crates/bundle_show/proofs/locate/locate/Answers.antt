-- `bundle_show::locate::locate` meets its contract: each `return` cites the law for its way. Assumes nothing.
use mathlib.Core.Path.{ap, ◌∙◌}
use Prim.Native.Nat.{ℕ}
use Rattle.std.proofs.lemmas.Result.{err_from_is_err_and}
use Rattle.bundle_scan.specs.Scan.{constraint_start}
use Rattle.bundle_scan.proofs.Scanning.{scanned-bundle, scanned-refused}
use Rattle.bundle_scan.proofs.BothBundles.{refused-A, refused-B}
use Rattle.bundle_show.proofs.Showing.{shown-long-A, shown-long-B, shown-refused, shown-none, located-nowhere, located-A, located-B}
use Rattle.bundle_show.proofs.locate.locate.Goals as goal
use Rattle.bundle_show.proofs.locate.locate.Goals.{then-a-gt-BUNDLE_BYTES-via-then-a-gt-BUNDLE_BYTES, then-a-gt-BUNDLE_BYTES-via-else-a-gt-BUNDLE_BYTES+then-b-gt-BUNDLE_BYTES}

pub returns-then-a-gt-BUNDLE_BYTES : goal.returns-then-a-gt-BUNDLE_BYTES
returns-then-a-gt-BUNDLE_BYTES c =
    elim c.then-a-gt-BUNDLE_BYTES.branch [
      | then-a-gt-BUNDLE_BYTES-via-then-a-gt-BUNDLE_BYTES w ↦ located-nowhere _ _ _ (shown-long-A _ _ _ w.if-a-gt-BUNDLE_BYTES.true)
      | then-a-gt-BUNDLE_BYTES-via-else-a-gt-BUNDLE_BYTES+then-b-gt-BUNDLE_BYTES w ↦ located-nowhere _ _ _ (shown-long-B _ _ _ w.if-a-gt-BUNDLE_BYTES.false w.if-b-gt-BUNDLE_BYTES.true)
    ]

pub returns-in_err-first : goal.returns-in_err-first
returns-in_err-first c =
    let p = err_from_is_err_and c.from_residual.result c.from_residual.ensures.1 in
    rw p.1 (located-nowhere _ _ _ (shown-refused _ _ _ c.if-a-gt-BUNDLE_BYTES.false c.if-b-gt-BUNDLE_BYTES.false (refused-A _ _ (scanned-refused c.scan.ensures c.in_err-first.was 1))))

pub returns-in_err-second : goal.returns-in_err-second
returns-in_err-second c =
    let a = (scanned-bundle c.scan.ensures c.in_ok-first.was).0 in
    let p = err_from_is_err_and c.from_residual-in_err-second.result c.from_residual-in_err-second.ensures.1 in
    rw p.1 (located-nowhere _ _ _ (shown-refused _ _ _ c.if-a-gt-BUNDLE_BYTES.false c.if-b-gt-BUNDLE_BYTES.false (refused-B a _ (scanned-refused c.scan-2.ensures c.in_err-second.was 2))))

pub returns-then-i-m : goal.returns-then-i-m
returns-then-i-m c =
    let a = scanned-bundle c.scan.ensures c.in_ok-first.was in
    let b = scanned-bundle c.scan-2.ensures c.in_ok-second.was in
    located-A (record { short_a = c.if-a-gt-BUNDLE_BYTES.false; short_b = c.if-b-gt-BUNDLE_BYTES.false; a = a.0; b = b.0 }) _ c.if-i-m.true a.1 c.field_size.ensures

pub returns-then-i-m-2 : goal.returns-then-i-m-2
returns-then-i-m-2 c =
    let a = scanned-bundle c.scan.ensures c.in_ok-first.was in
    let b = scanned-bundle c.scan-2.ensures c.in_ok-second.was in
    located-B (record { short_a = c.if-a-gt-BUNDLE_BYTES.false; short_b = c.if-b-gt-BUNDLE_BYTES.false; a = a.0; b = b.0 }) _ c.if-i-m.false c.if-i-m-2.true (b.1 ∙ ap (λ (j : ℕ). constraint_start c.args.b.now j) c.saturating_sub.ensures) c.field_size-then-i-m-2.ensures

pub returns : goal.returns
returns c =
    let a = (scanned-bundle c.scan.ensures c.in_ok-first.was).0 in
    let b = (scanned-bundle c.scan-2.ensures c.in_ok-second.was).0 in
    located-nowhere _ _ _ (shown-none (record { short_a = c.if-a-gt-BUNDLE_BYTES.false; short_b = c.if-b-gt-BUNDLE_BYTES.false; a = a; b = b }) _ c.if-i-m.false c.if-i-m-2.false)
