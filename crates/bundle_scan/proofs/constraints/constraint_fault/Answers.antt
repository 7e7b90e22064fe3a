-- `bundle_scan::constraints::constraint_fault` meets its contract. Assumes nothing.
use mathlib.Core.Path.{sym, ◌∙◌}
use Prim.Native.Nat.{◌*◌, suc}
use lib.ListN.{length}
use borrow.Author.Tests.{lt-ltb, le-ltb, eq-eqb, ne_eqb}
use Rattle.number_bytes.specs.Widths.{bytes_of}
use Rattle.number_bytes.proofs.Widths.{one_more}
use Rattle.bundle_scan.proofs.Contents.{form_small_lem}
use Rattle.bundle_scan.proofs.Scanning.{constraint-known, constraint-from, header-below}
use Rattle.bundle_scan.proofs.constraints.constraint_fault.Goals as goal

pub returns-then-contents-many : goal.returns-then-contents-many
returns-then-contents-many c =
    let a = c.args in
    let t = sym c.between.ensures ∙ c.if-between.true in
    rw (constraint-known _ t, constraint-from _ t, ne_eqb (length a.contents.now) (suc a.k * bytes_of a.width) (λ e. c.if-contents-many.true (e ∙ sym (one_more a.k (bytes_of a.width)) ∙ rw c.bytes.ensures)))

pub returns-then-all_in_range : goal.returns-then-all_in_range
returns-then-all_in_range c =
    let a = c.args in
    let t = sym c.between.ensures ∙ c.if-between.true in
    let e = rw c.bytes.ensures at c.if-contents-many.false in
    rw (constraint-known _ t, constraint-from _ t, eq-eqb (length a.contents.now) (suc a.k * bytes_of a.width) (e ∙ one_more a.k (bytes_of a.width)), lt-ltb _ _ c.if-n-lt-CONSTRAINTS.true, form_small_lem (bytes_of a.width) a.k a.contents.now e ∙ sym c.all_in_range.ensures ∙ c.if-all_in_range.true)

pub returns-then-n-lt-CONSTRAINTS : goal.returns-then-n-lt-CONSTRAINTS
returns-then-n-lt-CONSTRAINTS c =
    let a = c.args in
    let t = sym c.between.ensures ∙ c.if-between.true in
    let e = rw c.bytes.ensures at c.if-contents-many.false in
    rw (constraint-known _ t, constraint-from _ t, eq-eqb (length a.contents.now) (suc a.k * bytes_of a.width) (e ∙ one_more a.k (bytes_of a.width)), lt-ltb _ _ c.if-n-lt-CONSTRAINTS.true, form_small_lem (bytes_of a.width) a.k a.contents.now e ∙ sym c.all_in_range.ensures ∙ c.if-all_in_range.false)

pub returns-then-between : goal.returns-then-between
returns-then-between c =
    let a = c.args in
    let t = sym c.between.ensures ∙ c.if-between.true in
    let e = rw c.bytes.ensures at c.if-contents-many.false in
    rw (constraint-known _ t, constraint-from _ t, eq-eqb (length a.contents.now) (suc a.k * bytes_of a.width) (e ∙ one_more a.k (bytes_of a.width)), le-ltb _ _ c.if-n-lt-CONSTRAINTS.false)

pub returns-then-known : goal.returns-then-known
returns-then-known c =
    let k = sym c.known.ensures ∙ c.if-known.true in
    rw (k, header-below _ (sym c.between.ensures ∙ c.if-between.false) k)
