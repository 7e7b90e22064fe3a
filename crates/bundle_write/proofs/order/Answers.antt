-- `bundle_write::order` meets its contract: each `return` cites the law for its way. Assumes nothing.
use mathlib.Core.Path.{sym, ◌∙◌}
use Rattle.bundle_write.proofs.Writing.{within, beyond, fault-edition, fault-k, fault-count, fault-kind, fault-size, fault-number, in-order}
use Rattle.bundle_write.proofs.order.Goals as goal

pub returns-in_default : goal.returns-in_default
returns-in_default c = record { by = fault-edition _ _ _ _ _ (beyond c.args.edition c.up_to.ensures c.in_default.is) }

pub returns-in_default-up_to : goal.returns-in_default-up_to
returns-in_default-up_to c = record { by = fault-k _ _ _ _ _ (within c.args.edition c.up_to.ensures c.in-Some.is).0 (beyond c.args.k c.up_to-2.ensures c.in_default-up_to.is) }

pub returns-then-count-gt-CONSTRAINTS : goal.returns-then-count-gt-CONSTRAINTS
returns-then-count-gt-CONSTRAINTS c =
    record { by = fault-count _ _ _ _ _ (within c.args.edition c.up_to.ensures c.in-Some.is).0 (within c.args.k c.up_to-2.ensures c.in-Some-up_to.is).0 c.if-count-gt-CONSTRAINTS.true }

pub returns-in-Some-first_bad : goal.returns-in-Some-first_bad
returns-in-Some-first_bad c =
    record { by = fault-kind _ _ _ _ _ (within c.args.edition c.up_to.ensures c.in-Some.is).0 (within c.args.k c.up_to-2.ensures c.in-Some-up_to.is).0 c.if-count-gt-CONSTRAINTS.false (sym c.first_bad.ensures ∙ c.in-Some-first_bad.is) }

pub returns-then-numbers-count : goal.returns-then-numbers-count
returns-then-numbers-count c =
    let e = within c.args.edition c.up_to.ensures c.in-Some.is in
    let k = within c.args.k c.up_to-2.ensures c.in-Some-up_to.is in
    record { by = fault-size _ _ _ _ _ e.0 k.0 c.if-count-gt-CONSTRAINTS.false (sym c.first_bad.ensures ∙ c.in_default-first_bad.is) (rw k.1 at c.if-numbers-count.true) }

pub returns-in-Some-first_unheld : goal.returns-in-Some-first_unheld
returns-in-Some-first_unheld c =
    let e = within c.args.edition c.up_to.ensures c.in-Some.is in
    let k = within c.args.k c.up_to-2.ensures c.in-Some-up_to.is in
    record {
      by = fault-number _ _ _ _ _ e.0 k.0 c.if-count-gt-CONSTRAINTS.false (sym c.first_bad.ensures ∙ c.in_default-first_bad.is) (rw k.1 at c.if-numbers-count.false) (rw e.1 at c.of_coefficients.ensures)
          (sym c.first_unheld.ensures ∙ c.in-Some-first_unheld.is);
    }

pub returns : goal.returns
returns c =
    let e = within c.args.edition c.up_to.ensures c.in-Some.is in
    let k = within c.args.k c.up_to-2.ensures c.in-Some-up_to.is in
    record {
      by = record {
        edition-is = e.1;
        k-is = k.1;
        order = in-order _ _ _ _ _ e.0 k.0 c.if-count-gt-CONSTRAINTS.false (sym c.first_bad.ensures ∙ c.in_default-first_bad.is) (rw k.1 at c.if-numbers-count.false) (rw e.1 at c.of_coefficients.ensures)
            (sym c.first_unheld.ensures ∙ c.in_default-first_unheld.is);
      };
    }
