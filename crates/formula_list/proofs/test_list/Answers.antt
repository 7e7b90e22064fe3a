-- `formula_list::test_list` meets its contract. Assumes nothing.
use native.Mathlib.Omega.{arith}
use Rattle.formula.proofs.TestList.{no-constant, many-constants, not-whole}
use Rattle.formula_list.proofs.Phases.{refuses, value-outside, formula-long, formula-refused, in_order}
use Rattle.formula_list.proofs.test_list.Goals as goal
use Rattle.formula_list.proofs.test_list.Goals.{then-k-lt1-via-then-k-lt1, then-k-lt1-via-else-k-lt1+then-k-gt-MOST}

pub returns-then-k-lt1 : goal.returns-then-k-lt1
returns-then-k-lt1 c = elim c.then-k-lt1.branch [
  | then-k-lt1-via-then-k-lt1 w ↦ refuses _ (no-constant _ _ _ w.if-k-lt1.true) c.refuse.ensures
  | then-k-lt1-via-else-k-lt1+then-k-gt-MOST w ↦ refuses _ (many-constants _ _ _ w.if-k-lt1.false w.if-k-gt-MOST.true) c.refuse.ensures
]

pub nonzero_rem-all : goal.nonzero_rem-all
nonzero_rem-all c = omega arith

pub returns-then-all-k-gt0 : goal.returns-then-all-k-gt0
returns-then-all-k-gt0 c = refuses _ (not-whole _ _ _ c.if-k-lt1.false c.if-k-gt-MOST.false c.if-all-k-gt0.true) c.refuse-then-all-k-gt0.ensures

pub returns-in-Some : goal.returns-in-Some
returns-in-Some c = refuses _ (value-outside _ _ _ c.if-k-lt1.false c.if-k-gt-MOST.false c.if-all-k-gt0.false c.outside_at.ensures c.in-Some.is) c.refuse-in-Some.ensures

pub returns-then-formula-gt-FORMULA_BYTES : goal.returns-then-formula-gt-FORMULA_BYTES
returns-then-formula-gt-FORMULA_BYTES c = refuses _ (formula-long _ _ _ c.if-k-lt1.false c.if-k-gt-MOST.false c.if-all-k-gt0.false c.outside_at.ensures c.in_default.is c.if-formula-gt-FORMULA_BYTES.true) c.refuse-then-formula-gt-FORMULA_BYTES.ensures

pub nonzero_div-all : goal.nonzero_div-all
nonzero_div-all c = omega arith

pub deliver-requires : goal.deliver-requires
deliver-requires c = record {
  to_read = in_order _ _ _ c.if-k-lt1.false c.if-k-gt-MOST.false c.if-all-k-gt0.false c.outside_at.ensures c.in_default.is c.if-formula-gt-FORMULA_BYTES.false;
  stands = rw c.in-Ok.is at c.read_once.ensures.read;
}

pub returns-in-Ok : goal.returns-in-Ok
returns-in-Ok c = c.deliver.ensures

pub returns-in-Err : goal.returns-in-Err
returns-in-Err c = refuses _ (formula-refused _ _ _ c.if-k-lt1.false c.if-k-gt-MOST.false c.if-all-k-gt0.false c.outside_at.ensures c.in_default.is c.in-Err.fault c.if-formula-gt-FORMULA_BYTES.false c.read_once.ensures c.in-Err.is) c.refuse-in-Err.ensures
