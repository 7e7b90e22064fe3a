-- `guard::answer` prints what testing the files gives. Assumes nothing.
use Prim.Native.Nat.{ℕ}
use mathlib.Core.Path.{◌≡◌}
use mathlib.Core.List.{List}
use native.Mathlib.Omega.{arith}
use Rattle.formula_test.specs.Promises.{as_tested}
use Rattle.guard.specs.Said.{test_files}
use Rattle.guard.proofs.Values.{files-loaded}
use Rattle.guard.proofs.Printing.{prints-odd, prints-refusal, prints-truth}
use Rattle.guard.proofs.answer.Goals as goal
use Rattle.guard.proofs.answer.Goals.{After-test-r}

-- what was tested is the formula at the values of the file
module _ (c : After-test-r) where
  abbrev f : List ℕ
  f = c.args.f.now

  abbrev v : List ℕ
  v = c.args.v.now

  is-test : c.test-r.result ≡ as_tested (test_files f v)
  is-test = files-loaded f v _ c.min.result (omega arith) c.min.ensures (omega arith) c.store_numbers.ensures c.test-r.ensures.is

pub returns-then-v-ne0 : goal.returns-then-v-ne0
returns-then-v-ne0 c = record {
  prefix_len = c.put_refused.ensures.prefix_len;
  printed = prints-odd (omega arith) c.args.f.now c.args.v.now (omega arith) (rw c.number.ensures at c.put_refused.ensures.put_refused);
}

pub returns-then-a-ne0 : goal.returns-then-a-ne0
returns-then-a-ne0 c = record {
  prefix_len = c.put_refused-then-a-ne0.ensures.prefix_len;
  printed = prints-refusal (omega arith) c.test-r.result (is-test (goal.at.returns-then-a-ne0 c).After-test-r) (omega arith) c.put_refused-then-a-ne0.ensures.put_refused;
}

pub returns-then-r : goal.returns-then-r
returns-then-r c = record {
  prefix_len = c.put_text.ensures.prefix_len;
  printed = prints-truth (omega arith) c.test-r.result (is-test (goal.at.returns-then-r c).After-test-r) (omega arith) c.if-r.true c.put_text.ensures.put;
}

pub returns : goal.returns
returns c = record {
  prefix_len = c.put_text-2.ensures.prefix_len;
  printed = prints-truth (omega arith) c.test-r.result (is-test (goal.at.returns c).After-test-r) (omega arith) c.if-r.false c.put_text-2.ensures.put;
}
