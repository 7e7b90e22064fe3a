-- `formula_test::test` meets its contract: each answer cites a lemma of `Phases`. Assumes nothing.
use Rattle.std.proofs.Common.{ap, ◌∙◌, sym}
use Rattle.formula_test.specs.Outcomes.{given}
use Rattle.formula_test.proofs.Phases.{no-values, many-values, value-outside, too_long, in_registers, whole-read}
use Rattle.formula_test.proofs.test.Goals as goal
use Rattle.formula_test.proofs.test.Goals.{then-k-lt1-via-then-k-lt1, then-k-lt1-via-else-k-lt1+then-k-gt-MOST}

pub returns-then-k-lt1 : goal.returns-then-k-lt1
returns-then-k-lt1 c = elim c.then-k-lt1.branch [
  | then-k-lt1-via-then-k-lt1 w ↦ no-values _ _ w.if-k-lt1.true c.refuse.ensures
  | then-k-lt1-via-else-k-lt1+then-k-gt-MOST w ↦ many-values _ _ w.if-k-lt1.false w.if-k-gt-MOST.true c.refuse.ensures
]

pub returns-in-Some : goal.returns-in-Some
returns-in-Some c = value-outside _ _ c.if-k-lt1.false c.if-k-gt-MOST.false c.first_outside.ensures c.in-Some.is c.refuse-in-Some.ensures

pub returns-then-formula-gt-FORMULA_BYTES : goal.returns-then-formula-gt-FORMULA_BYTES
returns-then-formula-gt-FORMULA_BYTES c = too_long _ _ c.if-k-lt1.false c.if-k-gt-MOST.false c.first_outside.ensures c.in_default.is c.if-formula-gt-FORMULA_BYTES.true c.refuse-then-formula-gt-FORMULA_BYTES.ensures

pub read_whole-requires : goal.read_whole-requires
read_whole-requires c = in_registers c.args.formula.now _ c.if-k-lt1.false c.if-k-gt-MOST.false c.first_outside.ensures c.in_default.is

pub returns-in-Ok : goal.returns-in-Ok
returns-in-Ok c = whole-read _ _ c.if-k-lt1.false c.if-k-gt-MOST.false c.first_outside.ensures c.in_default.is c.if-formula-gt-FORMULA_BYTES.false c.read_whole.result c.read_whole.ensures (rw (c.acceptance.ensures, c.in-Ok.is))

pub returns-in-Err : goal.returns-in-Err
returns-in-Err c = whole-read _ _ c.if-k-lt1.false c.if-k-gt-MOST.false c.first_outside.ensures c.in_default.is c.if-formula-gt-FORMULA_BYTES.false c.read_whole.result c.read_whole.ensures (c.refuse-in-Err.ensures ∙ ap given (sym c.in-Err.is))
