-- `run_cuts::deliver::check_run` meets its contract: the cuts, the walk, and then the guards. Assumes nothing.
use native.Mathlib.Omega.{arith}
use Rattle.std.proofs.lemmas.Result.{err_from_is_err_and}
use Rattle.run_cuts.proofs.OneCut.{asked-again}
use Rattle.run_cuts.proofs.AllCuts.{run-judged}
use Rattle.run_cuts.proofs.Phases.{guards-refused, run-refused, run-totals, countable}
use Rattle.run_cuts.proofs.deliver.check_run.Goals as goal

pub invariant_of-proof : goal.invariant_of-proof
invariant_of-proof c = record { few_constants = c.requires.passed.high }

pub walk_branch-walked-requires : goal.walk_branch-walked-requires
walk_branch-walked-requires c = record { opened_few = omega arith; countable = countable c.requires.passed _ }

pub deliver-requires : goal.deliver-requires
deliver-requires c = record {
  passed = c.requires.passed;
  asked = asked-again c.requires.asked c.check_cuts-all.auto.kinds c.check_cuts-all.auto.lines;
  totals = run-totals c.args.run.now c.requires.passed (run-judged c.requires.asked c.check_cuts-all.ensures c.root.ensures c.walk_branch-walked.ensures c.in_ok-derived.ensures);
}

pub returns-in_err-derived : goal.returns-in_err-derived
returns-in_err-derived c =
    let p = err_from_is_err_and c.from_residual.result c.from_residual.ensures.1 in
    rw (p.1, p.2) (guards-refused (run-refused c.args.run.now c.requires.passed (run-judged c.requires.asked c.check_cuts-all.ensures c.root.ensures c.walk_branch-walked.ensures c.in_err-derived.ensures)))
