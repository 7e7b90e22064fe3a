-- `run_cuts::cut::check_loaded` meets its contract: each answer cites the law for its way. Assumes nothing.
use borrow.Author.Rules.{rules}
use native.Mathlib.Omega.{arith}
use mathlib.Core.Path.{refl}
use Rattle.std.proofs.lemmas.Result.{err_from_is_err_and}
use Rattle.forms.proofs.Editions.{lines-most}
use Rattle.run_cuts.proofs.OneCut.{BranchTold, EndingTold, root-fault, root-unended, root-ended}
use Rattle.run_cuts.proofs.cut.check_loaded.Goals as goal

pub overflow_cast-tally : goal.overflow_cast-tally
overflow_cast-tally c = record { fits = omega (arith, lines-most c.args.run.now.edition, c.requires.ready.most) }

pub returns-in_err-closed : goal.returns-in_err-closed
returns-in_err-closed c =
    let told : BranchTold c.check_branch.result c.map_err.result = search rules in
    let p = err_from_is_err_and c.from_residual.result c.from_residual.ensures.1 in
    rw (p.1, p.2) (root-fault c.args.run.now c.check_branch.ensures c.root.ensures refl told c.in_err-closed.was)

pub returns-in_err-map_err : goal.returns-in_err-map_err
returns-in_err-map_err c =
    let told : BranchTold c.check_branch.result c.map_err.result = search rules in
    let ended : EndingTold c.ending_at.result c.map_err-2.result = search rules in
    let p = err_from_is_err_and c.from_residual-in_err-map_err.result c.from_residual-in_err-map_err.ensures.1 in
    rw (p.1, p.2) (root-unended c.args.run.now c.check_branch.ensures c.root.ensures refl told c.in_ok-closed.was c.ending_at.ensures ended c.in_err-map_err.was)

pub returns : goal.returns
returns c =
    let told : BranchTold c.check_branch.result c.map_err.result = search rules in
    let ended : EndingTold c.ending_at.result c.map_err-2.result = search rules in
    root-ended c.args.run.now c.check_branch.ensures c.root.ensures refl told c.in_ok-closed.was c.ending_at.ensures ended c.requires c.in_ok-map_err.was
