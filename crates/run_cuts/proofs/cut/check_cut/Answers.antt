-- `run_cuts::cut::check_cut` meets its contract. Assumes nothing.
use borrow.Author.Rules.{rules}
use Rattle.run_cuts.proofs.OneCut.{ClaimsTold, asked-space, cut_started, cut-checked}
use Rattle.run_cuts.proofs.cut.check_cut.Goals as goal

pub load_cut-requires : goal.load_cut-requires
load_cut-requires c = record { staged = c.requires.staged; space = asked-space c.requires }

pub check_loaded-requires : goal.check_loaded-requires
check_loaded-requires c = cut_started c.requires c.args.c c.load_cut.ensures

pub returns : goal.returns
returns c =
    let told : ClaimsTold c.check_loaded.result c.map_err.result = search rules in
    cut-checked c.requires c.args.c c.load_cut.ensures c.check_loaded.ensures told
