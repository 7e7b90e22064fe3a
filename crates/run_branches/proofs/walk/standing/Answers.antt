-- `run_branches::walk::standing` meets its contract. Assumes nothing.
use Rattle.run_branches.proofs.walk.standing.Goals as goal

pub returns : goal.returns
returns c = rw (c.renumber.ensures, c.number.ensures, c.proof_refusal.ensures)
