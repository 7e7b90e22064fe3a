-- The cycle {block_judged, both_judged}: the levels still allowed fall. Assumes nothing.
use Rattle.std.proofs.Common.{◌+◌, ◌*◌}
use Rattle.formula_block.proofs.block.+block_judged_both_judged.Given as goal

abbrev pub decreases-block_judged : goal.decreases-block_judged
decreases-block_judged l = 2 * l.levels + 1

abbrev pub decreases-both_judged : goal.decreases-both_judged
decreases-both_judged l = 2 * l.levels
