-- `enumeration_search::after` meets its contract: the measure is the number of inferences. Assumes nothing.
use Rattle.enumeration_search.proofs.+after.Given as goal

abbrev pub decreases-after : goal.decreases-after
decreases-after l = l.depth
