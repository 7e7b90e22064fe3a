-- `openings::rounding::is_undivided` meets its contract: what is left to test is the whole. Assumes nothing.
use mathlib.Core.Path.{◌≡◌}
use lib.IntN.{nat_abs}
use Rattle.proof.specs.Rows.{undivided}
use Rattle.openings.proofs.rounding.is_undivided.Given as goal

abbrev pub invariant-loop-j : goal.invariant-loop-j
invariant-loop-j l = undivided (nat_abs l.g) l.d l.by ≡ undivided (nat_abs l.g) l.d l.j
