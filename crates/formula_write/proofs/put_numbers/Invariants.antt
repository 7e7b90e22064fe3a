-- `formula_write::put_numbers`: what is left to write gives what the whole gives, whatever function is written by. Assumes nothing.
use Rattle.std.proofs.Common.{ℤ, map}
use Rattle.forms.specs.Flat.{form_in}
use Rattle.number_bytes.specs.Numbers.{flat}
use Rattle.formula_write.specs.Writing.{Gives}
use Rattle.formula_write.proofs.Written.{Putting}
use Rattle.formula_write.proofs.put_numbers.Given as goal

abbrev pub invariant-loop-x : goal.invariant-loop-x
invariant-loop-x g l = (f : ℤ → ℤ) → Gives (goal.F-post g l.written) f → Putting (map f (flat (form_in l.k l.numbers l.at))) l.initial.scratch l.o l.scratch l.x
